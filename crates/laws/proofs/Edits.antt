-- Every edit keeps the capacities, and every accepted edit keeps the map sound.
use mathlib.Core.Path.{◌≡◌, refl, sym, ap, ◌∙◌}
use mathlib.Core.Bool.{Bool, true, false, cond, not}
use mathlib.Core.List.{List, [], ◌∷◌}
use mathlib.Core.Logic.{⊎_elim}
use Prim.Native.Nat.{ℕ, zero, suc, ◌<◌, ◌≤◌}
use native.Mathlib.Omega.{arith}
use borrow.Author.Tests.{eq-eqb, ne_eqb, eqb-true, eqb-false, leb-false, lt-leb, not-false}
use lib.Dec.{eqb, leb}
use lib.ListN.{length, get_or, take, drop}
use Rattle.lists.specs.Lists.{has, all, repeats, same_set}
use Rattle.lists.proofs.Bools.{clash, either, and_left, and_right}
use Rattle.lists.proofs.Sets.{same_sym}
use Rattle.lists.proofs.Select.{select_in, select_out}
use Rattle.numbers.specs.declared.Caps.{Caps}
use Rattle.shapes.specs.Shapes.{shape, shapes, no_shape}
use Rattle.map.specs.Cells.{Body, body_of, licensed_body, Map, no_cell, body_in, map_of, live, dimension_at, holds, cells_of}
use Rattle.map.specs.Stars.{holders}
use Rattle.map.specs.Answers.{Check, ◌when◌, answer, third, insert_checks, cell_checks}
use Rattle.map.specs.History.{empty, Edit, Insert, Remove, edit_answer, put, changed, edited, history, build, build_from}
use Rattle.map.specs.Sound.{Sound}
use Rattle.lists.proofs.Counts.{none_has, has_none, select_none, select_fewer, select_more}
use Rattle.numbers.specs.Sizes.{most_around}

-- an accepted edit is made
pub edited_changed : (m : Map) (e : Edit) → (edit_answer m e).refusal ≡ 0 → edited m e ≡ changed m e
unfolding edited
edited_changed m e a = rw a

-- an edit keeps the capacities
pub changed_caps : (m : Map) (e : Edit) → (changed m e).caps ≡ m.caps
unfolding changed put
changed_caps m (Insert c x) = refl
changed_caps m (Remove c) = refl

-- accepted or refused
pub edited_caps : (m : Map) (e : Edit) → (edited m e).caps ≡ m.caps
unfolding edited
edited_caps m e = go (eqb (edit_answer m e).refusal 0)
  where
    go : (b : Bool) → (cond b (changed m e) m).caps ≡ m.caps
    go true = changed_caps m e
    go false = refl

-- and so does a whole history
pub history_caps : (m : Map) (es : List Edit) → (history m es).caps ≡ m.caps
unfolding history
history_caps m [] = refl
history_caps m (e ∷ es) = history_caps (edited m e) es ∙ edited_caps m e

-- and a build
build_keeps : (n place : ℕ) (m : Map) (words : List ℕ) → (build_from n place m words).map.caps ≡ m.caps
unfolding build_from empty map_of
build_keeps zero place m words = refl
build_keeps (suc n) place m [] = refl
build_keeps (suc n) place m (c ∷ []) = refl
build_keeps (suc n) place m (c ∷ t ∷ []) = refl
build_keeps (suc n) place m (c ∷ t ∷ licence ∷ rest) =
    let e : Edit = Insert c (licensed_body t licence (take (shape t).marks rest)) in
    ⊎_elim (λ (ok : eqb (edit_answer m e).refusal 0 ≡ true). rw (ok, build_from) (build_keeps n (suc place) (changed m e) (drop (shape t).marks rest) ∙ changed_caps m e)) (λ (no : eqb (edit_answer m e).refusal 0 ≡ false). rw (no, build_from))
    (either (eqb (edit_answer m e).refusal 0))

pub build_caps : (caps : Caps) (words : List ℕ) → (build caps words).map.caps ≡ caps
unfolding build empty map_of
build_caps caps words = build_keeps (length words) 0 (empty caps) words

-- where the answer is no refusal, no check fails
passed : (checks : List Check) (values : List ℕ) → all (λ (c : Check). not (eqb c.number 0)) checks ≡ true
    → (answer checks values).refusal ≡ 0 → (k : ℕ) → (get_or checks k (1 when false)).fails ≡ false
unfolding all answer ◌when◌
passed [] values n e k = refl
passed (c ∷ cs) values n e k = go c.fails refl e k (passed cs values (and_right (not (eqb c.number 0)) _ n))
  where
    go : (b : Bool) → c.fails ≡ b → (cond b (record { refusal = c.number; values = [] }) (answer cs values)).refusal ≡ 0 → (k : ℕ)
        → ((answer cs values).refusal ≡ 0 → (k : ℕ) → (get_or cs k (1 when false)).fails ≡ false)
        → (get_or (c ∷ cs) k (1 when false)).fails ≡ false
    go true f e k on = absurd (clash (and_left _ _ n) (ap not (eq-eqb c.number 0 e)))
    go false f e zero on = f
    go false f e (suc k) on = on e k

-- what an insertion is accepted for
pub record MayInsert (m : Map) (c : ℕ) (x : Body) : Type 0 where
  pub number : c < m.caps.cells
  pub free : live m c ≡ false
  pub typed : 0 < (shape x.code).dimension
  pub count : length x.marks ≡ (shape x.code).marks
  pub inside : (v : ℕ) → has v x.marks ≡ true → v < m.caps.marks
  pub distinct : repeats x.marks ≡ false
  pub new : (k : ℕ) → k < m.caps.cells → (m.at k).code ≡ x.code → same_set (m.at k).marks x.marks ≡ false
  pub room : third m x ≡ false
  pub few : (v : ℕ) → has v x.marks ≡ true → length (holders m v) < most_around

-- what a removal is accepted for
pub record MayRemove (m : Map) (c : ℕ) : Type 0 where
  pub number : c < m.caps.cells
  pub live : live m c ≡ true

module _ (m : Map) (c : ℕ) (x : Body) where
  -- an accepted insertion has all of that
  pub may_insert : (edit_answer m (Insert c x)).refusal ≡ 0 → MayInsert m c x
  unfolding edit_answer insert_checks ◌when◌ all cells_of
  may_insert e =
      let pass : (k : ℕ) → (get_or (insert_checks m c x) k (1 when false)).fails ≡ false = passed (insert_checks m c x) [] refl e in
      record {
        number = leb-false _ c (pass 0);
        free = pass 1;
        typed = let typed = eqb-false (shape x.code).dimension 0 (pass 2) in omega arith;
        count = eqb-true _ _ (not-false _ (pass 3));
        inside = λ v h. leb-false _ v (none_has _ x.marks (pass 4) v h);
        distinct = pass 5;
        new = λ k l same. none_has _ (cells_of m x.code) (pass 6) k (select_in _ _ k l (eq-eqb _ x.code same));
        room = pass 7;
        few = λ v h. leb-false most_around _ (none_has _ x.marks (pass 8) v h);
      }

  -- and an insertion that has it is accepted
  pub insert_may : MayInsert m c x → (edit_answer m (Insert c x)).refusal ≡ 0
  unfolding edit_answer insert_checks ◌when◌ answer cells_of
  insert_may r =
      rw (
        lt-leb m.caps.cells c r.number,
        r.free,
        ne_eqb (shape x.code).dimension 0 (λ z. omega (arith, r.typed)),
        eq-eqb _ _ r.count,
        has_none (leb m.caps.marks) x.marks (λ v h. lt-leb _ v (r.inside v h)),
        r.distinct,
        has_none (λ k. same_set (m.at k).marks x.marks) (cells_of m x.code)
            (λ k h. let s = select_out _ _ k h in r.new k s.0 (eqb-true _ x.code s.1)),
        r.room,
        has_none (λ v. leb most_around (length (holders m v))) x.marks (λ v h. lt-leb most_around _ (r.few v h)),
      )

-- no check of an insertion looks at the licence
pub licence_unseen : (m : Map) (c t licence : ℕ) (marks : List ℕ) → insert_checks m c (licensed_body t licence marks) ≡ insert_checks m c (body_of t marks)
unfolding insert_checks third
licence_unseen m c t licence marks = refl

module _ (m : Map) (c : ℕ) where
  -- an accepted removal is that of a live cell
  pub may_remove : (edit_answer m (Remove c)).refusal ≡ 0 → MayRemove m c
  unfolding edit_answer cell_checks ◌when◌ all
  may_remove e =
      let pass : (k : ℕ) → (get_or (cell_checks m c) k (1 when false)).fails ≡ false = passed (cell_checks m c) [] refl e in
      record { number = leb-false _ c (pass 0); live = not-false _ (pass 1) }

  -- and a live cell's removal is accepted
  pub remove_may : MayRemove m c → (edit_answer m (Remove c)).refusal ≡ 0
  unfolding edit_answer cell_checks ◌when◌ answer
  remove_may r = rw (lt-leb m.caps.cells c r.number, r.live)

-- a type stands there: the cell is live
abbrev pub coded : Body → Bool
coded x = not (eqb x.code 0)

-- a code with a type of the table is that of a live cell
pub typed_coded : (t : ℕ) → 0 < (shape t).dimension → not (eqb t 0) ≡ true
unfolding shape shapes no_shape
typed_coded zero l = absurd (omega arith)
typed_coded (suc t) l = rw (ne_eqb (suc t) 0 (λ z. omega arith))

-- no cell holds no mark
pub none_holds : (m : Map) (c : ℕ) → m.at c ≡ no_cell → (v : ℕ) → holds m v c ≡ false
unfolding holds no_cell has
none_holds m c e v = rw e

-- what soundness says of a single cell
record Fits (caps : Caps) (c : ℕ) (x : Body) : Type 0 where
  below : coded x ≡ true → c < caps.cells
  dead : coded x ≡ false → x ≡ no_cell
  typed : coded x ≡ true → 0 < (shape x.code).dimension
  fitting : length x.marks ≡ (shape x.code).marks
  inside : (v : ℕ) → has v x.marks ≡ true → v < caps.marks
  distinct : repeats x.marks ≡ false

-- no cell fits everywhere
fits_none : (caps : Caps) (c : ℕ) → Fits caps c no_cell
unfolding no_cell shape shapes no_shape has repeats
fits_none caps c = record {
  below = λ e. absurd (clash e refl);
  dead = λ e. refl;
  typed = λ e. absurd (clash e refl);
  fitting = refl;
  inside = λ v e. absurd (clash e refl);
  distinct = refl;
}

-- two cells alike, of one type and with the same set of marks, are one
abbrev Alone : ℕ → Body → ℕ → Body → Type 0
Alone a x b y = coded x ≡ true → x.code ≡ y.code → same_set x.marks y.marks ≡ true → a ≡ b

module _ (m : Map) where
  -- each cell of a sound map fits
  sound_fits : Sound m → (c : ℕ) → Fits m.caps c (m.at c)
  unfolding live dimension_at holds
  sound_fits s c = record {
    below = s.below c;
    dead = s.dead c;
    typed = s.typed c;
    fitting = s.fitting c;
    inside = λ v. s.inside v c;
    distinct = s.distinct c;
  }

  -- a map of fitting cells is sound where no two are alike and no mark stands in too many
  fits_sound : ((c : ℕ) → Fits m.caps c (m.at c)) → ((a b : ℕ) → Alone a (m.at a) b (m.at b))
      → ((v : ℕ) → length (holders m v) ≤ most_around) → Sound m
  unfolding live dimension_at holds
  fits_sound f alone few = record {
    below = λ c. (f c).below;
    dead = λ c. (f c).dead;
    typed = λ c. (f c).typed;
    fitting = λ c. (f c).fitting;
    inside = λ v c. (f c).inside v;
    distinct = λ c. (f c).distinct;
    alone = alone;
    few = few;
  }

-- a formatted mesh is sound
pub sound_empty : (caps : Caps) → Sound (empty caps)
unfolding empty map_of body_in no_cell holders holds has
sound_empty caps =
    fits_sound (empty caps) (fits_none caps) (λ a b e. absurd (clash e refl))
    (λ v. rw (select_none (holds (empty caps) v) caps.cells (λ k. refl)) (omega arith))

module _ (m : Map) (c : ℕ) (x : Body) where
  -- what holds of the new cell and of each other holds of each
  pub put_all : (P : ℕ → Body → Type 0) → P c x → ((k : ℕ) → (c ≡ k → ⊥) → P k (m.at k)) → (k : ℕ) → P k ((put m c x).at k)
  unfolding put
  put_all P new old k = go (eqb c k) refl
    where
      go : (b : Bool) → eqb c k ≡ b → P k (cond b x (m.at k))
      go true e = rw (eqb-true c k e) at new
      go false e = old k (eqb-false c k e)

  -- a mark that the new cell has not stands in no more cells
  holders_fewer : (v : ℕ) → has v x.marks ≡ false → length (holders (put m c x) v) ≤ length (holders m v)
  unfolding holders holds put
  holders_fewer v e =
      select_fewer (holds (put m c x) v) (holds m v) m.caps.cells
      (put_all (λ k y. has v y.marks ≡ true → has v (m.at k).marks ≡ true) (λ h. absurd (clash h e)) (λ k n h. h))

  -- a mark that it has, and the old had not, stands in one more
  pub holders_more : (v : ℕ) → c < m.caps.cells → holds m v c ≡ false → has v x.marks ≡ true
      → length (holders (put m c x) v) ≡ suc (length (holders m v))
  unfolding holders holds put
  holders_more v l e h =
      select_more (holds m v) (holds (put m c x) v) c m.caps.cells l e (rw (eq-eqb c c refl) h) (λ k n. rw (ne_eqb c k n))

  -- the map stays sound with another cell that fits and is like no other, of marks that stand in less than 128 cells
  sound_put : Sound m → c < m.caps.cells → Fits m.caps c x
      → (coded x ≡ true → (k : ℕ) → (m.at k).code ≡ x.code → same_set (m.at k).marks x.marks ≡ true → ⊥)
      → ((v : ℕ) → has v x.marks ≡ true → (holds m v c ≡ false) × (length (holders m v) < most_around)) → Sound (put m c x)
  unfolding put live
  sound_put s l fit new few =
      fits_sound (put m c x) (put_all (Fits m.caps) fit (λ k n. sound_fits m s k))
      (put_all (λ a y. (b : ℕ) → Alone a y b ((put m c x).at b))
      (put_all (Alone c x) (λ i j e. refl) (λ b n i j e. absurd (new i b (sym j) (same_sym _ _ e))))
      (λ a n. put_all (Alone a (m.at a)) (λ i j e. absurd (new (rw j at i) a j e)) (λ b n. s.alone a b)))
      (λ v. ⊎_elim (λ h. omega (arith, (few v h).1, holders_more v l (few v h).0 h)) (λ h. omega (arith, s.few v, holders_fewer v h))
      (either (has v x.marks)))

module _ (m : Map) (s : Sound m) where
  -- an accepted insertion keeps the map sound
  pub sound_insert : (c : ℕ) (x : Body) → MayInsert m c x → Sound (changed m (Insert c x))
  unfolding changed live
  sound_insert c x r =
      sound_put m c x s r.number
      (record {
        below = λ e. r.number;
        dead = λ e. absurd (clash (typed_coded x.code r.typed) e);
        typed = λ e. r.typed;
        fitting = r.count;
        inside = r.inside;
        distinct = r.distinct;
      })
      (λ e k same h. clash h (r.new k (s.below k (rw same e)) same))
      (λ v h. (none_holds m c (s.dead c r.free) v, r.few v h))

  -- so does a removal
  pub sound_remove : (c : ℕ) → MayRemove m c → Sound (changed m (Remove c))
  unfolding changed no_cell has
  sound_remove c r = sound_put m c no_cell s r.number (fits_none _ c) (λ e. absurd (clash e refl)) (λ v e. absurd (clash e refl))

  -- every accepted edit keeps the map sound
  pub sound_changed : (e : Edit) → (edit_answer m e).refusal ≡ 0 → Sound (changed m e)
  sound_changed (Insert c x) a = sound_insert c x (may_insert m c x a)
  sound_changed (Remove c) a = sound_remove c (may_remove m c a)
