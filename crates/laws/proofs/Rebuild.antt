-- Built afresh from its live cells, in any order, a mesh has the same map.
use mathlib.Core.Path.{◌≡◌, refl, sym, ap, ◌∙◌, fun_ext}
use mathlib.Core.Bool.{Bool, true, false, cond, ◌||◌}
use mathlib.Core.List.{List, [], ◌∷◌, ◌++◌, append-nil, map}
use mathlib.Core.Logic.{⊎_elim, ◌⊎◌, inl, inr}
use Prim.Native.Nat.{ℕ, ◌<◌, ◌≤◌}
use native.Mathlib.Omega.{arith}
use borrow.Author.Tests.{eq-eqb, eqb-true}
use lib.Dec.{eqb}
use lib.ListN.{length}
use Rattle.lists.specs.Lists.{has, all, select, same_set}
use Rattle.lists.proofs.Bools.{clash, not_true_false, and_left, and_both, or_left, or_right}
use Rattle.numbers.specs.declared.Caps.{Caps}
use Rattle.map.specs.Cells.{Body, Live, Map, no_cell, body_in, map_of, live, live_at, live_cells, dimension_at, holds}
use Rattle.map.specs.Stars.{holders}
use Rattle.map.specs.History.{empty, Edit, Insert, edit_answer, put, changed, edited, history}
use Rattle.map.specs.Afresh.{Shuffled, numbers, Distinct}
use Rattle.map.specs.Sound.{Sound, TwoSolids}
use Rattle.lists.proofs.Select.{select_in, select_out}
use Rattle.lists.proofs.Order.{select_ascends, asc_once}
use Rattle.lists.proofs.Counts.{neither, select_fewer}
use Rattle.laws.proofs.Orders.{distinct_parts, order_free, shuffled_front, shuffled_distinct, shuffled_all, shuffled_same}
use Rattle.laws.proofs.Edits.{edited_changed, MayInsert, insert_may, coded, none_holds, put_all, holders_more}
use Rattle.laws.proofs.Solids.{part, part_room}

module _ (m : Map) (at : ℕ → Body) (inner : (k : ℕ) → (at k ≡ no_cell) ⊎ (at k ≡ m.at k)) (c : ℕ) (x : Body) where
  -- with one more cell of the map, a part of it has no more cells at a mark than the map
  part_holders : m.at c ≡ x → (v : ℕ) → length (holders (put (part m at) c x) v) ≤ length (holders m v)
  unfolding holds holders put no_cell has
  part_holders here v =
      select_fewer (holds (put (part m at) c x) v) (holds m v) m.caps.cells
      (put_all (part m at) c x (λ k y. has v y.marks ≡ true → has v (m.at k).marks ≡ true) (λ e. rw here e)
      (λ k n e. ⊎_elim (λ z. absurd (clash (rw z at e) refl)) (λ z. rw z at e) (inner k)))

  -- a part of a sound map with two solids at most takes every live cell of the map that it has not
  pub part_takes : Sound m → TwoSolids m → m.at c ≡ x → coded x ≡ true → at c ≡ no_cell → MayInsert (part m at) c x
  unfolding live dimension_at holds no_cell
  part_takes s t here l free = record {
    number = below;
    free = rw free;
    typed = rw (here, dimension_at) at (s.typed c (rw here l));
    count = rw here at (s.fitting c);
    inside = λ v h. s.inside v c (rw here h);
    distinct = rw here at (s.distinct c);
    new = λ k b e. not_true_false _ (λ h. ⊎_elim (lacks k e) (λ z. lacks k e (rw (same k e h z) free)) (inner k));
    room = rw here at (part_room m at inner t c free below);
    few = λ v h.
        omega (arith, s.few v, part_holders here v, holders_more (part m at) c x v below (none_holds (part m at) c free v) h);
  }
    where
      below : c < m.caps.cells
      below = s.below c (rw here l)

      lacks : (k : ℕ) → (at k).code ≡ x.code → at k ≡ no_cell → ⊥
      lacks k e z = clash (rw (← e, z) at l) refl

      same : (k : ℕ) → (at k).code ≡ x.code → same_set (at k).marks x.marks ≡ true → at k ≡ m.at k → k ≡ c
      same k e h z = s.alone k c (rw (← z, e) l) (rw (← z, here) e) (rw (← z, here) h)

-- a list with more cells has under each number what the list has, where it has a cell there
bodies_append : (a b : List Live) (k : ℕ) → (body_in a k ≡ no_cell) ⊎ (body_in a k ≡ body_in (a ++ b) k)
unfolding body_in
bodies_append [] b k = inl refl
bodies_append (x ∷ xs) b k = go (eqb x.number k) (bodies_append xs b k)
  where
    go : (t : Bool) → (body_in xs k ≡ no_cell) ⊎ (body_in xs k ≡ body_in (xs ++ b) k)
        → (cond t x.body (body_in xs k) ≡ no_cell) ⊎ (cond t x.body (body_in xs k) ≡ cond t x.body (body_in (xs ++ b) k))
    go true h = inr refl
    go false h = h

-- under a number that is not in the list stands no cell
not_listed : (a b : List Live) (k : ℕ) → has k (numbers (a ++ b)) ≡ false → body_in a k ≡ no_cell
unfolding body_in has
not_listed [] b k e = refl
not_listed (x ∷ xs) b k e =
    let r = neither (eqb x.number k) (has k (numbers (xs ++ b))) e in
    rw r.0 (not_listed xs b k r.1)

-- the edit that inserts a cell
abbrev pub insertion : Live → Edit
insertion x = Insert x.number x.body

-- the edits that insert the cells of a list, from its first on
abbrev pub inserts : List Live → List Edit
inserts list = map insertion list

-- each edit is accepted in its turn
pub data AllAccepted : Map → List Edit → Type 0 where
  done : {m : Map} → AllAccepted m []
  next : {m : Map} {e : Edit} {es : List Edit} → (edit_answer m e).refusal ≡ 0 → AllAccepted (edited m e) es → AllAccepted m (e ∷ es)

-- the cells of a list are live
abbrev pub AllLive : List Live → Type 0
AllLive list = all (λ (x : Live). coded x.body) list ≡ true

-- a list that can be built: its map is sound with two solids at most, no number stands in it twice, and its cells are live
pub record Tidy (caps : Caps) (list : List Live) : Type 0 where
  pub sound : Sound (map_of caps list)
  pub two : TwoSolids (map_of caps list)
  pub distinct : Distinct list
  pub live : AllLive list

module _ (caps : Caps) where
  -- so is the list shuffled
  pub tidy_shuffled : (a b : List Live) → Shuffled a b → Tidy caps a → Tidy caps b
  tidy_shuffled a b s t = record {
    sound = rw (order_free caps a b s t.distinct) at t.sound;
    two = rw (order_free caps a b s t.distinct) at t.two;
    distinct = shuffled_distinct s t.distinct;
    live = sym (shuffled_all (λ (x : Live). coded x.body) s) ∙ t.live;
  }

  module _ (x : Live) (a b : List Live) (t : Tidy caps (a ++ (x ∷ b))) where
    -- any cell of the list may come first
    front : Tidy caps (x ∷ (a ++ b))
    front = tidy_shuffled _ _ (shuffled_front x a b) t

    -- after some cells of the list are inserted, each other is accepted
    next_accepted : (edit_answer (map_of caps a) (insertion x)).refusal ≡ 0
    unfolding map_of body_in all
    next_accepted =
        insert_may (map_of caps a) x.number x.body
        (part_takes (map_of caps (a ++ (x ∷ b))) (body_in a) (bodies_append a (x ∷ b)) x.number x.body t.sound t.two
        (shuffled_same (shuffled_front x a b) t.distinct x.number ∙ rw (eq-eqb x.number x.number refl))
        (and_left _ _ front.live) (not_listed a b x.number (distinct_parts x (a ++ b) front.distinct).0))

  -- the cells of a list, inserted after those of another, are accepted and give the map of both
  rebuild : (xs ys : List Live) → Tidy caps (ys ++ xs)
      → AllAccepted (map_of caps ys) (inserts xs) × (history (map_of caps ys) (inserts xs) ≡ map_of caps (ys ++ xs))
  unfolding history changed put map_of body_in
  rebuild [] ys t = (done, rw append-nil)
  rebuild (x ∷ xs) ys t =
      let n : Map = map_of caps ys in
      let a : (edit_answer n (insertion x)).refusal ≡ 0 = next_accepted x ys xs t in
      let step : edited n (insertion x) ≡ map_of caps (x ∷ ys) = edited_changed n (insertion x) a in
      let same = order_free caps _ _ (shuffled_front x ys xs) t.distinct in
      let rest = rebuild xs (x ∷ ys) (front x ys xs t) in
      (next {es = inserts xs} a (rw step rest.0), ap (λ (k : Map). history k (inserts xs)) step ∙ (rest.1 ∙ sym same))

  module _ (list : List Live) (t : Tidy caps list) where
    -- the cells of a list, inserted one after another into a formatted mesh, are each accepted in turn
    pub rebuild_accepted : AllAccepted (empty caps) (inserts list)
    unfolding empty
    rebuild_accepted = (rebuild list [] t).0

    -- and give its map
    pub rebuild_same : history (empty caps) (inserts list) ≡ map_of caps list
    unfolding empty
    rebuild_same = (rebuild list [] t).1

  -- in any order they do as well
  pub rebuild_any : (list other : List Live) → Tidy caps list → Shuffled list other
      → AllAccepted (empty caps) (inserts other)
      × (history (empty caps) (inserts other) ≡ map_of caps list)
  rebuild_any list other t s =
      let u : Tidy caps other = tidy_shuffled list other s t in
      (rebuild_accepted other u, rebuild_same other u ∙ sym (order_free caps list other s t.distinct))

module _ (m : Map) where
  -- the numbers of cells, each as the map has it, are theirs
  numbers_of : (l : List ℕ) → numbers (map (live_at m) l) ≡ l
  numbers_of [] = refl
  numbers_of (x ∷ xs) = rw (numbers_of xs)

  -- under each of the numbers stands what the map has there, and under the others no cell
  bodies_of : (l : List ℕ) (k : ℕ) → body_in (map (live_at m) l) k ≡ cond (has k l) (m.at k) no_cell
  unfolding body_in has
  bodies_of [] k = refl
  bodies_of (x ∷ xs) k = go (eqb x k) refl (bodies_of xs k)
    where
      go : (b : Bool) → eqb x k ≡ b → body_in (map (live_at m) xs) k ≡ cond (has k xs) (m.at k) no_cell
          → cond b (m.at x) (body_in (map (live_at m) xs) k) ≡ cond (b || has k xs) (m.at k) no_cell
      go true e h = ap m.at (eqb-true x k e)
      go false e h = h

  -- they are live where the map has live cells there
  lives_of : (l : List ℕ) → ((k : ℕ) → has k l ≡ true → live m k ≡ true) → AllLive (map (live_at m) l)
  unfolding all has live
  lives_of [] f = refl
  lives_of (x ∷ xs) f =
      and_both _ _ (f x (or_left _ _ (eq-eqb x x refl))) (lives_of xs (λ k h. f k (or_right (eqb x k) _ h)))

  module _ (s : Sound m) where
    -- the map of the list of live cells is the map
    pub live_same : map_of m.caps (live_cells m) ≡ m
    unfolding map_of live_cells
    live_same = ap (λ (at : ℕ → Body). part m at) (fun_ext (λ k. bodies_of _ k ∙ go k (live m k) refl))
      where
        go : (k : ℕ) (b : Bool) → live m k ≡ b → cond (has k (select (live m) m.caps.cells)) (m.at k) no_cell ≡ m.at k
        go k true e = rw (select_in (live m) m.caps.cells k (s.below k e) e)
        go k false e =
            rw (not_true_false (has k (select (live m) m.caps.cells)) (λ h. clash (select_out _ _ k h).1 e)) (sym (s.dead k e))

    -- and the list is tidy
    pub live_tidy : TwoSolids m → Tidy m.caps (live_cells m)
    unfolding live_cells
    live_tidy t = record {
      sound = rw live_same s;
      two = rw live_same t;
      distinct = rw numbers_of (asc_once _ (select_ascends (live m) m.caps.cells));
      live = lives_of _ (λ k h. (select_out (live m) m.caps.cells k h).1);
    }

    -- built afresh from its live cells in any order, each is accepted in turn, and the map is the same
    pub afresh : TwoSolids m → (other : List Live) → Shuffled (live_cells m) other
        → AllAccepted (empty m.caps) (inserts other) × (history (empty m.caps) (inserts other) ≡ m)
    afresh t other o = let r = rebuild_any m.caps (live_cells m) other (live_tidy t) o in (r.0, r.1 ∙ live_same)
