-- Labels: each place its own, one replaced by another, and the pairs one after the other.
use mathlib.Core.Path.{◌≡◌, refl, sym, ap, ◌∙◌}
use mathlib.Core.Bool.{Bool, true}
use mathlib.Core.List.{List}
use mathlib.Core.Logic.{⊎_elim, ◌⊎◌, inl, inr}
use Prim.Native.Nat.{ℕ, ◌+◌, ◌<◌, ◌≤◌}
use native.Mathlib.Nat.{not-suc-le-zero, eq-or-lt_of_le}
use native.Mathlib.Decide.{dec_lt, ℕ_discrete}
use native.Mathlib.Omega.{arith}
use borrow.Author.Tests.{eq-eqb, ne_eqb}
use lib.ListN.{length, get_or, set, length-set}
use lib.Seq.{get_or-set_same, get_or-set_other}
use Rattle.numbers.specs.declared.Caps.{Caps}
use Rattle.group.specs.Labels.{linked_in, link_in, Numbered, renamed, Relabelled, Relates, LabelsWithin, Pairs, Merged, Labelled}

pub number_start : (l : List ℕ) → Numbered 0 l l
number_start l = record { size = refl; own = λ _ p h. absurd (not-suc-le-zero h) }

pub number_more : (j : ℕ) (l l' l'' : List ℕ) → Numbered j l l' → l'' ≡ set l' j j → Numbered (j + 1) l l''
number_more j l l' l'' f e = record {
  size = ap length e ∙ (length-set l' j j ∙ f.size);
  own = λ room p h.
      ap (λ (x : List ℕ). get_or x p 0) e
      ∙ ⊎_elim (λ (z : p ≡ j). rw z (get_or-set_same l' j j 0 (omega (arith, f.size))))
      (λ (k : p < j). get_or-set_other l' j p j 0 (λ z. omega arith) ∙ f.own (omega arith) p k)
      (eq-or-lt_of_le {n = p} {m = j} (omega arith));
}

pub number_end : (j n : ℕ) (l l' : List ℕ) → Numbered j l l' → j ≤ n → n ≤ j → Numbered n l l'
number_end j n l l' f a b = let e : j ≡ n = omega arith in rw e at f

renamed_old : (old new x : ℕ) → x ≡ old → renamed old new x ≡ new
unfolding renamed
renamed_old old new x e = simp (eq-eqb x old e)

renamed_other : (old new x : ℕ) → (x ≡ old → ⊥) → renamed old new x ≡ x
unfolding renamed
renamed_other old new x f = simp (ne_eqb x old f)

renamed_new : (old new : ℕ) → renamed old new new ≡ new
renamed_new old new = go (ℕ_discrete new old)
  where
    go : Dec (new ≡ old) → renamed old new new ≡ new
    go (yes e) = renamed_old old new new e
    go (no f) = renamed_other old new new f

-- the first j places are done, the rest as they were
pub record Partly (j old new : ℕ) (l l' : List ℕ) : Type 0 where
  pub size : length l' ≡ length l
  pub done : j ≤ length l → (p : ℕ) → p < j → get_or l' p 0 ≡ renamed old new (get_or l p 0)
  pub rest : (p : ℕ) → j ≤ p → get_or l' p 0 ≡ get_or l p 0

pub partly_start : (old new : ℕ) (l : List ℕ) → Partly 0 old new l l
partly_start old new l = record { size = refl; done = λ _ p h. absurd (not-suc-le-zero h); rest = λ p h. refl }

module _ (j old new : ℕ) (l l' : List ℕ) (x : ℕ) (f : Partly j old new l l') (here : x ≡ get_or l' j 0) where
  pub partly_yes : (l'' : List ℕ) → x ≡ old → l'' ≡ set l' j new → Partly (j + 1) old new l l''
  partly_yes l'' e q = record {
    size = ap length q ∙ (length-set l' j new ∙ f.size);
    done = λ room p h.
        ap (λ (y : List ℕ). get_or y p 0) q
        ∙ ⊎_elim
        (λ (z : p ≡ j).
        rw z (get_or-set_same l' j new 0 (omega (arith, f.size))
        ∙ sym (renamed_old old new (get_or l j 0) (sym (f.rest j (omega arith)) ∙ (sym here ∙ e)))))
        (λ (k : p < j). get_or-set_other l' j p new 0 (λ z. omega arith) ∙ f.done (omega arith) p k)
        (eq-or-lt_of_le {n = p} {m = j} (omega arith));
    rest = λ p h. ap (λ (y : List ℕ). get_or y p 0) q ∙ (get_or-set_other l' j p new 0 (λ z. omega arith) ∙ f.rest p (omega arith));
  }

  pub partly_no : (x ≡ old → ⊥) → Partly (j + 1) old new l l'
  partly_no ne = record {
    size = f.size;
    done = λ room p h.
        ⊎_elim
        (λ (z : p ≡ j).
        rw z (f.rest j (omega arith) ∙ sym (renamed_other old new (get_or l j 0) (λ e. ne (here ∙ (f.rest j (omega arith) ∙ e))))))
        (λ (k : p < j). f.done (omega arith) p k)
        (eq-or-lt_of_le {n = p} {m = j} (omega arith));
    rest = λ p h. f.rest p (omega arith);
  }

pub partly_end : (j n old new : ℕ) (l l' : List ℕ) → Partly j old new l l' → j ≤ n → n ≤ j → Relabelled n old new l l'
partly_end j n old new l l' f a b =
    let e : j ≡ n = omega arith in
    record { size = f.size; each = λ room p h. f.done (omega arith) p (omega arith) }

-- the rows of the places below a
pub record Rows (a p q : ℕ) : Type 0 where
  pub below : p < a

module _ (link : ℕ → ℕ → Bool) (n : ℕ) where
  -- where P holds of no pair
  pub merge_none : (P : ℕ → ℕ → Type 0) (l : List ℕ) → ((p q : ℕ) → P p q → ⊥) → Merged link n P l l
  merge_none P l none = record {
    size = refl;
    same = λ room p q hp hq e. e;
    linked = λ room p q h. absurd (none p q h);
    within = λ room R rel w. w;
  }

  module _ (a b : ℕ) where
    one_pair : (p q : ℕ) → Pairs a b (b + 1) p q → (p ≡ a) × (q ≡ b)
    one_pair p q h = (h.one, omega (arith, h.least, h.most))

    -- a pair that is not linked, or has one label already
    pub merge_skip : (l : List ℕ) → (link a b ≡ true → get_or l a 0 ≡ get_or l b 0) → Merged link n (Pairs a b (b + 1)) l l
    merge_skip l f = record {
      size = refl;
      same = λ room p q hp hq e. e;
      linked = λ room p q h k t e. let z = one_pair p q h in rw (z.0, z.1) (f (rw (z.0, z.1) at e));
      within = λ room R rel w. w;
    }

    -- a linked pair gets one label
    module _ (l l' : List ℕ) (one other : ℕ) (first : one ≡ get_or l a 0) (second : other ≡ get_or l b 0) (order : b < a) (below : a < n)
        (r : Relabelled n other one l l') where
      join_linked : n ≤ length l → get_or l' a 0 ≡ get_or l' b 0
      join_linked room =
          (r.each room a below ∙ (ap (renamed other one) (sym first) ∙ renamed_new other one))
          ∙ sym (r.each room b (omega arith) ∙ renamed_old other one _ (sym second))

      join_within : n ≤ length l → (R : ℕ → ℕ → Bool) → Relates link n R → link a b ≡ true → LabelsWithin n R l → LabelsWithin n R l'
      join_within room R rel e w p q hp hq same = go (ℕ_discrete (get_or l p 0) other) (ℕ_discrete (get_or l q 0) other)
        where
          names : renamed other one (get_or l p 0) ≡ renamed other one (get_or l q 0)
          names = sym (r.each room p hp) ∙ (same ∙ r.each room q hq)

          a_b : R a b ≡ true
          a_b = rel.links a b below (omega arith) e

          go : Dec (get_or l p 0 ≡ other) → Dec (get_or l q 0 ≡ other) → R p q ≡ true
          go (yes f) (yes g) = w p q hp hq (f ∙ sym g)
          go (yes f) (no g) =
              let to : one ≡ get_or l q 0 = sym (renamed_old other one _ f) ∙ (names ∙ renamed_other other one _ g) in
              rel.onward p b q (w p b hp (omega arith) (f ∙ second)) (rel.onward b a q (rel.back a b a_b) (w a q below hq (sym first ∙ to)))
          go (no f) (yes g) =
              let to : get_or l p 0 ≡ one = sym (renamed_other other one _ f) ∙ (names ∙ renamed_old other one _ g) in
              rel.onward p a q (w p a hp below (to ∙ first)) (rel.onward a b q a_b (w b q (omega arith) hq (sym second ∙ sym g)))
          go (no f) (no g) = w p q hp hq (sym (renamed_other other one _ f) ∙ (names ∙ renamed_other other one _ g))

      pub merge_join : link a b ≡ true → Merged link n (Pairs a b (b + 1)) l l'
      merge_join e = record {
        size = r.size;
        same = λ room p q hp hq k. r.each room p hp ∙ (ap (renamed other one) k ∙ sym (r.each room q hq));
        linked = λ room p q h k t e'. let z = one_pair p q h in rw (z.0, z.1) (join_linked room);
        within = λ room R rel w. join_within room R rel e w;
      }

  -- what is looked at first and what is looked at then
  pub merge_then : (P Q S : ℕ → ℕ → Type 0) (l l' l'' : List ℕ) → Merged link n P l l' → Merged link n Q l' l''
      → ((p q : ℕ) → q < p → S p q → P p q ⊎ Q p q) → Merged link n S l l''
  merge_then P Q S l l' l'' f g split = record {
    size = g.size ∙ f.size;
    same = λ room p q hp hq e. g.same (later room) p q hp hq (f.same room p q hp hq e);
    linked = λ room p q h k t e.
        ⊎_elim (λ (x : P p q). g.same (later room) p q t (omega arith) (f.linked room p q x k t e))
        (λ (x : Q p q). g.linked (later room) p q x k t e) (split p q k h);
    within = λ room R rel w. g.within (later room) R rel (f.within room R rel w);
  }
    where
      later : n ≤ length l → n ≤ length l'
      later room = omega (arith, f.size)

  -- a row from its end: nothing, one pair more, all
  pub row_none : (a : ℕ) (l : List ℕ) → Merged link n (Pairs a a a) l l
  row_none a l = merge_none (Pairs a a a) l (λ p q h. omega (arith, h.least, h.most))

  pub row_more : (a b c : ℕ) (l l' l'' : List ℕ) → c ≡ b + 1 → Merged link n (Pairs a c a) l l' → Merged link n (Pairs a b (b + 1)) l' l''
      → Merged link n (Pairs a b a) l l''
  row_more a b c l l' l'' e f g = merge_then (Pairs a c a) (Pairs a b (b + 1)) (Pairs a b a) l l' l'' f g (λ p q _ h. go p q h (dec_lt q c))
    where
      go : (p q : ℕ) → Pairs a b a p q → Dec (q < c) → Pairs a c a p q ⊎ Pairs a b (b + 1) p q
      go p q h (yes k) = inr (record { one = h.one; least = h.least; most = omega arith })
      go p q h (no k) = inl (record { one = h.one; least = omega arith; most = h.most })

  pub row_end : (a b : ℕ) (l l' : List ℕ) → Merged link n (Pairs a b a) l l' → b ≤ 0 → Merged link n (Pairs a 0 a) l l'
  row_end a b l l' f none = let e : b ≡ 0 = omega arith in rw e at f

  -- the rows from the first: none, one more, all
  pub rows_none : (l : List ℕ) → Merged link n (Rows 0) l l
  rows_none l = merge_none (Rows 0) l (λ p q h. not-suc-le-zero h.below)

  pub rows_more : (a : ℕ) (l l' l'' : List ℕ) → Merged link n (Rows a) l l' → Merged link n (Pairs a 0 a) l' l'' → Merged link n (Rows (a + 1)) l l''
  rows_more a l l' l'' f g =
      merge_then (Rows a) (Pairs a 0 a) (Rows (a + 1)) l l' l'' f g
      (λ p q k h.
      ⊎_elim (λ (z : p ≡ a). inr (record { one = z; least = omega arith; most = omega arith })) (λ (x : p < a). inl (record { below = x }))
      (eq-or-lt_of_le {n = p} {m = a} (omega (arith, h.below))))

  pub rows_end : (a : ℕ) (l l' l'' : List ℕ) → Numbered n l l' → Merged link n (Rows a) l' l'' → n ≤ a → Labelled link n l l''
  rows_end a l l' l'' own f all = record {
    size = f.size ∙ own.size;
    linked = λ room p q k t e. f.linked (later room) p q (record { below = omega arith }) k t e;
    within = λ room R rel self.
        f.within (later room) R rel
        (λ p q hp hq e. let z : p ≡ q = sym (own.own room p hp) ∙ (e ∙ own.own room q hq) in rw (← z) (self p hp));
  }
    where
      later : n ≤ length l → n ≤ length l'
      later room = omega (arith, own.size)

-- whether two places are linked, as the code asks it
pub link_is : (w : List ℕ) (caps : Caps) (rows : List (List (List ℕ))) (v : ℕ) (cells : List ℕ) (i j a b : ℕ) (r : Bool) → a ≡ get_or cells i 0 → b ≡ get_or cells j 0
    → r ≡ linked_in w caps rows v a b → r ≡ link_in w caps rows v cells i j
unfolding link_in
link_is w caps rows v cells i j a b r e f q = rw (← e, ← f) q
