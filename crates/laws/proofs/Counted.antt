-- The counts and lists of cells, and the half-facets of a set, as one cell comes or goes.
use mathlib.Core.Path.{◌≡◌, refl, sym, ap, ◌∙◌}
use mathlib.Core.Bool.{Bool, true, false, not, ◌&&◌, ◌||◌}
use mathlib.Core.List.{List}
use Prim.Native.Nat.{ℕ, suc, ◌/◌, ◌%◌, ◌<◌}
use native.Mathlib.Nat.{not-suc-le-zero}
use native.Mathlib.Omega.{arith}
use borrow.Author.Tests.{eq-eqb, ne_eqb, eqb-false, ltb-true, not-true}
use lib.Dec.{eqb}
use lib.ListN.{length}
use Rattle.lists.specs.Lists.{has}
use Rattle.lists.proofs.Bools.{clash, not_true_false}
use Rattle.lists.proofs.Select.{select_in, select_out}
use Rattle.lists.proofs.Counts.{select_more}
use Rattle.numbers.specs.declared.Caps.{Caps}
use Rattle.shapes.specs.Shapes.{shape, shapes, no_shape}
use Rattle.map.specs.Cells.{Body, Map, no_cell, live, holds, cells_of, facets_at}
use Rattle.map.specs.Siblings.{is_half, sharers}
use Rattle.map.specs.Stars.{holders}
use Rattle.map.specs.History.{Edit, Insert, Remove, edit_body, edit_answer, changed}
use Rattle.map.specs.Sound.{Sound}
use Rattle.lists.proofs.Alike.{one_or_other, select_alike}
use Rattle.laws.proofs.Sharers.{sharers_has}
use Rattle.laws.proofs.Edits.{MayInsert, MayRemove, may_insert, may_remove, typed_coded}
use Rattle.laws.proofs.Local.{OneMore, picked, picked_same, sharers_at, more_insert, more_remove}

module _ (m m' : Map) (c : ℕ) (x : Body) (r : OneMore m m' c x) where
  module _ (p : Body → Bool) (empty : p no_cell ≡ false) where
    -- another cell is picked as before
    picked_other : (k : ℕ) → (k ≡ c → ⊥) → has k (picked m' p) ≡ has k (picked m p)
    picked_other k n = select_alike _ _ _ _ k (ap (λ (caps : Caps). caps.cells) r.apart.caps) (ap p (r.apart.other k n))

    -- where the cell does not pass, the same are picked
    picked_kept : p x ≡ false → picked m' p ≡ picked m p
    picked_kept e = picked_same m m' c r.apart p (rw (r.before, r.after) (e ∙ sym empty))

    -- where it passes, one more is picked
    picked_more : p x ≡ true → length (picked m' p) ≡ suc (length (picked m p))
    picked_more e =
        rw r.apart.caps
        (select_more _ _ c m.caps.cells r.number (rw r.before empty) (rw r.after e)
        (λ k n. ap p (sym (r.apart.other k (λ z. n (sym z))))))

    -- the cell besides
    picked_gain : p x ≡ true → (k : ℕ) → has k (picked m' p) ≡ eqb c k || has k (picked m p)
    picked_gain e =
        one_or_other c (λ k. has k (picked m' p) ≡ eqb c k || has k (picked m p))
        (rw (eq-eqb c c refl) (select_in _ _ c (rw r.apart.caps r.number) (rw r.after e)))
        (λ k n. rw (ne_eqb c k (λ z. n (sym z))) (picked_other k n))

    -- before it, all the others
    picked_loss : (k : ℕ) → has k (picked m p) ≡ not (eqb c k) && has k (picked m' p)
    picked_loss =
        one_or_other c (λ k. has k (picked m p) ≡ not (eqb c k) && has k (picked m' p))
        (rw (eq-eqb c c refl) (not_true_false _ (λ t. clash (select_out _ _ c t).1 (rw r.before empty))))
        (λ k n. rw (ne_eqb c k (λ z. n (sym z))) (sym (picked_other k n)))

  -- with one cell more, the cells of every other type are the same
  pub more_type_other : (t : ℕ) → 0 < t → (t ≡ x.code → ⊥) → cells_of m' t ≡ cells_of m t
  unfolding cells_of no_cell
  more_type_other t l n = picked_kept (λ x. eqb x.code t) (ne_eqb 0 t (λ z. omega arith)) (ne_eqb x.code t (λ z. n (sym z)))

  -- there is one more of its type
  pub more_type : 0 < x.code → length (cells_of m' x.code) ≡ suc (length (cells_of m x.code))
  unfolding cells_of no_cell
  more_type l = picked_more (λ y. eqb y.code x.code) (ne_eqb 0 x.code (λ z. omega arith)) (eq-eqb x.code _ refl)

  module _ (v : ℕ) where
    -- a mark that it has stands in one more cell
    pub more_held : has v x.marks ≡ true
        → (length (holders m' v) ≡ suc (length (holders m v))) × ((k : ℕ) → has k (holders m' v) ≡ eqb c k || has k (holders m v))
    unfolding holders holds no_cell has
    more_held e = (picked_more (λ x. has v x.marks) refl e, picked_gain (λ x. has v x.marks) refl e)

    -- before it, a mark stands in all the other cells
    pub less_held : (k : ℕ) → has k (holders m v) ≡ not (eqb c k) && has k (holders m' v)
    unfolding holders holds no_cell has
    less_held = picked_loss (λ x. has v x.marks) refl

  -- before it, no half-facet is its
  less_half : (h : ℕ) → is_half m h ≡ true → h / 8 ≡ c → ⊥
  unfolding is_half facets_at no_cell shape shapes no_shape
  less_half h e z = not-suc-le-zero (ltb-true (h % 8) 0 (rw (z, r.before) at e))

  module _ (set : List ℕ) (h : ℕ) where
    -- before it, the sharers of a set are those that are not its
    pub less_sharers : has h (sharers m set) ≡ true → (has h (sharers m' set) ≡ true) × (h / 8 ≡ c → ⊥)
    less_sharers e =
        let n = less_half h (sharers_has m set h e).0.facet in
        (sharers_at m m' c r.apart set h n ∙ e, n)

    -- and each that is not its is one of them
    pub sharers_less : has h (sharers m' set) ≡ true → (h / 8 ≡ c → ⊥) → has h (sharers m set) ≡ true
    sharers_less e n = sym (sharers_at m m' c r.apart set h n) ∙ e

-- an accepted edit leaves the cells of every other type
pub count_other : (m : Map) → Sound m → (e : Edit) → (edit_answer m e).refusal ≡ 0
    → (t : ℕ) → 0 < t → (t ≡ (edit_body m e).code → ⊥) → cells_of (changed m e) t ≡ cells_of m t
count_other m s (Insert c x) a t l n = more_type_other _ _ c _ (more_insert m s c x (may_insert m c x a)) t l n
count_other m s (Remove c) a t l n = sym (more_type_other _ _ c _ (more_remove m s c (may_remove m c a)) t l n)

-- a code of a live cell
code_live : (t : ℕ) → not (eqb t 0) ≡ true → 0 < t
code_live t e = let n = eqb-false t 0 (not-true _ e) in omega arith

module _ (m : Map) (s : Sound m) (c : ℕ) (x : Body) (r : MayInsert m c x) where
  -- an accepted insertion makes one more of its type
  pub count_insert : length (cells_of (changed m (Insert c x)) x.code) ≡ suc (length (cells_of m x.code))
  count_insert = more_type _ _ c _ (more_insert m s c x r) (code_live x.code (typed_coded x.code r.typed))

  -- and each of its marks stands in one more cell, and that is the new one
  pub holders_insert : (v : ℕ) → has v x.marks ≡ true
      → (length (holders (changed m (Insert c x)) v) ≡ suc (length (holders m v)))
      × ((k : ℕ) → has k (holders (changed m (Insert c x)) v) ≡ eqb c k || has k (holders m v))
  holders_insert = more_held _ _ c _ (more_insert m s c x r)

module _ (m : Map) (s : Sound m) (c : ℕ) (r : MayRemove m c) where
  -- a removal leaves one fewer of its type
  pub count_remove : length (cells_of m (m.at c).code) ≡ suc (length (cells_of (changed m (Remove c)) (m.at c).code))
  unfolding live
  count_remove = more_type _ _ c _ (more_remove m s c r) (code_live (m.at c).code r.live)

  -- and each of its marks stands in one cell fewer, and that is the removed one
  pub holders_remove : (v : ℕ) → holds m v c ≡ true
      → (length (holders m v) ≡ suc (length (holders (changed m (Remove c)) v)))
      × ((k : ℕ) → has k (holders (changed m (Remove c)) v) ≡ not (eqb c k) && has k (holders m v))
  unfolding holds
  holders_remove v e = ((more_held _ _ c _ (more_remove m s c r) v e).0, less_held _ _ c _ (more_remove m s c r) v)

  -- the sharers of a set are then those that were not half-facets of the cell
  pub sharers_remove : (set : List ℕ) (h : ℕ) → has h (sharers (changed m (Remove c)) set) ≡ true
      → (has h (sharers m set) ≡ true) × (h / 8 ≡ c → ⊥)
  sharers_remove = less_sharers _ _ c _ (more_remove m s c r)

  -- all of them
  pub remove_sharers : (set : List ℕ) (h : ℕ) → has h (sharers m set) ≡ true → (h / 8 ≡ c → ⊥)
      → has h (sharers (changed m (Remove c)) set) ≡ true
  remove_sharers = sharers_less _ _ c _ (more_remove m s c r)
