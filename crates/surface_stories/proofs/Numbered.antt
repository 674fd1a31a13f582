-- The renumbered map is sound where the map is.
use mathlib.Core.Path.{◌≡◌, refl, sym, ap, subst, ◌∙◌}
use mathlib.Core.Bool.{Bool, true, false, not}
use mathlib.Core.List.{List, [], ◌∷◌, map}
use Prim.Native.Nat.{ℕ, zero, suc, ◌<◌, ◌≤◌}
use native.Mathlib.Decide.{dec_lt}
use native.Mathlib.Omega.{arith}
use lib.Dec.{eqb}
use lib.ListN.{length, get_or, length-map, get_or-map, get_or-eq_default}
use Rattle.lists.specs.Lists.{has, select, repeats, same_set}
use Rattle.lists.proofs.Alike.{map_at}
use Rattle.lists.proofs.Bools.{clash, not_true_false}
use Rattle.lists.proofs.Members.{at_has, once}
use Rattle.lists.proofs.Order.{select_ascends, asc_once}
use Rattle.lists.proofs.Select.{select_in, select_out}
use Rattle.lists.proofs.Sized.{distinct_fewer, map_once}
use Rattle.shapes.specs.Shapes.{shape}
use Rattle.map.specs.Cells.{Body, Map, Live, no_cell, live, live_at, live_cells, dimension_at, holds}
use Rattle.map.specs.Stars.{holders}
use Rattle.map.specs.Sound.{Sound, TwoSolids}
use Rattle.surfaces_out.proofs.Listed.{map_fused}
use Rattle.surface_stories.specs.Renumbered.{unlicensed, renumbered}

-- what is read where something stands does not depend on the default
pub get_d_any : (l : List ℕ) (k d e : ℕ) → k < length l → get_or l k d ≡ get_or l k e
get_d_any [] k d e h = absurd (omega arith)
get_d_any (x ∷ xs) zero d e h = refl
get_d_any (x ∷ xs) (suc k) d e h = get_d_any xs k d e (omega arith)

-- the numbers of the live cells
abbrev pub alive : Map → List ℕ
alive m = select (live m) m.caps.cells

-- the number that a cell had; behind the last, one under which no cell stands
abbrev pub old : Map → ℕ → ℕ
old m k = get_or (alive m) k m.caps.cells

module _ (m : Map) where
  pub live_count_lem : length (live_cells m) ≡ length (alive m)
  unfolding live_cells
  live_count_lem = length-map (alive m) (live_at m)

  pub cells_count : (renumbered m).caps.cells ≡ length (alive m)
  unfolding renumbered
  cells_count = live_count_lem

  pub marks_same : (renumbered m).caps.marks ≡ m.caps.marks
  unfolding renumbered
  marks_same = refl

  pub old_live : (k : ℕ) → k < length (alive m) → (old m k < m.caps.cells) × (live m (old m k) ≡ true)
  old_live k h = rw (get_d_any (alive m) k m.caps.cells 0 h) (select_out (live m) m.caps.cells (get_or (alive m) k 0) (at_has (alive m) k h))

  pub old_behind : (k : ℕ) → length (alive m) ≤ k → old m k ≡ m.caps.cells
  old_behind k h = get_or-eq_default (alive m) m.caps.cells h

  -- no two had one number
  pub old_one : (a b : ℕ) → a < length (alive m) → old m a ≡ old m b → a ≡ b
  old_one a b h e = go (dec_lt b (length (alive m)))
    where
      go : Dec (b < length (alive m)) → a ≡ b
      go (yes k) =
          once (alive m) (asc_once (alive m) (select_ascends (live m) m.caps.cells)) a b h k
          (get_d_any (alive m) a 0 m.caps.cells h ∙ (e ∙ get_d_any (alive m) b m.caps.cells 0 k))
      go (no f) = absurd (omega (arith, (old_live a h).0, e, old_behind b (omega arith)))

-- an edition 1 map has no rule of two solids
pub two_renumbered : (m : Map) → TwoSolids (renumbered m)
unfolding renumbered
two_renumbered m = record { most = λ e h i d. absurd (omega (arith, e)) }

module _ (m : Map) (s : Sound m) where
  behind_dead : live m m.caps.cells ≡ false
  behind_dead = not_true_false (live m m.caps.cells) (λ e. omega (arith, s.below m.caps.cells e))

  pub behind_none : m.at m.caps.cells ≡ no_cell
  behind_none = s.dead m.caps.cells behind_dead

  -- each cell is what stood under its old number, with licence 0
  pub at_old : (k : ℕ) → (renumbered m).at k ≡ unlicensed (m.at (old m k))
  unfolding renumbered live_cells no_cell
  at_old k =
      ap (λ (b : Body). get_or (map (λ (x : Live). unlicensed x.body) (map (live_at m) (alive m))) k (unlicensed b)) (sym behind_none)
      ∙ (ap (λ (l : List Body). get_or l k (unlicensed (m.at m.caps.cells))) (map_fused (live_at m) (λ (x : Live). unlicensed x.body) (alive m))
      ∙ get_or-map (λ c. unlicensed (m.at c)) (alive m) k m.caps.cells)

  live_old : (k : ℕ) → live (renumbered m) k ≡ live m (old m k)
  unfolding live
  live_old k = ap (λ (b : Body). not (eqb b.code 0)) (at_old k)

  pub live_inside : (k : ℕ) → k < length (alive m) → live (renumbered m) k ≡ true
  live_inside k h = live_old k ∙ (old_live m k h).1

  live_below : (k : ℕ) → live (renumbered m) k ≡ true → k < length (alive m)
  live_below k e = go (dec_lt k (length (alive m)))
    where
      go : Dec (k < length (alive m)) → k < length (alive m)
      go (yes h) = h
      go (no f) = absurd (clash e (live_old k ∙ (ap (live m) (old_behind m k (omega arith)) ∙ behind_dead)))

  holds_old : (v k : ℕ) → holds (renumbered m) v k ≡ holds m v (old m k)
  unfolding holds
  holds_old v k = ap (λ (b : Body). has v b.marks) (at_old k)

  dimension_old : (k : ℕ) → dimension_at (renumbered m) k ≡ dimension_at m (old m k)
  unfolding dimension_at
  dimension_old k = ap (λ (b : Body). (shape b.code).dimension) (at_old k)

  -- no mark stands in more cells than before
  few_old : (v : ℕ) → length (holders (renumbered m) v) ≤ length (holders m v)
  unfolding holders
  few_old v =
      let n : ℕ = (renumbered m).caps.cells in
      let p : ℕ → Bool = holds (renumbered m) v in
      let l : List ℕ = select p n in
      let single = asc_once l (select_ascends p n) in
      let within : (x : ℕ) → has x l ≡ true → x < length (alive m) = λ x h. omega (arith, (select_out p n x h).0, cells_count m) in
      let other = map_once (old m) l single (λ x y h k e. old_one m x y (within x h) e) in
      let inside : (x : ℕ) → has x (map (old m) l) ≡ true → has x (select (holds m v) m.caps.cells) ≡ true =
      λ x h.
      let at = map_at (old m) l x h in
      let there = at_has l at.0 at.1 in
      let k : ℕ = get_or l at.0 0 in
      subst (λ (y : ℕ). has y (select (holds m v) m.caps.cells) ≡ true) at.2
      (select_in (holds m v) m.caps.cells (old m k) (old_live m k (within k there)).0 (sym (holds_old v k) ∙ (select_out p n k there).1)) in
      omega (arith, distinct_fewer (map (old m) l) (select (holds m v) m.caps.cells) other inside, length-map l (old m))

  pub sound_renumbered : Sound (renumbered m)
  unfolding no_cell
  sound_renumbered = record {
    below = λ c e. omega (arith, live_below c e, cells_count m);
    dead = λ c e. at_old c ∙ ap unlicensed (s.dead (old m c) (sym (live_old c) ∙ e));
    typed = λ c e. omega (arith, s.typed (old m c) (sym (live_old c) ∙ e), dimension_old c);
    fitting = λ c. subst (λ (b : Body). length b.marks ≡ (shape b.code).marks) (sym (at_old c)) (s.fitting (old m c));
    inside = λ v c e. omega (arith, s.inside v (old m c) (sym (holds_old v c) ∙ e), marks_same m);
    distinct = λ c. subst (λ (b : Body). repeats b.marks ≡ false) (sym (at_old c)) (s.distinct (old m c));
    alone = λ a b l e f.
        old_one m a b (live_below a l)
        (s.alone (old m a) (old m b) (sym (live_old a) ∙ l)
        (ap (λ (x : Body). x.code) (sym (at_old a)) ∙ (e ∙ ap (λ (x : Body). x.code) (at_old b)))
        (ap (λ (x : Body). same_set x.marks (m.at (old m b)).marks) (sym (at_old a))
        ∙ (ap (λ (x : Body). same_set ((renumbered m).at a).marks x.marks) (sym (at_old b)) ∙ f)));
    few = λ v. omega (arith, s.few v, few_old v);
  }
