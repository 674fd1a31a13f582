-- The half-facets of a group at a mark, place by place.
use mathlib.Core.Path.{◌≡◌, sym}
use mathlib.Core.Bool.{Bool, true, false, not}
use mathlib.Core.List.{List}
use Prim.Native.Nat.{ℕ, ◌/◌, ◌%◌, ◌<◌, ◌≤◌}
use borrow.Author.Tests.{eq-eqb, ne_eqb, lt-ltb, le-ltb}
use lib.ListN.{get_or}
use Rattle.lists.specs.Lists.{has, first}
use Rattle.lists.proofs.Bools.{not_false_true}
use Rattle.lists.proofs.Order.{first_select}
use Rattle.lists.proofs.Counts.{select_empty}
use Rattle.numbers.specs.declared.Caps.{Caps}
use Rattle.facet.specs.Facet.{facet_in}
use Rattle.border.specs.Borders.{wanted_in}
use Rattle.border.proofs.Words.{not_false}
use Rattle.group.specs.Places.{chosen_in, seek_in, place_in}

module _ (w : List ℕ) (caps : Caps) (rows : List (List (List ℕ))) (v : ℕ) (cells lab : List ℕ) (i : ℕ) (only : Bool) (x : ℕ) where
  module _ (one other : ℕ) (first-label : one ≡ get_or lab (x / 8) 0) (second-label : other ≡ get_or lab i 0) where
    pub chosen_apart : (one ≡ other → ⊥) → false ≡ chosen_in w caps rows v cells lab i only x
    unfolding chosen_in
    chosen_apart f = rw (← first-label, ← second-label, ne_eqb one other f)

    module _ (same : one ≡ other) (c : ℕ) (cell : c ≡ get_or cells (x / 8) 0) (b : Bool) (want : b ≡ wanted_in w caps c (x % 8) only) where
      pub chosen_off : not b ≡ true → false ≡ chosen_in w caps rows v cells lab i only x
      unfolding chosen_in
      chosen_off e = rw (← first-label, ← second-label, eq-eqb one other same, ← cell, ← want, not_false_true b e)

      pub chosen_here : (r : Bool) → not b ≡ false → r ≡ has v (facet_in w caps rows c (x % 8)) → r ≡ chosen_in w caps rows v cells lab i only x
      unfolding chosen_in
      chosen_here r e q = rw (← first-label, ← second-label, eq-eqb one other same, ← cell, ← want, not_false b e) q

module _ (w : List ℕ) (caps : Caps) (rows : List (List (List ℕ))) (v : ℕ) (cells lab : List ℕ) (end i : ℕ) where
  pub seek_found : (only : Bool) (x : ℕ) → ((k : ℕ) → k < x → chosen_in w caps rows v cells lab i only k ≡ false)
      → chosen_in w caps rows v cells lab i only x ≡ true → x < end → x ≡ seek_in w caps rows v cells lab end i only
  unfolding seek_in
  seek_found only x before e h = sym (first_select end (chosen_in w caps rows v cells lab i only) end x h e before)

  pub seek_none : (only : Bool) (x : ℕ) → ((k : ℕ) → k < x → chosen_in w caps rows v cells lab i only k ≡ false) → x ≡ end
      → end ≡ seek_in w caps rows v cells lab end i only
  unfolding seek_in first
  seek_none only x before e = rw (select_empty (chosen_in w caps rows v cells lab i only) end (rw e at before))

  pub place_border : (x : ℕ) → x ≡ seek_in w caps rows v cells lab end i true → x < end → x ≡ place_in w caps rows v cells lab end i
  unfolding place_in
  place_border x e h = rw (← e, lt-ltb x end h)

  pub place_any : (x y : ℕ) → x ≡ seek_in w caps rows v cells lab end i true → end ≤ x → y ≡ seek_in w caps rows v cells lab end i false
      → y ≡ place_in w caps rows v cells lab end i
  unfolding place_in
  place_any x y e h q = rw (← e, le-ltb x end h) q
