-- The anchor of a group is a half-facet of a cell of it that holds the mark.
use mathlib.Core.Path.{◌≡◌}
use mathlib.Core.Bool.{true}
use Prim.Native.Nat.{ℕ, ◌/◌}
use Rattle.lists.specs.Lists.{has}
use Rattle.map.specs.Cells.{Map}
use Rattle.map.specs.Sound.{Fitting}
use Rattle.map.specs.Siblings.{is_half, marks_of}
use Rattle.map.specs.Stars.{star, group, halves_at, anchor}
use Rattle.laws.proofs.Anchors.{corner_half, star_has, group_of_star, has_halves, halves_has, anchor_in}

module _ (m : Map) (d v : ℕ) where
  -- the anchor of the group of a cell is one of the half-facets of the group that hold the mark
  pub anchor_half : Fitting m → (c : ℕ) → has c (star m d v) ≡ true → has (anchor m v (group m d v c)) (halves_at m v (group m d v c)) ≡ true
  anchor_half fit c e =
      let cell = star_has m d v c e in
      let half = corner_half m fit v c cell.2 cell.0 in
      anchor_in m v (group m d v c) half.0
      (has_halves m v (group m d v c) half.0 half.4 (rw half.1 (group_of_star m d v c e)) half.2 half.3)

  -- an anchor is a half-facet of its group and holds the mark
  pub anchor_holds : Fitting m → (c : ℕ) → has c (star m d v) ≡ true
      → (has (anchor m v (group m d v c) / 8) (group m d v c) ≡ true) × (is_half m (anchor m v (group m d v c)) ≡ true)
      × (has v (marks_of m (anchor m v (group m d v c))) ≡ true)
  anchor_holds fit c e = let r = halves_has m v _ _ (anchor_half fit c e) in (r.1, r.2, r.3)
