-- Each cell of a star is in exactly one group, whose cells are cells of the star.
use mathlib.Core.Path.{◌≡◌}
use mathlib.Core.Bool.{true}
use Prim.Native.Nat.{ℕ}
use Rattle.lists.specs.Lists.{has}
use Rattle.map.specs.Cells.{Map}
use Rattle.map.specs.Stars.{star, linked, group}
use Rattle.laws.proofs.OneGroup.{group_inside, one_group}
use Rattle.laws.proofs.Anchors.{linked_back, star_ascends}

module _ (m : Map) (d v : ℕ) where
  -- the cells of a group are cells of its star
  pub group_in_star : (a b : ℕ) → has b (group m d v a) ≡ true → has b (star m d v) ≡ true
  unfolding group
  group_in_star a b e = group_inside (linked m v) (star m d v) a b e

  -- each cell of a star is in exactly one group
  pub star_one_group : (a b : ℕ) → has b (group m d v a) ≡ true → group m d v b ≡ group m d v a
  unfolding group
  star_one_group a b e = one_group (linked m v) (star m d v) (linked_back m v) (star_ascends m d v) a b e
