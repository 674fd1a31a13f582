-- Each group has its anchor in the list of anchors.
use mathlib.Core.Path.{◌≡◌}
use mathlib.Core.Bool.{true}
use Prim.Native.Nat.{ℕ, ◌/◌}
use borrow.Author.Tests.{eq-eqb}
use Rattle.lists.specs.Lists.{has}
use Rattle.lists.proofs.Bools.{and_both}
use Rattle.lists.proofs.Select.{select_in}
use Rattle.map.specs.Cells.{Map}
use Rattle.map.specs.Sound.{Fitting}
use Rattle.map.specs.Stars.{star, group, anchor, anchors}
use Rattle.laws.proofs.Anchors.{halves_has}
use Rattle.laws.proofs.StarGroups.{group_in_star, star_one_group}
use Rattle.laws.proofs.Anchored.{anchor_half}

module _ (m : Map) (d v : ℕ) where
  -- each group has its anchor in the list
  pub anchors_listed : Fitting m → (c : ℕ) → has c (star m d v) ≡ true → has (anchor m v (group m d v c)) (anchors m d v) ≡ true
  unfolding anchors
  anchors_listed fit c e =
      let h = anchor m v (group m d v c) in
      let r = halves_has m v (group m d v c) h (anchor_half m d v fit c e) in
      select_in _ _ h r.0 (and_both _ _ (group_in_star m d v c (h / 8) r.1) (eq-eqb h _ (rw (star_one_group m d v c (h / 8) r.1))))
