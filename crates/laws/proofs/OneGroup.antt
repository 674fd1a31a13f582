-- Each cell is in exactly one group, nothing is missing in it, and its cells are cells of the list.
use mathlib.Core.Path.{◌≡◌}
use mathlib.Core.Bool.{Bool, true}
use mathlib.Core.List.{List}
use Prim.Native.Nat.{ℕ}
use Rattle.lists.specs.Lists.{has}
use Rattle.lists.specs.Ascending.{Ascending}
use Rattle.lists.proofs.Bools.{same_test}
use Rattle.lists.proofs.Order.{asc_same}
use Rattle.map.specs.Groups.{Joined, here, onward, group_of}
use Rattle.laws.proofs.Groups.{joined_first, joined_last, joined_then, group_joined, group_closed, group_self, group_ascends, joined_back}

module _ (link : ℕ → ℕ → Bool) (s : List ℕ) where
  -- the cells of a group are cells of the list
  pub group_inside : (a b : ℕ) → has b (group_of link s a) ≡ true → has b s ≡ true
  group_inside a b e = joined_last link s (group_joined link s a b e)

  -- nothing that links lead to is missing in a group
  pub joined_group : (a b : ℕ) → Joined link s a b → has b (group_of link s a) ≡ true
  joined_group a b r = go r (group_self link s a (joined_first link s r))
    where
      go : {c : ℕ} → Joined link s c b → has c (group_of link s a) ≡ true → has b (group_of link s a) ≡ true
      go (here h) e = e
      go (onward {a = c} {b = d} h l q) e = go q (group_closed link s a c d e (joined_first link s q) l)

  module _ (symmetric : (a b : ℕ) → link a b ≡ true → link b a ≡ true) where
    -- each cell is in exactly one group: the group of each cell of a group is that group
    pub one_group : Ascending s → (a b : ℕ) → has b (group_of link s a) ≡ true → group_of link s b ≡ group_of link s a
    one_group up a b e =
        asc_same (group_of link s b) (group_of link s a) (group_ascends link s b up) (group_ascends link s a up)
        (λ v. same_test (has v (group_of link s b)) (has v (group_of link s a))
        (λ h. joined_group a v (joined_then link s (group_joined link s a b e) (group_joined link s b v h)))
        (λ h. joined_group b v (joined_then link s (joined_back link s symmetric a b (group_joined link s a b e)) (group_joined link s a v h))))
