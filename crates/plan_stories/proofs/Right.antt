-- "Whenever the wanted list can be built afresh under the same capacities and edition, its plan passes."
use mathlib.Core.Path.{◌≡◌, sym, subst}
use mathlib.Core.Bool.{true}
use mathlib.Core.List.{List}
use Prim.Native.Nat.{ℕ}
use borrow.Author.Tests.{eq-eqb}
use lib.Dec.{eqb}
use Rattle.lists.proofs.Bools.{and_both}
use Rattle.map.specs.Cells.{Map}
use Rattle.map.specs.History.{build}
use Rattle.map.specs.Morning.{morning}
use Rattle.map.specs.Sound.{Sound}
use Rattle.wanted.specs.Wanted.{wanted_of, as_wanted}
use Rattle.wanted.specs.Plans.{plan_right}
use Rattle.planner.specs.Plan.{plan_words}
use Rattle.plan_stories.proofs.Buildable.{build_tidy, tidy_wanted}
use Rattle.plan_stories.proofs.Passes.{plan_morning}

module _ (m : Map) (s : Sound m) (wanted : List ℕ) (built : (build m.caps wanted).refusal ≡ 0) where
  -- the plan is right
  pub plan_right_lem : plan_right m (plan_words m wanted) wanted ≡ true
  unfolding plan_right
  plan_right_lem =
      and_both (eqb (morning m (plan_words m wanted)).refusal 0) _ (eq-eqb _ 0 (plan_morning m s wanted built).0)
      (subst (λ (k : Map). as_wanted k (wanted_of wanted).cells ≡ true) (sym (plan_morning m s wanted built).1)
      (tidy_wanted m.caps (wanted_of wanted).cells (build_tidy m.caps wanted built).1))
