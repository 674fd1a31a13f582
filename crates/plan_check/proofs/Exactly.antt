-- "A small check says yes exactly when every edit in order would be accepted and the live cells afterwards, with type, mark order and licence, are
-- the wanted ones, each once."
use mathlib.Core.Path.{◌≡◌, refl, sym, ap, ◌∙◌}
use mathlib.Core.Bool.{Bool, true, false, cond, ◌&&◌}
use mathlib.Core.List.{List, [], ◌∷◌}
use Prim.Native.Nat.{ℕ, ◌≤◌}
use native.Mathlib.Omega.{arith}
use borrow.Author.Tests.{eq-eqb, eqb-true}
use lib.Dec.{eqb}
use lib.ListN.{length}
use Rattle.lists.specs.Lists.{first}
use Rattle.lists.proofs.Bools.{clash, and_left, and_right, and_both}
use Rattle.numbers.specs.Room.{room}
use Rattle.map.specs.Cells.{Map, live_cells}
use Rattle.map.specs.Afresh.{Shuffled}
use Rattle.map.specs.Answers.{Answer}
use Rattle.map.specs.Morning.{morning}
use Rattle.map.specs.Says.{number_of, given, refused}
use Rattle.map.specs.declared.Refusal.{Refusal}
use Rattle.map.proofs.Refusals.{number_some}
use Rattle.picture.specs.Picture.{Wf}
use Rattle.wanted.specs.Wanted.{wanted_of, as_wanted}
use Rattle.wanted.specs.Plans.{plan_right, plan_verdict, plan_answer}
use Rattle.wanted.proofs.Exact.{wanted_shuffled, shuffled_wanted}
use Rattle.plan_check.specs.Checked.{planned_says, PlanChecked}
use Rattle.plan_check.specs.declared.Flaw.TheVariants.{Wrong, Refused}
use Rattle.plan_check.specs.declared.Flaw.{Flaw}
use Rattle.std.specs.Prelude.{Result, ⊤, Ok, Err}
use Rattle.plan_check.proofs.Checking.{plan_passes, plan_tried}

-- yes is the only answer without a number
only_yes : (r : Result ⊤ Flaw) → (planned_says r).refusal ≡ 0 → r ≡ (Ok tt)
unfolding planned_says refused
only_yes (Ok tt) e = refl
only_yes (Err (Wrong n)) e = absurd (omega arith)
only_yes (Err (Refused why)) e = absurd (omega (arith, number_some why))

-- the answer of a plan that is right, and of one that is not
right_says : (m : Map) (edits wanted : List ℕ) → plan_right m edits wanted ≡ true → (plan_verdict m edits wanted).refusal ≡ 0
unfolding plan_verdict given
right_says m edits wanted e = rw e

says_right : (m : Map) (edits wanted : List ℕ) → (plan_verdict m edits wanted).refusal ≡ 0 → plan_right m edits wanted ≡ true
unfolding plan_verdict
says_right m edits wanted = go (plan_right m edits wanted)
  where
    go : (b : Bool) → (cond b (given []) (record { refusal = 24; values = (morning m edits).made ∷ [] })).refusal ≡ 0 → b ≡ true
    go true e = refl
    go false e = absurd (omega arith)

-- every edit in order would be accepted, and the live cells are then those of the wanted list, each once, in some order
pub record Right (m : Map) (edits wanted : List ℕ) : Type 0 where
  pub accepted : (morning m edits).refusal ≡ 0
  pub cells : Shuffled (live_cells (morning m edits).map) (wanted_of wanted).cells

-- a wanted list that is whole, and second memory with room
module _ {mesh edits wanted second second' : List ℕ} {r : Result ⊤ Flaw} (did : PlanChecked mesh edits wanted second r second') (m : Map) (wf : Wf mesh m)
    (fits : room m.caps.marks m.caps.cells ≤ length second) (whole : (wanted_of wanted).refusal ≡ 0) where
  says : planned_says r ≡ plan_verdict m edits wanted
  says = (did.answers m wf).0 ∙ plan_tried m (length second) edits wanted (plan_passes m (length second) edits wanted fits whole)

  -- the map after the accepted edits is left in second memory, whatever the answer
  pub check_leaves : Wf second' (morning m edits).map
  check_leaves = (did.answers m wf).1 (ap (λ (a : Answer). a.refusal) (plan_passes m (length second) edits wanted fits whole))

  pub yes_right : r ≡ (Ok tt) → Right m edits wanted
  unfolding plan_right planned_says given
  yes_right e =
      let right : plan_right m edits wanted ≡ true = says_right m edits wanted (sym (ap (λ (a : Answer). a.refusal) (ap planned_says (sym e) ∙ says))) in
      record {
        accepted = eqb-true _ _ (and_left _ _ right);
        cells = wanted_shuffled (morning m edits).map check_leaves.sound check_leaves.two _ (and_right (eqb (morning m edits).refusal 0) _ right);
      }

  pub right_yes : Right m edits wanted → r ≡ (Ok tt)
  unfolding plan_right
  right_yes right =
      only_yes r (ap (λ (a : Answer). a.refusal) says
      ∙ right_says m edits wanted (and_both _ _ (eq-eqb _ _ right.accepted)
      (shuffled_wanted (morning m edits).map check_leaves.sound check_leaves.two _ right.cells)))

  -- "24 with the place (from 0) of the first wrong edit, or with the length of the list if only the end differs"
  pub wrong_place : (place : ℕ) → r ≡ Err (Wrong place) → place ≡ (morning m edits).made
  unfolding plan_verdict planned_says given first
  wrong_place place e = go (plan_right m edits wanted) (ap planned_says (sym e) ∙ says)
    where
      go : (b : Bool) → planned_says (Err (Wrong place)) ≡ cond b (given []) (record { refusal = 24; values = (morning m edits).made ∷ [] })
          → place ≡ (morning m edits).made
      go true z = absurd (omega (arith, ap (λ (a : Answer). a.refusal) z))
      go false z = ap (λ (a : Answer). first 0 a.values) z
