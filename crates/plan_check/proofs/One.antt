-- Nothing else fits: on well-formed memory the promise of a check leaves one answer and one second memory.
use mathlib.Core.Path.{◌≡◌, refl, sym, ap, ◌∙◌}
use mathlib.Core.Bool.{Bool, true, false, cond, not}
use mathlib.Core.List.{List, []}
use Prim.Native.Nat.{ℕ, ◌<◌}
use native.Mathlib.Decide.{ℕ_discrete}
use native.Mathlib.Omega.{arith}
use lib.Dec.{eqb, ltb}
use lib.ListN.{length}
use Rattle.numbers.specs.Room.{room}
use Rattle.words.specs.Words.{Only}
use Rattle.map.specs.Cells.{Map}
use Rattle.map.specs.Answers.{Answer, ◌when◌, answer}
use Rattle.map.specs.Morning.{morning}
use Rattle.map.specs.Says.{given, refused}
use Rattle.picture.specs.Picture.{Wf}
use Rattle.picture.proofs.Put.{wf_alone}
use Rattle.edits.proofs.Cut.{room_of, head_room}
use Rattle.edits.proofs.Alone.{morning_caps}
use Rattle.wanted.specs.Wanted.{wanted_of}
use Rattle.wanted.specs.Records.{refused_with}
use Rattle.wanted.specs.Plans.{plan_checks}
use Rattle.plan_check.specs.Checked.{planned_says, PlanChecked}
use Rattle.plan_check.specs.declared.Flaw.TheVariants.{Wrong, Refused}
use Rattle.plan_check.specs.declared.Flaw.{Flaw}
use Rattle.std.specs.Prelude.{Result, ⊤, Ok, Err}
use Rattle.plan_check.proofs.Says.{planned_one}
use Rattle.plan_check.proofs.Checking.{plan_refused}

-- the checks before 24 give no value
checks_values : (m : Map) (words : ℕ) (wanted : List ℕ) → answer (plan_checks m words wanted) [] ≡ refused_with (answer (plan_checks m words wanted) []).refusal
unfolding plan_checks ◌when◌ answer
checks_values m words wanted = go (ltb words (room m.caps.marks m.caps.cells)) (not (eqb (wanted_of wanted).refusal 0))
  where
    got : Bool → Bool → Answer
    got a b = cond a (refused_with 2) (cond b (refused_with (wanted_of wanted).refusal) (refused_with 0))

    go : (a b : Bool) → got a b ≡ refused_with (got a b).refusal
    go true b = refl
    go false true = refl
    go false false = refl

module _ {mesh edits wanted second : List ℕ} (m : Map) (wf : Wf mesh m) where
  inside : {r : Result ⊤ Flaw} {a : List ℕ} → PlanChecked mesh edits wanted second r a → Only (λ i. i < room_of (morning m edits).map) second a
  inside did = rw (morning_caps m edits, ← (head_room mesh m wf)) did.inside

  -- refused before 24: nothing changes
  unchanged : {r : Result ⊤ Flaw} {a : List ℕ} → PlanChecked mesh edits wanted second r a → ((answer (plan_checks m (length second) wanted) []).refusal ≡ 0 → ⊥) → a ≡ second
  unfolding planned_says given refused
  unchanged {r} {a} did some =
      go r did.kept ((did.answers m wf).0 ∙ plan_refused m (length second) edits wanted _ some (checks_values m (length second) wanted))
    where
      go : (x : Result ⊤ Flaw) → ((why : _) → x ≡ Err (Refused why) → a ≡ second) → planned_says x ≡ refused_with (answer (plan_checks m (length second) wanted) []).refusal → a ≡ second
      go (Ok tt) kept e = absurd (some (sym (ap (λ (b : Answer). b.refusal) e)))
      go (Err (Wrong n)) kept e = absurd (omega (arith, ap (λ (b : Answer). length b.values) e))
      go (Err (Refused why)) kept e = kept why refl

  pub plan_one : {r s : Result ⊤ Flaw} {a b : List ℕ} → PlanChecked mesh edits wanted second r a → PlanChecked mesh edits wanted second s b → (r ≡ s) × (a ≡ b)
  plan_one {r} {s} {a} {b} x y =
      (planned_one r s ((x.answers m wf).0 ∙ sym (y.answers m wf).0), go (ℕ_discrete (answer (plan_checks m (length second) wanted) []).refusal 0))
    where
      go : Dec ((answer (plan_checks m (length second) wanted) []).refusal ≡ 0) → a ≡ b
      go (yes ok) = wf_alone {w = second} ((x.answers m wf).1 ok) ((y.answers m wf).1 ok) (inside x) (inside y)
      go (no f) = unchanged x f ∙ sym (unchanged y f)
