-- A value of the call for an answer of the definition: one alone.
use mathlib.Core.Path.{◌≡◌, refl, ap}
use native.Mathlib.Omega.{arith}
use lib.ListN.{length}
use Rattle.lists.specs.Lists.{first}
use Rattle.map.specs.Answers.{Answer}
use Rattle.map.specs.Says.{given, refused, verdict_says}
use Rattle.map.specs.declared.Refusal.{Refusal}
use Rattle.std.specs.Prelude.{Result, ⊤, Ok, Err, ℕ}
use Rattle.map.proofs.Says.{verdict_one}
use Rattle.map.proofs.Refusals.{number_some}
use Rattle.plan_check.specs.Checked.{planned_says}
use Rattle.plan_check.specs.declared.Flaw.TheVariants.{Wrong, Refused}
use Rattle.plan_check.specs.declared.Flaw.{Flaw}

-- a refusal of the check is a verdict's
of_verdict : Result ⊤ Refusal → Result ⊤ Flaw
of_verdict (Ok tt) = (Ok tt)
of_verdict (Err why) = Err (Refused why)

-- an answer of the definition is that of one value alone
pub planned_one : (x y : Result ⊤ Flaw) → planned_says x ≡ planned_says y → x ≡ y
unfolding planned_says given refused verdict_says of_verdict first
planned_one (Ok _) (Ok _) e = refl
planned_one (Ok tt) (Err (Wrong n)) e = absurd (omega (arith, ap (λ (a : Answer). a.refusal) e))
planned_one (Ok tt) (Err (Refused why)) e = absurd (omega (arith, number_some why, ap (λ (a : Answer). a.refusal) e))
planned_one (Err (Wrong n)) (Ok tt) e = absurd (omega (arith, ap (λ (a : Answer). a.refusal) e))
planned_one (Err (Wrong n)) (Err (Wrong k)) e = ap (λ (n : ℕ). Err (Wrong n)) (ap (λ (a : Answer). first 0 a.values) e)
planned_one (Err (Wrong n)) (Err (Refused why)) e = absurd (omega (arith, ap (λ (a : Answer). length a.values) e))
planned_one (Err (Refused why)) (Ok tt) e = absurd (omega (arith, number_some why, ap (λ (a : Answer). a.refusal) e))
planned_one (Err (Refused why)) (Err (Wrong n)) e = absurd (omega (arith, ap (λ (a : Answer). length a.values) e))
planned_one (Err (Refused why)) (Err (Refused other)) e = ap of_verdict (verdict_one (Err why) (Err other) e)
