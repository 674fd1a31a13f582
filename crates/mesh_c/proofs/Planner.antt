-- From the planner's promise, and its answer told, to the promise told by numbers.
use mathlib.Core.Path.{◌≡◌, refl, ap, ◌∙◌}
use mathlib.Core.List.{List, []}
use Prim.Native.Nat.{ℕ, ◌<◌, ◌≤◌}
use native.Mathlib.Omega.{arith}
use lib.ListN.{length}
use Rattle.lists.specs.Lists.{first}
use Rattle.words.specs.Words.{Only}
use Rattle.map.specs.Answers.{Answer}
use Rattle.map.specs.Says.{given, refused}
use Rattle.map.proofs.Refusals.{number_some}
use Rattle.planner.specs.Plan.{plan_words}
use Rattle.planner.specs.Proposed.{planner_checks, planner_answer, proposal_says, Proposed}
use Rattle.map.specs.declared.Refusal.{Refusal}
use Rattle.std.specs.Prelude.{Result, Ok, Err}
use Rattle.c_answers.specs.Told.{Told}
use Rattle.mesh_c.specs.Answered.{Listed}

module _ (w wanted o o' : List ℕ) where
  told_kept : (a : Result ℕ Refusal) → Proposed w wanted o a o' → (n r n' : ℕ) → Told (proposal_says a) n r n' → (r ≡ 0 → ⊥) → (o' ≡ o) × (n' ≡ n)
  unfolding proposal_says given refused first
  told_kept (Ok k) f n r n' t some = absurd (some t.number)
  told_kept (Err why) f n r n' t some = (f.kept why refl, t.value)

  told_first : (a : Result ℕ Refusal) → Proposed w wanted o a o' → (n r n' : ℕ) → Told (proposal_says a) n r n' → r ≡ 0 → (n' ≤ length o) × Only (λ i. i < n') o o'
  unfolding proposal_says given refused first
  told_first (Ok k) f n r n' t z = rw t.value (f.first k refl)
  told_first (Err why) f n r n' t z = absurd (omega (arith, z, t.number, number_some why))

  pub plan_told : (a : Result ℕ Refusal) → Proposed w wanted o a o' → (n r n' : ℕ) → Told (proposal_says a) n r n'
      → Listed w (λ m. planner_checks wanted) (λ m. plan_words m wanted) o n r o' n'
  unfolding planner_answer proposal_says refused
  plan_told a f n r n' t = record {
    count = record {
      refused = λ none. t.number ∙ ap (λ (b : Result ℕ Refusal). (proposal_says b).refusal) (f.refused none);
      kept = λ some. (told_kept a f n r n' t some).1;
      answers = λ m wf. record {
        number = t.number ∙ ap (λ (b : Answer). b.refusal) (f.answers m wf).0;
        value = t.value ∙ ap (λ (b : Answer). first n b.values) (f.answers m wf).0;
      };
    };
    kept = λ some. (told_kept a f n r n' t some).0;
    first = told_first a f n r n' t;
    wrote = λ m wf. (f.answers m wf).1;
  }
