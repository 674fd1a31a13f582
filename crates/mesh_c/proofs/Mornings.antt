-- From the promise of a list of edits, and its answer told, to the promise told by numbers.
use mathlib.Core.Path.{◌≡◌, refl, sym, ap, ◌∙◌}
use mathlib.Core.List.{List, [], ◌∷◌}
use Prim.Native.Nat.{ℕ}
use Rattle.lists.specs.Lists.{first}
use Rattle.map.specs.Answers.{Answer}
use Rattle.map.specs.Morning.{told}
use Rattle.map.specs.Says.{given, edits_says}
use Rattle.map.specs.declared.Stopped.{Stopped}
use Rattle.std.specs.Prelude.{Result, Ok, Err}
use Rattle.edits.specs.Counts.{tally_after}
use Rattle.edits.specs.InTurn.{made_of, ListEdited}
use Rattle.edits.specs.declared.Tally.{Tally}
use Rattle.edits.proofs.Runs.{made_said, edits_kept}
use Rattle.c_answers.specs.Told.{Told}
use Rattle.mesh_c.specs.Mornings.{tally_in, holding, answered, EditsTold}

-- an answer is its number and the number made
whole : (a : Result ℕ Stopped) → edits_says a ≡ answered (edits_says a).refusal (made_of a)
unfolding edits_says given
whole (Ok n) = refl
whole (Err e) = refl

-- the number made is told, whatever stood there
value_told : (a : Result ℕ Stopped) (x : ℕ) → first x (edits_says a).values ≡ made_of a
unfolding edits_says given first
value_told (Ok n) x = refl
value_told (Err e) x = refl

pub edits_told : (w list : List ℕ) (a : Result ℕ Stopped) (w' : List ℕ) → ListEdited w list a w' → (x r made : ℕ) → Told (edits_says a) x r made
    → (t : List ℕ) (before after : Tally) → before ≡ tally_in t → after ≡ tally_after before (edits_says a) → (t' : List ℕ) → t' ≡ holding t after
    → EditsTold w list t r w' t' made
unfolding edits_says told first
edits_told w list a w' did x r made said t before after eb ea t' et = record {
  refused = λ n.
      let q = (did.refused n).0 in
      (said.number ∙ ap (λ (b : Result ℕ Stopped). (edits_says b).refusal) q, number ∙ ap made_of q);
  kept = λ z. edits_kept did (sym number ∙ z);
  inside = did.inside;
  answers = λ m wf.
      let q = did.answers m wf in
      (said.number ∙ ap (λ (b : Answer). b.refusal) q.0, said.value ∙ ap (λ (b : Answer). first x b.values) q.0, q.1);
  tally = rw (et, ea, eb, whole a, ← said.number, ← number);
}
  where
    number : made ≡ made_of a
    number = said.value ∙ value_told a x
