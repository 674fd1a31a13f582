-- From the promise of a call that writes the mesh, and its answer told, to the promise told by numbers.
use mathlib.Core.Path.{◌≡◌, refl, ap, ◌∙◌}
use mathlib.Core.List.{List}
use Prim.Native.Nat.{ℕ}
use native.Mathlib.Omega.{arith}
use Rattle.lists.specs.Lists.{first}
use Rattle.numbers.specs.declared.Caps.{Caps}
use Rattle.map.specs.Answers.{Answer, answer}
use Rattle.map.specs.History.{Edit}
use Rattle.map.specs.Says.{number_of, given, refused, verdict_says, built_says}
use Rattle.map.specs.declared.Refusal.{Refusal}
use Rattle.map.specs.declared.Unbuilt.{Unbuilt}
use Rattle.std.specs.Prelude.{Result, ⊤, Ok, Err}
use Rattle.map.proofs.Refusals.{number_some}
use Rattle.format.specs.Formatted.{Formatted}
use Rattle.mesh.specs.Edited.{Edited}
use Rattle.build.specs.Builds.{Builds, format_refusal}
use Rattle.c_answers.specs.Told.{Told}
use Rattle.mesh_c.specs.Changed.{Emptied, Raised, Changed}

-- a verdict by its number: refused with a number that is not 0, accepted with 0
module _ (v : Result ⊤ Refusal) (r : ℕ) (e : r ≡ (verdict_says v).refusal) where
  by_refusal : {P : Type 0} → ((why : Refusal) → v ≡ Err why → P) → (r ≡ 0 → ⊥) → P
  unfolding verdict_says given
  by_refusal {P} f some = go v refl
    where
      go : (u : Result ⊤ Refusal) → v ≡ u → P
      go (Ok tt) q = absurd (some (e ∙ ap (λ (u : Result ⊤ Refusal). (verdict_says u).refusal) q))
      go (Err why) q = f why q

  is_accepted : r ≡ 0 → v ≡ (Ok tt)
  unfolding verdict_says refused
  is_accepted z = go v refl
    where
      go : (u : Result ⊤ Refusal) → v ≡ u → v ≡ (Ok tt)
      go (Ok tt) q = q
      go (Err why) q =
          let n : r ≡ number_of why = e ∙ ap (λ (u : Result ⊤ Refusal). (verdict_says u).refusal) q in absurd (omega (arith, number_some why))

  pub emptied : (w : List ℕ) (caps : Caps) (w' : List ℕ) → Formatted w caps v w' → Emptied w caps r w'
  unfolding format_refusal
  emptied w caps w' f = record {
    answers = e ∙ ap (λ (a : Answer). a.refusal) f.says;
    kept = by_refusal f.kept;
    inside = f.inside;
    wf = λ z. f.wf (is_accepted z);
  }

  pub changed : (w : List ℕ) (d : Edit) (w' : List ℕ) → Edited w d v w' → Changed w d r w'
  unfolding verdict_says refused
  changed w d w' f = record {
    refused = λ none. e ∙ ap (λ (u : Result ⊤ Refusal). (verdict_says u).refusal) (f.refused none);
    kept = by_refusal f.kept;
    inside = f.inside;
    answers = λ m wf. (e ∙ ap (λ (a : Answer). a.refusal) (f.answers m wf).0, (f.answers m wf).1);
  }

-- a build has a value where it is refused
built_place : (b : Result ⊤ Unbuilt) (x r x' : ℕ) → Told (built_says b) x r x' → r ≡ 0 → x' ≡ x
unfolding built_says given first
built_place (Ok tt) x r x' t z = t.value
built_place (Err e) x r x' t z = absurd (omega (arith, number_some e.why, t.number))

pub raised : (w : List ℕ) (caps : Caps) (records : List ℕ) (b : Result ⊤ Unbuilt) (w' : List ℕ) → Builds w caps records b w'
    → (x r x' : ℕ) → Told (built_says b) x r x' → Raised w caps records x r w' x'
raised w caps records b w' f x r x' t = record {
  answers = record {
    number = t.number ∙ ap (λ (a : Answer). a.refusal) f.says;
    value = t.value ∙ ap (λ (a : Answer). first x a.values) f.says;
  };
  place = built_place b x r x' t;
  kept = f.kept;
  inside = f.inside;
  wf = f.wf;
}
