-- From a query's promise, and its answer told, to the promise told by numbers.
use mathlib.Core.Path.{◌≡◌, refl, ap, ◌∙◌}
use mathlib.Core.Bool.{Bool, true, false}
use mathlib.Core.List.{List}
use Prim.Native.Nat.{ℕ, ◌<◌, ◌≤◌, min}
use native.Mathlib.Omega.{arith}
use borrow.Author.Tests.{eq-eqb, ne_eqb}
use lib.ListN.{get_or, length}
use Rattle.lists.specs.Lists.{first}
use Rattle.words.specs.Words.{Only}
use Rattle.map.specs.Cells.{Map}
use Rattle.map.specs.Answers.{Check, Answer, list_answer}
use Rattle.map.specs.Says.{given, refused, value_says}
use Rattle.map.specs.declared.Refusal.{Refusal}
use Rattle.std.specs.Prelude.{Result, Ok, Err}
use Rattle.map.proofs.Refusals.{number_some}
use Rattle.ask.specs.Asked.{Asked}
use Rattle.ask.specs.Refusals.{no_value}
use Rattle.listing.specs.Listing.{ListingIn, Listing, Paired}
use Rattle.whole.specs.Whole.{Whole}
use Rattle.c_answers.specs.Told.{Told, ToldTwo, ToldFound}
use Rattle.mesh_c.specs.Answered.{Answered, Faced, Sought, ListedIn, Listed, ListedTwo, Judged}
use Rattle.mesh_c.proofs.Plain.{Plain, value_plain}

-- one number, whatever the kind of answer
pub answered : {A : Type 0} {says : A → Answer} {noMesh : A} → Plain says noMesh
    → (w : List ℕ) (answer : Map → Answer) (a : A) → Asked says noMesh w answer a → (x r x' : ℕ) → Told (says a) x r x' → Answered w answer x r x'
unfolding first
answered {says = says} plain w answer a asked x r x' told = record {
  refused = λ none. told.number ∙ (ap (λ z. (says z).refusal) (asked.refused none) ∙ plain.fourteen);
  kept = λ some. told.value ∙ ap (first x) (plain.quiet a (λ z. some (told.number ∙ z)));
  answers = λ m wf. record {
    number = told.number ∙ ap (λ (z : Answer). z.refusal) (asked.answers m wf);
    value = told.value ∙ ap (λ (z : Answer). first x z.values) (asked.answers m wf);
  };
}

-- one or none
pub sought : {A : Type 0} {says : A → Answer} {noMesh : A} → Plain says noMesh → (w : List ℕ) (answer : Map → Answer) (a : A) → Asked says noMesh w answer a
    → (y x r y' x' : ℕ) → ToldFound (says a) y x r y' x' → Sought w answer y x r y' x'
sought plain w answer a asked y x r y' x' t = record {
  half = answered plain w answer a asked x r x' t.told;
  kept = λ some. t.found ∙ rw (ne_eqb r 0 some);
  found = λ m wf z. t.found ∙ rw (eq-eqb r 0 z) (ap (λ (b : Answer). length b.values) (asked.answers m wf));
}

-- two numbers
pub faced : {A : Type 0} {says : A → Answer} {noMesh : A} → Plain says noMesh → (w : List ℕ) (answer : Map → Answer) (a : A) → Asked says noMesh w answer a
    → (x y r x' y' : ℕ) → ToldTwo (says a) x y r x' y' → Faced w answer x y r x' y'
faced plain w answer a asked x y r x' y' t = record {
  half = answered plain w answer a asked x r x' t.told;
  kept = λ some. t.second ∙ ap (λ (l : List ℕ). get_or l 1 y) (plain.quiet a (λ z. some (t.told.number ∙ z)));
  way = λ m wf. t.second ∙ ap (λ (b : Answer). get_or b.values 1 y) (asked.answers m wf);
}

module _ (places : ℕ) (w : List ℕ) (checks : Map → List Check) (list : Map → List ℕ) (o o' : List ℕ) where
  list_asked : (a : Result ℕ Refusal) → ListingIn places w checks list o a o' → Asked value_says no_value w (λ m. list_answer (checks m) (list m) places) a
  list_asked a l = record { refused = l.refused; answers = λ m wf. (l.answers m wf).0 }

  -- told of a refusal, the output is as it was
  list_kept : (a : Result ℕ Refusal) → ListingIn places w checks list o a o' → (r : ℕ) → r ≡ (value_says a).refusal → (r ≡ 0 → ⊥) → o' ≡ o
  unfolding value_says given
  list_kept (Ok n) l r e some = absurd (some e)
  list_kept (Err why) l r e some = l.kept why refl

  list_first : (a : Result ℕ Refusal) → ListingIn places w checks list o a o' → (n r n' : ℕ) → Told (value_says a) n r n' → r ≡ 0 → (n' ≤ length o) × Only (λ i. i < n') o o'
  unfolding value_says given refused first
  list_first (Ok k) l n r n' told z = rw told.value (l.first k refl)
  list_first (Err why) l n r n' told z = absurd (omega (arith, z, told.number, number_some why))

  listed_in : (a : Result ℕ Refusal) → ListingIn places w checks list o a o' → (n r n' : ℕ) → Told (value_says a) n r n' → ListedIn places w checks list o n r o' n'
  listed_in a l n r n' told = record {
    count = answered value_plain w (λ m. list_answer (checks m) (list m) places) a (list_asked a l) n r n' told;
    kept = list_kept a l r told.number;
    first = list_first a l n r n' told;
    wrote = λ m wf. (l.answers m wf).1;
  }

pub listed_out : (w : List ℕ) (checks : Map → List Check) (list : Map → List ℕ) (o o' : List ℕ) (a : Result ℕ Refusal) → Listing w checks list o a o'
    → (n r n' : ℕ) → Told (value_says a) n r n' → Listed w checks list o n r o' n'
listed_out w checks list o o' = listed_in (length o) w checks list o o'

pub two_out : (w : List ℕ) (checks : Map → List Check) (list beside : Map → List ℕ) (o p o' p' : List ℕ) (a : Result ℕ Refusal) → Paired w checks list beside o p a o' p'
    → (n r n' : ℕ) → Told (value_says a) n r n' → ListedTwo w checks list beside o p n r o' p' n'
two_out w checks list beside o p o' p' a q n r n' told = record {
  entries = listed_in (min (length o) (length p)) w checks list o o' a q.entries n r n' told;
  words = listed_in (min (length o) (length p)) w checks beside p p' a q.words n r n' told;
}

-- the whole check
pub judged_yes : (w : List ℕ) (b : Bool) → Whole w b → b ≡ true → Judged w 1
judged_yes w b h e = record { bit = omega arith; yes = λ _. h.yes e; no = λ z. absurd (omega arith) }

pub judged_no : (w : List ℕ) (b : Bool) → Whole w b → b ≡ false → Judged w 0
judged_no w b h e = record { bit = omega arith; yes = λ z. absurd (omega arith); no = λ _. h.no e }
