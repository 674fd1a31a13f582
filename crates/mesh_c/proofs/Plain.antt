-- Kinds of answers: memory that is no mesh is told by 14, and a refused answer has no value.
use mathlib.Core.Path.{◌≡◌, refl}
use mathlib.Core.List.{[]}
use Rattle.map.specs.Answers.{Answer}
use Rattle.map.specs.Says.{given, refused, value_says, pair_says, cell_says, half_says, truth_says, found_says}
use Rattle.std.specs.Prelude.{Ok, Err, Some, None, true, false}
use Rattle.ask.specs.Refusals.{no_value, no_pair, no_cell, no_half, no_truth, no_found}

abbrev pub Quiet : {A : Type 0} → (A → Answer) → Type 0
Quiet {A} says = (a : A) → ((says a).refusal ≡ 0 → ⊥) → (says a).values ≡ []

pub record Plain {A : Type 0} (says : A → Answer) (noMesh : A) : Type 0 where
  pub fourteen : (says noMesh).refusal ≡ 14
  pub quiet : Quiet says

value_quiet : Quiet value_says
unfolding value_says given refused
value_quiet (Ok n) some = absurd (some refl)
value_quiet (Err why) some = refl

pair_quiet : Quiet pair_says
unfolding pair_says given refused
pair_quiet (Ok (n, k)) some = absurd (some refl)
pair_quiet (Err why) some = refl

cell_quiet : Quiet cell_says
unfolding cell_says given refused
cell_quiet (Ok (Some c)) some = absurd (some refl)
cell_quiet (Ok None) some = absurd (some refl)
cell_quiet (Err why) some = refl

half_quiet : Quiet half_says
unfolding half_says given refused
half_quiet (Ok (h, way)) some = absurd (some refl)
half_quiet (Err why) some = refl

truth_quiet : Quiet truth_says
unfolding truth_says given refused
truth_quiet (Ok true) some = absurd (some refl)
truth_quiet (Ok false) some = absurd (some refl)
truth_quiet (Err why) some = refl

found_quiet : Quiet found_says
unfolding found_says given refused
found_quiet (Ok (Some h)) some = absurd (some refl)
found_quiet (Ok None) some = absurd (some refl)
found_quiet (Err why) some = refl

pub value_plain : Plain value_says no_value
unfolding value_says refused
value_plain = record { fourteen = refl; quiet = value_quiet }

pub pair_plain : Plain pair_says no_pair
unfolding pair_says refused
pair_plain = record { fourteen = refl; quiet = pair_quiet }

pub cell_plain : Plain cell_says no_cell
unfolding cell_says refused
cell_plain = record { fourteen = refl; quiet = cell_quiet }

pub half_plain : Plain half_says no_half
unfolding half_says refused
half_plain = record { fourteen = refl; quiet = half_quiet }

pub truth_plain : Plain truth_says no_truth
unfolding truth_says refused
truth_plain = record { fourteen = refl; quiet = truth_quiet }

pub found_plain : Plain found_says no_found
unfolding found_says refused
found_plain = record { fourteen = refl; quiet = found_quiet }
