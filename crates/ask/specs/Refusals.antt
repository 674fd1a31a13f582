-- "14: memory is not a mesh", as each answer says it.
use Rattle.map.specs.declared.Refusal.TheVariants.{NotMesh}
use Rattle.ask.specs.declared.Walker.{Walker}
use Rattle.map.specs.declared.Way.{Way}
use Rattle.numbers.specs.declared.Half.{Half}
use Rattle.numbers.specs.declared.Cell.{Cell}
use Rattle.map.specs.declared.Refusal.{Refusal}
use Rattle.std.specs.Prelude.{Result, Option, Err, ℕ, Bool}

abbrev pub no_value : Result ℕ Refusal
no_value = Err NotMesh

abbrev pub no_pair : Result (ℕ × ℕ) Refusal
no_pair = Err NotMesh

abbrev pub no_cell : Result (Option Cell) Refusal
no_cell = Err NotMesh

abbrev pub no_half : Result (Half × Way) Refusal
no_half = Err NotMesh

abbrev pub no_truth : Result Bool Refusal
no_truth = Err NotMesh

abbrev pub no_found : Result (Option Half) Refusal
no_found = Err NotMesh

abbrev pub no_step : Result (Walker × Way) Refusal
no_step = Err NotMesh
