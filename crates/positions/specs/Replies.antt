-- The outline's number and values of each case of the enums, and what the calls with positions answer: the checks in their order, then the
-- values, which are floats.
use Rattle.std.specs.Prelude.{cond, List, [], ◌∷◌, ℕ, eqb, get_or, length, ℤ, Float, Result, Ok, Err}
use Rattle.map.specs.Cells.{Map}
use Rattle.map.specs.Answers.{Check, Answer, answer}
use Rattle.map.specs.Says.{given, refused}
use Rattle.map.specs.declared.Refusal.TheVariants.{NotMesh}
use Rattle.positions.specs.declared.Measured.TheVariants.{SquaredLength, DoubledArea, SixfoldVolume}
use Rattle.positions.specs.declared.Measured.{Measured}
use Rattle.metres.specs.declared.Point.{Point}
use Rattle.map.specs.declared.Refusal.{Refusal}
use Rattle.positions.specs.Measures.{measure_of, centre_of}
use Rattle.positions.specs.Rows.{corner_checks, measure_checks}

-- an answer with floats beside its numbers
pub record Reply : Type 0 where
  pub answer : Answer
  pub floats : List Float

-- kind 1 to 3: squared length, doubled area, sixfold volume
unfoldable pub measure_says : Result Measured Refusal → Reply
measure_says (Ok (SquaredLength x)) = record { answer = given (1 ∷ []); floats = x ∷ [] }
measure_says (Ok (DoubledArea x)) = record { answer = given (2 ∷ []); floats = x ∷ [] }
measure_says (Ok (SixfoldVolume x)) = record { answer = given (3 ∷ []); floats = x ∷ [] }
measure_says (Err why) = record { answer = refused why; floats = [] }

unfoldable pub centre_says : Result Point Refusal → Reply
centre_says (Ok p) = record { answer = given []; floats = p.x ∷ p.y ∷ p.z ∷ [] }
centre_says (Err why) = record { answer = refused why; floats = [] }

-- "14: memory is not a mesh"
abbrev pub no_measure : Result Measured Refusal
no_measure = Err NotMesh

abbrev pub no_centre : Result Point Refusal
no_centre = Err NotMesh

-- the first check that fails is the answer, and else the values
unfoldable pub reply : List Check → Reply → Reply
reply checks values = cond (eqb (answer checks []).refusal 0) values (record { answer = answer checks []; floats = [] })

unfoldable pub measure_reply : Map → List ℤ → ℕ → Reply
measure_reply m positions c =
    let marks = (m.at c).marks in
    reply (measure_checks m c (length positions))
    (measure_says (measure_of positions (m.at c).code (get_or marks 0 0) (get_or marks 1 0) (get_or marks 2 0) (get_or marks 3 0)))

unfoldable pub centre_reply : Map → List ℤ → ℕ → Reply
centre_reply m positions c = reply (corner_checks m c (length positions)) (centre_says (Ok (centre_of positions (m.at c).marks)))
