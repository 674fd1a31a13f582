-- The outline's number and values of each answer.
use Rattle.std.specs.Prelude.{List, [], ◌∷◌, ℕ, Result, ⊤, Option, Ok, Err, Some, None, true, false, Bool}
use Rattle.map.specs.declared.Refusal.{Refusal}
use Rattle.map.specs.declared.Refusal.TheVariants.{CapacityAbove, MemoryShort, CellOutside, CellLive, CellNotLive, TypeUnknown, CountWrong, MarkOutside, MarkTwice, CellSame, MarkFull, OutputShort, FacetOutside, NotMesh, BadFrame, PositionsShort, FaceFull, DayBefore, DayFolded, FoldNotAllowed, JournalFull}
use Rattle.map.specs.declared.Way.{Way}
use Rattle.numbers.specs.declared.Half.{Half}
use Rattle.numbers.specs.declared.Cell.{Cell}
use Rattle.map.specs.declared.Stopped.{Stopped}
use Rattle.map.specs.declared.Unbuilt.{Unbuilt}
use Rattle.map.specs.Answers.{Answer}
use Rattle.map.specs.Ways.{way_number}

abbrev pub number_of : Refusal → ℕ
number_of CapacityAbove = 1
number_of MemoryShort = 2
number_of CellOutside = 3
number_of CellLive = 4
number_of CellNotLive = 5
number_of TypeUnknown = 6
number_of CountWrong = 7
number_of MarkOutside = 8
number_of MarkTwice = 9
number_of CellSame = 10
number_of MarkFull = 11
number_of OutputShort = 12
number_of FacetOutside = 13
number_of NotMesh = 14
number_of BadFrame = 15
number_of PositionsShort = 16
number_of FaceFull = 19
number_of DayBefore = 20
number_of DayFolded = 21
number_of FoldNotAllowed = 22
number_of JournalFull = 23

unfoldable pub given : List ℕ → Answer
given values = record { refusal = 0; values = values }

unfoldable pub refused : Refusal → Answer
refused r = record { refusal = number_of r; values = [] }

unfoldable pub verdict_says : Result ⊤ Refusal → Answer
verdict_says (Ok tt) = given []
verdict_says (Err r) = refused r

unfoldable pub value_says : Result ℕ Refusal → Answer
value_says (Ok n) = given (n ∷ [])
value_says (Err r) = refused r

unfoldable pub pair_says : Result (ℕ × ℕ) Refusal → Answer
pair_says (Ok (n, k)) = given (n ∷ k ∷ [])
pair_says (Err r) = refused r

unfoldable pub cell_says : Result (Option Cell) Refusal → Answer
cell_says (Ok (Some c)) = given (c.0 ∷ [])
cell_says (Ok None) = given []
cell_says (Err r) = refused r

unfoldable pub half_says : Result (Half × Way) Refusal → Answer
half_says (Ok (h, way)) = given (h.0 ∷ way_number way ∷ [])
half_says (Err r) = refused r

unfoldable pub found_says : Result (Option Half) Refusal → Answer
found_says (Ok (Some h)) = given (h.0 ∷ [])
found_says (Ok None) = given []
found_says (Err r) = refused r

unfoldable pub truth_says : Result Bool Refusal → Answer
truth_says (Ok true) = given (1 ∷ [])
truth_says (Ok false) = given (0 ∷ [])
truth_says (Err r) = refused r

-- a build refused with the place of its record; a list of edits stopped after so many
abbrev pub RefusedAt : Refusal → ℕ → Result ⊤ Unbuilt
RefusedAt r place = Err (record { why = r; place = place })

abbrev pub StoppedAt : ℕ → Refusal → Result ℕ Stopped
StoppedAt n r = Err (record { made = n; why = r })

-- a refused build gives the record's place too
unfoldable pub built_says : Result ⊤ Unbuilt → Answer
built_says (Ok tt) = given []
built_says (Err e) = record { refusal = number_of e.why; values = e.place ∷ [] }

-- a list of edits gives the number made, stopped or not
unfoldable pub edits_says : Result ℕ Stopped → Answer
edits_says (Ok n) = given (n ∷ [])
edits_says (Err e) = record { refusal = number_of e.why; values = e.made ∷ [] }
