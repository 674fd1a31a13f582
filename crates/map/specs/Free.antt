-- What a mesh holds and what room is left: the capacities, the live cells, the free numbers; and what the calls answer.
use Rattle.std.specs.Prelude.{not, List, [], ◌∷◌, ℕ, take}
use Rattle.lists.specs.Lists.{select}
use Rattle.map.specs.Cells.{Map, live}
use Rattle.map.specs.Answers.{Check, Answer, answer, list_answer}

-- "the list of live cells": their numbers, ascending
unfoldable pub live_numbers : Map → List ℕ
live_numbers m = select (live m) m.caps.cells

-- the numbers below the capacity that are not live, ascending: an insert under one is not refused with 3 or 4
unfoldable pub free_numbers : Map → List ℕ
free_numbers m = select (λ c. not (live m c)) m.caps.cells

-- a call on the mesh as a whole has no check of its own
abbrev pub no_checks : Map → List Check
no_checks m = []

-- "The head, with capacities and live counts": of marks, then of cells
unfoldable pub capacities_answer : Map → Answer
capacities_answer m = answer (no_checks m) (m.caps.marks ∷ m.caps.cells ∷ [])

-- the smallest free number; where every number is live, no value
unfoldable pub free_answer : Map → Answer
free_answer m = answer (no_checks m) (take 1 (free_numbers m))

unfoldable pub live_answer : Map → ℕ → Answer
live_answer m places = list_answer (no_checks m) (live_numbers m) places
