-- A record of a wanted list by its place, and a wanted cell beside mesh memory: defined on any words.
use Rattle.std.specs.Prelude.{Bool, cond, not, ◌&&◌, List, [], ℕ, ◌+◌, ◌-◌, eqb, ltb, length, get_or}
use Rattle.numbers.specs.declared.Caps.{Caps}
use Rattle.shapes.specs.Shapes.{shape}
use Rattle.words.specs.Words.{part_of}
use Rattle.store.specs.Slots.{code_in, licence_in}
use Rattle.facet.specs.Facet.{marks_in}
use Rattle.map.specs.Cells.{Body, licensed_body, Live}
use Rattle.map.specs.Answers.{Answer}
use Rattle.wanted.specs.Wanted.{record_refusal, wanted_of, same_body}

-- a refusal by its number, 0 for none
abbrev pub refused_with : ℕ → Answer
refused_with n = record { refusal = n; values = [] }

-- the refusal of the record at a place
unfoldable pub refusal_at : List ℕ → ℕ → ℕ
refusal_at words at = cond (ltb (length words) (at + 3)) 7 (record_refusal (get_or words (at + 1) 0) (length words - (at + 3)))

-- a wanted cell by its number, type, licence and marks
abbrev pub wanted_cell : ℕ → ℕ → ℕ → List ℕ → Live
wanted_cell c t licence marks = record { number = c; body = licensed_body t licence marks }

-- the cell of the record at a place
unfoldable pub cell_at : List ℕ → ℕ → Live
cell_at words at =
    wanted_cell (get_or words at 0) (get_or words (at + 1) 0) (get_or words (at + 2) 0) (part_of words (at + 3) (shape (get_or words (at + 1) 0)).marks)

-- the cell under a number, as its record in memory gives it
abbrev pub body_at : List ℕ → Caps → ℕ → Body
body_at w caps c = licensed_body (code_in w caps c) (licence_in w caps c) (marks_in w caps c)

-- the cell stands in memory, as it is wanted
unfoldable pub stands_in : List ℕ → Caps → Live → Bool
stands_in w caps x =
    ltb x.number caps.cells && (not (eqb (code_in w caps x.number) 0) && same_body (body_at w caps x.number) x.body)
