-- The history: "the built cells, with each accepted edit applied in turn".
use Rattle.std.specs.Prelude.{true, false, cond, List, [], ◌∷◌, ℕ, zero, suc, eqb, length, take, drop}
use Rattle.numbers.specs.declared.Caps.{Caps}
use Rattle.shapes.specs.Shapes.{shape}
use Rattle.map.specs.Cells.{Body, licensed_body, Map, no_cell, map_of}
use Rattle.map.specs.Answers.{Answer, answer, insert_checks, cell_checks}

-- a formatted mesh
unfoldable pub empty : Caps → Map
empty caps = map_of caps []

pub data Edit : Type 0 where
  Insert : ℕ → Body → Edit
  Remove : ℕ → Edit

-- the number of the cell that an edit puts or takes
abbrev pub cell_of : Edit → ℕ
cell_of (Insert c x) = c
cell_of (Remove c) = c

-- and the cell
abbrev pub edit_body : Map → Edit → Body
edit_body m (Insert c x) = x
edit_body m (Remove c) = m.at c

unfoldable pub edit_answer : Map → Edit → Answer
edit_answer m (Insert c x) = answer (insert_checks m c x) []
edit_answer m (Remove c) = answer (cell_checks m c) []

-- the map with another cell, or none, under a number
unfoldable pub put : Map → ℕ → Body → Map
put m c x = record { caps = m.caps; at = λ k. cond (eqb c k) x (m.at k) }

-- the edit made
unfoldable pub changed : Map → Edit → Map
changed m (Insert c x) = put m c x
changed m (Remove c) = put m c no_cell

-- "A refused call changes no lent memory"
unfoldable pub edited : Map → Edit → Map
edited m e = cond (eqb (edit_answer m e).refusal 0) (changed m e) m

unfoldable pub history : Map → List Edit → Map
history m [] = m
history m (e ∷ es) = history (edited m e) es

-- what a build answers, the place of the refused record, and the map that it leaves
pub record Outcome : Type 0 where
  pub refusal : ℕ
  pub place : ℕ
  pub map : Map

-- "A build record is a cell number, a type code, then that type's marks"; "build records .. give it after the type, and missing it is 7 as
-- there". Each takes a word at least, so n words suffice for n records. "At the first refused record it answers number and record place (from 0) and leaves a formatted mesh with no live cell."
unfoldable pub build_from : ℕ → ℕ → Map → List ℕ → Outcome
build_from zero place m words = record { refusal = 0; place = 0; map = m }
build_from (suc n) place m [] = record { refusal = 0; place = 0; map = m }
build_from (suc n) place m (c ∷ []) = record { refusal = 7; place = place; map = empty m.caps }
build_from (suc n) place m (c ∷ t ∷ []) = record { refusal = 7; place = place; map = empty m.caps }
build_from (suc n) place m (c ∷ t ∷ licence ∷ rest) =
    let e : Edit = Insert c (licensed_body t licence (take (shape t).marks rest)) in
    elim (eqb (edit_answer m e).refusal 0) [
      | true ↦ build_from n (suc place) (changed m e) (drop (shape t).marks rest)
      | false ↦ record { refusal = (edit_answer m e).refusal; place = place; map = empty m.caps }
    ]

unfoldable pub build : Caps → List ℕ → Outcome
build caps words = build_from (length words) 0 (empty caps) words
