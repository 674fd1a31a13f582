-- A morning's edits: a list of words with "1 and a build record to insert, 2 and a cell number to remove" for each edit.
use Rattle.std.specs.Prelude.{true, false, cond, List, [], ◌∷◌, ℕ, zero, suc, ◌+◌, eqb, take}
use Rattle.shapes.specs.Shapes.{shape}
use Rattle.map.specs.Answers.{Answer}
use Rattle.map.specs.Cells.{licensed_body, Map}
use Rattle.map.specs.History.{Edit, Insert, Remove, edit_answer, changed}

-- at an edit's turn: the edit with how many words it takes behind its kind, or the refusal where there is none
pub data Turn : Type 0 where
  Is : Edit → ℕ → Turn
  Not : ℕ → Turn

-- "7 for a missing number or type", and listed edits give the licence "after the type, and missing it is 7 as there"; "missing marks are 7 in its
-- place": as many as there are
unfoldable pub insert_turn : List ℕ → Turn
insert_turn [] = Not 7
insert_turn (c ∷ []) = Not 7
insert_turn (c ∷ t ∷ []) = Not 7
insert_turn (c ∷ t ∷ licence ∷ rest) = Is (Insert c (licensed_body t licence (take (shape t).marks rest))) (3 + (shape t).marks)

unfoldable pub remove_turn : List ℕ → Turn
remove_turn [] = Not 7
remove_turn (c ∷ rest) = Is (Remove c) 1

-- "6 for a kind neither insert nor remove"
unfoldable pub turn : ℕ → List ℕ → Turn
turn kind words = cond (eqb kind 1) (insert_turn words) (cond (eqb kind 2) (remove_turn words) (Not 6))

-- the edits that words hold, and the refusal where they end: 0 unless a turn is no edit
pub record Reading : Type 0 where
  pub edits : List Edit
  pub last : ℕ

-- an edit before the others
abbrev pub before : Edit → Reading → Reading
before e r = record { edits = e ∷ r.edits; last = r.last }

-- read on behind the first n words, those of the edit before
unfoldable pub read_from : ℕ → List ℕ → Reading
read_from n [] = record { edits = []; last = 0 }
read_from (suc n) (x ∷ words) = read_from n words
read_from zero (kind ∷ words) =
    elim (turn kind words) [ Is e n ↦ before e (read_from n words) | Not refusal ↦ record { edits = []; last = refusal } ]

-- how many edits were made, the refusal where they stopped or 0, and the map that they leave
pub record Morning : Type 0 where
  pub made : ℕ
  pub refusal : ℕ
  pub map : Map

-- one more was made before
abbrev pub one_more : Morning → Morning
one_more r = record { made = suc r.made; refusal = r.refusal; map = r.map }

-- "as if called one by one, stopping at the first refusal; the edits before it stay"
unfoldable pub in_turn : Map → List Edit → ℕ → Morning
in_turn m [] last = record { made = 0; refusal = last; map = m }
in_turn m (e ∷ es) last =
    elim (eqb (edit_answer m e).refusal 0) [
      | true ↦ one_more (in_turn (changed m e) es last)
      | false ↦ record { made = 0; refusal = (edit_answer m e).refusal; map = m }
    ]

unfoldable pub morning : Map → List ℕ → Morning
morning m words = in_turn m (read_from 0 words).edits (read_from 0 words).last

-- "The answer gives the number made and, if it stopped, the refusal."
unfoldable pub told : Morning → Answer
told r = record { refusal = r.refusal; values = r.made ∷ [] }
