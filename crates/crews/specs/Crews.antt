-- "two edits on different cell numbers whose cells share no mark"
use Rattle.std.specs.Prelude.{◌≡◌, true, false, cond, List, [], ◌∷◌, ◌++◌, map, ℕ, eqb, Result}
use Rattle.lists.specs.Lists.{has}
use Rattle.map.specs.Cells.{Map}
use Rattle.map.specs.Says.{edits_says}
use Rattle.map.specs.History.{Edit, Insert, Remove, cell_of, edit_answer, edited}
use Rattle.map.specs.Morning.{read_from}
use Rattle.map.specs.declared.Stopped.{Stopped}
use Rattle.edits.specs.Counts.{tally_after}
use Rattle.edits.specs.InTurn.{ListEdited}
use Rattle.edits.specs.declared.Tally.{Tally}

-- The marks of an edit's cell, on the map before both edits. "An insert that is refused counts with the marks it named." "The cell of a
-- removal is the one live under its number before both edits; a removal refused with 3 or 5 has none and shares nothing."
unfoldable pub crew_marks : Map → Edit → List ℕ
crew_marks m (Insert c x) = x.marks
crew_marks m (Remove c) = cond (eqb (edit_answer m (Remove c)).refusal 0) (m.at c).marks []

-- the edits are those of two crews
pub record TwoCrews (m : Map) (a b : Edit) : Type 0 where
  pub numbers : cell_of a ≡ cell_of b → ⊥
  pub marks : (v : ℕ) → has v (crew_marks m a) ≡ true → has v (crew_marks m b) ≡ false

-- the cell numbers of a list of edits
abbrev pub numbers_of : List Edit → List ℕ
numbers_of es = map cell_of es

-- and the marks of their cells, each on the map that those before it leave
unfoldable pub list_marks : Map → List Edit → List ℕ
list_marks m [] = []
list_marks m (e ∷ es) = crew_marks m e ++ list_marks (edited m e) es

-- the lists are those of two crews: each edit of one and each of the other
pub record TwoLists (m : Map) (es fs : List Edit) : Type 0 where
  pub numbers : (c : ℕ) → has c (numbers_of es) ≡ true → has c (numbers_of fs) ≡ false
  pub marks : (v : ℕ) → has v (list_marks m es) ≡ true → has v (list_marks m fs) ≡ false

-- the edits that the words of a list hold
abbrev pub edits_in : List ℕ → List Edit
edits_in words = (read_from 0 words).edits

-- what `edits` promises: the list made in memory, and the tally after it
pub record Tallied (w list : List ℕ) (t : Tally) (r : Result ℕ Stopped) (w' : List ℕ) (t' : Tally) : Type 0 where
  pub made : ListEdited w list r w'
  pub tally : t' ≡ tally_after t (edits_says r)
