-- Lists of edits, one row each: the words, and what they give on a mesh of 12 marks and 4 cells with triangle 0 (0,1,2): the refusal, the number
-- made, the cells that are live then, the licence of each.
use mathlib.Core.Path.{◌≡◌, refl}
use mathlib.Core.Bool.{Bool, true}
use mathlib.Core.List.{List, [], ◌∷◌, ◌++◌, map}
use Prim.Native.Nat.{ℕ}
use Rattle.lists.specs.Lists.{any, all, has, same, same_set, repeats, select}
use Rattle.numbers.specs.Sizes.{capacities}
use Rattle.shapes.specs.Shapes as S
use Rattle.map.specs.Cells.{no_cell, body_in, map_of, live, holds, cells_of}
use Rattle.map.specs.Stars.{holders}
use Rattle.map.specs.Answers.{◌when◌, answer, third, insert_checks, cell_checks}
use Rattle.map.specs.History.{empty, put, edit_answer, changed, edited, history}
use Rattle.map.specs.Cases.{tri, p2}
use Rattle.map.specs.Morning.{insert_turn, remove_turn, turn, read_from, in_turn, Morning, morning}

pub record Row : Type 0 where
  pub words : List ℕ
  pub answer : List ℕ

infix 20 ◌gives◌
unfoldable pub ◌gives◌ : List ℕ → List ℕ → Row
words gives l = record { words = words; answer = l }

unfoldable pub rows : List Row
rows =
    ([] gives 0 ∷ 0 ∷ 0 ∷ 0 ∷ [])
    -- cell 0 removed, then triangles 1 (2,1,3) of licence 9 and 2 (0,1,2) of licence 0
    ∷ (2 ∷ 0 ∷ 1 ∷ 1 ∷ 2 ∷ 9 ∷ 2 ∷ 1 ∷ 3 ∷ 1 ∷ 2 ∷ 2 ∷ 0 ∷ 0 ∷ 1 ∷ 2 ∷ [] gives 0 ∷ 3 ∷ 1 ∷ 2 ∷ 9 ∷ 0 ∷ [])
    -- "stopping at the first refusal; the edits before it stay"
    ∷ (2 ∷ 0 ∷ 2 ∷ 0 ∷ 1 ∷ 1 ∷ 2 ∷ 9 ∷ 2 ∷ 1 ∷ 3 ∷ [] gives 5 ∷ 1 ∷ [])
    -- "6 for a kind neither insert nor remove, then 7 for a missing number or type", "and missing it is 7 as there", and a kind alone
    ∷ (2 ∷ 0 ∷ 3 ∷ [] gives 6 ∷ 1 ∷ [])
    ∷ (0 ∷ 1 ∷ 1 ∷ 9 ∷ 1 ∷ 2 ∷ [] gives 6 ∷ 0 ∷ 0 ∷ 0 ∷ [])
    ∷ (1 ∷ [] gives 7 ∷ 0 ∷ 0 ∷ 0 ∷ [])
    ∷ (1 ∷ 1 ∷ [] gives 7 ∷ 0 ∷ 0 ∷ 0 ∷ [])
    ∷ (1 ∷ 1 ∷ 2 ∷ [] gives 7 ∷ 0 ∷ 0 ∷ 0 ∷ [])
    ∷ (2 ∷ 0 ∷ 2 ∷ [] gives 7 ∷ 1 ∷ [])
    -- "before its other checks": a number that is live, and no type or no licence; but missing marks are 7 in their place, behind 3, 4 and 6
    ∷ (1 ∷ 0 ∷ [] gives 7 ∷ 0 ∷ 0 ∷ 0 ∷ [])
    ∷ (1 ∷ 0 ∷ 2 ∷ [] gives 7 ∷ 0 ∷ 0 ∷ 0 ∷ [])
    ∷ (1 ∷ 1 ∷ 8 ∷ [] gives 7 ∷ 0 ∷ 0 ∷ 0 ∷ [])
    ∷ (1 ∷ 1 ∷ 2 ∷ 9 ∷ 0 ∷ 1 ∷ [] gives 7 ∷ 0 ∷ 0 ∷ 0 ∷ [])
    ∷ (1 ∷ 4 ∷ 2 ∷ 9 ∷ [] gives 3 ∷ 0 ∷ 0 ∷ 0 ∷ [])
    ∷ (1 ∷ 0 ∷ 2 ∷ 9 ∷ [] gives 4 ∷ 0 ∷ 0 ∷ 0 ∷ [])
    ∷ (1 ∷ 1 ∷ 8 ∷ 9 ∷ [] gives 6 ∷ 0 ∷ 0 ∷ 0 ∷ [])
    ∷ []

unfoldable pub given : Morning → List ℕ
given r = r.refusal ∷ r.made ∷ (select (live r.map) 4 ++ map (λ (c : ℕ). (r.map.at c).licence) (select (live r.map) 4))

unfoldable pub holds_row : Row → Bool
holds_row r = same (given (morning (history (empty (capacities 12 4)) p2) r.words)) r.answer

pub mornings : all holds_row rows ≡ true
unfolding any all has same_set repeats select S.no_shape S.shapes S.shape no_cell body_in map_of live holds cells_of holders ◌when◌ answer third insert_checks cell_checks empty put edit_answer changed edited history same tri p2 insert_turn remove_turn turn read_from in_turn morning ◌gives◌ rows given holds_row
mornings = refl
