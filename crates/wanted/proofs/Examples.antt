-- Plans, one row each: the edits, the wanted list, and what the check answers on a mesh of 12 marks and 4 cells with triangle 0 (0,1,2), whose room
-- is 240 words: the number, and the place.
use mathlib.Core.Path.{◌≡◌, refl}
use mathlib.Core.Bool.{Bool, true}
use mathlib.Core.List.{List, [], ◌∷◌}
use Prim.Native.Nat.{ℕ}
use Rattle.lists.specs.Lists.{any, all, every, has, same, same_set, repeats, select}
use Rattle.numbers.specs.Sizes.{capacities}
use Rattle.numbers.specs.Room.{room}
use Rattle.shapes.specs.Shapes as S
use Rattle.map.specs.Cells.{no_cell, body_in, map_of, live, holds, cells_of}
use Rattle.map.specs.Stars.{holders}
use Rattle.map.specs.Answers.{Answer, ◌when◌, answer, third, insert_checks, cell_checks}
use Rattle.map.specs.History.{empty, put, edit_answer, changed, edited, history}
use Rattle.map.specs.Cases.{tri, p2}
use Rattle.map.specs.Morning.{insert_turn, remove_turn, turn, read_from, in_turn, morning}
use Rattle.map.specs.Says.{given}
use Rattle.wanted.specs.Wanted.{record_refusal, wanted_from, wanted_of, same_body, stands, as_wanted}
use Rattle.wanted.specs.Plans.{plan_right, plan_checks, plan_verdict, plan_answer}

pub record Row : Type 0 where
  pub edits : List ℕ
  pub wanted : List ℕ
  pub words : ℕ
  pub answer : List ℕ

unfoldable pub row : List ℕ → List ℕ → ℕ → List ℕ → Row
row edits wanted words l = record { edits = edits; wanted = wanted; words = words; answer = l }

unfoldable pub rows : List Row
rows =
    -- today's map is wanted; nothing is; a cell goes
    row [] (0 ∷ 2 ∷ 0 ∷ 0 ∷ 1 ∷ 2 ∷ []) 240 (0 ∷ [])
    ∷ row [] [] 240 (24 ∷ 0 ∷ [])
    ∷ row (2 ∷ 0 ∷ []) [] 240 (0 ∷ [])
    -- triangle 1 (2,1,3) of licence 9 for triangle 0; of another licence, in another order of its marks, twice
    ∷ row (2 ∷ 0 ∷ 1 ∷ 1 ∷ 2 ∷ 9 ∷ 2 ∷ 1 ∷ 3 ∷ []) (1 ∷ 2 ∷ 9 ∷ 2 ∷ 1 ∷ 3 ∷ []) 240 (0 ∷ [])
    ∷ row (2 ∷ 0 ∷ 1 ∷ 1 ∷ 2 ∷ 9 ∷ 2 ∷ 1 ∷ 3 ∷ []) (1 ∷ 2 ∷ 8 ∷ 2 ∷ 1 ∷ 3 ∷ []) 240 (24 ∷ 2 ∷ [])
    ∷ row (2 ∷ 0 ∷ 1 ∷ 1 ∷ 2 ∷ 9 ∷ 2 ∷ 1 ∷ 3 ∷ []) (1 ∷ 2 ∷ 9 ∷ 1 ∷ 2 ∷ 3 ∷ []) 240 (24 ∷ 2 ∷ [])
    ∷ row (2 ∷ 0 ∷ 1 ∷ 1 ∷ 2 ∷ 9 ∷ 2 ∷ 1 ∷ 3 ∷ []) (1 ∷ 2 ∷ 9 ∷ 2 ∷ 1 ∷ 3 ∷ 1 ∷ 2 ∷ 9 ∷ 2 ∷ 1 ∷ 3 ∷ []) 240 (24 ∷ 2 ∷ [])
    -- an edit that is refused, one of another kind, one that is cut short
    ∷ row (2 ∷ 0 ∷ 2 ∷ 0 ∷ []) [] 240 (24 ∷ 1 ∷ [])
    ∷ row (2 ∷ 0 ∷ 3 ∷ []) [] 240 (24 ∷ 1 ∷ [])
    ∷ row (2 ∷ 0 ∷ 1 ∷ 1 ∷ 2 ∷ []) [] 240 (24 ∷ 1 ∷ [])
    -- a wanted list without a licence, without a mark, of an unknown type, whatever follows; and second memory of a word too few
    ∷ row [] (0 ∷ 8 ∷ []) 240 (7 ∷ [])
    ∷ row [] (0 ∷ 2 ∷ 0 ∷ 0 ∷ 1 ∷ []) 240 (7 ∷ [])
    ∷ row [] (0 ∷ 8 ∷ 0 ∷ []) 240 (6 ∷ [])
    ∷ row [] (0 ∷ 8 ∷ 0 ∷ 1 ∷ []) 240 (6 ∷ [])
    ∷ row [] (0 ∷ 2 ∷ []) 239 (2 ∷ [])
    ∷ []

unfoldable pub told : Answer → List ℕ
told a = a.refusal ∷ a.values

unfoldable pub holds_row : Row → Bool
holds_row r = same (told (plan_answer (history (empty (capacities 12 4)) p2) r.words r.edits r.wanted)) r.answer

pub plans : all holds_row rows ≡ true
unfolding any all every has same_set repeats select S.no_shape S.shapes S.shape no_cell body_in map_of live holds cells_of holders ◌when◌ answer third insert_checks cell_checks empty put edit_answer changed edited history same tri p2 insert_turn remove_turn turn read_from in_turn morning given room record_refusal wanted_from wanted_of same_body stands as_wanted plan_right plan_checks plan_verdict plan_answer row rows told holds_row
plans = refl
