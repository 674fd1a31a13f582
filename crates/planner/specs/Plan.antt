-- The planner's plan: the edits that take a map to the wanted cells, and their words.
use Rattle.std.specs.Prelude.{Bool, cond, not, ◌&&◌, List, [], ◌∷◌, ◌++◌, map, ℕ, eqb}
use Rattle.lists.specs.Lists.{any, select}
use Rattle.map.specs.Cells.{Live, Map, live}
use Rattle.map.specs.History.{Edit, Insert, Remove}
use Rattle.wanted.specs.Wanted.{wanted_of, stands}

-- a cell is wanted as it stands
unfoldable pub wanted_as : Map → List Live → ℕ → Bool
wanted_as m cells c = any (λ (x : Live). eqb x.number c && stands m x) cells

-- "every cell that is not wanted as it stands", ascending
unfoldable pub unwanted : Map → List Live → List ℕ
unwanted m cells = select (λ c. live m c && not (wanted_as m cells c)) m.caps.cells

-- the cells of a list that do not pass, in its order
unfoldable pub others : (Live → Bool) → List Live → List Live
others p [] = []
others p (x ∷ xs) = cond (p x) (others p xs) (x ∷ others p xs)

-- "the missing", in the wanted list's order
unfoldable pub missing : Map → List Live → List Live
missing m cells = others (stands m) cells

-- "remove every cell that is not wanted as it stands, then insert the missing"
unfoldable pub plan_of : Map → List Live → List Edit
plan_of m cells = map (λ (c : ℕ). Remove c) (unwanted m cells) ++ map (λ (x : Live). Insert x.number x.body) (missing m cells)

-- the words of a list of edits: "1 and a build record to insert, 2 and a cell number to remove"
unfoldable pub edit_words : List Edit → List ℕ
edit_words [] = []
edit_words (Insert c x ∷ es) = 1 ∷ c ∷ x.code ∷ x.licence ∷ (x.marks ++ edit_words es)
edit_words (Remove c ∷ es) = 2 ∷ c ∷ edit_words es

-- of the plan for a wanted list
unfoldable pub plan_words : Map → List ℕ → List ℕ
plan_words m wanted = edit_words (plan_of m (wanted_of wanted).cells)
