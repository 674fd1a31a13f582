-- "a mesh of the same capacities built afresh from them in any order": lists of live cells, their orders, and the words of a build.
use Rattle.std.specs.Prelude.{◌≡◌, false, List, [], ◌∷◌, ◌++◌, map, ℕ}
use Rattle.lists.specs.Lists.{repeats}
use Rattle.map.specs.Cells.{Live}

-- the second list has the live cells of the first, in some order
pub data Shuffled : List Live → List Live → Type 0 where
  none : Shuffled [] []
  same : {x : Live} {a b : List Live} → Shuffled a b → Shuffled (x ∷ a) (x ∷ b)
  swapped : {x y : Live} {a : List Live} → Shuffled (x ∷ y ∷ a) (y ∷ x ∷ a)
  then : {a b c : List Live} → Shuffled a b → Shuffled b c → Shuffled a c

-- the cell numbers of a list
abbrev pub numbers : List Live → List ℕ
numbers cells = map (λ (x : Live). x.number) cells

-- no cell number stands twice in the list
abbrev pub Distinct : List Live → Type 0
Distinct cells = repeats (numbers cells) ≡ false

-- the words of a build of a list: for each cell its number, its type code, its licence and its marks
unfoldable pub build_words : List Live → List ℕ
build_words [] = []
build_words (x ∷ xs) = x.number ∷ x.body.code ∷ x.body.licence ∷ (x.body.marks ++ build_words xs)
