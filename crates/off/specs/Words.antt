-- The words of a text: "parted by spaces or line ends (0a), which may also stand first or last". Bytes are numbers.
use Rattle.std.specs.Prelude.{Bool, cond, ◌||◌, List, [], ◌∷◌, ℕ, suc, eqb}

-- a space or a line end; no other byte parts words
unfoldable pub parts : ℕ → Bool
parts b = eqb b 32 || eqb b 10

-- a word: "the byte place" of its first byte, and its bytes
pub record Word : Type 0 where
  pub place : ℕ
  pub bytes : List ℕ

abbrev pub word_at : ℕ → List ℕ → Word
word_at place bytes = record { place = place; bytes = bytes }

-- a byte before the words of what follows: the first of them goes on with it where it stands right behind it
unfoldable pub begun : ℕ → ℕ → List Word → List Word
begun at b [] = word_at at (b ∷ []) ∷ []
begun at b (w ∷ ws) = cond (eqb w.place (suc at)) (word_at at (b ∷ w.bytes) ∷ ws) (word_at at (b ∷ []) ∷ w ∷ ws)

-- the words of a text whose first byte has the place `at`
unfoldable pub words_from : ℕ → List ℕ → List Word
words_from at [] = []
words_from at (b ∷ rest) = let ws = words_from (suc at) rest in cond (parts b) ws (begun at b ws)
