-- The text of a surface: "a line each for the word, the counts (edges 0), a vertex and a live face, single spaces".
use Rattle.std.specs.Prelude.{cond, List, [], ◌∷◌, ◌++◌, map, ℕ, zero, suc, ◌+◌, ◌*◌, ◌/◌, ◌%◌, ltb, length, get_or, ℤ, pos, negsuc}
use Rattle.off.specs.Numbers.{title}
use Rattle.off.specs.Reading.{face_code}

-- the decimal digits of a number, the fewest, and at most n + 1 of them
unfoldable pub digits_to : ℕ → ℕ → List ℕ
digits_to zero k = (48 + k % 10) ∷ []
digits_to (suc n) k = cond (ltb k 10) ((48 + k) ∷ []) (digits_to n (k / 10) ++ ((48 + k % 10) ∷ []))

-- of a number below 1,000,000
unfoldable pub digits_of : ℕ → List ℕ
digits_of k = digits_to 5 k

unfoldable pub coordinate_text : ℤ → List ℕ
coordinate_text (pos n) = digits_of n
coordinate_text (negsuc n) = 45 ∷ digits_of (suc n)

-- the words behind the first of a line, each after a single space, and the line's end
unfoldable pub behind : List (List ℕ) → List ℕ
behind [] = 10 ∷ []
behind (w ∷ ws) = 32 ∷ (w ++ behind ws)

unfoldable pub line : List ℕ → List (List ℕ) → List ℕ
line w ws = w ++ behind ws

-- "the counts (edges 0)"
unfoldable pub counts_line : ℕ → ℕ → List ℕ
counts_line marks cells = line (digits_of marks) (digits_of cells ∷ digits_of 0 ∷ [])

-- "three numbers a vertex"
unfoldable pub vertex_line : List ℤ → ℕ → List ℕ
vertex_line positions v =
    line (coordinate_text (get_or positions (3 * v) (pos 0)))
    (coordinate_text (get_or positions (3 * v + 1) (pos 0)) ∷ coordinate_text (get_or positions (3 * v + 2) (pos 0)) ∷ [])

-- "3 or 4 and that many places a face"
unfoldable pub face_line : List ℕ → List ℕ
face_line marks = line (digits_of (length marks)) (map digits_of marks)

unfoldable pub vertex_lines : ℕ → List ℤ → List ℕ
vertex_lines zero positions = []
vertex_lines (suc n) positions = vertex_lines n positions ++ vertex_line positions n

unfoldable pub face_lines : List (List ℕ) → List ℕ
face_lines [] = []
face_lines (x ∷ xs) = face_line x ++ face_lines xs

-- the text of so many marks, their positions and the marks of each face
unfoldable pub text_of : ℕ → List ℤ → List (List ℕ) → List ℕ
text_of marks positions faces =
    line title [] ++ (counts_line marks (length faces) ++ (vertex_lines marks positions ++ face_lines faces))

-- the build records of faces, the first of them cell c, each with licence 0
unfoldable pub records_from : ℕ → List (List ℕ) → List ℕ
records_from c [] = []
records_from c (x ∷ xs) = (c ∷ face_code (length x) ∷ 0 ∷ x) ++ records_from (suc c) xs
