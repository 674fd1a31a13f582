-- The frame program: "Lower-case hexadecimal, one frame a line, each line ended by 0a." Bytes are numbers.
use Rattle.std.specs.Prelude.{Bool, true, false, cond, ◌&&◌, ◌||◌, List, [], ◌∷◌, ◌++◌, ℕ, suc, ◌+◌, ◌-◌, ◌*◌, ◌/◌, ◌%◌, eqb, leb, ltb, length, get_or}
use Rattle.lists.specs.Lists.{any, list_of}
use Rattle.numbers.specs.Half.{half_of}
use Rattle.numbers.specs.Sizes.{capacities}
use Rattle.map.specs.Cells.{body_of, Map}
use Rattle.map.specs.Siblings.{sibling}
use Rattle.map.specs.Ways.{way_number, way}
use Rattle.map.specs.Stars.{star, anchors}
use Rattle.map.specs.Answers.{Answer, ◌when◌, answer, star_checks, half_checks}
use Rattle.map.specs.History.{empty, Edit, Insert, Remove}
use Rattle.journal_store.specs.Days.{Dated, dated, map_after, enter_answer, entered}

-- "Lower-case hexadecimal": 0 to 9, a to f
unfoldable pub digits : List ℕ
digits = 48 ∷ 49 ∷ 50 ∷ 51 ∷ 52 ∷ 53 ∷ 54 ∷ 55 ∷ 56 ∷ 57 ∷ 97 ∷ 98 ∷ 99 ∷ 100 ∷ 101 ∷ 102 ∷ []

-- the first place of a number in a list; its length where it is none of it
unfoldable pub place_of : ℕ → List ℕ → ℕ
place_of b [] = 0
place_of b (x ∷ xs) = cond (eqb x b) 0 (suc (place_of b xs))

-- the value of a digit; 16 for another character
unfoldable pub digit_of : ℕ → ℕ
digit_of b = place_of b digits

-- "an odd count of digits, another character, .. more than 64 digits"
unfoldable pub bad_line : List ℕ → Bool
bad_line line = ltb 64 (length line) || (eqb (length line % 2) 1 || any (λ b. leb 16 (digit_of b)) line)

-- a line's bytes, each of two digits
unfoldable pub byte_at : List ℕ → ℕ → ℕ
byte_at line k = 16 * digit_of (get_or line (2 * k) 0) + digit_of (get_or line (2 * k + 1) 0)

unfoldable pub bytes_of : List ℕ → List ℕ
bytes_of line = list_of (length line / 2) (byte_at line)

-- "Numbers are big-endian: two bytes for marks, cells, capacities and counts; one byte for codes, dimensions and facets."
unfoldable pub number_at : List ℕ → ℕ → ℕ
number_at bytes k = 256 * get_or bytes k 0 + get_or bytes (k + 1) 0

unfoldable pub two_bytes : ℕ → List ℕ
two_bytes n = n / 256 % 256 ∷ n % 256 ∷ []

-- "marks..": as many as stand after code, day, cell and type, also none
unfoldable pub marks_from : List ℕ → List ℕ
marks_from bytes = list_of ((length bytes - 6) / 2) (λ i. number_at bytes (6 + 2 * i))

pub data Frame : Type 0 where
  -- of marks and cells
  Format : ℕ → ℕ → Frame
  -- of a day, an insert or a remove
  Change : ℕ → Edit → Frame
  -- of a dimension and a mark
  Star : ℕ → ℕ → Frame
  Anchors : ℕ → ℕ → Frame
  -- of a cell and a facet
  Sibling : ℕ → ℕ → Frame
  Bad : Frame

-- a row of the table "frame, meaning": the code, whether the count of bytes is right, and the meaning
pub record Row : Type 0 where
  pub code : ℕ
  pub fits : Bool
  pub frame : Frame

infix 20 ◌sized◌means◌
unfoldable pub ◌sized◌means◌ : ℕ → Bool → Frame → Row
code sized fits means frame = record { code = code; fits = fits; frame = frame }

unfoldable pub rows : List ℕ → List Row
rows bytes =
    -- f0 marks cells: format
    (240 sized eqb (length bytes) 5 means Format (number_at bytes 1) (number_at bytes 3))
    -- a0 cell type marks..: insert; "an edit's code is followed by two bytes of day"
    ∷ (160 sized leb 6 (length bytes) && eqb (length bytes % 2) 0 means Change (number_at bytes 1) (Insert (number_at bytes 3) (body_of (get_or bytes 5 0) (marks_from bytes))))
    -- d0 cell: remove
    ∷ (208 sized eqb (length bytes) 5 means Change (number_at bytes 1) (Remove (number_at bytes 3)))
    -- 50 dimension mark: star
    ∷ (80 sized eqb (length bytes) 4 means Star (get_or bytes 1 0) (number_at bytes 2))
    -- 51 dimension mark: anchors
    ∷ (81 sized eqb (length bytes) 4 means Anchors (get_or bytes 1 0) (number_at bytes 2))
    -- 5b cell facet: sibling
    ∷ (91 sized eqb (length bytes) 4 means Sibling (number_at bytes 1) (get_or bytes 3 0))
    ∷ []

-- "an unknown code, a frame that stops before its fixed fields, trailing bytes, half a mark"
unfoldable pub meaning : ℕ → List Row → Frame
meaning code [] = Bad
meaning code (r ∷ rs) = cond (eqb r.code code) (cond r.fits r.frame Bad) (meaning code rs)

-- the frame of a line's bytes; an empty line reads as code 0, which is unknown
unfoldable pub frame_in : List ℕ → Frame
frame_in bytes = meaning (get_or bytes 0 0) (rows bytes)

-- the frame of a line without its end
unfoldable pub frame_of : List ℕ → Frame
frame_of line = cond (bad_line line) Bad (frame_in (bytes_of line))

-- "count, cells"; "count, then cell and facet of each"; "cell and facet"
unfoldable pub each : (ℕ → List ℕ) → List ℕ → List ℕ
each f [] = []
each f (x ∷ xs) = f x ++ each f xs

unfoldable pub counted : (ℕ → List ℕ) → List ℕ → List ℕ
counted f l = two_bytes (length l) ++ each f l

unfoldable pub cell_and_facet : ℕ → List ℕ
cell_and_facet h = two_bytes (h / 8) ++ (h % 8 ∷ [])

-- a sibling "gets one more byte", the number of the way that it runs
unfoldable pub sibling_bytes : ℕ → ℕ → List ℕ
sibling_bytes h n = cell_and_facet h ++ (n ∷ [])

-- what the program keeps: its journal has places for so many edits; the map when it began, and the dated edits that were entered since
pub record Journal : Type 0 where
  pub places : ℕ
  pub began : Map
  pub past : List Dated

-- "In the frame program its start and each accepted f0 begin one": a journal of a map with no cells
unfoldable pub begun : ℕ → ℕ → ℕ → Journal
begun places marks cells = record { places = places; began = empty (capacities marks cells); past = [] }

-- the map that the edits leave
unfoldable pub today : Journal → Map
today g = map_after g.began g.past

-- the refusal, and the bytes after it; "The program keeps at most 384 marks and 384 cells; more is refused with 1." No edit is folded.
unfoldable pub reply_to : Journal → Frame → Answer
reply_to g (Format marks cells) = answer ((1 when ltb 384 marks || ltb 384 cells) ∷ []) []
reply_to g (Change day e) = enter_answer g.began g.past 0 g.places (dated day e)
reply_to g (Star d v) = answer (star_checks (today g) d v) (counted two_bytes (star (today g) d v))
reply_to g (Anchors d v) = answer (star_checks (today g) d v) (counted cell_and_facet (anchors (today g) d v))
reply_to g (Sibling c f) =
    answer (half_checks (today g) c f) (sibling_bytes (sibling (today g) (half_of c f)) (way_number (way (today g) (half_of c f))))
reply_to g Bad = answer ((15 when true) ∷ []) []

-- the journal afterwards: an accepted format begins another, an accepted edit is entered, all else leaves it
unfoldable pub journal_after : Journal → Frame → Journal
journal_after g (Format marks cells) = cond (eqb (reply_to g (Format marks cells)).refusal 0) (begun g.places marks cells) g
journal_after g (Change day e) =
    record { places = g.places; began = g.began; past = entered g.began g.past 0 g.places (dated day e) }
journal_after g (Star d v) = g
journal_after g (Anchors d v) = g
journal_after g (Sibling c f) = g
journal_after g Bad = g

-- each byte as two digits
unfoldable pub hex : List ℕ → List ℕ
hex [] = []
hex (b ∷ bs) = get_or digits (b / 16) 0 ∷ get_or digits (b % 16) 0 ∷ hex bs

-- "00 means accepted; a refusal is its byte alone." The line of an answer.
unfoldable pub written : Answer → List ℕ
written a = hex (a.refusal ∷ a.values) ++ (10 ∷ [])

-- the output for the rest of an input, from a journal and the line read so far; "a last line without its end is 15"
unfoldable pub output_from : Journal → List ℕ → List ℕ → List ℕ
output_from g [] [] = []
output_from g (x ∷ xs) [] = written (reply_to g Bad)
output_from g line (b ∷ rest) =
    elim (eqb b 10) [
      | true ↦ written (reply_to g (frame_of line)) ++ output_from (journal_after g (frame_of line)) [] rest
      | false ↦ output_from g (line ++ (b ∷ [])) rest
    ]

-- "It starts with capacities 0 and 0." "The program's journal holds 1,000 edits." "Empty input writes nothing."
unfoldable pub output : List ℕ → List ℕ
output input = output_from (begun 1000 0 0) [] input
