-- Texts read and a text written, worked by hand; each list is one claim.
use mathlib.Core.Path.{◌≡◌, refl}
use mathlib.Core.List.{List, [], ◌∷◌, map}
use Prim.Native.Nat.{ℕ}
use lib.IntN.{pos, negsuc}
use Rattle.lists.specs.Lists.{all, same}
use Rattle.off.specs.Words.{parts, begun, words_from}
use Rattle.off.specs.Numbers.{is_digit, decimal, most_digits, number_of, within, minus, coordinate_of, three_or_four, size_of, title, title_of}
use Rattle.off.specs.Reading.{Read, Got, Stop, ◌then◌, one, many, face_code, face, faces, Surface, surface, ended, read_words, reading}
use Rattle.off.specs.Writing.{digits_to, digits_of, coordinate_text, behind, line, counts_line, vertex_line, face_line, vertex_lines, face_lines, text_of}

unfoldable pub texts : List (List ℕ)
texts =
    -- a triangle and a quad, with a minus and leading zeros
    (79 ∷ 70 ∷ 70 ∷ 10 ∷ 52 ∷ 32 ∷ 50 ∷ 32 ∷ 48 ∷ 10 ∷ 48 ∷ 32 ∷ 48 ∷ 32 ∷ 48 ∷ 10 ∷ 49 ∷ 32 ∷ 48 ∷ 32 ∷ 45 ∷ 48 ∷ 10 ∷ 45 ∷ 51 ∷ 50 ∷ 55 ∷ 54 ∷ 56 ∷ 32 ∷ 51 ∷ 50 ∷ 55 ∷ 54 ∷ 55 ∷ 32 ∷ 48 ∷ 10 ∷ 48 ∷ 48 ∷ 55 ∷ 32 ∷ 49 ∷ 32 ∷ 53 ∷ 10 ∷ 51 ∷ 32 ∷ 48 ∷ 32 ∷ 49 ∷ 32 ∷ 50 ∷ 10 ∷ 52 ∷ 32 ∷ 48 ∷ 32 ∷ 49 ∷ 32 ∷ 50 ∷ 32 ∷ 51 ∷ 10 ∷ [])
    -- spaces and line ends first, last and between; edges not used
    ∷ (10 ∷ 32 ∷ 79 ∷ 70 ∷ 70 ∷ 32 ∷ 48 ∷ 32 ∷ 48 ∷ 32 ∷ 10 ∷ 32 ∷ 57 ∷ 57 ∷ 57 ∷ 57 ∷ 57 ∷ 57 ∷ 32 ∷ 10 ∷ [])
    -- a face names a mark beyond the counts: the build refuses it, not the form
    ∷ (79 ∷ 70 ∷ 70 ∷ 32 ∷ 48 ∷ 32 ∷ 49 ∷ 32 ∷ 48 ∷ 32 ∷ 51 ∷ 32 ∷ 48 ∷ 32 ∷ 49 ∷ 32 ∷ 57 ∷ 57 ∷ 57 ∷ 57 ∷ 57 ∷ 57 ∷ [])
    -- no word
    ∷ (32 ∷ 10 ∷ [])
    -- only a beginning
    ∷ (32 ∷ 79 ∷ 70 ∷ [])
    -- a word glued to the title
    ∷ (79 ∷ 70 ∷ 70 ∷ 35 ∷ 32 ∷ 48 ∷ 32 ∷ 48 ∷ 32 ∷ 48 ∷ [])
    -- a text that ends early: its length
    ∷ (79 ∷ 70 ∷ 70 ∷ 32 ∷ 57 ∷ 57 ∷ 57 ∷ 57 ∷ 57 ∷ 57 ∷ 32 ∷ 48 ∷ 32 ∷ 48 ∷ 32 ∷ 49 ∷ 32 ∷ 50 ∷ 10 ∷ [])
    -- a tab parts no words
    ∷ (79 ∷ 70 ∷ 70 ∷ 32 ∷ 48 ∷ 9 ∷ 48 ∷ 32 ∷ 48 ∷ [])
    -- a plus
    ∷ (79 ∷ 70 ∷ 70 ∷ 32 ∷ 49 ∷ 32 ∷ 48 ∷ 32 ∷ 48 ∷ 32 ∷ 43 ∷ 49 ∷ 32 ∷ 48 ∷ 32 ∷ 48 ∷ [])
    -- a minus before a count
    ∷ (79 ∷ 70 ∷ 70 ∷ 32 ∷ 45 ∷ 49 ∷ 32 ∷ 48 ∷ 32 ∷ 48 ∷ [])
    -- a seventh digit
    ∷ (79 ∷ 70 ∷ 70 ∷ 32 ∷ 48 ∷ 48 ∷ 48 ∷ 48 ∷ 48 ∷ 48 ∷ 48 ∷ 32 ∷ 48 ∷ 32 ∷ 48 ∷ [])
    -- a coordinate out of range
    ∷ (79 ∷ 70 ∷ 70 ∷ 32 ∷ 49 ∷ 32 ∷ 48 ∷ 32 ∷ 48 ∷ 32 ∷ 48 ∷ 32 ∷ 51 ∷ 50 ∷ 55 ∷ 54 ∷ 56 ∷ 32 ∷ 48 ∷ [])
    -- a coordinate out of range below
    ∷ (79 ∷ 70 ∷ 70 ∷ 32 ∷ 49 ∷ 32 ∷ 48 ∷ 32 ∷ 48 ∷ 32 ∷ 48 ∷ 32 ∷ 45 ∷ 51 ∷ 50 ∷ 55 ∷ 54 ∷ 57 ∷ 32 ∷ 48 ∷ [])
    -- a minus alone
    ∷ (79 ∷ 70 ∷ 70 ∷ 32 ∷ 49 ∷ 32 ∷ 48 ∷ 32 ∷ 48 ∷ 32 ∷ 48 ∷ 32 ∷ 45 ∷ [])
    -- a face of another size
    ∷ (79 ∷ 70 ∷ 70 ∷ 32 ∷ 48 ∷ 32 ∷ 49 ∷ 32 ∷ 48 ∷ 32 ∷ 53 ∷ 32 ∷ 48 ∷ 32 ∷ 49 ∷ 32 ∷ 50 ∷ 32 ∷ 51 ∷ 32 ∷ 52 ∷ [])
    -- a word after the last face
    ∷ (79 ∷ 70 ∷ 70 ∷ 32 ∷ 48 ∷ 32 ∷ 48 ∷ 32 ∷ 48 ∷ 32 ∷ 48 ∷ [])
    ∷ []

unfoldable pub answers : List (Read Surface)
answers =
    (Got (surface (4 ∷ 2 ∷ []) (pos 0 ∷ pos 0 ∷ pos 0 ∷ pos 1 ∷ pos 0 ∷ pos 0 ∷ negsuc 32767 ∷ pos 32767 ∷ pos 0 ∷ pos 7 ∷ pos 1 ∷ pos 5 ∷ []) (0 ∷ 2 ∷ 0 ∷ 0 ∷ 1 ∷ 2 ∷ 1 ∷ 3 ∷ 0 ∷ 0 ∷ 1 ∷ 2 ∷ 3 ∷ [])) [])
    ∷ (Got (surface (0 ∷ 0 ∷ []) [] []) [])
    ∷ (Got (surface (0 ∷ 1 ∷ []) [] (0 ∷ 2 ∷ 0 ∷ 0 ∷ 1 ∷ 999999 ∷ [])) [])
    ∷ Stop 2
    ∷ Stop 1
    ∷ Stop 0
    ∷ Stop 19
    ∷ Stop 4
    ∷ Stop 10
    ∷ Stop 4
    ∷ Stop 4
    ∷ Stop 12
    ∷ Stop 12
    ∷ Stop 12
    ∷ Stop 10
    ∷ Stop 10
    ∷ []

pub readings : map reading texts ≡ answers
unfolding texts answers all same parts begun words_from is_digit decimal most_digits number_of within minus coordinate_of three_or_four size_of title title_of ◌then◌ one many face_code face faces ended read_words reading
readings = refl

-- three marks and a triangle; numbers beyond three a mark are not written
unfoldable pub written : List ℕ
written =
    79 ∷ 70 ∷ 70 ∷ 10 ∷ 51 ∷ 32 ∷ 49 ∷ 32 ∷ 48 ∷ 10 ∷ 48 ∷ 32 ∷ 48 ∷ 32 ∷ 48 ∷ 10 ∷ 49 ∷ 50 ∷ 32 ∷ 45 ∷ 55 ∷ 32 ∷ 48 ∷ 10 ∷ 45 ∷ 51 ∷ 50 ∷ 55 ∷ 54 ∷ 56 ∷ 32 ∷ 48 ∷ 32 ∷ 49 ∷ 48 ∷ 48 ∷ 10 ∷ 51 ∷ 32 ∷ 50 ∷ 32 ∷ 49 ∷ 32 ∷ 48 ∷ 10 ∷ []

pub worked : text_of 3 (pos 0 ∷ pos 0 ∷ pos 0 ∷ pos 12 ∷ negsuc 6 ∷ pos 0 ∷ negsuc 32767 ∷ pos 0 ∷ pos 100 ∷ pos 9 ∷ []) ((2 ∷ 1 ∷ 0 ∷ []) ∷ []) ≡ written
unfolding written digits_to digits_of coordinate_text behind line counts_line vertex_line face_line vertex_lines face_lines text_of title
worked = refl
