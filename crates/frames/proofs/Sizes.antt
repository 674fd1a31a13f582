-- How long an answer's line is: 775 bytes hold any, a list of 128 half-facets included.
use mathlib.Core.Path.{◌≡◌, refl, sym, ◌∙◌}
use mathlib.Core.List.{List, [], ◌∷◌}
use Prim.Native.Nat.{ℕ, ◌+◌, ◌*◌, ◌≤◌}
use native.Mathlib.Nat.{zero-mul, suc-mul}
use native.Mathlib.Omega.{arith}
use lib.ListN.{length, length-append}
use Rattle.map.specs.declared.Refusal.{Refusal}
use Rattle.std.specs.Prelude.{Result, ⊤, Ok, Err}
use Rattle.map.specs.Says.{given, refused, verdict_says}
use Rattle.frames.specs.Frames.{two_bytes, each, counted, cell_and_facet, sibling_bytes, hex, written}
use Rattle.numbers.specs.Sizes.{most_around}

hex_length : (l : List ℕ) → length (hex l) ≡ 2 * length l
unfolding hex
hex_length [] = refl
hex_length (x ∷ xs) = omega (arith, hex_length xs)

each_length : (f : ℕ → List ℕ) (k : ℕ) → ((x : ℕ) → length (f x) ≡ k) → (l : List ℕ) → length (each f l) ≡ length l * k
unfolding each
each_length f k e [] = sym (zero-mul k)
each_length f k e (x ∷ xs) =
    length-append (f x) (each f xs) ∙ (rw (e x, each_length f k e xs) (omega (arith, suc-mul (length xs) k)))

written_length : (l : List ℕ) → length (written (given l)) ≡ 3 + 2 * length l
unfolding written given
written_length l = length-append (hex (0 ∷ l)) (10 ∷ []) ∙ omega (arith, hex_length (0 ∷ l))

pub verdict_length : (v : Result ⊤ Refusal) → length (written (verdict_says v)) ≡ 3
unfolding written verdict_says given refused hex
verdict_length (Ok tt) = refl
verdict_length (Err r) = refl

pub half_length : (h n : ℕ) → length (written (given (sibling_bytes h n))) ≡ 11
unfolding sibling_bytes cell_and_facet two_bytes
half_length h n = written_length (sibling_bytes h n)

counted_length : (f : ℕ → List ℕ) (k : ℕ) → ((x : ℕ) → length (f x) ≡ k) → (l : List ℕ) → length (counted f l) ≡ 2 + length l * k
unfolding counted two_bytes
counted_length f k e l = length-append (two_bytes (length l)) (each f l) ∙ omega (arith, each_length f k e l)

pub cells_length : (l : List ℕ) → length (written (given (counted two_bytes l))) ≡ 7 + 4 * length l
unfolding two_bytes
cells_length l = written_length (counted two_bytes l) ∙ omega (arith, counted_length two_bytes 2 (λ x. refl) l)

pub halves_length : (l : List ℕ) → length (written (given (counted cell_and_facet l))) ≡ 7 + 6 * length l
unfolding cell_and_facet two_bytes
halves_length l = written_length (counted cell_and_facet l) ∙ omega (arith, counted_length cell_and_facet 3 (λ x. refl) l)

-- a star and its anchors have 128 members at most
pub cells_room : (l : List ℕ) → length l ≤ most_around → length (written (given (counted two_bytes l))) ≤ 775
cells_room l h = omega (arith, cells_length l)

pub halves_room : (l : List ℕ) → length l ≤ most_around → length (written (given (counted cell_and_facet l))) ≤ 775
halves_room l h = omega (arith, halves_length l)
