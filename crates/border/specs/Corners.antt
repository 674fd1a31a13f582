-- The facets of a cell at one of its corners, as a number: facet f counts 2 to the f.
use Rattle.std.specs.Prelude.{◌≡◌, Bool, true, cond, ◌&&◌, List, ◌⊎◌, ℕ, zero, suc, ◌+◌, ◌*◌, ◌/◌, ◌%◌, ◌<◌, eqb, ltb}
use Rattle.lists.specs.Lists.{has, select, first}
use Rattle.numbers.specs.Half.{cut, half_of}
use Rattle.numbers.specs.declared.Caps.{Caps}
use Rattle.shapes.specs.Shapes.{Shape, shape}
use Rattle.shapes.specs.Facts.{facet_at}
use Rattle.shapes.specs.Sizes.{most_marks, most_facets, no_facet}
use Rattle.store.specs.Slots.{code_in, corner_in}
use Rattle.border.specs.Borders.{wanted_in}

-- the numbers below n that pass, each as 2 to it; and whether one of them is there
unfoldable pub bits_of : ℕ → (ℕ → Bool) → ℕ
bits_of zero p = 0
bits_of (suc n) p = cond (p 0) 1 0 + 2 * bits_of n (λ f. p (suc f))

unfoldable pub bit_at : ℕ → ℕ → Bool
bit_at bits zero = eqb (bits % 2) 1
bit_at bits (suc f) = bit_at (bits / 2) f

-- the facets of a type that hold a corner
unfoldable pub corner_bits : Shape → ℕ → ℕ
corner_bits s k = bits_of most_facets (λ f. has k (facet_at s f))

-- of each corner of a type, a byte for each
unfoldable pub bytes_of : ℕ → (ℕ → ℕ) → ℕ
bytes_of zero f = 0
bytes_of (suc n) f = f 0 + 256 * bytes_of n (λ k. f (suc k))

unfoldable pub corner_row : Shape → ℕ
corner_row s = bytes_of most_marks (corner_bits s)

-- those of a cell at a corner, by its record; none of a cell of another dimension
unfoldable pub star_bits : List ℕ → Caps → ℕ → ℕ → ℕ → ℕ
star_bits w caps d c k = cond (eqb (shape (code_in w caps c)).dimension d) (corner_bits (shape (code_in w caps c)) (k % most_marks)) 0

-- the first of them that is wanted; 8 where there is none
unfoldable pub facet_at_in : List ℕ → Caps → ℕ → ℕ → Bool → ℕ
facet_at_in w caps c bits only = first no_facet (select (λ f. bit_at bits f && wanted_in w caps c f only) most_facets)

-- and its half-facet as number + 1; 0 where there is none
unfoldable pub half_at_in : List ℕ → Caps → ℕ → ℕ → Bool → ℕ
half_at_in w caps c bits only =
    cond (ltb (facet_at_in w caps c bits only) no_facet) (half_of (cut c) (facet_at_in w caps c bits only % 8) + 1) 0

-- the first corner of a cell that is the mark
unfoldable pub corner_of : List ℕ → Caps → ℕ → ℕ → ℕ
corner_of w caps c v = first 0 (select (λ k. eqb (corner_in w caps c k) v) most_marks)

-- one facet, or another of them
pub record Other (bits g r : ℕ) : Type 0 where
  pub one : (r ≡ g) ⊎ ((r < most_facets) × (bit_at bits r ≡ true))

-- what is found, or facet f, whose digit is the last of left
pub record Better (found f left r : ℕ) : Type 0 where
  pub one : (r ≡ found) ⊎ ((r ≡ f) × (bit_at left 0 ≡ true))
