-- What holds of the facets of every type.
use Rattle.std.specs.Prelude.{◌≡◌, true, false, List, [], ◌∷◌, ℕ, ◌<◌, ◌≤◌, get_or, length}
use Rattle.lists.specs.Lists.{has, any, repeats, same_set}
use Rattle.shapes.specs.Shapes.{Shape}
use Rattle.shapes.specs.Sizes.{most_marks, most_facets, most_corners}

-- the dimension of the cells whose facets have so many corners
unfoldable pub dimension_of : ℕ → ℕ
dimension_of corners = get_or (0 ∷ 1 ∷ 2 ∷ 3 ∷ 3 ∷ []) corners 0

abbrev pub facet_at : Shape → ℕ → List ℕ
facet_at s f = get_or s.facets f []

pub record Facts (s : Shape) : Type 0 where
  -- at most six facets of at most four corners, at most eight marks
  pub facets : length s.facets ≤ most_facets
  pub corners : (f : ℕ) → length (facet_at s f) ≤ most_corners
  -- each facet has a corner
  pub some : (f : ℕ) → f < length s.facets → 0 < length (facet_at s f)
  pub marks : s.marks ≤ most_marks
  -- each place of a facet is a place of the type's marks
  pub inside : (f k : ℕ) → k < length (facet_at s f) → get_or (facet_at s f) k 0 < s.marks
  -- a facet's places are distinct
  pub distinct : (f : ℕ) → repeats (facet_at s f) ≡ false
  -- a facet's size tells the dimension
  pub size : (f : ℕ) → f < length s.facets → dimension_of (length (facet_at s f)) ≡ s.dimension
  -- each corner is in some facet
  pub corner : (place : ℕ) → place < s.marks → any (has place) s.facets ≡ true
  -- no two facets have one set of places
  pub differ : (f g : ℕ) → f < length s.facets → g < length s.facets → same_set (facet_at s f) (facet_at s g) ≡ true → f ≡ g
