-- The types of cells and their facets. The numbering is that of CGNS SIDS, with places counted from 0.
use Rattle.std.specs.Prelude.{List, [], ◌∷◌, ℕ, get_or, length}

-- a type: its dimension, its count of marks, and for each facet the places of its corners among the marks
pub record Shape : Type 0 where
  pub dimension : ℕ
  pub marks : ℕ
  pub facets : List (List ℕ)

-- a code that is not in the table has no marks and no facets
unfoldable pub no_shape : Shape
no_shape = record { dimension = 0; marks = 0; facets = [] }

-- "BAR_2: (0) (1). This row is ours."
abbrev pub bar : Shape
bar = record { dimension = 1; marks = 2; facets = (0 ∷ []) ∷ (1 ∷ []) ∷ [] }

-- "TRI_3: (0,1) (1,2) (2,0)."
abbrev pub tri : Shape
tri = record { dimension = 2; marks = 3; facets = (0 ∷ 1 ∷ []) ∷ (1 ∷ 2 ∷ []) ∷ (2 ∷ 0 ∷ []) ∷ [] }

-- "QUAD_4: (0,1) (1,2) (2,3) (3,0)."
abbrev pub quad : Shape
quad = record { dimension = 2; marks = 4; facets = (0 ∷ 1 ∷ []) ∷ (1 ∷ 2 ∷ []) ∷ (2 ∷ 3 ∷ []) ∷ (3 ∷ 0 ∷ []) ∷ [] }

-- "TETRA_4: (0,2,1) (0,1,3) (1,2,3) (2,0,3)."
abbrev pub tetra : Shape
tetra = record { dimension = 3; marks = 4; facets = (0 ∷ 2 ∷ 1 ∷ []) ∷ (0 ∷ 1 ∷ 3 ∷ []) ∷ (1 ∷ 2 ∷ 3 ∷ []) ∷ (2 ∷ 0 ∷ 3 ∷ []) ∷ [] }

-- "PYRA_5: (0,3,2,1) (0,1,4) (1,2,4) (2,3,4) (3,0,4)."
abbrev pub pyra : Shape
pyra =
    record {
      dimension = 3;
      marks = 5;
      facets = (0 ∷ 3 ∷ 2 ∷ 1 ∷ []) ∷ (0 ∷ 1 ∷ 4 ∷ []) ∷ (1 ∷ 2 ∷ 4 ∷ []) ∷ (2 ∷ 3 ∷ 4 ∷ []) ∷ (3 ∷ 0 ∷ 4 ∷ []) ∷ [];
    }

-- "PENTA_6: (0,1,4,3) (1,2,5,4) (2,0,3,5) (0,2,1) (3,4,5)."
abbrev pub penta : Shape
penta =
    record {
      dimension = 3;
      marks = 6;
      facets = (0 ∷ 1 ∷ 4 ∷ 3 ∷ []) ∷ (1 ∷ 2 ∷ 5 ∷ 4 ∷ []) ∷ (2 ∷ 0 ∷ 3 ∷ 5 ∷ []) ∷ (0 ∷ 2 ∷ 1 ∷ []) ∷ (3 ∷ 4 ∷ 5 ∷ []) ∷ [];
    }

-- "HEXA_8: (0,3,2,1) (0,1,5,4) (1,2,6,5) (2,3,7,6) (0,4,7,3) (4,5,6,7)."
abbrev pub hexa : Shape
hexa =
    record {
      dimension = 3;
      marks = 8;
      facets = (0 ∷ 3 ∷ 2 ∷ 1 ∷ []) ∷ (0 ∷ 1 ∷ 5 ∷ 4 ∷ []) ∷ (1 ∷ 2 ∷ 6 ∷ 5 ∷ []) ∷ (2 ∷ 3 ∷ 7 ∷ 6 ∷ []) ∷ (0 ∷ 4 ∷ 7 ∷ 3 ∷ []) ∷ (4 ∷ 5 ∷ 6 ∷ 7 ∷ []) ∷ [];
    }

-- the table by type code; code 0 is no type
unfoldable pub shapes : List Shape
shapes = no_shape ∷ bar ∷ tri ∷ quad ∷ tetra ∷ pyra ∷ penta ∷ hexa ∷ []

unfoldable pub shape : ℕ → Shape
shape t = get_or shapes t no_shape

unfoldable pub facet_count : ℕ → ℕ
facet_count t = length (shape t).facets

-- the places of one facet's corners
unfoldable pub places : ℕ → ℕ → List ℕ
places t f = get_or (shape t).facets f []
