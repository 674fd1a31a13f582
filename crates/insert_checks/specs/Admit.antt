-- What the last three checks of an insert ask.
use Rattle.std.specs.Prelude.{◌≡◌, Bool, false, ◌&&◌, List, ℕ, ◌<◌, eqb, leb, get_or, length}
use Rattle.lists.specs.Lists.{any, same_set}
use Rattle.shapes.specs.Shapes.{shape}
use Rattle.numbers.specs.declared.Caps.{Caps}
use Rattle.store.specs.Fields.{Held}
use Rattle.store.specs.Slots.{InMark, read, code_in}
use Rattle.facet.specs.Facet.{marks_in}
use Rattle.map.specs.Cells.{Map, cells_of}
use Rattle.map.specs.Siblings.{sharers}
use Rattle.picture.specs.Picture.{Wf}
use Rattle.numbers.specs.Sizes.{most_around}

-- the cell's record is of the type, with the same set of marks
unfoldable pub same_in : List ℕ → Caps → ℕ → List ℕ → ℕ → Bool
same_in w caps t marks c = eqb (code_in w caps c) t && same_set (marks_in w caps c) marks

-- the mark's count is full
unfoldable pub full_in : List ℕ → Caps → ℕ → Bool
full_in w caps v = leb most_around (read w caps (InMark v Held))

-- a live cell of that type has the same set of marks
pub record Same (w : List ℕ) (caps : Caps) (t : ℕ) (marks : List ℕ) (r : Bool) : Type 0 where
  pub tells : (m : Map) → m.caps ≡ caps → Wf w m → 0 < (shape t).dimension → length marks ≡ (shape t).marks
      → get_or marks 0 0 < caps.marks → r ≡ any (λ k. same_set (m.at k).marks marks) (cells_of m t)

-- a face has two half-facets already
unfoldable pub full_face : Map → List ℕ → Bool
full_face m face = leb 2 (length (sharers m face))

-- what is known of the cell by then: as many marks as its type says, each one of the mesh
pub record Known (caps : Caps) (t : ℕ) (marks : List ℕ) : Type 0 where
  pub count : length marks ≡ (shape t).marks
  pub inside : any (leb caps.marks) marks ≡ false

-- what a check tells of each map whose memory this is
pub record Tells (w : List ℕ) (caps : Caps) (ok : Type 0) (test : Map → Bool) (r : Bool) : Type 0 where
  pub tells : (m : Map) → m.caps ≡ caps → Wf w m → ok → r ≡ test m
