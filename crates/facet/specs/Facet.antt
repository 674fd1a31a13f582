-- The facets of a cell, as its record and the table of types give them: defined on any memory and any table.
use Rattle.std.specs.Prelude.{List, [], ℕ, suc, min, get_or, length}
use Rattle.std.specs.Borrow.{Bor}
use Rattle.lists.specs.Lists.{same_set, select, first, list_of}
use Rattle.words.specs.Words.{part_of, Part}
use Rattle.shapes.specs.Shapes.{shape, facet_count}
use Rattle.shapes.specs.Sizes.{no_facet, most_corners}
use Rattle.shapes.specs.Table.{entry}
use Rattle.numbers.specs.declared.Caps.{Caps}
use Rattle.store.specs.Slots.{code_in, marks_at}
use Rattle.map.specs.Cells.{Map, facets_at}

-- the marks of a cell, as many as its type has
unfoldable pub marks_in : List ℕ → Caps → ℕ → List ℕ
marks_in w caps c = part_of w (marks_at caps c (shape (code_in w caps c)).marks) (shape (code_in w caps c)).marks

-- as the very part of memory that stores them
pub record MarksAt (w : Bor (List ℕ)) (caps : Caps) (c : ℕ) (r : Bor (List ℕ)) : Type 0 where
  pub part : Part w (marks_at caps c (shape (code_in w.now caps c)).marks) (shape (code_in w.now caps c)).marks r

-- the marks of a facet of a type, four at most
unfoldable pub set_mark : List (List (List ℕ)) → ℕ → ℕ → List ℕ → ℕ → ℕ
set_mark rows t f marks k = get_or marks (entry rows t f (suc k)) 0

unfoldable pub set_in : List (List (List ℕ)) → ℕ → ℕ → List ℕ → List ℕ
set_in rows t f marks = list_of (min most_corners (entry rows t f 0)) (set_mark rows t f marks)

-- and of a facet of a cell
abbrev pub facet_in : List ℕ → Caps → List (List (List ℕ)) → ℕ → ℕ → List ℕ
facet_in w caps rows c f = set_in rows (code_in w caps c) f (marks_in w caps c)

-- the first facet of the cell with this set of marks; 8 where there is none
unfoldable pub match_in : List ℕ → Caps → List (List (List ℕ)) → ℕ → List ℕ → ℕ
match_in w caps rows c set = first no_facet (select (λ f. same_set set (facet_in w caps rows c f)) (facet_count (code_in w caps c)))

-- and by the map
unfoldable pub match_at : Map → List ℕ → ℕ → ℕ
match_at m set c = first no_facet (select (λ f. same_set set (get_or (facets_at m c) f [])) (length (facets_at m c)))
