-- A half-facet is one of a live cell, and has a mark.
use mathlib.Core.Path.{◌≡◌, ap}
use mathlib.Core.Bool.{true}
use mathlib.Core.Logic.{⊎_elim}
use Prim.Native.Nat.{ℕ, ◌/◌, ◌%◌}
use native.Mathlib.Omega.{arith}
use borrow.Author.Tests.{ltb-true}
use lib.ListN.{get_or, length}
use Rattle.lists.specs.Lists.{has}
use Rattle.lists.proofs.Bools.{either}
use Rattle.lists.proofs.Members.{at_has}
use Rattle.map.specs.Cells.{Map, live, facets_at}
use Rattle.map.specs.Siblings.{is_half, marks_of}
use Rattle.map.specs.Sound.{Sound}
use Rattle.laws.proofs.Halves.{none_facets}
use Rattle.laws.proofs.Facets.{facet_some}

-- a half-facet is one of a live cell
pub half_alive : (m : Map) → Sound m → (h : ℕ) → is_half m h ≡ true → live m (h / 8) ≡ true
unfolding is_half
half_alive m s h e =
    ⊎_elim (λ l. l)
    (λ d. absurd (omega (arith, ltb-true (h % 8) (length (facets_at m (h / 8))) e, ap length (none_facets m (h / 8) (s.dead (h / 8) d)))))
    (either (live m (h / 8)))

-- and has a mark
pub half_mark : (m : Map) → Sound m → (h : ℕ) → is_half m h ≡ true → has (get_or (marks_of m h) 0 0) (marks_of m h) ≡ true
unfolding is_half marks_of
half_mark m s h e = at_has (marks_of m h) 0 (facet_some m (h / 8) (h % 8) (ltb-true _ _ e))
