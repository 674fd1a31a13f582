-- On the picture of a state the record of a cell gives its marks and the facets of the definitions.
use mathlib.Core.Path.{◌≡◌, sym, ap, ◌∙◌}
use mathlib.Core.Bool.{Bool}
use mathlib.Core.List.{List, [], map}
use Prim.Native.Nat.{ℕ, ◌<◌}
use native.Mathlib.Omega.{arith}
use lib.ListN.{length, get_or, length-map}
use Rattle.lists.specs.Lists.{same_set, first, select}
use Rattle.lists.proofs.Select.{select_same}
use Rattle.shapes.specs.Shapes.{shape, facet_count}
use Rattle.shapes.specs.Table.{table}
use Rattle.shapes.proofs.Facts.{facts}
use Rattle.numbers.specs.declared.Caps.{Caps}
use Rattle.store.specs.Slots.{code_in}
use Rattle.map.specs.Cells.{facets_at}
use Rattle.picture.specs.State.{State, map_with}
use Rattle.picture.specs.Picture.{Pic}
use Rattle.picture.proofs.Record.{code_read, marks_read}
use Rattle.facet.specs.Facet.{marks_in, facet_in, match_in, match_at}
use Rattle.facet.proofs.Sets.{set_is}
use Rattle.shapes.specs.Sizes.{no_facet}

module _
    (w : List ℕ) (caps : Caps) (s : State) (p : Pic w caps s) (c : ℕ) (h : c < caps.cells) (fits : length (s.at c).marks ≡ (shape (s.at c).code).marks)
  where
    pub marks_is : marks_in w caps c ≡ (s.at c).marks
    unfolding marks_in
    marks_is = rw (code_read w caps s p c h, ← fits) (marks_read w caps s p c h (omega (arith, fits, (facts (s.at c).code).marks)))

    -- past the last facet both are empty
    pub facet_read : (f : ℕ) → facet_in w caps table c f ≡ get_or (facets_at (map_with caps s) c) f []
    unfolding facets_at map_with
    facet_read f = rw (code_read w caps s p c h, marks_is) (set_is (s.at c).code f (s.at c).marks)

    size : length (facets_at (map_with caps s) c) ≡ length (shape (s.at c).code).facets
    unfolding facets_at map_with
    size = length-map (shape (s.at c).code).facets (map (λ place. get_or (s.at c).marks place 0))

    pub match_read : (set : List ℕ) → match_in w caps table c set ≡ match_at (map_with caps s) set c
    unfolding match_in match_at facet_count
    match_read set =
        ap (first no_facet)
        (select_same _ test (facet_count (code_in w caps c)) (λ f l. ap (same_set set) (facet_read f)) ∙ ap (select test) count)
      where
        test : ℕ → Bool
        test f = same_set set (get_or (facets_at (map_with caps s) c) f [])

        count : facet_count (code_in w caps c) ≡ length (facets_at (map_with caps s) c)
        count = ap facet_count (code_read w caps s p c h) ∙ sym size
