-- What the words of well-formed memory are, where the queries read them.
use mathlib.Core.Path.{◌≡◌, ◌∙◌}
use Prim.Native.Nat.{ℕ, ◌/◌, ◌%◌, ◌<◌, ◌≤◌}
use native.Mathlib.Omega.{arith}
use lib.ListN.{length, length-map}
use mathlib.Core.List.{List}
use Rattle.numbers.specs.Half.{cut, half_of}
use Rattle.numbers.proofs.Inverse.{half_cell, half_facet as facet-part, half_uncut}
use Rattle.shapes.proofs.Facts.{facts}
use Rattle.shapes.proofs.Types.{type_code}
use Rattle.shapes.specs.Shapes.{shape, facet_count}
use Rattle.numbers.specs.declared.Caps.{Caps}
use Rattle.store.specs.Fields.{Count, Anchor}
use Rattle.store.specs.Slots.{InHead, InMark, read, sibling_in, way_in}
use Rattle.map.specs.Cells.{Map, facets_at, cells_of}
use Rattle.map.specs.Siblings.{Half, sibling}
use Rattle.map.specs.Ways.{way}
use Rattle.map.specs.Stars.{anchors}
use Rattle.laws.proofs.Anchors.{half_facet}
use Rattle.laws.proofs.Halves.{half_live}
use Rattle.picture.specs.State.{next, state_of}
use Rattle.picture.specs.Picture.{Wf}
use Rattle.picture.proofs.Record.{count_read, anchor_read, sib_read, way_read}
use Rattle.picture.proofs.Settles.{wf_pic}
use Rattle.checks.proofs.Rows.{marks_of_lem, cells_of_lem}
use Rattle.shapes.specs.Sizes.{most_facets}

module _ (w : List ℕ) (caps : Caps) (m : Map) (e : m.caps ≡ caps) (wf : Wf w m) where
  module _ (c f : ℕ) (hc : c < m.caps.cells) (hf : f < facet_count (m.at c).code) where
    facet_below : f < length (facets_at m c)
    unfolding facet_count facets_at
    facet_below = rw length-map hf

    facet_few : f < most_facets
    unfolding facet_count
    facet_few = omega (arith, (facts (m.at c).code).facets)

    -- the number is that of a live half-facet
    pub half_is : Half m (half_of c f)
    unfolding half_of
    half_is = half_live m wf.sound (half_of c f) (half_facet m c f facet_below).1

    -- nothing of it is cut off
    pub uncut_is : half_of (cut c) (f % 8) ≡ half_of c f
    uncut_is = half_uncut c f (omega (arith, wf.picture.cells)) (omega (arith, facet_few))

    -- the word of a half-facet tells its sibling and the way that it runs
    cell_below : half_of c f / 8 < caps.cells
    cell_below = omega (arith, half_cell c f (omega (arith, facet_few)), cells_of_lem caps m e)

    facet_low : half_of c f % 8 < most_facets
    facet_low = omega (arith, facet-part c f (omega (arith, facet_few)), facet_few)

    pub sibling_is : sibling_in w caps (half_of c f) ≡ sibling m (half_of c f)
    unfolding state_of
    sibling_is = sib_read w caps (state_of m) (wf_pic w caps m e wf) (half_of c f) cell_below facet_low ∙ rw half_is.facet

    pub way_is : way_in w caps (half_of c f) ≡ way m (half_of c f)
    unfolding state_of
    way_is = way_read w caps (state_of m) (wf_pic w caps m e wf) (half_of c f) cell_below facet_low ∙ rw half_is.facet

  -- the word of a mark is its first anchor
  pub anchor_is : (d v : ℕ) → 1 ≤ d → d ≤ 3 → v < m.caps.marks → read w caps (InMark v (Anchor d)) ≡ next (anchors m d v)
  unfolding state_of
  anchor_is d v low high hv = anchor_read w caps (state_of m) (wf_pic w caps m e wf) d v (omega (arith, marks_of_lem caps m e)) low high

  -- the word of a type is its count
  pub count_is : (t : ℕ) → ((shape t).dimension ≡ 0 → ⊥) → read w caps (InHead (Count t)) ≡ length (cells_of m t)
  unfolding state_of
  count_is t some =
      let code = type_code t (omega (arith, some)) in
      count_read w caps (state_of m) (wf_pic w caps m e wf) t code.0 code.1
