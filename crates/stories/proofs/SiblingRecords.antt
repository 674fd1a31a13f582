-- What a cell's record fixes of its siblings, in any two well-formed memories: which they are, and their ways.
use mathlib.Core.Path.{◌≡◌, refl, sym, ap, ap₂, ◌∙◌}
use mathlib.Core.Bool.{true, not}
use mathlib.Core.List.{List, [], ◌∷◌}
use Prim.Native.Nat.{ℕ, ◌+◌, ◌/◌, ◌%◌, ◌<◌}
use native.Mathlib.Decide.{dec_lt}
use native.Mathlib.Omega.{arith}
use borrow.Author.Tests.{le-leb, lt-leb}
use lib.Dec.{leb}
use lib.ListN.{get_or}
use Rattle.lists.specs.Lists.{any}
use Rattle.lists.proofs.Bools.{or_left, or_right}
use Rattle.numbers.specs.Half.{half_of}
use Rattle.numbers.proofs.Inverse.{half_cell, half_facet}
use Rattle.shapes.specs.Shapes.{facet_count}
use Rattle.shapes.specs.Sizes.{most_facets}
use Rattle.shapes.proofs.Facts.{facts}
use Rattle.store.specs.Layout.{part_words, near_at}
use Rattle.store.specs.Fields.{Sib}
use Rattle.store.specs.Slots.{InCell, read}
use Rattle.map.specs.Cells.{Map, live}
use Rattle.map.specs.Siblings.{sibling}
use Rattle.map.specs.declared.Way.{Way}
use Rattle.map.specs.Ways.{way_number, way_at, way}
use Rattle.map.specs.Answers.{Check, ◌when◌, answer, cell_checks, half_checks, sibling_answer}
use Rattle.picture.specs.Picture.{Wf}
use Rattle.ask.proofs.Words.{sibling_is, way_is}
use Rattle.stories.proofs.Records.{moot, code_fixed, word_fixed}

-- the sibling of each facet of a cell stands in its record, and the way that it runs
sibling_in_lem : {w : List ℕ} {m : Map} → Wf w m → (c : ℕ) → c < m.caps.cells → (f : ℕ) → f < facet_count (m.at c).code
    → (f < most_facets) × (read w m.caps (InCell c (Sib f)) / 4 ≡ sibling m (half_of c f))
    × (way_at (read w m.caps (InCell c (Sib f)) % 4) ≡ way m (half_of c f))
unfolding facet_count
sibling_in_lem {w} {m} wf c below f h =
    let few : f < most_facets = omega (arith, (facts (m.at c).code).facets) in (
      few,
      rw (half_cell c f (omega arith), half_facet c f (omega arith)) at (sibling_is w m.caps m refl wf c f below h),
      rw (half_cell c f (omega arith), half_facet c f (omega arith)) at (way_is w m.caps m refl wf c f below h),
    )

-- one cell number, below both capacities, with the same 16 words in the first part of both records
module _ {w w' : List ℕ} {m m' : Map} (wf : Wf w m) (wf' : Wf w' m') (c : ℕ) (below : c < m.caps.cells) (below' : c < m'.caps.cells)
    (same : (k : ℕ) → k < part_words → get_or w (near_at m.caps.marks c + k) 0 ≡ get_or w' (near_at m'.caps.marks c + k) 0) where
  -- each of its facets has the same sibling
  pub sibling_fixed : (f : ℕ) → f < facet_count (m.at c).code → sibling m (half_of c f) ≡ sibling m' (half_of c f)
  sibling_fixed f h =
      let here = sibling_in_lem wf c below f h in
      let there = sibling_in_lem wf' c below' f (rw (← code_fixed wf wf' c below below' same) h) in
      sym here.1 ∙ (ap (λ (x : ℕ). x / 4) (word_fixed wf wf' c below below' same f here.0) ∙ there.1)

  -- which runs the same way: "it is fixed by the cell's record as the sibling is"
  pub way_fixed : (f : ℕ) → f < facet_count (m.at c).code → way m (half_of c f) ≡ way m' (half_of c f)
  way_fixed f h =
      let here = sibling_in_lem wf c below f h in
      let there = sibling_in_lem wf' c below' f (rw (← code_fixed wf wf' c below below' same) h) in
      sym here.2 ∙ (ap (λ (x : ℕ). way_at (x % 4)) (word_fixed wf wf' c below below' same f here.0) ∙ there.2)

  -- the checks of a half-facet come out the same
  checks_fixed : (f : ℕ) → half_checks m c f ≡ half_checks m' c f
  unfolding half_checks cell_checks live
  checks_fixed f = rw (lt-leb m.caps.cells c below, lt-leb m'.caps.cells c below', code_fixed wf wf' c below below' same)

  -- a facet number that is too high fails one
  facet_fails : (f : ℕ) → leb (facet_count (m.at c).code) f ≡ true → any (λ (x : Check). x.fails) (half_checks m c f) ≡ true
  unfolding half_checks cell_checks ◌when◌ any
  facet_fails f e = or_right (leb m.caps.cells c) _ (or_right (not (live m c)) _ (or_left _ _ e))

  -- so the sibling query answers the same for every facet number
  pub sibling_answer_fixed : (f : ℕ) → sibling_answer m c f ≡ sibling_answer m' c f
  unfolding sibling_answer
  sibling_answer_fixed f = go (dec_lt f (facet_count (m.at c).code))
    where
      go : Dec (f < facet_count (m.at c).code) → sibling_answer m c f ≡ sibling_answer m' c f
      go (yes h) = ap₂ answer (checks_fixed f) (ap₂ (λ (n : ℕ) (x : Way). n ∷ way_number x ∷ []) (sibling_fixed f h) (way_fixed f h))
      go (no n) =
          moot (half_checks m c f) _ _ (facet_fails f (le-leb (facet_count (m.at c).code) f (omega arith)))
          ∙ ap (λ (checks : List Check). answer checks (sibling m' (half_of c f) ∷ way_number (way m' (half_of c f)) ∷ [])) (checks_fixed f)
