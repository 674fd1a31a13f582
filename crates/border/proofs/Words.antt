-- On the picture of a settled state the sibling words are the siblings, and so they tell the borders.
use mathlib.Core.Path.{◌≡◌, refl, sym, ap, ◌∙◌}
use mathlib.Core.Bool.{Bool, true, false, not}
use mathlib.Core.List.{List, []}
use Prim.Native.Nat.{ℕ, ◌+◌, ◌*◌, ◌/◌, ◌%◌, ◌<◌}
use native.Mathlib.Decide.{dec_lt}
use native.Mathlib.Omega.{arith}
use borrow.Author.Tests.{ltb-true, eq-eqb, eqb-true}
use lib.Dec.{eqb}
use lib.ListN.{length, get_or, get_or-eq_default}
use Rattle.lists.specs.Lists.{has}
use Rattle.lists.proofs.Bools.{clash, same_test}
use Rattle.numbers.specs.Half.{cut, half_of}
use Rattle.numbers.specs.declared.Caps.{Caps}
use Rattle.shapes.specs.Sizes.{no_facet, most_facets}
use Rattle.shapes.proofs.Facts.{facts}
use Rattle.store.specs.Slots.{sibling_in}
use Rattle.map.specs.Cells.{Map, facets_at}
use Rattle.map.specs.Siblings.{is_half, Half, sibling, border}
use Rattle.laws.proofs.Cycles.{border_self, self_border}
use Rattle.laws.proofs.Facets.{facets_count}
use Rattle.picture.specs.State.{State, map_with}
use Rattle.picture.specs.Picture.{Pic}
use Rattle.picture.specs.Ready.{Settled}
use Rattle.picture.proofs.Record.{sib_read}
use Rattle.border.specs.Borders.{border_in, wanted_in}

-- a facet that holds a mark is a facet of the cell
pub facet_there : (m : Map) (c f v : ℕ) → has v (get_or (facets_at m c) f []) ≡ true → f < length (facets_at m c)
unfolding has
facet_there m c f v e = go (dec_lt f (length (facets_at m c)))
  where
    go : Dec (f < length (facets_at m c)) → f < length (facets_at m c)
    go (yes h) = h
    go (no g) = absurd (clash (sym (ap (has v) (get_or-eq_default (facets_at m c) [] (omega arith))) ∙ e) refl)

module _ (w : List ℕ) (caps : Caps) (s : State) (p : Pic w caps s) (t : Settled caps s) where
  abbrev m : Map
  m = map_with caps s

  pub sib_is : (h : ℕ) → Half m h → sibling_in w caps h ≡ sibling m h
  unfolding is_half map_with
  sib_is h x =
      let few : h % 8 < most_facets = omega (arith, ltb-true (h % 8) (length (facets_at m (h / 8))) x.facet, facets_count m (h / 8), (facts (m.at (h / 8)).code).facets) in
      let below : h / 8 < caps.cells = omega (arith, x.below) in
      sib_read w caps s p h below few ∙ t.siblings h x.facet

  -- a half-facet whose word is its own number is a border
  pub border_read : (c f : ℕ) → c < caps.cells → f < no_facet → Half m (8 * c + f) → border_in w caps c f ≡ border m (8 * c + f)
  unfolding border_in half_of
  border_read c f hc hf x =
      let local : f % 8 ≡ f = omega arith in
      let uncut : cut c ≡ c = omega (arith, p.cells) in
      rw (local, uncut, sib_is (8 * c + f) x)
      (same_test _ _ (λ q. self_border m (8 * c + f) x (eqb-true _ _ q)) (λ b. eq-eqb _ _ (border_self m (8 * c + f) x b)))

-- by the words alone
pub alone_is : (w : List ℕ) (caps : Caps) (c f x h : ℕ) → x ≡ sibling_in w caps h → h ≡ half_of (cut c) (f % 8)
    → eqb x h ≡ border_in w caps c f
unfolding border_in
alone_is w caps c f x h e g = rw (e, g)

module _ (w : List ℕ) (caps : Caps) (c f : ℕ) (only : Bool) where
  pub wanted_any : not only ≡ true → true ≡ wanted_in w caps c f only
  unfolding wanted_in
  wanted_any e = rw e

  pub wanted_border : (r : Bool) → not only ≡ false → r ≡ border_in w caps c f → r ≡ wanted_in w caps c f only
  unfolding wanted_in
  wanted_border r e q = rw e q

pub not_false : (b : Bool) → not b ≡ false → b ≡ true
not_false true e = refl
not_false false e = absurd (clash refl e)
