-- The facets at a corner: the table, the digits, and what they are on the picture of a settled state.
use mathlib.Core.Path.{◌≡◌, refl, sym, ap, ◌∙◌}
use mathlib.Core.Bool.{Bool, true, false, cond, ◌&&◌}
use mathlib.Core.List.{List, [], map}
use Prim.Native.Nat.{ℕ, zero, suc, ◌+◌, ◌*◌, ◌/◌, ◌%◌, ◌^◌, ◌<◌, ◌≤◌}
use native.Mathlib.Nat.{not-suc-le-zero}
use native.Mathlib.Decide.{dec_lt}
use native.Mathlib.Omega.{arith}
use borrow.Author.Tests.{eq-eqb, ne_eqb, eqb-true, lt-ltb, le-ltb}
use lib.Dec.{eqb}
use lib.ListN.{get_or, length, get_or-map}
use Rattle.lists.specs.Lists.{has, all, first}
use Rattle.lists.proofs.Below.{all_below, below_at}
use Rattle.lists.proofs.Bools.{same_test}
use Rattle.lists.proofs.Members.{all_get, at_has, once}
use Rattle.lists.proofs.Alike.{map_at}
use Rattle.lists.proofs.Order.{first_select}
use Rattle.lists.proofs.Counts.{select_empty}
use Rattle.numbers.specs.Half.{cut, half_of}
use Rattle.numbers.specs.declared.Caps.{Caps}
use Rattle.shapes.specs.Shapes.{Shape, no_shape, shapes, shape}
use Rattle.shapes.specs.Facts.{facet_at}
use Rattle.shapes.specs.Sizes.{most_marks, most_facets, no_facet, codes}
use Rattle.shapes.proofs.Facts.{facts}
use Rattle.shapes.proofs.Read.{no_code}
use Rattle.map.specs.Cells.{Map, facets_at}
use Rattle.map.specs.Sound.{Sound}
use Rattle.laws.proofs.Anchors.{facet_mark}
use Rattle.store.specs.Slots.{code_in}
use Rattle.border.specs.Borders.{wanted_in}
use Rattle.border.specs.Corners.{bits_of, bit_at, corner_bits, bytes_of, corner_row, star_bits, facet_at_in, half_at_in}

-- the rows by type
pub row_at : (n t r : ℕ) → t ≡ n → r ≡ corner_row (shape n) → r ≡ corner_row (shape t)
row_at n t r e q = rw e q

pub past : (n t : ℕ) → n ≤ t → (t ≡ n → ⊥) → suc n ≤ t
past n t l f = omega arith

pub row_none : (t : ℕ) → (0 < t → codes ≤ t) → 0 ≡ corner_row (shape t)
unfolding corner_row bytes_of corner_bits bits_of shape shapes no_shape has
row_none t f = go (dec_lt t codes) (dec_lt 0 t)
  where
    go : Dec (t < codes) → Dec (0 < t) → 0 ≡ corner_row (shape t)
    go (yes l) (yes k) = absurd (omega (arith, f k))
    go (yes l) (no g) = let z : t ≡ 0 = omega arith in rw z
    go (no g) k = rw (no_code t (omega arith))

-- a byte of a row: one test over the whole table
byte : Shape → ℕ → ℕ
byte s k = corner_row s / 2 ^ (8 * k) % 256

table_test : all (λ (s : Shape). all_below most_marks (λ k. eqb (byte s k) (corner_bits s k))) shapes ≡ true
unfolding byte all all_below corner_row bytes_of corner_bits bits_of shapes no_shape has
table_test = refl

empty_test : all_below most_marks (λ k. eqb (byte no_shape k) (corner_bits no_shape k)) ≡ true
unfolding byte all_below corner_row bytes_of corner_bits bits_of no_shape has
empty_test = refl

pub corner_byte : (t k : ℕ) → k < most_marks → corner_row (shape t) / 2 ^ (8 * k) % 256 ≡ corner_bits (shape t) k
unfolding byte shape
corner_byte t k h =
    eqb-true _ _
    (below_at most_marks (λ k. eqb (byte (shape t) k) (corner_bits (shape t) k))
    (all_get (λ (s : Shape). all_below most_marks (λ k. eqb (byte s k) (corner_bits s k))) shapes no_shape t table_test empty_test) k h)

-- the digits
digit_here : (b : Bool) (x : ℕ) → eqb ((cond b 1 0 + 2 * x) % 2) 1 ≡ b
digit_here true x = eq-eqb ((1 + 2 * x) % 2) 1 (omega arith)
digit_here false x = ne_eqb ((0 + 2 * x) % 2) 1 (λ e. omega arith)

digit_on : (b : Bool) (x : ℕ) → (cond b 1 0 + 2 * x) / 2 ≡ x
digit_on true x = omega arith
digit_on false x = omega arith

pub bits_at : (n : ℕ) (p : ℕ → Bool) (f : ℕ) → f < n → bit_at (bits_of n p) f ≡ p f
unfolding bit_at bits_of
bits_at zero p f h = absurd (not-suc-le-zero h)
bits_at (suc n) p zero h = digit_here (p 0) (bits_of n (λ f. p (suc f)))
bits_at (suc n) p (suc f) h =
    rw (digit_on (p 0) (bits_of n (λ f. p (suc f)))) (bits_at n (λ f. p (suc f)) f (omega arith))

-- 0 has none
pub bit_zero : (f : ℕ) → bit_at 0 f ≡ false
unfolding bit_at
bit_zero zero = refl
bit_zero (suc f) = bit_zero f

-- one digit after the other
pub bit_none : (left : ℕ) → left % 2 ≡ 0 → bit_at left 0 ≡ false
unfolding bit_at
bit_none left e = ne_eqb (left % 2) 1 (λ q. omega arith)

pub bit_one : (left : ℕ) → (left % 2 ≡ 0 → ⊥) → bit_at left 0 ≡ true
unfolding bit_at
bit_one left f = eq-eqb (left % 2) 1 (omega (arith, f))

-- left has the digits of bits from f on
abbrev pub From : ℕ → ℕ → ℕ → Type 0
From bits f left = (j : ℕ) → bit_at left j ≡ bit_at bits (f + j)

pub from_start : (bits : ℕ) → From bits 0 bits
from_start bits j = let e : 0 + j ≡ j = omega arith in rw e

pub from_more : (bits f left : ℕ) → From bits f left → From bits (f + 1) (left / 2)
unfolding bit_at
from_more bits f left a j = let e : f + 1 + j ≡ f + suc j = omega arith in rw e (a (suc j))

pub from_here : (bits f left : ℕ) → From bits f left → bit_at left 0 ≡ bit_at bits f
from_here bits f left a = let e : f + 0 ≡ f = omega arith in rw e at (a 0)

-- a facet picked
module _ (w : List ℕ) (caps : Caps) (c f left : ℕ) (only : Bool) where
  pub picked_not : left % 2 ≡ 0 → false ≡ bit_at left 0 && wanted_in w caps c f only
  picked_not e = rw (bit_none left e)

  pub picked_wanted : (left % 2 ≡ 0 → ⊥) → (r : Bool) → r ≡ wanted_in w caps c f only → r ≡ bit_at left 0 && wanted_in w caps c f only
  picked_wanted g r q = rw (bit_one left g) q

-- the first of them
module _ (w : List ℕ) (caps : Caps) (c bits : ℕ) (only : Bool) where
  abbrev pub picks : ℕ → Bool
  picks f = bit_at bits f && wanted_in w caps c f only

  pub pick_here : (f left : ℕ) (b : Bool) → From bits f left → b ≡ bit_at left 0 && wanted_in w caps c f only → b ≡ picks f
  pick_here f left b a e = rw (from_here bits f left a) at e

  pub facet_found : (f : ℕ) → ((k : ℕ) → k < f → picks k ≡ false) → picks f ≡ true → f < most_facets → f ≡ facet_at_in w caps c bits only
  unfolding facet_at_in
  facet_found f before e h = sym (first_select no_facet picks most_facets f h e before)

  pub facet_none : (f : ℕ) → ((k : ℕ) → k < f → picks k ≡ false) → f ≡ most_facets → no_facet ≡ facet_at_in w caps c bits only
  unfolding facet_at_in first
  facet_none f before e = rw (select_empty picks most_facets (rw e at before))

  pub half_found : (f h : ℕ) → f ≡ facet_at_in w caps c bits only → f < no_facet → h ≡ half_of (cut c) (f % 8) → h + 1 ≡ half_at_in w caps c bits only
  unfolding half_at_in
  half_found f h e l q = rw (← e, lt-ltb f no_facet l, q)

  pub half_none : (f : ℕ) → f ≡ facet_at_in w caps c bits only → no_facet ≤ f → 0 ≡ half_at_in w caps c bits only
  unfolding half_at_in
  half_none f e l = rw (← e, le-ltb f no_facet l)

  pub half_blank : bits ≡ 0 → 0 ≡ half_at_in w caps c bits only
  half_blank e = half_none no_facet (facet_none most_facets (λ k h. rw (e, bit_zero k)) refl) (omega arith)

-- what is found stays
pub earlier_none : (found x r : ℕ) → found ≡ 0 → r ≡ x → r ≡ cond (eqb found 0) x found
earlier_none found x r e q = rw (eq-eqb found 0 e) q

pub earlier_some : (found x : ℕ) → (found ≡ 0 → ⊥) → found ≡ cond (eqb found 0) x found
earlier_some found x f = rw (ne_eqb found 0 f)

-- by the record
module _ (w : List ℕ) (caps : Caps) (d c k t e : ℕ) (code : t ≡ code_in w caps c) (dim : e ≡ (shape t).dimension) where
  pub star_bits_not : (e ≡ d → ⊥) → 0 ≡ star_bits w caps d c k
  unfolding star_bits
  star_bits_not f = rw (← code, ← dim, ne_eqb e d f)

  pub star_bits_here : (r : ℕ) → e ≡ d → r ≡ corner_bits (shape t) (k % most_marks) → r ≡ star_bits w caps d c k
  unfolding star_bits shape
  star_bits_here r q z = rw (← code, ← dim, eq-eqb e d q) z

-- the facets of a cell at its corner hold the mark that stands there, and no other facet does
module _ (m : Map) (o : Sound m) (c k : ℕ) (hk : k < length (m.at c).marks) where
  abbrev v : ℕ
  v = get_or (m.at c).marks k 0

  corner_back : (f : ℕ) → has v (get_or (facets_at m c) f []) ≡ true → has k (facet_at (shape (m.at c).code) f) ≡ true
  unfolding facets_at
  corner_back f e =
      let mark : ℕ → ℕ = λ p. get_or (m.at c).marks p 0 in
      let ps : List ℕ = facet_at (shape (m.at c).code) f in
      let r = map_at mark ps v (sym (ap (has v) (get_or-map (map mark) (shape (m.at c).code).facets f [])) ∙ e) in
      let same : get_or ps r.0 0 ≡ k =
      once (m.at c).marks (o.distinct c) (get_or ps r.0 0) k
      (rw (o.fitting c) ((facts (m.at c).code).inside f r.0 r.1)) hk r.2 in
      rw same at (at_has ps r.0 r.1)

  pub corner_bit : (f : ℕ) → f < most_facets → bit_at (corner_bits (shape (m.at c).code) k) f ≡ has v (get_or (facets_at m c) f [])
  unfolding corner_bits
  corner_bit f h =
      bits_at most_facets (λ f. has k (facet_at (shape (m.at c).code) f)) f h ∙ same_test _ _ (facet_mark m c f k) (corner_back f)
