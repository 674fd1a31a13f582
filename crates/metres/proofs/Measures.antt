-- The measures of points that are the floats of whole metres: each is the float of its whole-number formula, without rounding.
use mathlib.Core.Path.{◌≡◌, refl, sym, subst}
use mathlib.Core.List.{List}
use Prim.Native.Nat.{ℕ, ◌+◌, ◌*◌, ◌^◌, ◌<◌, ◌≤◌}
use native.Mathlib.Nat.{le_trans, add-le-add}
use lib.Dec.{T, lit≤}
use lib.Ieee.{Float, binary64, add, sub, mul, of_int, in_float, of_bits}
use lib.IntN.{ℤ, pos, ◌+ℤ◌, ◌-ℤ◌, ◌*ℤ◌}
use lib.ListN.{get_or}
use lib.Signed.{mag}
use mir.Syntax.{w16}
use mir.Val.{SFits, to_z, of_z}
use mir.ValLaws.{to_z-of_z}
use Rattle.metres.specs.declared.Point.{Point}
use Rattle.metres.specs.Whole.{Metres, position_of, from_to, dot, cross, squared, crossed, sixfold}
use Rattle.metres.specs.Points.{point_of, Sixteen}
use Rattle.metres.proofs.Exact.{Near, near_int, near_add, near_sub, near_mul, near_in, settled}

-- a point at a position
pub record At (p : Point) (a : Metres) : Type 0 where
  pub x : Near binary64 p.x a.x 32768
  pub y : Near binary64 p.y a.y 32768
  pub z : Near binary64 p.z a.z 32768

-- a number as it is read
pub read_back : (z : ℤ) → mag z < 32768 → (to_z w16 (of_z w16 z) ≡ z) × SFits w16 (to_z w16 (of_z w16 z))
read_back z h =
    let fits : SFits w16 z = record { sfits = h } in
    rw (to_z-of_z w16 z fits) (refl, fits)

-- three numbers read make the point of their position
pub point_made : (l : List ℤ) (v at : ℕ) (x y z : ℤ) → at ≡ 3 * v → x ≡ get_or l at (pos 0) → y ≡ get_or l (at + 1) (pos 0) → z ≡ get_or l (at + 2) (pos 0)
    → SFits w16 x → SFits w16 y → SFits w16 z
    → (record { x = of_int binary64 (to_z w16 (of_z w16 x)); y = of_int binary64 (to_z w16 (of_z w16 y)); z = of_int binary64 (to_z w16 (of_z w16 z)) } ≡ point_of (position_of l v))
    × Sixteen (position_of l v)
unfolding point_of position_of
point_made l v at x y z place ex ey ez fx fy fz =
    rw (← place, ← ex, ← ey, ← ez, to_z-of_z w16 x fx, to_z-of_z w16 y fy, to_z-of_z w16 z fz) (refl, record { x = fx; y = fy; z = fz })

pub at : {p : Point} {a : Metres} → p ≡ point_of a → Sixteen a → At p a
unfolding point_of
at {p = p} {a = a} is h = subst (λ (q : Point). At q a) (sym is) (record {
  x = near_int binary64 a.x 32768 h.x.sfits;
  y = near_int binary64 a.y 32768 h.y.sfits;
  z = near_int binary64 a.z 32768 h.z.sfits;
})

-- the three floats of an edge
record Along (p q r : Float) (u : Metres) : Type 0 where
  x : Near binary64 p u.x 65536
  y : Near binary64 q u.y 65536
  z : Near binary64 r u.z 65536

along : {p q : Point} {a b : Metres} → At p a → At q b
    → Along (sub binary64 q.x p.x) (sub binary64 q.y p.y) (sub binary64 q.z p.z) (from_to a b)
unfolding from_to
along p q = record {
  x = near_sub binary64 (lit≤ tt) (lit≤ tt) q.x p.x;
  y = near_sub binary64 (lit≤ tt) (lit≤ tt) q.y p.y;
  z = near_sub binary64 (lit≤ tt) (lit≤ tt) q.z p.z;
}

-- a measure that is not rounded
abbrev pub Exactly : Float → ℤ → Type 0
Exactly x u = (add binary64 x (of_bits binary64 0) ≡ of_int binary64 u) × T (in_float binary64 u)

exactly : {x : Float} {u : ℤ} {B : ℕ} → B ≤ 2 ^ 53 → Near binary64 x u B → Exactly x u
exactly few n = (settled few n, near_in binary64 few n)

-- two products, one taken from the other
apart : {p q r s : Float} {a b c d : ℤ} → Near binary64 p a 65536 → Near binary64 q b 65536 → Near binary64 r c 65536 → Near binary64 s d 65536
    → Near binary64 (sub binary64 (mul binary64 p q) (mul binary64 r s)) (a *ℤ b -ℤ c *ℤ d) (65536 * 65536 + 65536 * 65536)
apart p q r s = near_sub binary64 (lit≤ tt) (lit≤ tt) (near_mul binary64 (lit≤ tt) (lit≤ tt) p q) (near_mul binary64 (lit≤ tt) (lit≤ tt) r s)

-- three products added up
added : {B : ℕ} → 65536 * B ≤ 2 ^ 50 → B ≤ 2 ^ 53 → {p q r s t v : Float} {a b c d e f : ℤ} → Near binary64 p a 65536 → Near binary64 q b B → Near binary64 r c 65536
    → Near binary64 s d B → Near binary64 t e 65536 → Near binary64 v f B
    → Near binary64 (add binary64 (add binary64 (mul binary64 p q) (mul binary64 r s)) (mul binary64 t v)) (a *ℤ b +ℤ c *ℤ d +ℤ e *ℤ f) (65536 * B + 65536 * B + 65536 * B)
added {B = B} few less p q r s t v =
    let one : 65536 * B ≤ 2 ^ 53 = le_trans few (lit≤ tt) in
    let two : 65536 * B + 65536 * B ≤ 2 ^ 53 = le_trans (add-le-add few few) (lit≤ tt) in
    near_add binary64 two one
    (near_add binary64 one one (near_mul binary64 (lit≤ tt) less p q) (near_mul binary64 (lit≤ tt) less r s))
    (near_mul binary64 (lit≤ tt) less t v)

pub length_exact : {p q : Point} {a b : Metres} → At p a → At q b
    → Exactly (add binary64 (add binary64 (mul binary64 (sub binary64 q.x p.x) (sub binary64 q.x p.x))
    (mul binary64 (sub binary64 q.y p.y) (sub binary64 q.y p.y))) (mul binary64 (sub binary64 q.z p.z) (sub binary64 q.z p.z)))
    (squared (from_to a b))
unfolding squared dot
length_exact p q =
    let u = along p q in
    exactly (lit≤ tt) (added (lit≤ tt) (lit≤ tt) u.x u.x u.y u.y u.z u.z)

pub area_exact : {p q r s : Point} {a b c d : Metres} → At p a → At q b → At r c → At s d
    → Exactly (sub binary64 (mul binary64 (sub binary64 q.x p.x) (sub binary64 s.y r.y)) (mul binary64 (sub binary64 q.y p.y) (sub binary64 s.x r.x)))
    (crossed (from_to a b) (from_to c d))
unfolding crossed cross
area_exact p q r s =
    let u = along p q in
    let v = along r s in
    exactly (lit≤ tt) (apart u.x v.y u.y v.x)

pub volume_exact : {o p q r : Point} {a b c d : Metres} → At o a → At p b → At q c → At r d
    → Exactly (add binary64 (add binary64
    (mul binary64 (sub binary64 p.x o.x) (sub binary64 (mul binary64 (sub binary64 q.y o.y) (sub binary64 r.z o.z)) (mul binary64 (sub binary64 q.z o.z) (sub binary64 r.y o.y))))
    (mul binary64 (sub binary64 p.y o.y) (sub binary64 (mul binary64 (sub binary64 q.z o.z) (sub binary64 r.x o.x)) (mul binary64 (sub binary64 q.x o.x) (sub binary64 r.z o.z)))))
    (mul binary64 (sub binary64 p.z o.z) (sub binary64 (mul binary64 (sub binary64 q.x o.x) (sub binary64 r.y o.y)) (mul binary64 (sub binary64 q.y o.y) (sub binary64 r.x o.x)))))
    (sixfold (from_to a b) (from_to a c) (from_to a d))
unfolding sixfold dot cross
volume_exact o p q r =
    let u = along o p in
    let v = along o q in
    let w = along o r in
    exactly (lit≤ tt)
    (added (lit≤ tt) (lit≤ tt) u.x (apart v.y w.z v.z w.y) u.y (apart v.z w.x v.x w.z) u.z (apart v.x w.y v.y w.x))
