-- Floats that hold whole numbers: a product, a sum or a difference of two such floats is the float of the whole number, up to the sign of a zero,
-- and a sum with +0 at the end makes that sign positive. `Near f x z b` says that x is the float of z, a zero of either sign, and that z is at most b in size.
-- Assumes nothing.
use mathlib.Core.Path.{◌≡◌, refl, sym, ap, ◌∙◌, subst}
use mathlib.Core.Bool.{Bool, true, false, not, cond, ◌&&◌, beq}
use Prim.Native.Nat.{ℕ, zero, suc, ◌+◌, ◌-◌, ◌*◌, ◌^◌, ◌≤◌, ◌<◌, zero-le}
use native.Mathlib.Nat.{le_trans, le_of_lt, zero-lt-suc, mul-one, mul_comm, mul_assoc, add-mul, mul-sub, mul-pos, mul-le-mul, mul-le-mul_right, mul-lt-mul_of_pos_right, mul-mul-mul_comm, zero-mul, mul-zero, add-zero, not-suc-le-zero}
use native.Mathlib.Omega.{arith}
use lib.IntN.{ℤ, pos, negsuc, neg_ℤ, ◌+ℤ◌, ◌-ℤ◌, ◌*ℤ◌, +ℤ_comm, neg_ℤ-neg_ℤ, neg_ℤ-+ℤ}
use lib.Dec.{T, eqb, ltb, le→leb, lt→ltb}
use lib.Signed.{mag}
use borrow.Author.Tests.{ne_eqb, lt-ltb, le-ltb, ltb-true, ltb-false}
use lib.Ieee.{Float, nan, inf, fin, Format, binary64, prec, emax, low, up, down, unlike, odd, units, round, neg, add, sum, sub, mul, div, of_int, in_float, of_bits}
use mir.Syntax.{w16}
use mir.Val.{SFits, to_z, of_z}
use mir.ValLaws.{to_z-of_z}
use lib.Ieee.Fits.{down_pos, round_is}
use lib.Ieee.Exact.{HasValue}
use lib.Ieee.Scale.{round_same}
use lib.Ieee.Back.{round_whole}

-- the whole number of size m, negative where s is true
abbrev pub sgn : Bool → ℕ → ℤ
sgn false m = pos m
sgn true m = neg_ℤ (pos m)

pub record Near (f : Format) (x : Float) (z : ℤ) (b : ℕ) : Type 0 where
  pub sign : Bool
  pub size : ℕ
  pub float : x ≡ round f sign size 1
  pub number : z ≡ sgn sign size
  pub bound : size ≤ b

-- ---- whole numbers

less : (a b : ℕ) → a < b → suc (b - suc a) ≡ b - a
less a b h = omega arith

nothing : (a : ℕ) → a + 0 ≡ a - 0
nothing a = omega arith

diff_lt : (a b : ℕ) → a < b → pos a +ℤ neg_ℤ (pos b) ≡ neg_ℤ (pos (b - a))
diff_lt a zero h = absurd (not-suc-le-zero h)
diff_lt a (suc b) h =
    ap (λ (c : Bool). cond c (negsuc (suc b - suc a)) (pos (a - suc b))) (lt-ltb a (suc b) h)
    ∙ ap (λ (k : ℕ). neg_ℤ (pos k)) (less a (suc b) h)

diff_ge : (a b : ℕ) → b ≤ a → pos a +ℤ neg_ℤ (pos b) ≡ pos (a - b)
diff_ge a zero h = ap pos (nothing a)
diff_ge a (suc b) h = ap (λ (c : Bool). cond c (negsuc (suc b - suc a)) (pos (a - suc b))) (le-ltb a (suc b) h)

none : (a : ℕ) → pos (a * 0) ≡ neg_ℤ (pos (a * 0))
none a = ap pos (mul-zero a) ∙ sym (ap (λ (k : ℕ). neg_ℤ (pos k)) (mul-zero a))

times : (s t : Bool) (a b : ℕ) → sgn s a *ℤ sgn t b ≡ sgn (unlike s t) (a * b)
times false false a b = refl
times false true a zero = none a
times false true a (suc b) = refl
times true false zero b = ap pos (zero-mul b) ∙ sym (ap (λ (k : ℕ). neg_ℤ (pos k)) (zero-mul b))
times true false (suc a) b = refl
times true true zero zero = refl
times true true zero (suc b) = ap (λ (k : ℕ). neg_ℤ (pos k)) (zero-mul (suc b)) ∙ sym (ap pos (zero-mul (suc b)))
times true true (suc a) zero = sym (none (suc a))
times true true (suc a) (suc b) = refl

turned : (s : Bool) (a : ℕ) → neg_ℤ (sgn s a) ≡ sgn (not s) a
turned false a = refl
turned true a = neg_ℤ-neg_ℤ (pos a)

-- ---- the machine's sum of two whole floats, on their sizes

crossed : (m e d a : ℕ) → m * 1 ≡ a * e → m * d ≡ a * (e * d)
crossed m e d a h = ap (λ (z : ℕ). z * d) (sym (mul-one m) ∙ h) ∙ mul_assoc a e d

scaled : (a b d : ℕ) → (a * d - b * d) * 1 ≡ (a - b) * d
scaled a b d =
    mul-one (a * d - b * d)
    ∙ ap (λ (z : ℕ). z - b * d) (mul_comm a d)
    ∙ ap (λ (z : ℕ). d * a - z) (mul_comm b d)
    ∙ sym (mul-sub d a b)
    ∙ mul_comm d (a - b)

ltb_scale : (a b d : ℕ) → 0 < d → ltb (a * d) (b * d) ≡ ltb a b
ltb_scale a b d p = go (ltb a b) refl
  where
    go : (c : Bool) → ltb a b ≡ c → ltb (a * d) (b * d) ≡ c
    go true e = lt-ltb (a * d) (b * d) (mul-lt-mul_of_pos_right (ltb-true a b e) p)
    go false e = le-ltb (a * d) (b * d) (mul-le-mul_right d (ltb-false a b e))

sum_scale : (f : Format) (s t : Bool) (a b d : ℕ) → 0 < d → sum f s (a * d) t (b * d) d ≡ sum f s a t b 1
unfolding sum
sum_scale f s t a b d p = λ i.
    cond (beq s t)
    (round_same f s (a * d + b * d) d (a + b) 1 p (zero-lt-suc 0) (mul-one (a * d + b * d) ∙ sym (add-mul a b d)) i)
    (cond (ltb_scale a b d p i)
    (round_same f t (b * d - a * d) d (b - a) 1 p (zero-lt-suc 0) (scaled b a d) i)
    (round_same f (s && ltb_scale b a d p i) (a * d - b * d) d (a - b) 1 p (zero-lt-suc 0) (scaled a b d) i))

add_at : (f : Format) (x y : Float) (s t : Bool) (a b : ℕ) → HasValue x s a 1 → HasValue y t b 1 → add f x y ≡ sum f s a t b 1
unfolding add
add_at f nan y s t a b h k = absurd h
add_at f (inf u) y s t a b h k = absurd h
add_at f (fin u m e) nan s t a b h k = absurd k
add_at f (fin u m e) (inf v) s t a b h k = absurd k
add_at f (fin u m e) (fin v n d) s t a b h k =
    let p : m * up e * down d ≡ a * (down e * down d) = crossed (m * up e) (down e) (down d) a h.1 in
    let q : n * up d * down e ≡ b * (down e * down d) = crossed (n * up d) (down d) (down e) b k.1 ∙ ap (λ (z : ℕ). b * z) (mul_comm (down d) (down e)) in
    (λ i. sum f (h.0 i) (p i) (k.0 i) (q i) (down e * down d)) ∙ sum_scale f s t a b (down e * down d) (mul-pos (down_pos e) (down_pos d))

mul_at : (f : Format) (x y : Float) (s t : Bool) (a b : ℕ) → HasValue x s a 1 → HasValue y t b 1 → mul f x y ≡ round f (unlike s t) (a * b) 1
unfolding mul
mul_at f nan y s t a b h k = absurd h
mul_at f (inf u) y s t a b h k = absurd h
mul_at f (fin u m e) nan s t a b h k = absurd k
mul_at f (fin u m e) (inf v) s t a b h k = absurd k
mul_at f (fin u m e) (fin v n d) s t a b h k =
    (λ i. round f (unlike (h.0 i) (k.0 i)) (m * up e * (n * up d)) (down e * down d))
    ∙ round_same f (unlike s t) (m * up e * (n * up d)) (down e * down d) (a * b) 1 (mul-pos (down_pos e) (down_pos d)) (zero-lt-suc 0)
    (mul-one (m * up e * (n * up d))
    ∙ ap (λ (z : ℕ). z * (n * up d)) (sym (mul-one (m * up e)) ∙ h.1)
    ∙ ap (λ (z : ℕ). a * down e * z) (sym (mul-one (n * up d)) ∙ k.1)
    ∙ mul-mul-mul_comm a (down e) b (down d))

div_at : (f : Format) (x y : Float) (s t : Bool) (a b : ℕ) → HasValue x s a 1 → HasValue y t (suc b) 1 → div f x y ≡ round f (unlike s t) a (suc b)
unfolding div
div_at f nan y s t a b h k = absurd h
div_at f (inf u) y s t a b h k = absurd h
div_at f (fin u m e) nan s t a b h k = absurd k
div_at f (fin u m e) (inf v) s t a b h k = absurd k
div_at f (fin u m e) (fin v n d) s t a b h k =
    ap (λ (c : Bool). cond c (cond (eqb m 0) nan (inf (unlike u v))) (round f (unlike u v) (m * up e * down d) (n * up d * down e))) (ne_eqb n 0 some)
    ∙ ((λ i. round f (unlike (h.0 i) (k.0 i)) (m * up e * down d) (n * up d * down e))
    ∙ round_same f (unlike s t) (m * up e * down d) (n * up d * down e) a (suc b) under (zero-lt-suc b) same)
  where
    above : m * up e ≡ a * down e
    above = sym (mul-one (m * up e)) ∙ h.1

    below : n * up d ≡ suc b * down d
    below = sym (mul-one (n * up d)) ∙ k.1

    under : 0 < n * up d * down e
    under = subst (λ (z : ℕ). 0 < z * down e) (sym below) (mul-pos (mul-pos (zero-lt-suc b) (down_pos d)) (down_pos e))

    some : n ≡ 0 → ⊥
    some z = not-suc-le-zero (subst (λ (y : ℕ). 0 < y) (ap (λ (y : ℕ). y * up d * down e) z ∙ (ap (λ (y : ℕ). y * down e) (zero-mul (up d)) ∙ zero-mul (down e))) under)

    same : m * up e * down d * suc b ≡ a * (n * up d * down e)
    same =
        ap (λ (z : ℕ). z * down d * suc b) above
        ∙ (mul_assoc (a * down e) (down d) (suc b)
        ∙ (mul_assoc a (down e) (down d * suc b)
        ∙ ap (λ (z : ℕ). a * z) (mul_comm (down e) (down d * suc b) ∙ ap (λ (z : ℕ). z * down e) (mul_comm (down d) (suc b) ∙ sym below))))

neg_odd : (d : ℕ) (s : Bool) (q k l : ℕ) → neg (odd d s q k l) ≡ odd d (not s) q k l
unfolding neg odd
neg_odd d s zero k l = refl
neg_odd d s (suc q) k l = refl

neg_units : (f : Format) (s : Bool) (q k : ℕ) → neg (units f s q k) ≡ units f (not s) q k
unfolding units neg
neg_units f s q k = go (ltb (q * 2 ^ k) (2 ^ (low f + suc (emax f))))
  where
    go : (b : Bool) → neg (cond b (odd (suc (prec f)) s q k (low f)) (inf s)) ≡ cond b (odd (suc (prec f)) (not s) q k (low f)) (inf (not s))
    go true = neg_odd (suc (prec f)) s q k (low f)
    go false = refl

neg_round : (f : Format) (s : Bool) (a c : ℕ) → neg (round f s a c) ≡ round f (not s) a c
neg_round f s a c = ap neg (round_is f s a c) ∙ neg_units f s _ _ ∙ sym (round_is f (not s) a c)

-- ---- the sum as a whole float

within : (a b B C : ℕ) → a ≤ B → b ≤ C → a + b ≤ B + C
within a b B C h k = omega arith

within_l : (a b B C : ℕ) → a ≤ B → a - b ≤ B + C
within_l a b B C h = omega arith

within_r : (a b B C : ℕ) → b ≤ C → b - a ≤ B + C
within_r a b B C h = omega arith

same_gone : (a b : ℕ) → a ≤ b → b ≤ a → b - a ≡ a - b
same_gone a b h k = omega arith

near_sum : (f : Format) (s t : Bool) (a b B C : ℕ) → a ≤ B → b ≤ C → Near f (sum f s a t b 1) (sgn s a +ℤ sgn t b) (B + C)
unfolding sum
near_sum f false false a b B C h k = record { sign = false; size = a + b; float = refl; number = refl; bound = within a b B C h k }
near_sum f true true a b B C h k = record { sign = true; size = a + b; float = refl; number = sym (neg_ℤ-+ℤ (pos a) (pos b)); bound = within a b B C h k }
near_sum f false true a b B C h k = go (ltb a b) refl
  where
    go : (c : Bool) → ltb a b ≡ c → Near f (cond (ltb a b) (round f true (b - a) 1) (round f false (a - b) 1)) (pos a +ℤ neg_ℤ (pos b)) (B + C)
    go true e = record { sign = true; size = b - a; float = ap (λ (c : Bool). cond c (round f true (b - a) 1) (round f false (a - b) 1)) e; number = diff_lt a b (ltb-true a b e); bound = within_r a b B C k }
    go false e = record { sign = false; size = a - b; float = ap (λ (c : Bool). cond c (round f true (b - a) 1) (round f false (a - b) 1)) e; number = diff_ge a b (ltb-false a b e); bound = within_l a b B C h }
near_sum f true false a b B C h k = go (ltb a b) (ltb b a) refl refl
  where
    go : (c d : Bool) → ltb a b ≡ c → ltb b a ≡ d → Near f (cond (ltb a b) (round f false (b - a) 1) (round f (ltb b a) (a - b) 1)) (neg_ℤ (pos a) +ℤ pos b) (B + C)
    go true d e g = record { sign = false; size = b - a; float = ap (λ (c : Bool). cond c (round f false (b - a) 1) (round f (ltb b a) (a - b) 1)) e; number = +ℤ_comm (neg_ℤ (pos a)) (pos b) ∙ diff_ge b a (le_of_lt (ltb-true a b e)); bound = within_r a b B C k }
    go false true e g = record { sign = true; size = a - b; float = ap (λ (c : Bool). cond c (round f false (b - a) 1) (round f (ltb b a) (a - b) 1)) e ∙ ap (λ (c : Bool). round f c (a - b) 1) g; number = +ℤ_comm (neg_ℤ (pos a)) (pos b) ∙ diff_lt b a (ltb-true b a g); bound = within_l a b B C h }
    go false false e g = record { sign = false; size = a - b; float = ap (λ (c : Bool). cond c (round f false (b - a) 1) (round f (ltb b a) (a - b) 1)) e ∙ ap (λ (c : Bool). round f c (a - b) 1) g; number = +ℤ_comm (neg_ℤ (pos a)) (pos b) ∙ diff_ge b a (ltb-false b a g) ∙ ap pos (same_gone a b (ltb-false b a g) (ltb-false a b e)); bound = within_l a b B C h }

-- ---- what a proof cites

valued : (f : Format) (x : Float) (z : ℤ) (b : ℕ) (n : Near f x z b) → b ≤ 2 ^ prec f → HasValue x n.sign n.size 1
valued f x z b n h = subst (λ (y : Float). HasValue y n.sign n.size 1) (sym n.float) (round_whole f n.sign n.size (le_trans n.bound h))

pub near_int : (f : Format) (z : ℤ) (b : ℕ) → mag z < b → Near f (of_int f z) z b
unfolding of_int
near_int f (pos n) b h = record { sign = false; size = n; float = refl; number = refl; bound = le_of_lt h }
near_int f (negsuc n) b h = record { sign = true; size = suc n; float = refl; number = refl; bound = h }

pub near_add : (f : Format) {x y : Float} {u v : ℤ} {B C : ℕ} → B ≤ 2 ^ prec f → C ≤ 2 ^ prec f → Near f x u B → Near f y v C → Near f (add f x y) (u +ℤ v) (B + C)
near_add f {x = x} {y = y} {u = u} {v = v} {B = B} {C = C} p q n k =
    let r = near_sum f n.sign k.sign n.size k.size B C n.bound k.bound in
    record {
      sign = r.sign;
      size = r.size;
      float = add_at f x y n.sign k.sign n.size k.size (valued f x u B n p) (valued f y v C k q) ∙ r.float;
      number = (λ i. n.number i +ℤ k.number i) ∙ r.number;
      bound = r.bound;
    }

pub near_neg : (f : Format) {x : Float} {u : ℤ} {B : ℕ} → Near f x u B → Near f (neg x) (neg_ℤ u) B
near_neg f n = record {
  sign = not n.sign;
  size = n.size;
  float = ap neg n.float ∙ neg_round f n.sign n.size 1;
  number = ap neg_ℤ n.number ∙ turned n.sign n.size;
  bound = n.bound;
}

pub near_sub : (f : Format) {x y : Float} {u v : ℤ} {B C : ℕ} → B ≤ 2 ^ prec f → C ≤ 2 ^ prec f → Near f x u B → Near f y v C → Near f (sub f x y) (u -ℤ v) (B + C)
unfolding sub
near_sub f p q n k = near_add f p q n (near_neg f k)

pub near_mul : (f : Format) {x y : Float} {u v : ℤ} {B C : ℕ} → B ≤ 2 ^ prec f → C ≤ 2 ^ prec f → Near f x u B → Near f y v C → Near f (mul f x y) (u *ℤ v) (B * C)
near_mul f {x = x} {y = y} {u = u} {v = v} {B = B} {C = C} p q n k = record {
  sign = unlike n.sign k.sign;
  size = n.size * k.size;
  float = mul_at f x y n.sign k.sign n.size k.size (valued f x u B n p) (valued f y v C k q);
  number = (λ i. n.number i *ℤ k.number i) ∙ times n.sign k.sign n.size k.size;
  bound = mul-le-mul n.bound k.bound;
}

-- a quotient is rounded once, to the float that is nearest
pub near_div : (f : Format) {x y : Float} {u : ℤ} {B : ℕ} (k : ℕ) → B ≤ 2 ^ prec f → suc k ≤ 2 ^ prec f → (n : Near f x u B) → y ≡ of_int f (pos (suc k))
    → div f x y ≡ round f n.sign n.size (suc k)
unfolding of_int
near_div f {x = x} {y = y} {u = u} {B = B} k p q n e =
    div_at f x y n.sign false n.size k (valued f x u B n p) (subst (λ (z : Float). HasValue z false (suc k) 1) (sym e) (round_whole f false (suc k) q))
    ∙ ap (λ (s : Bool). round f s n.size (suc k)) (unlike_plus n.sign)
  where
    unlike_plus : (s : Bool) → unlike s false ≡ s
    unlike_plus true = refl
    unlike_plus false = refl

sub_zero : (a : ℕ) → a - 0 ≡ a
sub_zero a = omega arith

-- with +0 added the zero is positive, and the float is the whole number's own
with_zero : (f : Format) (s : Bool) (a : ℕ) → sum f s a false 0 1 ≡ of_int f (sgn s a)
unfolding sum of_int
with_zero f false a = ap (λ (k : ℕ). round f false k 1) (add-zero a)
with_zero f true zero = refl
with_zero f true (suc a) = λ i. cond (le-ltb (suc a) 0 zero-le i) (round f false (0 - suc a) 1) (round f (lt-ltb 0 (suc a) (zero-lt-suc a) i) (sub_zero (suc a) i) 1)

pub near_exact : (f : Format) {x : Float} {u : ℤ} {B : ℕ} → B ≤ 2 ^ prec f → Near f x u B → add f x (fin false 0 (pos 0)) ≡ of_int f u
near_exact f {x = x} {u = u} {B = B} p n =
    add_at f x (fin false 0 (pos 0)) n.sign false n.size 0 (valued f x u B n p) (refl, refl)
    ∙ with_zero f n.sign n.size
    ∙ ap (of_int f) (sym n.number)

-- and nothing is rounded
in_float_lem : (f : Format) (s : Bool) (a : ℕ) → a ≤ 2 ^ prec f → T (in_float f (sgn s a))
unfolding in_float
in_float_lem f false a h = le→leb a (2 ^ prec f) h
in_float_lem f true zero h = le→leb 0 (2 ^ prec f) h
in_float_lem f true (suc a) h = lt→ltb a (2 ^ prec f) h

pub near_in : (f : Format) {x : Float} {u : ℤ} {B : ℕ} → B ≤ 2 ^ prec f → Near f x u B → T (in_float f u)
near_in f p n = subst (λ (z : ℤ). T (in_float f z)) (sym n.number) (in_float_lem f n.sign n.size (le_trans n.bound p))

-- ---- metres: signed 16-bit numbers as the machine casts them, and their differences
pub metre : (z : ℤ) → SFits w16 z → Near binary64 (of_int binary64 (to_z w16 (of_z w16 z))) z 32768
metre z h = subst (λ (y : ℤ). Near binary64 (of_int binary64 y) z 32768) (sym (to_z-of_z w16 z h)) (near_int binary64 z 32768 h.sfits)

pub zero_is : of_bits binary64 0 ≡ fin false 0 (pos 0)
unfolding of_bits
zero_is = refl

pub settled : {x : Float} {u : ℤ} {B : ℕ} → B ≤ 2 ^ 53 → Near binary64 x u B → add binary64 x (of_bits binary64 0) ≡ of_int binary64 u
settled {x = x} p n = ap (add binary64 x) zero_is ∙ near_exact binary64 p n

-- ---- why the measures add +0: at a = (0, 0), b = (-1, 0), c = (1, 0) the bare difference of products is -0
bare_zero : sub binary64 (mul binary64 (of_int binary64 (negsuc 0)) (of_int binary64 (pos 0))) (mul binary64 (of_int binary64 (pos 0)) (of_int binary64 (pos 1))) ≡ fin true 0 (pos 0)
unfolding sub mul of_int
bare_zero = refl
