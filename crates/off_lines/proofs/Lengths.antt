-- How many bytes a text has.
use mathlib.Core.Path.{◌≡◌, refl, sym, ap, ◌∙◌}
use mathlib.Core.List.{List, [], ◌∷◌, ◌++◌}
use Prim.Native.Nat.{ℕ, zero, suc, ◌+◌, ◌-◌, ◌*◌, ◌/◌, ◌%◌, ◌<◌, ◌≤◌}
use native.Mathlib.Numerals.{add-one}
use native.Mathlib.Omega.{arith}
use borrow.Author.Tests.{lt-ltb, le-ltb}
use lib.ListN.{length, get_or, length-append}
use lib.IntN.{ℤ, pos, negsuc}
use mir.Syntax.{w16}
use mir.Val.{SFits, to_z, of_z}
use mir.ValLaws.{to_z-of_z}
use Rattle.off.specs.Numbers.{title}
use Rattle.off.specs.Writing.{digits_to, digits_of, coordinate_text, behind, line, counts_line, vertex_line, vertex_lines}
use Rattle.off.proofs.Digits.{digits_count}

-- a number's digits, counted from the last
one_digit : (more m : ℕ) → m < 10 → length (digits_to more m) ≡ 1
unfolding digits_to
one_digit zero m h = refl
one_digit (suc more) m h = rw (lt-ltb m 10 h)

more_digits : (more m : ℕ) → 10 ≤ m → 0 < more → length (digits_to more m) ≡ length (digits_to (more - 1) (m / 10)) + 1
unfolding digits_to
more_digits zero m h k = absurd (omega arith)
more_digits (suc more) m h k =
    let less : suc more - 1 ≡ more = omega arith in
    rw (le-ltb m 10 h, less) (length-append (digits_to more (m / 10)) ((48 + m % 10) ∷ []))

-- so many bytes are counted, and the digits of m are left
pub record Counting (n m more bytes : ℕ) : Type 0 where
  pub steps : bytes + more ≡ 6
  pub sum : length (digits_of n) + 1 ≡ bytes + length (digits_to more m)

pub counting_start : (n : ℕ) → Counting n n 5 1
unfolding digits_of
counting_start n = record { steps = refl; sum = omega arith }

last_digit : (m : ℕ) → length (digits_to 0 m) ≡ 1
unfolding digits_to
last_digit m = refl

module _ (n m more bytes : ℕ) (c : Counting n m more bytes) where
  pub counting_next : 10 ≤ m → 0 < more → Counting n (m / 10) (more - 1) (bytes + 1)
  counting_next h k = record { steps = omega (arith, c.steps); sum = omega (arith, c.sum, more_digits more m h k) }

  pub counting_full : more ≡ 0 → bytes ≡ length (digits_of n)
  counting_full e = let one : length (digits_to more m) ≡ 1 = rw e (last_digit m) in omega (arith, c.sum)

  pub counting_done : m < 10 → bytes ≡ length (digits_of n)
  counting_done h = omega (arith, c.sum, one_digit more m h)

-- the same, where so many bytes are counted of six at most
pub counting_on : (n m bytes : ℕ) → Counting n m (6 - bytes) bytes → 10 ≤ m → bytes < 6 → Counting n (m / 10) (6 - (bytes + 1)) (bytes + 1)
counting_on n m bytes c h k =
    let less : 6 - (bytes + 1) ≡ 6 - bytes - 1 = omega arith in
    rw less (counting_next n m (6 - bytes) bytes c h (omega arith))

pub counting_end : (n m bytes : ℕ) → Counting n m (6 - bytes) bytes → bytes ≡ 6 → 6 ≡ length (digits_of n)
counting_end n m bytes c e = sym e ∙ counting_full n m (6 - bytes) bytes c (omega arith)

number_few : (n : ℕ) → length (digits_of n) ≤ 6
unfolding digits_of
number_few n = (digits_count 5 n).1

pub number_most : (n k : ℕ) → k ≡ length (digits_of n) → k ≤ 6
number_most n k e = omega (arith, number_few n)

pub coordinate_few : (z : ℤ) → length (coordinate_text z) ≤ 7
unfolding coordinate_text
coordinate_few (pos n) = omega (arith, number_few n)
coordinate_few (negsuc n) = omega (arith, number_few (suc n))

-- lines
three_long : (a b c : List ℕ) → length (line a (b ∷ c ∷ [])) ≡ length a + length b + length c + 3
unfolding line behind
three_long a b c =
    omega (arith, length-append a (32 ∷ (b ++ (32 ∷ (c ++ (10 ∷ []))))), length-append b (32 ∷ (c ++ (10 ∷ []))), length-append c (10 ∷ []))

title_long : length (line title []) ≡ 4
unfolding line behind title
title_long = refl

zero_long : length (digits_of 0) ≡ 1
unfolding digits_of digits_to
zero_long = refl

pub head_long : (marks cells : ℕ) → 8 + length (digits_of marks) + length (digits_of cells) ≡ length (line title [] ++ counts_line marks cells)
unfolding counts_line
head_long marks cells =
    omega (arith, length-append (line title []) (line (digits_of marks) (digits_of cells ∷ digits_of 0 ∷ [])), title_long, zero_long, three_long (digits_of marks) (digits_of cells) (digits_of 0))

pub head_few : (marks cells : ℕ) → length (line title [] ++ counts_line marks cells) ≤ 20
head_few marks cells = omega (arith, head_long marks cells, number_few marks, number_few cells)

pub vertex_long : (l : List ℤ) (v : ℕ) (x y z : ℤ) (i₀ i₁ i₂ : ℕ) → x ≡ get_or l i₀ (pos 0) → SFits w16 x → i₀ ≡ 3 * v → y ≡ get_or l i₁ (pos 0) → SFits w16 y
    → i₁ ≡ 3 * v + 1 → z ≡ get_or l i₂ (pos 0) → SFits w16 z → i₂ ≡ 3 * v + 2
    → (a b c : ℕ) → a ≡ length (coordinate_text (to_z w16 (of_z w16 x))) → b ≡ length (coordinate_text (to_z w16 (of_z w16 y)))
    → c ≡ length (coordinate_text (to_z w16 (of_z w16 z))) → a + b + c + 3 ≡ length (vertex_line l v)
unfolding vertex_line
vertex_long l v x y z i₀ i₁ i₂ ex fx e₀ ey fy e₁ ez fz e₂ a b c ea eb ec =
    rw (← e₂, ← e₁, ← e₀, ← ez, ← ey, ← ex)
    (omega (arith, three_long (coordinate_text x) (coordinate_text y) (coordinate_text z), rw (to_z-of_z w16 x fx) at ea, rw (to_z-of_z w16 y fy) at eb, rw (to_z-of_z w16 z fz) at ec))

vertex_few : (l : List ℤ) (v : ℕ) → length (vertex_line l v) ≤ 24
unfolding vertex_line
vertex_few l v =
    omega (
      arith,
      three_long (coordinate_text (get_or l (3 * v) (pos 0))) (coordinate_text (get_or l (3 * v + 1) (pos 0))) (coordinate_text (get_or l (3 * v + 2) (pos 0))),
      coordinate_few (get_or l (3 * v) (pos 0)),
      coordinate_few (get_or l (3 * v + 1) (pos 0)),
      coordinate_few (get_or l (3 * v + 2) (pos 0)),
    )

pub vertices_long : (l : List ℤ) (v : ℕ) → length (vertex_lines (v + 1) l) ≡ length (vertex_lines v l) + length (vertex_line l v)
unfolding vertex_lines
vertices_long l v = rw (add-one v) (length-append (vertex_lines v l) (vertex_line l v))

pub vertices_empty : (l : List ℤ) → 0 ≡ length (vertex_lines 0 l)
unfolding vertex_lines
vertices_empty l = refl

pub vertices_few : (l : List ℤ) (v : ℕ) → length (vertex_lines v l) ≤ 24 * v
vertices_few l zero = omega (arith, vertices_empty l)
vertices_few l (suc v) = omega (arith, add-one v, ap (λ (k : ℕ). length (vertex_lines k l)) (add-one v), vertices_long l v, vertex_few l v, vertices_few l v)

-- the bytes of the first v lines
pub record Summed (l : List ℤ) (v bytes : ℕ) : Type 0 where
  pub sum : bytes ≡ length (vertex_lines v l)

pub summed_start : (l : List ℤ) → Summed l 0 0
summed_start l = record { sum = vertices_empty l }

module _ (l : List ℤ) (v bytes : ℕ) (s : Summed l v bytes) where
  pub summed_few : bytes ≤ 24 * v
  summed_few = omega (arith, s.sum, vertices_few l v)

  pub summed_next : (k : ℕ) → k ≡ length (vertex_line l v) → Summed l (v + 1) (bytes + k)
  summed_next k e = record { sum = omega (arith, s.sum, vertices_long l v) }

  pub summed_done : (n : ℕ) → v ≤ n → n ≤ v → bytes ≡ length (vertex_lines n l)
  summed_done n h k = let e : v ≡ n = omega arith in s.sum ∙ ap (λ (i : ℕ). length (vertex_lines i l)) e

pub vertex_most : (l : List ℤ) (v k : ℕ) → k ≡ length (vertex_line l v) → k ≤ 24
vertex_most l v k e = omega (arith, vertex_few l v)
