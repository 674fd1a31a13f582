-- A line's bytes and numbers, as the code reads them.
use mathlib.Core.Path.{◌≡◌, refl, sym, ap, ◌∙◌}
use mathlib.Core.Bool.{Bool, true, false}
use mathlib.Core.List.{List, [], ◌∷◌, ◌++◌}
use mathlib.Core.Logic.{⊎_elim}
use Prim.Native.Nat.{ℕ, zero, suc, ◌+◌, ◌-◌, ◌*◌, ◌/◌, ◌%◌, ◌<◌, ◌≤◌}
use native.Mathlib.Decide.{dec_lt}
use native.Mathlib.Nat.{eq-or-lt_of_le}
use native.Mathlib.Numerals.{add-one}
use native.Mathlib.Omega.{arith}
use borrow.Author.Tests.{lt-ltb, le-ltb, le-leb, leb-true, eq-eqb, ne_eqb}
use lib.Dec.{leb}
use lib.ListN.{length, get_or, set, get_or-eq_default, get_or-append}
use lib.Seq.{sets, get_or_at}
use Rattle.lists.specs.Lists.{any, list_of}
use Rattle.lists.proofs.Bools.{either}
use Rattle.lists.proofs.Members.{any_at, at_any}
use Rattle.lists.proofs.Fill.{length_list_of}
use Rattle.frames.specs.Frames.{digit_of, bad_line, byte_at, bytes_of, number_at, marks_from}
use Rattle.frames.specs.Forms.{Marked}
use Rattle.frames.proofs.Digits.{byte_most}

-- what stands at a place of a list made place by place
list_at : (n : ℕ) (f : ℕ → ℕ) (k : ℕ) → k < n → get_or (list_of n f) k 0 ≡ f k
unfolding list_of
list_at zero f k h = absurd (omega arith)
list_at (suc n) f k h = ⊎_elim last (λ less. before less (list_at n f k less)) (eq-or-lt_of_le (omega arith))
  where
    last : k ≡ n → get_or (list_of n f ++ (f n ∷ [])) k 0 ≡ f k
    last e = rw e (get_or_at (list_of n f) (f n) [] 0 n (length_list_of n f))

    before : k < n → get_or (list_of n f) k 0 ≡ f k → get_or (list_of n f ++ (f n ∷ [])) k 0 ≡ f k
    before less e = get_or-append (list_of n f) (f n ∷ []) 0 k (omega (arith, length_list_of n f)) ∙ e

module _ (line : List ℕ) where
  pub bytes_length : length (bytes_of line) ≡ length line / 2
  unfolding bytes_of
  bytes_length = length_list_of (length line / 2) (byte_at line)

  pub byte_here : (k a b : ℕ) → k < length line / 2 → a ≡ digit_of (get_or line (2 * k) 0) → b ≡ digit_of (get_or line (2 * k + 1) 0)
      → 16 * a + b ≡ get_or (bytes_of line) k 0
  unfolding bytes_of byte_at
  byte_here k a b h e g = rw (e, g) (sym (list_at (length line / 2) (byte_at line) k h))

  pub byte_past : (k : ℕ) → length line / 2 ≤ k → 0 ≡ get_or (bytes_of line) k 0
  byte_past k h = sym (get_or-eq_default (bytes_of line) 0 {n = k} (omega (arith, bytes_length)))

  pub byte_small : (k : ℕ) → get_or (bytes_of line) k 0 ≤ 272
  unfolding bytes_of
  byte_small k = go (dec_lt k (length line / 2))
    where
      go : Dec (k < length line / 2) → get_or (bytes_of line) k 0 ≤ 272
      go (yes h) = rw (list_at (length line / 2) (byte_at line) k h) (byte_most line k)
      go (no f) = omega (arith, byte_past k (omega arith))

  pub number_past : (k : ℕ) → length line ≤ k → 0 ≡ number_at (bytes_of line) k
  unfolding number_at
  number_past k h = rw (← byte_past k (omega arith), ← byte_past (k + 1) (omega arith))

  pub number_here : (k a b : ℕ) → a ≡ get_or (bytes_of line) k 0 → b ≡ get_or (bytes_of line) (k + 1) 0 → 256 * a + b ≡ number_at (bytes_of line) k
  unfolding number_at
  number_here k a b e g = rw (e, g)

  pub bad_long : 64 < length line → true ≡ bad_line line
  unfolding bad_line
  bad_long h = rw (lt-ltb 64 (length line) h)

  pub bad_odd : length line ≤ 64 → length line % 2 ≡ 1 → true ≡ bad_line line
  unfolding bad_line
  bad_odd h e = rw (le-ltb 64 (length line) h, eq-eqb (length line % 2) 1 e)

  pub bad_rest : length line ≤ 64 → (length line % 2 ≡ 1 → ⊥) → any (λ b. leb 16 (digit_of b)) line ≡ bad_line line
  unfolding bad_line
  bad_rest h f = rw (le-ltb 64 (length line) h, ne_eqb (length line % 2) 1 f)

-- whether a character is no digit, by the places
pub no_digits : (line : List ℕ) (r : Bool) → (r ≡ true → (k : ℕ) × (k < length line) × (16 ≤ digit_of (get_or line k 0)))
    → (r ≡ false → (k : ℕ) → k < length line → digit_of (get_or line k 0) < 16) → r ≡ any (λ b. leb 16 (digit_of b)) line
no_digits line true some none =
    let found = some refl in
    sym (at_any (λ b. leb 16 (digit_of b)) line 0 found.0 found.1 (le-leb 16 (digit_of (get_or line found.0 0)) found.2))
no_digits line false some none = ⊎_elim (λ e. absurd (never e)) sym (either (any (λ b. leb 16 (digit_of b)) line))
  where
    never : any (λ b. leb 16 (digit_of b)) line ≡ true → ⊥
    never e =
        let found = any_at (λ b. leb 16 (digit_of b)) line 0 e in
        omega (arith, none refl found.0 found.1, leb-true 16 (digit_of (get_or line found.0 0)) found.2)

-- numbers stored place by place
sets_snoc : (l o : List ℕ) (at x : ℕ) → sets o at (l ++ (x ∷ [])) ≡ set (sets o at l) (at + length l) x
sets_snoc [] o at x = ap (λ (k : ℕ). set o k x) (omega arith)
sets_snoc (y ∷ ys) o at x = sets_snoc ys (set o at y) (suc at) x ∙ ap (λ (k : ℕ). set (sets (set o at y) (suc at) ys) k x) (omega arith)

module _ (f : ℕ → ℕ) (o : List ℕ) where
  pub store_start : o ≡ sets o 0 (list_of 0 f)
  unfolding list_of
  store_start = refl

  pub store_more : (i x : ℕ) (o' o'' : List ℕ) → o' ≡ sets o 0 (list_of i f) → o'' ≡ set o' i x → x ≡ f i → o'' ≡ sets o 0 (list_of (i + 1) f)
  unfolding list_of
  store_more i x o' o'' e g h =
      rw (g, e, h, add-one i)
      (sym (sets_snoc (list_of i f) o 0 (f i) ∙ ap (λ (k : ℕ). set (sets o 0 (list_of i f)) k (f i)) (omega (arith, length_list_of i f))))

-- a mark of an insert
unfoldable pub mark_at : List ℕ → ℕ → ℕ
mark_at line i = number_at (bytes_of line) (6 + 2 * i)

module _ (line o : List ℕ) where
  pub marks_none : length line / 2 < 6 → Marked (marks_from (bytes_of line)) o 0 o
  unfolding marks_from list_of
  marks_none h =
      let e : (length (bytes_of line) - 6) / 2 ≡ 0 = omega (arith, bytes_length line) in
      record { count = rw e; words = rw e }

  pub marks_all : (i n : ℕ) (o' : List ℕ) → n ≡ (length line / 2 - 6) / 2 → i ≤ n → n ≤ i → o' ≡ sets o 0 (list_of i (mark_at line)) → Marked (marks_from (bytes_of line)) o n o'
  unfolding marks_from mark_at
  marks_all i n o' e a b g =
      let same : i ≡ n = omega arith in
      let size : (length (bytes_of line) - 6) / 2 ≡ n = omega (arith, bytes_length line) in
      record { count = rw size (sym (length_list_of n (mark_at line))); words = rw size (rw same at g) }
