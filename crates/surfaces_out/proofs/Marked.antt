-- The line of a face, mark by mark: its bytes and how many they are.
use mathlib.Core.Path.{◌≡◌, refl, sym, ap, ◌∙◌}
use mathlib.Core.Bool.{Bool, true, false, cond}
use mathlib.Core.List.{List, [], ◌∷◌, ◌++◌, append_assoc, append-nil, map}
use Prim.Native.Nat.{ℕ, ◌+◌, ◌*◌, ◌≤◌}
use native.Mathlib.Numerals.{add-one}
use native.Mathlib.Omega.{arith}
use borrow.Author.Tests.{eq-eqb, ne_eqb}
use lib.Dec.{eqb}
use lib.ListN.{length, length-append}
use Rattle.lists.specs.Lists.{list_of}
use Rattle.lists.proofs.Fill.{length_list_of}
use Rattle.numbers.specs.declared.Caps.{Caps}
use Rattle.shapes.specs.Shapes.{shape}
use Rattle.shapes.proofs.Facts.{facts}
use Rattle.store.specs.Slots.{code_in, corner_in}
use Rattle.frames.specs.Forms.{Appended}
use Rattle.frames.proofs.Append.{append_none, append_more, append_same}
use Rattle.off.specs.Writing.{digits_of, behind, line, face_line}
use Rattle.off_lines.proofs.Lengths.{number_most}
use Rattle.surfaces_out.specs.InMemory.{corners_in, line_in}

-- the marks, each behind a space
unfoldable pub spaced : List ℕ → List ℕ
spaced [] = []
spaced (v ∷ vs) = 32 ∷ (digits_of v ++ spaced vs)

spaced_behind : (l : List ℕ) → behind (map digits_of l) ≡ spaced l ++ (10 ∷ [])
unfolding behind spaced
spaced_behind [] = refl
spaced_behind (v ∷ vs) =
    ap (λ (l : List ℕ). 32 ∷ l) (ap (λ (l : List ℕ). digits_of v ++ l) (spaced_behind vs) ∙ sym (append_assoc (digits_of v) (spaced vs) (10 ∷ [])))

spaced_more : (l : List ℕ) (v : ℕ) → spaced (l ++ (v ∷ [])) ≡ spaced l ++ (32 ∷ digits_of v)
unfolding spaced
spaced_more [] v = ap (λ (l : List ℕ). 32 ∷ l) (append-nil (digits_of v))
spaced_more (u ∷ us) v =
    ap (λ (l : List ℕ). 32 ∷ l) (ap (λ (l : List ℕ). digits_of u ++ l) (spaced_more us v) ∙ sym (append_assoc (digits_of u) (spaced us) (32 ∷ digits_of v)))

face_text : (n : ℕ) (l : List ℕ) → line (digits_of n) (map digits_of l) ≡ digits_of n ++ (spaced l ++ (10 ∷ []))
unfolding line
face_text n l = ap (λ (k : List ℕ). digits_of n ++ k) (spaced_behind l)

list_next : (f : ℕ → ℕ) (k : ℕ) → list_of (k + 1) f ≡ list_of k f ++ (f k ∷ [])
unfolding list_of
list_next f k = rw (add-one k)

module _ (f : ℕ → ℕ) where
  pub marks_none : (o : List ℕ) (at : ℕ) → Appended (spaced (list_of 0 f)) o at at o
  unfolding spaced list_of
  marks_none o at = append_none o at

  pub marks_more : {o o₁ o₂ o₃ : List ℕ} {at p q r : ℕ} (k v : ℕ) → v ≡ f k → Appended (spaced (list_of k f)) o at p o₁ → Appended (32 ∷ []) o₁ p q o₂
      → Appended (digits_of v) o₂ q r o₃ → Appended (spaced (list_of (k + 1) f)) o at r o₃
  marks_more k v e a b c =
      append_same (ap (λ (u : ℕ). spaced (list_of k f) ++ (32 ∷ digits_of u)) e ∙ sym (ap spaced (list_next f k) ∙ spaced_more (list_of k f) (f k)))
      (append_more (spaced (list_of k f)) (32 ∷ digits_of v) a (append_more (32 ∷ []) (digits_of v) b c))

  pub marks_ended : {o o₁ o₂ o₃ : List ℕ} {at p q r : ℕ} (n k : ℕ) → k ≤ n → n ≤ k → Appended (digits_of n) o at p o₁ → Appended (spaced (list_of k f)) o₁ p q o₂
      → Appended (10 ∷ []) o₂ q r o₃ → Appended (line (digits_of n) (map digits_of (list_of n f))) o at r o₃
  marks_ended n k h l a b c =
      let e : k ≡ n = omega arith in
      append_same (ap (λ (i : ℕ). digits_of n ++ (spaced (list_of i f) ++ (10 ∷ []))) e ∙ sym (face_text n (list_of n f)))
      (append_more (digits_of n) (spaced (list_of k f) ++ (10 ∷ [])) a (append_more (spaced (list_of k f)) (10 ∷ []) b c))

-- the bytes of a line
number_few : (n : ℕ) → length (digits_of n) ≤ 6
number_few n = number_most n (length (digits_of n)) refl

spaced_few : (l : List ℕ) → length (spaced l) ≤ 7 * length l
unfolding spaced
spaced_few [] = omega arith
spaced_few (v ∷ vs) = omega (arith, spaced_few vs, length-append (digits_of v) (spaced vs), number_few v)

face_long : (n : ℕ) (l : List ℕ) → length (line (digits_of n) (map digits_of l)) ≡ length (digits_of n) + length (spaced l) + 1
face_long n l = omega (arith, ap length (face_text n l), length-append (digits_of n) (spaced l ++ (10 ∷ [])), length-append (spaced l) (10 ∷ []))

pub record FaceBytes (f : ℕ → ℕ) (n k bytes : ℕ) : Type 0 where
  pub sum : bytes ≡ length (digits_of n) + length (spaced (list_of k f))

none_long : (f : ℕ → ℕ) → length (spaced (list_of 0 f)) ≡ 0
unfolding spaced list_of
none_long f = refl

pub bytes_start : (f : ℕ → ℕ) (n b : ℕ) → b ≡ length (digits_of n) → FaceBytes f n 0 b
bytes_start f n b e = record { sum = omega (arith, none_long f) }

module _ (f : ℕ → ℕ) (n k bytes : ℕ) (s : FaceBytes f n k bytes) where
  pub bytes_few : bytes ≤ 6 + 7 * k
  bytes_few = omega (arith, s.sum, number_few n, spaced_few (list_of k f), length_list_of k f)

  pub bytes_next : (v b : ℕ) → v ≡ f k → b ≡ length (digits_of v) → FaceBytes f n (k + 1) (bytes + (1 + b))
  bytes_next v b e h =
      let q : length (digits_of v) ≡ length (digits_of (f k)) = ap (λ (u : ℕ). length (digits_of u)) e in
      record {
        sum = omega (arith, s.sum, ap length (ap spaced (list_next f k) ∙ spaced_more (list_of k f) (f k)), length-append (spaced (list_of k f)) (32 ∷ digits_of (f k)));
      }

  pub bytes_done : k ≤ n → n ≤ k → bytes + 1 ≡ length (line (digits_of n) (map digits_of (list_of n f)))
  bytes_done h l =
      let e : k ≡ n = omega arith in
      omega (arith, s.sum, face_long n (list_of n f), ap (λ (i : ℕ). length (spaced (list_of i f))) e)

-- the line of a cell, by its type
module _ (w : List ℕ) (caps : Caps) (c t : ℕ) (e : t ≡ code_in w caps c) where
  pub line_none : t ≡ 0 → [] ≡ line_in w caps c
  unfolding line_in
  line_none z = rw (← e, eq-eqb t 0 z)

  pub line_some : (t ≡ 0 → ⊥) → (n : ℕ) → n ≡ (shape t).marks → line (digits_of n) (map digits_of (list_of n (corner_in w caps c))) ≡ line_in w caps c
  unfolding line_in face_line corners_in
  line_some f n q =
      rw (← e, ne_eqb t 0 f, ← q, length_list_of n (corner_in w caps c))

  pub none_written : {o : List ℕ} {at : ℕ} → t ≡ 0 → Appended (line_in w caps c) o at at o
  none_written z = append_same (line_none z) (append_none _ _)

  pub some_written : {o o' : List ℕ} {at r : ℕ} → (t ≡ 0 → ⊥) → (n : ℕ) → n ≡ (shape t).marks
      → Appended (line (digits_of n) (map digits_of (list_of n (corner_in w caps c)))) o at r o' → Appended (line_in w caps c) o at r o'
  some_written f n q a = append_same (line_some f n q) a

  pub none_long_line : t ≡ 0 → 0 ≡ length (line_in w caps c)
  none_long_line z = ap length (line_none z)

-- no line is long
eight : (w : List ℕ) (caps : Caps) (c : ℕ) → length (corners_in w caps c) ≤ 8
unfolding corners_in
eight w caps c = omega (arith, length_list_of (shape (code_in w caps c)).marks (corner_in w caps c), (facts (code_in w caps c)).marks)

long : (l : List ℕ) → length l ≤ 8 → length (face_line l) ≤ 64
unfolding face_line
long l h = omega (arith, face_long (length l) l, number_few (length l), spaced_few l)

pub line_few : (w : List ℕ) (caps : Caps) (c : ℕ) → length (line_in w caps c) ≤ 64
unfolding line_in
line_few w caps c = go (eqb (code_in w caps c) 0)
  where
    go : (b : Bool) → length (cond b [] (face_line (corners_in w caps c))) ≤ 64
    go true = omega arith
    go false = long (corners_in w caps c) (eight w caps c)
