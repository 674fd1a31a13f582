-- The digits of bytes, numbers and lists, and the lines made of them.
use mathlib.Core.Path.{◌≡◌, refl, sym, ap}
use mathlib.Core.List.{List, [], ◌∷◌, ◌++◌, append_assoc, append-nil}
use Prim.Native.Nat.{ℕ, ◌+◌, ◌/◌, ◌%◌, ◌<◌, ◌≤◌}
use native.Mathlib.Numerals.{add-one}
use native.Mathlib.Omega.{arith}
use lib.ListN.{length, get_or, take}
use lib.Seq.{take-suc, take_all}
use Rattle.map.specs.declared.Refusal.{Refusal}
use Rattle.std.specs.Prelude.{Result, ⊤, Ok, Err}
use Rattle.map.specs.declared.Way.{Way}
use Rattle.map.specs.Ways.{way_number}
use Rattle.map.proofs.Refusals.{number_byte}
use Rattle.map.proofs.Ways.{way_few}
use Rattle.map.specs.Says.{number_of, given, refused, verdict_says}
use Rattle.frames.specs.Frames.{digits, two_bytes, each, counted, cell_and_facet, sibling_bytes, hex, written}
use Rattle.frames.specs.Forms.{Appended}
use Rattle.frames.proofs.Append.{append_none, append_more, append_same}

pub hex_append : (a b : List ℕ) → hex (a ++ b) ≡ hex a ++ hex b
unfolding hex
hex_append [] b = refl
hex_append (x ∷ xs) b = rw (hex_append xs b)

each_append : (f : ℕ → List ℕ) (a b : List ℕ) → each f (a ++ b) ≡ each f a ++ each f b
unfolding each
each_append f [] b = refl
each_append f (x ∷ xs) b = rw (each_append f xs b, append_assoc)

each_one : (f : ℕ → List ℕ) (x : ℕ) → each f (x ∷ []) ≡ f x
unfolding each
each_one f x = append-nil (f x)

module _ {o o' o'' : List ℕ} {at p q : ℕ} where
  pub byte_done : (b x y : ℕ) → b < 256 → x ≡ get_or digits (b / 16 % 16) 0 → y ≡ get_or digits (b % 16) 0
      → Appended (x ∷ []) o at p o' → Appended (y ∷ []) o' p q o'' → Appended (hex (b ∷ [])) o at q o''
  unfolding hex
  byte_done b x y h e g f s =
      let same : b / 16 % 16 ≡ b / 16 = omega arith in
      append_same (rw (e, g, same)) (append_more (x ∷ []) (y ∷ []) f s)

  pub number_done : (n : ℕ) → Appended (hex (n / 256 % 256 ∷ [])) o at p o' → Appended (hex (n % 256 ∷ [])) o' p q o'' → Appended (hex (two_bytes n)) o at q o''
  unfolding hex two_bytes
  number_done n f s = append_more (hex (n / 256 % 256 ∷ [])) (hex (n % 256 ∷ [])) f s

  pub half_done : (h : ℕ) → Appended (hex (two_bytes (h / 8))) o at p o' → Appended (hex (h % 8 ∷ [])) o' p q o'' → Appended (hex (cell_and_facet h)) o at q o''
  unfolding cell_and_facet
  half_done h f s = append_same (sym (hex_append (two_bytes (h / 8)) (h % 8 ∷ []))) (append_more (hex (two_bytes (h / 8))) (hex (h % 8 ∷ [])) f s)

  -- a sibling's half-facet, and the byte of its way
  pub way_done : (h n b : ℕ) (x : Way) → n ≡ way_number x → b ≡ n % 256 → Appended (hex (cell_and_facet h)) o at p o' → Appended (hex (b ∷ [])) o' p q o''
      → Appended (hex (sibling_bytes h (way_number x))) o at q o''
  unfolding sibling_bytes
  way_done h n b x e byte f s =
      let same : b ≡ way_number x = omega (arith, e, byte, way_few x) in
      append_same (rw same (sym (hex_append (cell_and_facet h) (way_number x ∷ [])))) (append_more (hex (cell_and_facet h)) (hex (b ∷ [])) f s)

  pub counted_done : (g : ℕ → List ℕ) (l : List ℕ) → Appended (hex (two_bytes (length l))) o at p o' → Appended (hex (each g l)) o' p q o'' → Appended (hex (counted g l)) o at q o''
  unfolding counted
  counted_done g l f s = append_same (sym (hex_append (two_bytes (length l)) (each g l))) (append_more (hex (two_bytes (length l))) (hex (each g l)) f s)

  pub verdict_done : (v : Result ⊤ Refusal) (r : ℕ) → r ≡ (verdict_says v).refusal → Appended (hex (r ∷ [])) o at p o' → Appended (10 ∷ []) o' p q o'' → Appended (written (verdict_says v)) o at q o''
  unfolding written verdict_says given refused
  verdict_done v r e f s = append_same (rw e (line v)) (append_more (hex (r ∷ [])) (10 ∷ []) f s)
    where
      line : (v : Result ⊤ Refusal) → hex ((verdict_says v).refusal ∷ []) ++ (10 ∷ []) ≡ hex ((verdict_says v).refusal ∷ (verdict_says v).values) ++ (10 ∷ [])
      line (Ok tt) = refl
      line (Err r) = refl

  -- one more of a list
  pub each_more : (g : ℕ → List ℕ) (l : List ℕ) (i x : ℕ) → i < length l → x ≡ get_or l i 0
      → Appended (hex (each g (take i l))) o at p o' → Appended (hex (g x)) o' p q o'' → Appended (hex (each g (take (i + 1) l))) o at q o''
  each_more g l i x h e f s = append_same text (append_more (hex (each g (take i l))) (hex (g x)) f s)
    where
      text : hex (each g (take i l)) ++ hex (g x) ≡ hex (each g (take (i + 1) l))
      text =
          rw (add-one i, take-suc l i 0, ← e, each_append g (take i l) (x ∷ []), hex_append (each g (take i l)) (each g (x ∷ [])), each_one g x)

pub each_none : (g : ℕ → List ℕ) (l o : List ℕ) (at : ℕ) → Appended (hex (each g (take 0 l))) o at at o
unfolding each hex
each_none g l o at = append_none o at

pub each_all : (g : ℕ → List ℕ) (l : List ℕ) (i : ℕ) {o o' : List ℕ} {at p : ℕ} → length l ≤ i → Appended (hex (each g (take i l))) o at p o' → Appended (hex (each g l)) o at p o'
each_all g l i h f = append_same (ap (λ (k : List ℕ). hex (each g k)) (take_all i l h)) f

-- an accepted line: its byte, what is given, its end
pub given_done : (l : List ℕ) {o o' o'' o''' : List ℕ} {at p q r : ℕ}
    → Appended (hex (0 ∷ [])) o at p o' → Appended (hex l) o' p q o'' → Appended (10 ∷ []) o'' q r o''' → Appended (written (given l)) o at r o'''
unfolding written given hex
given_done l f s t = append_more (hex (0 ∷ l)) (10 ∷ []) (append_more (hex (0 ∷ [])) (hex l) f s) t

pub accepted_byte : (v : Result ⊤ Refusal) → v ≡ (Ok tt) → 0 ≡ (verdict_says v).refusal
unfolding verdict_says given
accepted_byte v e = rw e

pub refused_byte : (v : Result ⊤ Refusal) (r : Refusal) (n : ℕ) → v ≡ Err r → n ≡ number_of r → n % 256 ≡ (verdict_says v).refusal
unfolding verdict_says refused
refused_byte v r n e f = rw (e, f) (number_byte r)
