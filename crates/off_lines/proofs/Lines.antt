-- Lines appended, word by word.
use mathlib.Core.Path.{◌≡◌}
use mathlib.Core.List.{List, [], ◌∷◌, ◌++◌}
use Prim.Native.Nat.{ℕ, ◌+◌, ◌*◌, ◌≤◌}
use native.Mathlib.Numerals.{add-one}
use native.Mathlib.Omega.{arith}
use lib.ListN.{get_or}
use lib.IntN.{ℤ, pos}
use mir.Syntax.{w16}
use mir.Val.{SFits, to_z, of_z}
use mir.ValLaws.{to_z-of_z}
use Rattle.frames.specs.Forms.{Appended}
use Rattle.frames.proofs.Append.{append_none, append_more}
use Rattle.off.specs.Numbers.{title}
use Rattle.off.specs.Writing.{digits_of, coordinate_text, behind, line, counts_line, vertex_line, vertex_lines}

module _ {o o₁ o₂ o₃ o₄ o₅ o₆ : List ℕ} {at p₁ p₂ p₃ p₄ p₅ p₆ : ℕ} where
  -- three words
  three_words : (a b c : List ℕ) → Appended a o at p₁ o₁ → Appended (32 ∷ []) o₁ p₁ p₂ o₂ → Appended b o₂ p₂ p₃ o₃ → Appended (32 ∷ []) o₃ p₃ p₄ o₄
      → Appended c o₄ p₄ p₅ o₅ → Appended (10 ∷ []) o₅ p₅ p₆ o₆ → Appended (line a (b ∷ c ∷ [])) o at p₆ o₆
  unfolding line behind
  three_words a b c f g h i j k =
      append_more a (32 ∷ (b ++ (32 ∷ (c ++ (10 ∷ []))))) f
      (append_more (32 ∷ []) (b ++ (32 ∷ (c ++ (10 ∷ [])))) g
      (append_more b (32 ∷ (c ++ (10 ∷ []))) h (append_more (32 ∷ []) (c ++ (10 ∷ [])) i (append_more c (10 ∷ []) j k))))

  pub counts_written : (marks cells : ℕ) → Appended (digits_of marks) o at p₁ o₁ → Appended (32 ∷ []) o₁ p₁ p₂ o₂ → Appended (digits_of cells) o₂ p₂ p₃ o₃
      → Appended (32 ∷ []) o₃ p₃ p₄ o₄ → Appended (digits_of 0) o₄ p₄ p₅ o₅ → Appended (10 ∷ []) o₅ p₅ p₆ o₆ → Appended (counts_line marks cells) o at p₆ o₆
  unfolding counts_line
  counts_written marks cells f g h i j k = three_words (digits_of marks) (digits_of cells) (digits_of 0) f g h i j k

  pub vertex_written : (l : List ℤ) (v : ℕ) (x y z : ℤ) (i₀ i₁ i₂ : ℕ) → x ≡ get_or l i₀ (pos 0) → SFits w16 x → i₀ ≡ 3 * v → y ≡ get_or l i₁ (pos 0) → SFits w16 y
      → i₁ ≡ 3 * v + 1 → z ≡ get_or l i₂ (pos 0) → SFits w16 z → i₂ ≡ 3 * v + 2
      → Appended (coordinate_text (to_z w16 (of_z w16 x))) o at p₁ o₁ → Appended (32 ∷ []) o₁ p₁ p₂ o₂ → Appended (coordinate_text (to_z w16 (of_z w16 y))) o₂ p₂ p₃ o₃
      → Appended (32 ∷ []) o₃ p₃ p₄ o₄ → Appended (coordinate_text (to_z w16 (of_z w16 z))) o₄ p₄ p₅ o₅ → Appended (10 ∷ []) o₅ p₅ p₆ o₆ → Appended (vertex_line l v) o at p₆ o₆
  unfolding vertex_line
  vertex_written l v x y z i₀ i₁ i₂ ex fx e₀ ey fy e₁ ez fz e₂ f g h i j k =
      rw (← e₂, ← e₁, ← e₀, ← ez, ← ey, ← ex)
      (three_words (coordinate_text x) (coordinate_text y) (coordinate_text z) (rw (to_z-of_z w16 x fx) at f) g (rw (to_z-of_z w16 y fy) at h) i (rw (to_z-of_z w16 z fz) at j) k)

pub title_written : {o o₁ o₂ o₃ o₄ : List ℕ} {at p₁ p₂ p₃ p₄ : ℕ} → Appended (79 ∷ []) o at p₁ o₁ → Appended (70 ∷ []) o₁ p₁ p₂ o₂ → Appended (70 ∷ []) o₂ p₂ p₃ o₃
    → Appended (10 ∷ []) o₃ p₃ p₄ o₄ → Appended (line title []) o at p₄ o₄
unfolding line behind title
title_written f g h i =
    append_more (79 ∷ []) (70 ∷ 70 ∷ 10 ∷ []) f (append_more (70 ∷ []) (70 ∷ 10 ∷ []) g (append_more (70 ∷ []) (10 ∷ []) h i))

pub vertices_none : (l : List ℤ) (o : List ℕ) (at : ℕ) → Appended (vertex_lines 0 l) o at at o
unfolding vertex_lines
vertices_none l o at = append_none o at

pub vertices_more : {o o' o'' : List ℕ} {at p q : ℕ} (l : List ℤ) (v v' : ℕ) → v' ≡ v + 1 → Appended (vertex_lines v l) o at p o' → Appended (vertex_line l v) o' p q o''
    → Appended (vertex_lines v' l) o at q o''
unfolding vertex_lines
vertices_more l v v' e f g = rw (e, add-one v) (append_more (vertex_lines v l) (vertex_line l v) f g)

pub vertices_done : {o o' : List ℕ} {at p : ℕ} (l : List ℤ) (v n : ℕ) → v ≤ n → n ≤ v → Appended (vertex_lines v l) o at p o' → Appended (vertex_lines n l) o at p o'
vertices_done l v n h k f = let e : v ≡ n = omega arith in rw (← e) f
