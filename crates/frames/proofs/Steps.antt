-- The output, byte by byte.
use mathlib.Core.Path.{◌≡◌, refl}
use mathlib.Core.List.{List, [], ◌∷◌, ◌++◌}
use Prim.Native.Nat.{ℕ, ◌<◌}
use native.Mathlib.Omega.{arith}
use borrow.Author.Tests.{ne_eqb}
use lib.ListN.{length}
use Rattle.frames.specs.Frames.{Journal, Bad, frame_of, reply_to, journal_after, written, output_from}

module _ (g : Journal) (line : List ℕ) where
  pub output_more : (b : ℕ) (rest : List ℕ) → (b ≡ 10 → ⊥) → output_from g line (b ∷ rest) ≡ output_from g (line ++ (b ∷ [])) rest
  unfolding output_from
  output_more b rest ne = rw (ne_eqb b 10 ne, output_from)

  pub output_line : (rest : List ℕ) → output_from g line (10 ∷ rest) ≡ written (reply_to g (frame_of line)) ++ output_from (journal_after g (frame_of line)) [] rest
  unfolding output_from
  output_line rest = refl

pub output_end : (g : Journal) → output_from g [] [] ≡ []
unfolding output_from
output_end g = refl

pub output_cut : (g : Journal) (line : List ℕ) → 0 < length line → output_from g line [] ≡ written (reply_to g Bad)
unfolding output_from
output_cut g [] h = absurd (omega arith)
output_cut g (x ∷ xs) h = refl
