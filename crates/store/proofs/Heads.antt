-- What a head written is: its fields have their words, and every other slot is as it was.
use mathlib.Core.Path.{◌≡◌, ap, ◌∙◌}
use mathlib.Core.List.{List}
use Prim.Native.Nat.{ℕ, ◌<◌, ◌≤◌}
use native.Mathlib.Omega.{arith}
use lib.ListN.{set, length, length-set}
use Rattle.words.specs.Words.{Only}
use Rattle.words.proofs.Frame.{read_same, read_other, only_then, only_put}
use Rattle.numbers.specs.declared.Caps.{Caps}
use Rattle.store.specs.Layout.{magic}
use Rattle.store.specs.Fields.{Magic, MarkCap, CellCap, Edition, Count, HeadRest, head_place}
use Rattle.store.specs.Slots.{Slot, InHead, InMark, InCell, address, Within, read}
use Rattle.store.specs.Open.{headed}
use Rattle.store.proofs.Slots.{slot_one}

-- which field of the head a format writes; 0 for every other slot
unfoldable pub head_number : Slot → ℕ
head_number (InHead Magic) = 1
head_number (InHead MarkCap) = 2
head_number (InHead CellCap) = 3
head_number (InHead Edition) = 4
head_number (InHead (Count t)) = 0
head_number (InHead (HeadRest k)) = 0
head_number (InMark v f) = 0
head_number (InCell c f) = 0

module _ (w : List ℕ) (caps : Caps) where
  one : List ℕ
  one = set w 0 magic

  two : List ℕ
  two = set one 1 caps.marks

  three : List ℕ
  three = set two 2 caps.cells

  -- as the code writes it
  pub head_made : (w₁ w₂ w₃ w₄ : List ℕ) (p q r s a b c d : ℕ) → w₁ ≡ set w p a → w₂ ≡ set w₁ q b → w₃ ≡ set w₂ r c → w₄ ≡ set w₃ s d
      → p ≡ 0 → a ≡ magic → q ≡ 1 → b ≡ caps.marks → r ≡ 2 → c ≡ caps.cells → s ≡ 3 → d ≡ caps.edition → w₄ ≡ headed w caps
  unfolding headed head_place
  head_made w₁ w₂ w₃ w₄ p q r s a b c d e f g h ep ea eq eb er ec es ed = cc

  pub head_only : Only (λ i. i < 16) w (headed w caps)
  unfolding headed head_place
  head_only =
      only_then (only_put w 0 magic (omega arith))
      (only_then (only_put (set w 0 magic) 1 caps.marks (omega arith))
      (only_then (only_put _ 2 caps.cells (omega arith)) (only_put _ 3 caps.edition (omega arith))))

  pub head_kept : (z : Slot) → Within caps.marks caps.cells z → head_number z ≡ 0 → read (headed w caps) caps z ≡ read w caps z
  unfolding headed head_place read address head_number one two three
  head_kept z h n =
      read_other three 3 caps.edition at (apart (InHead Edition) (omega arith) (omega arith))
      ∙ (read_other two 2 caps.cells at (apart (InHead CellCap) (omega arith) (omega arith))
      ∙ (read_other one 1 caps.marks at (apart (InHead MarkCap) (omega arith) (omega arith))
      ∙ read_other w 0 magic at (apart (InHead Magic) (omega arith) (omega arith))))
    where
      at : ℕ
      at = address caps.marks caps.cells z

      apart : (x : Slot) → Within caps.marks caps.cells x → 0 < head_number x → at ≡ address caps.marks caps.cells x → ⊥
      apart x hx some e = absurd (omega (arith, n, some, ap head_number (slot_one caps.marks caps.cells z x h hx e)))

  module _ (long : 16 ≤ length w) where
    pub head_magic : read (headed w caps) caps (InHead Magic) ≡ magic
    unfolding headed read address head_place one two three
    head_magic =
        read_other three 3 caps.edition 0 (λ e. omega arith)
        ∙ (read_other two 2 caps.cells 0 (λ e. omega arith)
        ∙ (read_other one 1 caps.marks 0 (λ e. omega arith) ∙ read_same w 0 magic (omega arith)))

    pub head_marks : read (headed w caps) caps (InHead MarkCap) ≡ caps.marks
    unfolding headed read address head_place one two three
    head_marks =
        read_other three 3 caps.edition 1 (λ e. omega arith)
        ∙ (read_other two 2 caps.cells 1 (λ e. omega arith) ∙ read_same one 1 caps.marks (omega (arith, length-set w 0 magic)))

    pub head_cells : read (headed w caps) caps (InHead CellCap) ≡ caps.cells
    unfolding headed read address head_place one two three
    head_cells =
        read_other three 3 caps.edition 2 (λ e. omega arith)
        ∙ read_same two 2 caps.cells (omega (arith, length-set w 0 magic, length-set one 1 caps.marks))

    pub head_edition : read (headed w caps) caps (InHead Edition) ≡ caps.edition
    unfolding headed read address head_place one two three
    head_edition =
        read_same three 3 caps.edition (omega (arith, length-set w 0 magic, length-set one 1 caps.marks, length-set two 2 caps.cells))
