-- A record that is the same in two memories of one mesh: each of its fields, and each of its words, so that no byte of it differs.
use Rattle.std.specs.Prelude.{◌≡◌, List, ℕ, ◌+◌, ◌<◌, get_or}
use Rattle.numbers.specs.declared.Caps.{Caps}
use Rattle.store.specs.Layout.{part_words, mark_words, mark_at, near_at, far_at}
use Rattle.store.specs.Fields.{MarkField, MarkFits, CellField, CellFits}
use Rattle.store.specs.Slots.{InMark, InCell, read}

-- a mark's record: its fields, and all 8 words
pub record SameMark (caps : Caps) (v : ℕ) (w w' : List ℕ) : Type 0 where
  pub fields : (f : MarkField) → MarkFits f → read w' caps (InMark v f) ≡ read w caps (InMark v f)
  pub words : (k : ℕ) → k < mark_words → get_or w' (mark_at v + k) 0 ≡ get_or w (mark_at v + k) 0

-- a cell's record: its fields, all 16 words of its first part and all 16 of its second
pub record SameCell (caps : Caps) (c : ℕ) (w w' : List ℕ) : Type 0 where
  pub fields : (f : CellField) → CellFits f → read w' caps (InCell c f) ≡ read w caps (InCell c f)
  pub near : (k : ℕ) → k < part_words → get_or w' (near_at caps.marks c + k) 0 ≡ get_or w (near_at caps.marks c + k) 0
  pub far : (k : ℕ) → k < part_words → get_or w' (far_at caps.marks caps.cells c + k) 0 ≡ get_or w (far_at caps.marks caps.cells c + k) 0
