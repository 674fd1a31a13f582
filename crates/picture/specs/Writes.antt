-- What the writers of single words and of a cell's body ask of a state.
use Rattle.std.specs.Prelude.{◌≡◌, Bool, true, false, List, [], ◌⊎◌, ℕ, ◌<◌, ◌≤◌, length, get_or}
use Rattle.words.specs.Words.{Only}
use Rattle.numbers.specs.declared.Caps.{Caps}
use Rattle.store.specs.Layout.{near_marks, room}
use Rattle.store.specs.Fields.{CellField, Far}
use Rattle.store.specs.Slots.{Slot, InCell, Within, read}
use Rattle.picture.specs.State.{State}
use Rattle.shapes.specs.Sizes.{most_marks}

-- a cell that stands in no chain may be written; the second part is written exactly if it holds marks before or then
pub record MayWrite (caps : Caps) (c : ℕ) (marks : List ℕ) (far : Bool) (s : State) : Type 0 where
  pub cell : c < caps.cells
  pub loose : (v : ℕ) → s.chain v c ≡ false
  pub near : far ≡ false → (length (s.at c).marks ≤ near_marks) × (length marks ≤ near_marks)
  pub all : far ≡ true → (near_marks < length marks) ⊎ (marks ≡ [])

-- words of a list written into as many fields of a cell: nothing beyond the room changes; where the cell is one of the mesh and memory
-- holds its room, each of these fields has its word, and every other slot is as it was
pub record Fills (field : ℕ → CellField) (caps : Caps) (c : ℕ) (words w : List ℕ) (n : ℕ) (w' : List ℕ) : Type 0 where
  pub inside : Only (λ i. i < room caps.marks caps.cells) w w'
  pub wrote : c < caps.cells → room caps.marks caps.cells ≤ length w → (k : ℕ) → k < n → read w' caps (InCell c (field k)) ≡ get_or words k 0
  pub kept : (z : Slot) → Within caps.marks caps.cells z → ((k : ℕ) → k < n → z ≡ InCell c (field k) → ⊥) → read w' caps z ≡ read w caps z

-- the second part written, or not
pub record Fars (far : Bool) (caps : Caps) (c : ℕ) (marks w w' : List ℕ) : Type 0 where
  pub inside : Only (λ i. i < room caps.marks caps.cells) w w'
  pub wrote : far ≡ true → c < caps.cells → room caps.marks caps.cells ≤ length w → (k : ℕ) → k < most_marks → read w' caps (InCell c (Far k)) ≡ get_or marks k 0
  pub kept : (z : Slot) → Within caps.marks caps.cells z → (far ≡ true → (k : ℕ) → k < most_marks → z ≡ InCell c (Far k) → ⊥) → read w' caps z ≡ read w caps z
