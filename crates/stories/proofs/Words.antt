-- Every word of a record is a field's: where all fields are the same in two memories, all words are.
use mathlib.Core.Path.{◌≡◌}
use mathlib.Core.List.{List}
use Prim.Native.Nat.{ℕ}
use lib.ListN.{get_or}
use Rattle.numbers.specs.declared.Caps.{Caps}
use Rattle.store.specs.Fields.{MarkField, MarkFits, mark_field, CellField, CellFits, cell_field, Place, InNear, InFar, PlaceFits}
use Rattle.store.specs.Slots.{InMark, InCell, place_at, address, read}
use Rattle.store.proofs.Fields.{mark_of, cell_of_lem}
use Rattle.stories.specs.Records.{SameMark, SameCell}

module _ (caps : Caps) (w w' : List ℕ) where
  pub same_mark : (v : ℕ) → ((f : MarkField) → MarkFits f → read w' caps (InMark v f) ≡ read w caps (InMark v f)) → SameMark caps v w w'
  unfolding read address
  same_mark v same = record {
    fields = same;
    words = λ k h. rw (mark_of k h).0 at (same (mark_field k) (mark_of k h).1);
  }

  pub same_cell : (c : ℕ) → ((f : CellField) → CellFits f → read w' caps (InCell c f) ≡ read w caps (InCell c f)) → SameCell caps c w w'
  unfolding read address place_at
  same_cell c same = record { fields = same; near = λ k h. at (InNear k) h; far = λ k h. at (InFar k) h }
    where
      at : (p : Place) → PlaceFits p → get_or w' (place_at caps.marks caps.cells c p) 0 ≡ get_or w (place_at caps.marks caps.cells c p) 0
      at p h = rw (cell_of_lem p h).0 at (same (cell_field p) (cell_of_lem p h).1)
