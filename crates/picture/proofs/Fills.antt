-- Words of a list written one after another into fields of a cell.
use mathlib.Core.Path.{◌≡◌, refl, ap, ◌∙◌}
use mathlib.Core.Bool.{true}
use mathlib.Core.List.{List}
use mathlib.Core.Logic.{⊎_elim}
use Prim.Native.Nat.{ℕ, ◌+◌, ◌<◌, ◌≤◌}
use native.Mathlib.Nat.{eq-or-lt_of_le}
use native.Mathlib.Decide.{dec_lt}
use native.Mathlib.Omega.{arith}
use borrow.Author.Tests.{lt-ltb}
use lib.ListN.{get_or, length}
use Rattle.words.proofs.Frame.{read_same, read_other, only_none, only_then}
use Rattle.numbers.specs.declared.Caps.{Caps}
use Rattle.store.specs.Layout.{near_marks, room}
use Rattle.store.specs.Fields.{CellField, Code, Licence, Near, Sib, Link, Far, CellRest, CellFits}
use Rattle.store.specs.Slots.{Slot, InHead, InMark, InCell, address, Within, cell_open, read, written}
use Rattle.store.proofs.Slots.{slot_below, slot_one}
use Rattle.store.proofs.Writes.{cell_inside, cell_outside, write_only}
use Rattle.picture.specs.Writes.{Fills}
use Rattle.shapes.specs.Sizes.{most_marks}

-- a word written is read at its slot, and no other slot's word changes
module _ (w : List ℕ) (caps : Caps) (c : ℕ) (f : CellField) (y : ℕ) (may : cell_open f ≡ true) where
  pub written_here : c < caps.cells → CellFits f → room caps.marks caps.cells ≤ length w → read (written w caps (InCell c f) y) caps (InCell c f) ≡ y
  unfolding read
  written_here h i fits =
      rw (cell_inside w caps y c f h may)
      (read_same w (address caps.marks caps.cells (InCell c f)) y
      (omega (arith, slot_below caps.marks caps.cells (InCell c f) (h, i))))

  pub written_other : (z : Slot) → Within caps.marks caps.cells z → CellFits f → (z ≡ InCell c f → ⊥)
      → read (written w caps (InCell c f) y) caps z ≡ read w caps z
  unfolding read
  written_other z in-z i ne = go (dec_lt c caps.cells)
    where
      go : Dec (c < caps.cells)
          → get_or (written w caps (InCell c f) y) (address caps.marks caps.cells z) 0 ≡ get_or w (address caps.marks caps.cells z) 0
      go (yes h) =
          rw (cell_inside w caps y c f h may)
          (read_other w (address caps.marks caps.cells (InCell c f)) y (address caps.marks caps.cells z)
          (λ e. ne (slot_one caps.marks caps.cells z (InCell c f) in-z (h, i) e)))
      go (no n) = rw (cell_outside w caps y c f (omega arith))

module _ (field : ℕ → CellField) (caps : Caps) (c : ℕ) (words w : List ℕ) where
  pub fills_start : Fills field caps c words w 0 w
  fills_start = record { inside = only_none; wrote = λ h f k l. absurd (omega arith); kept = λ z i ne. refl }

  pub fills_more : (w' w'' : List ℕ) (n x : ℕ) → Fills field caps c words w n w' → x ≡ get_or words n 0 → w'' ≡ written w' caps (InCell c (field n)) x
      → ((k : ℕ) → k ≤ n → cell_open (field k) ≡ true) → ((k : ℕ) → k ≤ n → CellFits (field k)) → ((k : ℕ) → k < n → field k ≡ field n → ⊥)
      → Fills field caps c words w (n + 1) w''
  fills_more w' w'' n x a e q may fits differ = rw q (record {
    inside = only_then a.inside (write_only w' caps x (InCell c (field n)));
    wrote = λ h f k l.
        ⊎_elim
        (λ (z : k ≡ n).
        rw z (written_here w' caps c (field n) x (may n (omega arith)) h (fits n (omega arith)) (omega (arith, a.inside.size)) ∙ e))
        (λ (l : k < n).
        written_other w' caps c (field n) x (may n (omega arith)) (InCell c (field k)) (h, fits k (omega arith)) (fits n (omega arith))
        (λ z. differ k l (cell_field z))
        ∙ a.wrote h f k l)
        (eq-or-lt_of_le {n = k} {m = n} (omega arith));
    kept = λ z i ne.
        written_other w' caps c (field n) x (may n (omega arith)) z i (fits n (omega arith)) (λ z. ne n (omega arith) z)
        ∙ a.kept z i (λ k l. ne k (omega arith));
  })
    where
      field_of : Slot → CellField
      field_of (InHead f) = field n
      field_of (InMark v f) = field n
      field_of (InCell c f) = f

      cell_field : {f g : CellField} → InCell c f ≡ InCell c g → f ≡ g
      cell_field e = ap field_of e

number_of : CellField → ℕ
number_of Code = 0
number_of Licence = 0
number_of (Near k) = k
number_of (Sib f) = 0
number_of (Link k) = 0
number_of (Far k) = k
number_of (CellRest p) = 0

-- the first four marks; all marks
pub near_more : (caps : Caps) (c : ℕ) (marks w w' w'' : List ℕ) (n x : ℕ) → Fills Near caps c marks w n w' → x ≡ get_or marks n 0
    → w'' ≡ written w' caps (InCell c (Near n)) x → n < near_marks → Fills Near caps c marks w (n + 1) w''
unfolding cell_open number_of
near_more caps c marks w w' w'' n x a e q h =
    fills_more Near caps c marks w w' w'' n x a e q (λ k l. lt-ltb k near_marks (omega arith)) (λ k l. omega arith)
    (λ k l z. let same : k ≡ n = ap number_of z in omega arith)

pub far_more : (caps : Caps) (c : ℕ) (marks w w' w'' : List ℕ) (n x : ℕ) → Fills Far caps c marks w n w' → x ≡ get_or marks n 0
    → w'' ≡ written w' caps (InCell c (Far n)) x → n < most_marks → Fills Far caps c marks w (n + 1) w''
unfolding cell_open number_of
far_more caps c marks w w' w'' n x a e q h =
    fills_more Far caps c marks w w' w'' n x a e q (λ k l. lt-ltb k most_marks (omega arith)) (λ k l. omega arith)
    (λ k l z. let same : k ≡ n = ap number_of z in omega arith)
