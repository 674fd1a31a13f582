-- Several words written, one after another: the words show a state at the slots that are done, and in the end at all.
use mathlib.Core.Path.{◌≡◌, sym, ap, ◌∙◌}
use mathlib.Core.Bool.{true}
use mathlib.Core.List.{List}
use Prim.Native.Nat.{ℕ, ◌<◌, ◌≤◌}
use native.Mathlib.Decide.{ℕ_discrete}
use native.Mathlib.Omega.{arith}
use lib.ListN.{get_or, set, length, length-set}
use Rattle.words.proofs.Frame.{read_same, read_other}
use Rattle.numbers.specs.declared.Caps.{Caps}
use Rattle.store.specs.Layout.{room}
use Rattle.store.specs.Slots.{Slot, address, Within, read}
use Rattle.store.proofs.Slots.{slot_below, slot_one}
use Rattle.picture.specs.State.{State}
use Rattle.picture.specs.Picture.{word_of, Pic}
use Rattle.numbers.specs.Sizes.{most_capacity}
use Rattle.numbers.specs.Editions.{is_edition}

-- at each slot of Q the word is that of the state
pub record Shows (w : List ℕ) (caps : Caps) (s : State) (Q : Slot → Type 0) : Type 0 where
  pub marks : caps.marks ≤ most_capacity
  pub cells : caps.cells ≤ most_capacity
  pub edition : is_edition caps.edition ≡ true
  pub fits : room caps.marks caps.cells ≤ length w
  pub words : (z : Slot) → Within caps.marks caps.cells z → Q z → read w caps z ≡ word_of caps s z

module _ {w : List ℕ} {caps : Caps} where
  -- a picture shows another state where their words are the same
  pub shows_start : {s s' : State} {Q : Slot → Type 0} → Pic w caps s
      → ((z : Slot) → Within caps.marks caps.cells z → Q z → word_of caps s' z ≡ word_of caps s z) → Shows w caps s' Q
  shows_start p same = record
      { marks = p.marks; cells = p.cells; edition = p.edition; fits = p.fits; words = λ z h q. p.words z h ∙ sym (same z h q) }

  -- one more slot is done
  pub shows_put : {s : State} {Q : Slot → Type 0} (x : Slot) (y : ℕ) → Within caps.marks caps.cells x → word_of caps s x ≡ y
      → Shows w caps s Q → Shows (set w (address caps.marks caps.cells x) y) caps s (λ z. (z ≡ x → ⊥) → Q z)
  unfolding read
  shows_put {s} {Q} x y in_x e a = record {
    marks = a.marks;
    cells = a.cells;
    edition = a.edition;
    fits = omega (arith, a.fits, length-set w (address caps.marks caps.cells x) y);
    words = λ z in-z q. at z in-z q (ℕ_discrete (address caps.marks caps.cells z) (address caps.marks caps.cells x));
  }
    where
      below : address caps.marks caps.cells x < length w
      below = omega (arith, slot_below caps.marks caps.cells x in_x, a.fits)

      at : (z : Slot) → Within caps.marks caps.cells z → ((z ≡ x → ⊥) → Q z)
          → Dec (address caps.marks caps.cells z ≡ address caps.marks caps.cells x)
          → get_or (set w (address caps.marks caps.cells x) y) (address caps.marks caps.cells z) 0 ≡ word_of caps s z
      at z in-z q (yes i) =
          rw (i, slot_one caps.marks caps.cells z x in-z in_x i) (read_same w (address caps.marks caps.cells x) y below ∙ sym e)
      at z in-z q (no f) =
          read_other w (address caps.marks caps.cells x) y (address caps.marks caps.cells z) f
          ∙ a.words z in-z (q (λ i. f (ap (address caps.marks caps.cells) i)))

  -- fewer slots are asked for
  pub shows_fewer : {s : State} {Q R : Slot → Type 0} → Shows w caps s Q → ((z : Slot) → R z → Q z) → Shows w caps s R
  shows_fewer a f = record { marks = a.marks; cells = a.cells; edition = a.edition; fits = a.fits; words = λ z h r. a.words z h (f z r) }

  -- all are done
  pub shows_all : {s : State} {Q : Slot → Type 0} → Shows w caps s Q → ((z : Slot) → Within caps.marks caps.cells z → Q z) → Pic w caps s
  shows_all a all = record { marks = a.marks; cells = a.cells; edition = a.edition; fits = a.fits; words = λ z h. a.words z h (all z h) }
