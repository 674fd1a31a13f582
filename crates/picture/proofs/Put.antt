-- One word written, and the state changed in that word alone; and two pictures of one state.
use mathlib.Core.Path.{◌≡◌, sym, ap, ◌∙◌}
use mathlib.Core.Bool.{true}
use mathlib.Core.List.{List}
use Prim.Native.Nat.{ℕ, ◌<◌}
use native.Mathlib.Decide.{ℕ_discrete}
use native.Mathlib.Omega.{arith}
use lib.ListN.{get_or, set, take, length, length-set}
use lib.Seq.{ext_get_or, get_or-take, length-take-le}
use Rattle.words.specs.Words.{Only}
use Rattle.words.proofs.Frame.{read_same, read_other, only_then, only_one}
use Rattle.numbers.specs.declared.Caps.{Caps}
use Rattle.store.specs.Layout.{room}
use Rattle.store.specs.Slots.{Slot, address, Within, read, writable, written}
use Rattle.store.proofs.Slots.{slot_below, slot_one, slot_of}
use Rattle.store.proofs.Writes.{open_within, write_in, write_only}
use Rattle.map.specs.Cells.{Map}
use Rattle.picture.specs.State.{State, state_of}
use Rattle.picture.specs.Picture.{word_of, Pic, Wf}
use Rattle.picture.specs.Step.{Step}

module _ (w : List ℕ) (caps : Caps) (s s' : State) (x : Slot) (y : ℕ) where
  -- the word of a slot is written, and no other word of the state changes
  pub pic_put : Pic w caps s → Within caps.marks caps.cells x → word_of caps s' x ≡ y
      → ((z : Slot) → Within caps.marks caps.cells z → (z ≡ x → ⊥) → word_of caps s' z ≡ word_of caps s z)
      → Pic (set w (address caps.marks caps.cells x) y) caps s'
  unfolding read
  pic_put p in_x e same = record {
    marks = p.marks;
    cells = p.cells;
    edition = p.edition;
    fits = omega (arith, p.fits, length-set w (address caps.marks caps.cells x) y);
    words = λ z in-z. at z in-z (ℕ_discrete (address caps.marks caps.cells z) (address caps.marks caps.cells x));
  }
    where
      below : address caps.marks caps.cells x < length w
      below = omega (arith, slot_below caps.marks caps.cells x in_x, p.fits)

      at : (z : Slot) → Within caps.marks caps.cells z
          → Dec (address caps.marks caps.cells z ≡ address caps.marks caps.cells x)
          → get_or (set w (address caps.marks caps.cells x) y) (address caps.marks caps.cells z) 0 ≡ word_of caps s' z
      at z in-z (yes q) =
          ap (λ (i : ℕ). get_or (set w (address caps.marks caps.cells x) y) i 0) q
          ∙ (read_same w (address caps.marks caps.cells x) y below
          ∙ (sym e ∙ ap (word_of caps s') (sym (slot_one caps.marks caps.cells z x in-z in_x q))))
      at z in-z (no f) =
          read_other w (address caps.marks caps.cells x) y (address caps.marks caps.cells z) f
          ∙ (p.words z in-z ∙ sym (same z in-z (λ q. f (ap (address caps.marks caps.cells) q))))

-- a writing step of one word: the slot is written, and no other word of the state changes
pub put_step : (caps : Caps) (w w' : List ℕ) (x : Slot) (y : ℕ) (ok : State → Type 0) (f : State → State) → w' ≡ written w caps x y
    → ((s : State) → ok s → writable caps x ≡ true) → ((s : State) → ok s → word_of caps (f s) x ≡ y)
    → ((s : State) → ok s → (z : Slot) → Within caps.marks caps.cells z → (z ≡ x → ⊥) → word_of caps (f s) z ≡ word_of caps s z)
    → Step caps w w' ok f
put_step caps w w' x y ok f e may here other = record {
  inside = rw e (write_only w caps y x);
  state = λ s p k.
      rw (e, write_in w caps y x (may s k))
      (pic_put w caps s (f s) x y p (open_within caps x (may s k)) (here s k) (other s k));
}

-- a picture depends on the words of the state alone
pub pic_same : (w : List ℕ) (caps : Caps) (s s' : State)
    → ((z : Slot) → Within caps.marks caps.cells z → word_of caps s z ≡ word_of caps s' z) → Pic w caps s → Pic w caps s'
pic_same w caps s s' same p = record { marks = p.marks; cells = p.cells; edition = p.edition; fits = p.fits; words = λ z h. p.words z h ∙ same z h }

-- two pictures of one state are equal word for word
pub pic_one : (w w' : List ℕ) (caps : Caps) (s : State) → Pic w caps s → Pic w' caps s
    → take (room caps.marks caps.cells) w ≡ take (room caps.marks caps.cells) w'
unfolding read
pic_one w w' caps s p q =
    ext_get_or 0 (take n w) (take n w') (length-take-le n w p.fits ∙ sym (length-take-le n w' q.fits))
    (λ i h.
    let less : i < n = omega (arith, length-take-le n w p.fits) in
    get_or-take n w i 0 less ∙ (word i less ∙ sym (get_or-take n w' i 0 less)))
  where
    n : ℕ
    n = room caps.marks caps.cells

    word : (i : ℕ) → i < n → get_or w i 0 ≡ get_or w' i 0
    word i h =
        let x = slot_of caps.marks caps.cells i h in
        rw x.2 at (p.words x.0 x.1 ∙ sym (q.words x.0 x.1))

-- "two well-formed memories of the same capacities and live cells are equal word for word, whatever the history"
pub wf_one : (w w' : List ℕ) (m : Map) → Wf w m → Wf w' m → take (room m.caps.marks m.caps.cells) w ≡ take (room m.caps.marks m.caps.cells) w'
wf_one w w' m a b = pic_one w w' m.caps (state_of m) a.picture b.picture

-- so two that differ from one memory in the room alone are the same, in the room and beyond
pub wf_alone : {w a b : List ℕ} {m : Map} → Wf a m → Wf b m → Only (λ i. i < room m.caps.marks m.caps.cells) w a
    → Only (λ i. i < room m.caps.marks m.caps.cells) w b → a ≡ b
wf_alone {a = a} {b} {m} p q x y = only_one x y (wf_one a b m p q)

-- steps one after another
pub step_then : {caps : Caps} {w w' w'' : List ℕ} {ok ok' : State → Type 0} {f g : State → State} → Step caps w w' ok f → Step caps w' w'' ok' g
    → Step caps w w'' (λ s. ok s × ok' (f s)) (λ s. g (f s))
step_then a b = record { inside = only_then a.inside b.inside; state = λ s p k. b.state _ (a.state s p k.0) k.1 }
