-- The writers of single words: each changes the state in its own place, and no other word.
use mathlib.Core.Path.{◌≡◌, refl, sym, ap, ap₂, ◌∙◌, subst}
use mathlib.Core.Bool.{Bool, true, false, cond, ◌&&◌}
use mathlib.Core.List.{List}
use Prim.Native.Nat.{ℕ, ◌+◌, ◌*◌, ◌/◌, ◌%◌, ◌<◌, ◌≤◌}
use native.Mathlib.Omega.{arith}
use borrow.Author.Tests.{eq-eqb, ne_eqb, eqb-true, lt-ltb, le-leb}
use lib.Dec.{eqb}
use Rattle.numbers.specs.declared.Caps.{Caps}
use Rattle.store.specs.Layout.{past_halves}
use Rattle.store.specs.Fields.{Count, Anchor, Sib}
use Rattle.store.specs.Slots.{Slot, InHead, InMark, InCell, head_open, mark_open, cell_open, writable, written, Within, packed}
use Rattle.store.proofs.Ways.{packed_whole}
use Rattle.map.specs.declared.Way.{Way}
use Rattle.picture.specs.State.{State}
use Rattle.picture.specs.Picture.{head_word, mark_word, sib_word, cell_word, word_of}
use Rattle.picture.specs.Changes.{with_sib, with_anc, with_count}
use Rattle.picture.specs.Step.{Step}
use Rattle.picture.proofs.Put.{put_step}
use Rattle.picture.proofs.Alike.{word_retold}
use Rattle.shapes.specs.Sizes.{most_code, most_facets}

-- a number put under another key is not seen
kept : (a b x y : ℕ) → (b ≡ a → ⊥) → cond (eqb a b) x y ≡ y
kept a b x y f = rw (ne_eqb a b (λ e. f (sym e)))

module _ (caps : Caps) (s : State) (t x : ℕ) where
  count_here : word_of caps (with_count s t x) (InHead (Count t)) ≡ x
  unfolding word_of head_word with_count
  count_here = rw (eq-eqb t t refl)

  count_other : (z : Slot) → (z ≡ InHead (Count t) → ⊥) → word_of caps (with_count s t x) z ≡ word_of caps s z
  unfolding with_count
  count_other z ne =
      word_retold caps s s.sib s.way s.anc (with_count s t x).count z (λ c f e. refl) (λ d v e. refl)
      (λ u e. kept t u x (s.count u) (λ q. ne (e ∙ ap (λ (n : ℕ). InHead (Count n)) q)))

pub count_step : (caps : Caps) (w w' : List ℕ) (t x : ℕ) → w' ≡ written w caps (InHead (Count t)) x
    → Step caps w w' (λ s. (1 ≤ t) × (t ≤ most_code)) (λ s. with_count s t x)
unfolding writable head_open
count_step caps w w' t x e =
    put_step caps w w' (InHead (Count t)) x (λ s. (1 ≤ t) × (t ≤ most_code)) (λ s. with_count s t x) e (λ s k. rw (le-leb 1 t k.0, le-leb t most_code k.1) refl)
    (λ s k. count_here caps s t x) (λ s k z in-z. count_other caps s t x z)

module _ (caps : Caps) (s : State) (d v x : ℕ) where
  anchor_here : word_of caps (with_anc s d v x) (InMark v (Anchor d)) ≡ x
  unfolding word_of mark_word with_anc
  anchor_here = rw (eq-eqb d d refl, eq-eqb v v refl)

  anchor_other : (z : Slot) → (z ≡ InMark v (Anchor d) → ⊥) → word_of caps (with_anc s d v x) z ≡ word_of caps s z
  unfolding with_anc
  anchor_other z ne =
      word_retold caps s s.sib s.way (with_anc s d v x).anc s.count z (λ c f e. refl) (λ e u q. go e u q (eqb d e) refl (eqb v u) refl) (λ t e. refl)
    where
      go : (e u : ℕ) → z ≡ InMark u (Anchor e) → (p : Bool) → eqb d e ≡ p → (q : Bool) → eqb v u ≡ q → cond (p && q) x (s.anc e u) ≡ s.anc e u
      go e u y true p true q = absurd (ne (y ∙ ap₂ (λ (n k : ℕ). InMark n (Anchor k)) (sym (eqb-true v u q)) (sym (eqb-true d e p))))
      go e u y true p false q = refl
      go e u y false p t q = refl

pub anchor_step : (caps : Caps) (w w' : List ℕ) (d v x : ℕ) → w' ≡ written w caps (InMark v (Anchor d)) x
    → Step caps w w' (λ s. (v < caps.marks) × (1 ≤ d) × (d ≤ 3)) (λ s. with_anc s d v x)
unfolding writable mark_open
anchor_step caps w w' d v x e =
    put_step caps w w' (InMark v (Anchor d)) x (λ s. (v < caps.marks) × (1 ≤ d) × (d ≤ 3)) (λ s. with_anc s d v x) e
    (λ s k. rw (lt-ltb v caps.marks k.0, le-leb 1 d k.1, le-leb d 3 k.2) refl) (λ s k. anchor_here caps s d v x)
    (λ s k z in-z. anchor_other caps s d v x z)

module _ (caps : Caps) (s : State) (h x : ℕ) (y : Way) where
  sib_here : x < past_halves → word_of caps (with_sib s h x y) (InCell (h / 8) (Sib (h % 8))) ≡ packed x y
  unfolding word_of cell_word with_sib
  sib_here l =
      let same : h ≡ 8 * (h / 8) + h % 8 = omega arith in rw (eq-eqb h (8 * (h / 8) + h % 8) same) (sym (packed_whole x y l))

  sib_other : (z : Slot) → Within caps.marks caps.cells z → (z ≡ InCell (h / 8) (Sib (h % 8)) → ⊥)
      → word_of caps (with_sib s h x y) z ≡ word_of caps s z
  unfolding with_sib
  sib_other z i ne =
      word_retold caps s (with_sib s h x y).sib (with_sib s h x y).way s.anc s.count z (λ c f e. other c f e) (λ d v e. refl) (λ t e. refl)
    where
      other : (c f : ℕ) → z ≡ InCell c (Sib f) → sib_word (with_sib s h x y) (8 * c + f) ≡ sib_word s (8 * c + f)
      other c f e =
          let less = (subst (Within caps.marks caps.cells) e i).1 in
          rw (ne_eqb h (8 * c + f)
          (λ q. ne (e ∙ ap₂ (λ (n k : ℕ). InCell n (Sib k)) (omega (arith, less)) (omega (arith, less)))))

pub sib_step : (caps : Caps) (w w' : List ℕ) (h x : ℕ) (y : Way) → w' ≡ written w caps (InCell (h / 8) (Sib (h % 8))) (packed x y)
    → Step caps w w' (λ s. (h / 8 < caps.cells) × (h % 8 < most_facets) × (x < past_halves)) (λ s. with_sib s h x y)
unfolding writable cell_open
sib_step caps w w' h x y e =
    put_step caps w w' (InCell (h / 8) (Sib (h % 8))) (packed x y) (λ s. (h / 8 < caps.cells) × (h % 8 < most_facets) × (x < past_halves))
    (λ s. with_sib s h x y) e (λ s k. rw (lt-ltb (h / 8) caps.cells k.0, lt-ltb (h % 8) most_facets k.1) refl)
    (λ s k. sib_here caps s h x y k.2) (λ s k. sib_other caps s h x y)
