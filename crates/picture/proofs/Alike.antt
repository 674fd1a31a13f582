-- States that agree in all that is stored have the same words.
use mathlib.Core.Path.{◌≡◌, refl, sym, ap, ◌∙◌, subst}
use mathlib.Core.Bool.{Bool}
use mathlib.Core.List.{List}
use Prim.Native.Nat.{ℕ, ◌+◌, ◌*◌, ◌/◌, ◌%◌}
use Rattle.numbers.specs.declared.Caps.{Caps}
use Rattle.store.specs.Fields.{Magic, MarkCap, CellCap, Edition, Count, HeadRest, First, Held, Anchor, MarkRest, Code, Licence, Near, Sib, Link, Far, CellRest}
use Rattle.store.specs.Slots.{Slot, InHead, InMark, InCell, Within}
use Rattle.map.specs.declared.Way.{Way}
use Rattle.map.specs.Cells.{Body}
use Rattle.store.proofs.Ways.{packed_sibling, packed_way}
use Rattle.map.specs.Ways.{way_at}
use Rattle.picture.specs.State.{State}
use Rattle.picture.specs.Picture.{chain_of, ahead, link, corner, link_word, head_word, mark_word, sib_word, cell_word, word_of, Pic}
use Rattle.picture.proofs.Put.{pic_same}

-- a state with other siblings, first anchors and counts
abbrev pub retold : State → (ℕ → ℕ) → (ℕ → Way) → (ℕ → ℕ → ℕ) → (ℕ → ℕ) → State
retold s sib way anc count = record { at = s.at; chain = s.chain; sib = sib; way = way; anc = anc; count = count }

-- a word tells the sibling and the way
module _ (s s' : State) (h : ℕ) (e : sib_word s h ≡ sib_word s' h) where
  pub same_sib : s.sib h ≡ s'.sib h
  same_sib = sym (packed_sibling (s.sib h) (s.way h)) ∙ (ap (λ (n : ℕ). n / 4) e ∙ packed_sibling (s'.sib h) (s'.way h))

  pub same_way : s.way h ≡ s'.way h
  same_way = sym (packed_way (s.sib h) (s.way h)) ∙ (ap (λ (n : ℕ). way_at (n % 4)) e ∙ packed_way (s'.sib h) (s'.way h))

module _ (caps : Caps) (s : State) (sib : ℕ → ℕ) (way : ℕ → Way) (anc : ℕ → ℕ → ℕ) (count : ℕ → ℕ) where
  -- a word is the same unless it is a sibling, a first anchor or a count, and that is another
  pub word_retold : (z : Slot) → ((c f : ℕ) → z ≡ InCell c (Sib f) → sib_word (retold s sib way anc count) (8 * c + f) ≡ sib_word s (8 * c + f))
      → ((d v : ℕ) → z ≡ InMark v (Anchor d) → anc d v ≡ s.anc d v) → ((t : ℕ) → z ≡ InHead (Count t) → count t ≡ s.count t)
      → word_of caps (retold s sib way anc count) z ≡ word_of caps s z
  unfolding word_of head_word mark_word cell_word link ahead chain_of corner link_word
  word_retold (InHead Magic) sibs ancs counts = refl
  word_retold (InHead MarkCap) sibs ancs counts = refl
  word_retold (InHead CellCap) sibs ancs counts = refl
  word_retold (InHead Edition) sibs ancs counts = refl
  word_retold (InHead (Count t)) sibs ancs counts = counts t refl
  word_retold (InHead (HeadRest k)) sibs ancs counts = refl
  word_retold (InMark v First) sibs ancs counts = refl
  word_retold (InMark v Held) sibs ancs counts = refl
  word_retold (InMark v (Anchor d)) sibs ancs counts = ancs d v refl
  word_retold (InMark v (MarkRest k)) sibs ancs counts = refl
  word_retold (InCell c Code) sibs ancs counts = refl
  word_retold (InCell c Licence) sibs ancs counts = refl
  word_retold (InCell c (Near k)) sibs ancs counts = refl
  word_retold (InCell c (Sib f)) sibs ancs counts = sibs c f refl
  word_retold (InCell c (Link k)) sibs ancs counts = refl
  word_retold (InCell c (Far k)) sibs ancs counts = refl
  word_retold (InCell c (CellRest p)) sibs ancs counts = refl

  -- the picture is the same if all that are stored are
  pub pic_retold : ((c f : ℕ) → Within caps.marks caps.cells (InCell c (Sib f)) → sib_word s (8 * c + f) ≡ sib_word (retold s sib way anc count) (8 * c + f))
      → ((d v : ℕ) → Within caps.marks caps.cells (InMark v (Anchor d)) → s.anc d v ≡ anc d v)
      → ((t : ℕ) → Within caps.marks caps.cells (InHead (Count t)) → s.count t ≡ count t)
      → (w : List ℕ) → Pic w caps s → Pic w caps (retold s sib way anc count)
  pic_retold sibs ancs counts w p =
      pic_same w caps s (retold s sib way anc count)
      (λ z h.
      sym
      (word_retold z (λ c f e. sym (sibs c f (within z h e))) (λ d v e. sym (ancs d v (within z h e))) (λ t e. sym (counts t (within z h e)))))
      p
    where
      within : {x : Slot} (z : Slot) → Within caps.marks caps.cells z → z ≡ x → Within caps.marks caps.cells x
      within z h e = subst (Within caps.marks caps.cells) e h

-- a state is its fields
pub state_same : (s s' : State) → s.at ≡ s'.at → s.chain ≡ s'.chain → s.sib ≡ s'.sib → s.way ≡ s'.way → s.anc ≡ s'.anc
    → s.count ≡ s'.count → s ≡ s'
state_same s s' a b c y d e =
    ap (λ (at : ℕ → Body). record { at = at; chain = s.chain; sib = s.sib; way = s.way; anc = s.anc; count = s.count }) a
    ∙ (ap (λ (chain : ℕ → ℕ → Bool). record { at = s'.at; chain = chain; sib = s.sib; way = s.way; anc = s.anc; count = s.count }) b
    ∙ (ap (λ (sib : ℕ → ℕ). record { at = s'.at; chain = s'.chain; sib = sib; way = s.way; anc = s.anc; count = s.count }) c
    ∙ (ap (λ (way : ℕ → Way). record { at = s'.at; chain = s'.chain; sib = s'.sib; way = way; anc = s.anc; count = s.count }) y
    ∙ (ap (λ (anc : ℕ → ℕ → ℕ). record { at = s'.at; chain = s'.chain; sib = s'.sib; way = s'.way; anc = anc; count = s.count }) d
    ∙ ap (λ (count : ℕ → ℕ). record { at = s'.at; chain = s'.chain; sib = s'.sib; way = s'.way; anc = s'.anc; count = count }) e))))
