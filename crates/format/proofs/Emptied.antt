-- The picture of the empty map: every word is 0 but those of the head that a format writes.
use mathlib.Core.Path.{◌≡◌, refl}
use mathlib.Core.Bool.{true, false}
use mathlib.Core.List.{List, [], ◌∷◌}
use Prim.Native.Nat.{ℕ, ◌+◌, ◌*◌, ◌/◌, ◌%◌, ◌≤◌}
use native.Mathlib.Omega.{arith}
use borrow.Author.Tests.{le-ltb, eq-eqb, ne_eqb}
use lib.Dec.{eqb}
use Rattle.lists.specs.Lists.{has, keep}
use Rattle.lists.proofs.Bools.{clash}
use Rattle.lists.proofs.Counts.{select_none}
use Rattle.numbers.specs.declared.Caps.{Caps}
use Rattle.store.specs.Fields.{Magic, MarkCap, CellCap, Edition, Count, HeadRest, First, Held, Anchor, MarkRest, Code, Licence, Near, Sib, Link, Far, CellRest}
use Rattle.store.specs.Slots.{Slot, InHead, InMark, InCell, Within}
use Rattle.store.proofs.Heads.{head_number}
use Rattle.map.specs.Cells.{no_cell, body_in, map_of, cells_of}
use Rattle.map.specs.Ways.{way_number}
use Rattle.map.specs.Siblings.{is_half}
use Rattle.map.specs.Stars.{anchors}
use Rattle.map.specs.History.{empty}
use Rattle.laws.proofs.Edits.{none_holds}
use Rattle.laws.proofs.Halves.{none_facets}
use Rattle.laws.proofs.Anchors.{anchors_of, star_has}
use Rattle.picture.specs.State.{next, state_of}
use Rattle.picture.specs.Picture.{chain_of, ahead, link_to, link, corner, link_word, head_word, mark_word, cell_word, word_of}

-- a list without members
no_member : (l : List ℕ) → ((k : ℕ) → has k l ≡ true → ⊥) → l ≡ []
unfolding has
no_member [] f = refl
no_member (x ∷ xs) f = absurd (f x (rw (eq-eqb x x refl)))

module _ (caps : Caps) where
  -- under each number stands no cell
  pub empty_at : (c : ℕ) → (empty caps).at c ≡ no_cell
  unfolding empty map_of body_in
  empty_at c = refl

  -- so no chain has a cell, no number is that of a half-facet, no star has an anchor, no type has a live cell
  pub empty_chain : (v : ℕ) → chain_of caps (state_of (empty caps)) v ≡ []
  unfolding chain_of state_of
  empty_chain v = select_none _ _ (λ k. none_holds (empty caps) k (empty_at k) v)

  pub empty_half : (h : ℕ) → is_half (empty caps) h ≡ false
  unfolding is_half
  empty_half h = rw (none_facets (empty caps) (h / 8) (empty_at (h / 8))) (le-ltb (h % 8) 0 (omega arith))

  pub empty_anchors : (d v : ℕ) → anchors (empty caps) d v ≡ []
  empty_anchors d v =
      no_member _ (λ k h.
      clash (star_has _ d v (k / 8) (anchors_of _ d v k h).0).2 (none_holds (empty caps) (k / 8) (empty_at (k / 8)) v))

  pub empty_anc : (d v : ℕ) → (state_of (empty caps)).anc d v ≡ 0
  unfolding state_of next
  empty_anc d v = rw empty_anchors

  pub empty_count : (t : ℕ) → 1 ≤ t → (state_of (empty caps)).count t ≡ 0
  unfolding state_of cells_of empty map_of body_in no_cell
  empty_count t some = rw (select_none (λ c. eqb 0 t) caps.cells (λ k. ne_eqb 0 t (λ e. omega arith)))

  -- each word of the room
  pub empty_word : (x : Slot) → Within caps.marks caps.cells x → head_number x ≡ 0 → word_of caps (state_of (empty caps)) x ≡ 0
  unfolding head_number word_of head_word mark_word cell_word link link_to ahead link_word corner next keep state_of empty map_of body_in no_cell way_number
  empty_word (InHead Magic) h n = absurd (omega arith)
  empty_word (InHead MarkCap) h n = absurd (omega arith)
  empty_word (InHead CellCap) h n = absurd (omega arith)
  empty_word (InHead Edition) h n = absurd (omega arith)
  empty_word (InHead (Count t)) h n = empty_count t h.0
  empty_word (InHead (HeadRest k)) h n = refl
  empty_word (InMark v First) h n = rw (empty_chain v)
  empty_word (InMark v Held) h n = rw (empty_chain v)
  empty_word (InMark v (Anchor d)) h n = empty_anc d v
  empty_word (InMark v (MarkRest k)) h n = refl
  empty_word (InCell c Code) h n = refl
  empty_word (InCell c Licence) h n = refl
  empty_word (InCell c (Near k)) h n = refl
  empty_word (InCell c (Sib f)) h n = rw (empty_half (8 * c + f))
  empty_word (InCell c (Link k)) h n = rw (le-ltb k 0 (omega arith))
  empty_word (InCell c (Far k)) h n = refl
  empty_word (InCell c (CellRest p)) h n = refl
