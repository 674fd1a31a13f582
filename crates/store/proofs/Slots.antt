-- Two slots never share a word, and every word of the room has a slot.
use mathlib.Core.Path.{◌≡◌, sym, ap, ap₂, ◌∙◌}
use Prim.Native.Nat.{ℕ, ◌+◌, ◌*◌, ◌-◌, ◌/◌, ◌%◌, ◌<◌, ◌≤◌}
use native.Mathlib.Decide.{dec_lt}
use native.Mathlib.Omega.{arith}
use Rattle.store.specs.Layout.{mark_words, mark_at, near_at, far_at, room}
use Rattle.store.specs.Fields.{HeadField, MarkField, CellField, Place, InNear, InFar, head_place, head_field, mark_place, mark_field, cell_place, cell_field, PlaceFits, HeadFits, MarkFits, CellFits}
use Rattle.store.specs.Slots.{Slot, InHead, InMark, InCell, place_at, address, Within}
use Rattle.store.proofs.Fields.{head_of, head_at, mark_of, mark_at_lem, cell_of_lem, cell_at}

-- a place of a record lies behind the marks and in the room
place_in : (marks cells c : ℕ) (p : Place) → c < cells → PlaceFits p → (16 + 8 * marks ≤ place_at marks cells c p) × (place_at marks cells c p < room marks cells)
unfolding place_at near_at far_at room
place_in marks cells c (InNear k) h i = (omega arith, omega arith)
place_in marks cells c (InFar k) h i = (omega arith, omega arith)

place_one : (marks cells b c : ℕ) (p q : Place) → b < cells → c < cells → PlaceFits p → PlaceFits q → place_at marks cells b p ≡ place_at marks cells c q
    → (b ≡ c) × (p ≡ q)
unfolding place_at near_at far_at
place_one marks cells b c (InNear k) (InNear l) hb hc h i e = (omega arith, ap InNear (omega arith))
place_one marks cells b c (InNear k) (InFar l) hb hc h i e = absurd (omega arith)
place_one marks cells b c (InFar k) (InNear l) hb hc h i e = absurd (omega arith)
place_one marks cells b c (InFar k) (InFar l) hb hc h i e = (omega arith, ap InFar (omega arith))

-- a slot lies in the room
pub slot_below : (marks cells : ℕ) (x : Slot) → Within marks cells x → address marks cells x < room marks cells
unfolding address mark_at room
slot_below marks cells (InHead f) h = omega (arith, (head_at f h).0)
slot_below marks cells (InMark v f) h = omega (arith, (mark_at_lem f h.1).0)
slot_below marks cells (InCell c f) h = (place_in marks cells c (cell_place f) h.0 (cell_at f h.1).0).1

-- a field is told by its word
head_one : (f g : HeadField) → HeadFits f → HeadFits g → head_place f ≡ head_place g → f ≡ g
head_one f g h i e = sym (head_at f h).1 ∙ (ap head_field e ∙ (head_at g i).1)

mark_one : (f g : MarkField) → MarkFits f → MarkFits g → mark_place f ≡ mark_place g → f ≡ g
mark_one f g h i e = sym (mark_at_lem f h).1 ∙ (ap mark_field e ∙ (mark_at_lem g i).1)

cell_one : (f g : CellField) → CellFits f → CellFits g → cell_place f ≡ cell_place g → f ≡ g
cell_one f g h i e = sym (cell_at f h).1 ∙ (ap cell_field e ∙ (cell_at g i).1)

pub slot_one : (marks cells : ℕ) (x y : Slot) → Within marks cells x → Within marks cells y → address marks cells x ≡ address marks cells y → x ≡ y
unfolding address mark_at
slot_one marks cells (InHead f) (InHead g) h i e = ap InHead (head_one f g h i e)
slot_one marks cells (InHead f) (InMark v g) h i e = absurd (omega (arith, (head_at f h).0))
slot_one marks cells (InHead f) (InCell c g) h i e =
    absurd (omega (arith, (head_at f h).0, (place_in marks cells c (cell_place g) i.0 (cell_at g i.1).0).0))
slot_one marks cells (InMark u f) (InHead g) h i e = absurd (omega (arith, (head_at g i).0))
slot_one marks cells (InMark u f) (InMark v g) h i e =
    let small = (mark_at_lem f h.1).0 in
    let other = (mark_at_lem g i.1).0 in
    ap₂ InMark (omega (arith, small, other)) (mark_one f g h.1 i.1 (omega (arith, small, other)))
slot_one marks cells (InMark u f) (InCell c g) h i e =
    absurd (omega (arith, (mark_at_lem f h.1).0, (place_in marks cells c (cell_place g) i.0 (cell_at g i.1).0).0))
slot_one marks cells (InCell b f) (InHead g) h i e =
    absurd (omega (arith, (head_at g i).0, (place_in marks cells b (cell_place f) h.0 (cell_at f h.1).0).0))
slot_one marks cells (InCell b f) (InMark v g) h i e =
    absurd (omega (arith, (mark_at_lem g i.1).0, (place_in marks cells b (cell_place f) h.0 (cell_at f h.1).0).0))
slot_one marks cells (InCell b f) (InCell c g) h i e =
    let both = place_one marks cells b c (cell_place f) (cell_place g) h.0 i.0 (cell_at f h.1).0 (cell_at g i.1).0 e in
    ap₂ InCell both.0 (cell_one f g h.1 i.1 both.1)

-- the slot at a place of a cell's record
at_place : (marks cells c i : ℕ) (p : Place) → c < cells → PlaceFits p → place_at marks cells c p ≡ i
    → (x : Slot) × Within marks cells x × (address marks cells x ≡ i)
unfolding address
at_place marks cells c i p hc hp e =
    (InCell c (cell_field p), (hc, (cell_of_lem p hp).1), ap (place_at marks cells c) (cell_of_lem p hp).0 ∙ e)

pub slot_of : (marks cells i : ℕ) → i < room marks cells → (x : Slot) × Within marks cells x × (address marks cells x ≡ i)
unfolding address mark_at near_at far_at place_at room
slot_of marks cells i h = go (dec_lt i 16) (dec_lt i (16 + 8 * marks)) (dec_lt i (16 + 8 * marks + 16 * cells))
  where
    go : Dec (i < 16) → Dec (i < 16 + 8 * marks) → Dec (i < 16 + 8 * marks + 16 * cells) → (x : Slot) × Within marks cells x × (address marks cells x ≡ i)
    go (yes a) b c = (InHead (head_field i), (head_of i a).1, (head_of i a).0)
    go (no a) (yes b) c =
        let small : (i - 16) % 8 < mark_words = omega arith in (
          InMark ((i - 16) / 8) (mark_field ((i - 16) % 8)),
          (omega arith, (mark_of ((i - 16) % 8) small).1),
          omega (arith, (mark_of ((i - 16) % 8) small).0),
        )
    go (no a) (no b) (yes c) =
        at_place marks cells ((i - (16 + 8 * marks)) / 16) i (InNear ((i - (16 + 8 * marks)) % 16)) (omega arith) (omega arith) (omega arith)
    go (no a) (no b) (no c) =
        at_place marks cells ((i - (16 + 8 * marks + 16 * cells)) / 16) i (InFar ((i - (16 + 8 * marks + 16 * cells)) % 16)) (omega arith) (omega arith)
        (omega arith)
