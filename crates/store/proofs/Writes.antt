-- What a write is: of a slot that there is, one word of the room; of any other, nothing.
use mathlib.Core.Path.{◌≡◌, refl, sym, ap, ◌∙◌, subst}
use mathlib.Core.Bool.{Bool, true, false, cond, ◌&&◌}
use mathlib.Core.List.{List}
use mathlib.Core.Logic.{◌⊎◌, ⊎_elim}
use Prim.Native.Nat.{ℕ, ◌+◌, ◌<◌, ◌≤◌}
use native.Mathlib.Omega.{arith}
use borrow.Author.Tests.{lt-ltb, le-ltb, le-leb, lt-leb, ltb-true, leb-true}
use lib.Dec.{leb, ltb}
use lib.ListN.{get_or, set}
use Rattle.numbers.specs.declared.Caps.{Caps}
use denote.Ref.{Bor}
use Rattle.words.specs.Words.{Only, Part}
use Rattle.words.proofs.Frame.{only_none, only_put}
use Rattle.store.specs.Layout.{near_marks, room, mark_at, near_at, far_at}
use Rattle.store.specs.Fields.{HeadField, Magic, MarkCap, CellCap, Edition, Count, HeadRest, MarkField, First, Held, Anchor, MarkRest, CellField, Code, Licence, Near, Sib, Link, Far, CellRest, head_place, mark_place, cell_place, HeadFits, MarkFits, CellFits}
use Rattle.store.specs.Slots.{Slot, InHead, InMark, InCell, place_at, address, Within, head_open, mark_open, cell_open, writable, read, written}
use Rattle.store.proofs.Slots.{slot_below}
use Rattle.shapes.specs.Sizes.{most_code, most_facets, most_marks}

never : {A : Type 0} → false ≡ true → A
never e = absurd (omega (arith, ap {B = ℕ} (λ (b : Bool). cond b 1 0) e))

and_left : (p q : Bool) → (p && q) ≡ true → p ≡ true
and_left true q e = refl
and_left false q e = e

and_right : (p q : Bool) → (p && q) ≡ true → q ≡ true
and_right true q e = e
and_right false q e = never e

and_both : {p q : Bool} → p ≡ true → q ≡ true → (p && q) ≡ true
and_both a b = rw (a, b) refl

and_first : {p : Bool} (q : Bool) → p ≡ false → (p && q) ≡ false
and_first q e = rw e refl

and_second : (p : Bool) {q : Bool} → q ≡ false → (p && q) ≡ false
and_second true e = e
and_second false e = refl

-- a slot that is written is one that there is
head_open_lem : (f : HeadField) → head_open f ≡ true → HeadFits f
unfolding head_open
head_open_lem Magic e = omega arith
head_open_lem MarkCap e = omega arith
head_open_lem CellCap e = omega arith
head_open_lem Edition e = omega arith
head_open_lem (Count t) e = (leb-true 1 t (and_left (leb 1 t) (leb t most_code) e), leb-true t most_code (and_right (leb 1 t) (leb t most_code) e))
head_open_lem (HeadRest k) e = never e

mark_open_lem : (f : MarkField) → mark_open f ≡ true → MarkFits f
unfolding mark_open
mark_open_lem First e = omega arith
mark_open_lem Held e = omega arith
mark_open_lem (Anchor d) e = (leb-true 1 d (and_left (leb 1 d) (leb d 3) e), leb-true d 3 (and_right (leb 1 d) (leb d 3) e))
mark_open_lem (MarkRest k) e = never e

cell_open_lem : (f : CellField) → cell_open f ≡ true → CellFits f
unfolding cell_open
cell_open_lem Code e = omega arith
cell_open_lem Licence e = omega arith
cell_open_lem (Near k) e = ltb-true k near_marks e
cell_open_lem (Sib f) e = ltb-true f most_facets e
cell_open_lem (Link k) e = ltb-true k most_marks e
cell_open_lem (Far k) e = ltb-true k most_marks e
cell_open_lem (CellRest p) e = never e

pub open_within : (caps : Caps) (x : Slot) → writable caps x ≡ true → Within caps.marks caps.cells x
unfolding writable
open_within caps (InHead f) e = head_open_lem f e
open_within caps (InMark v f) e =
    (ltb-true v caps.marks (and_left (ltb v caps.marks) (mark_open f) e), mark_open_lem f (and_right (ltb v caps.marks) (mark_open f) e))
open_within caps (InCell c f) e =
    (ltb-true c caps.cells (and_left (ltb c caps.cells) (cell_open f) e), cell_open_lem f (and_right (ltb c caps.cells) (cell_open f) e))

-- the fields that stand in either part
module _ (marks cells c k : ℕ) where
  pub link_near : k < near_marks → address marks cells (InCell c (Link k)) ≡ near_at marks c + (11 + k)
  unfolding address place_at cell_place
  link_near h = rw (lt-ltb k near_marks h)

  pub link_far : near_marks ≤ k → address marks cells (InCell c (Link k)) ≡ far_at marks cells c + (4 + k)
  unfolding address place_at cell_place
  link_far h = rw (le-ltb k near_marks h)

module _ (w : List ℕ) (caps : Caps) (y : ℕ) where
  pub write_in : (x : Slot) → writable caps x ≡ true → written w caps x y ≡ set w (address caps.marks caps.cells x) y
  unfolding written
  write_in x e = rw e

  pub write_out : (x : Slot) → writable caps x ≡ false → written w caps x y ≡ w
  unfolding written
  write_out x e = rw e

  pub mark_inside : (v : ℕ) (f : MarkField) → v < caps.marks → mark_open f ≡ true
      → written w caps (InMark v f) y ≡ set w (address caps.marks caps.cells (InMark v f)) y
  unfolding writable
  mark_inside v f h e = write_in (InMark v f) (rw (lt-ltb v caps.marks h) e)

  pub mark_outside : (v : ℕ) (f : MarkField) → caps.marks ≤ v → written w caps (InMark v f) y ≡ w
  unfolding writable
  mark_outside v f h = write_out (InMark v f) (rw (le-ltb v caps.marks h) refl)

  pub cell_inside : (c : ℕ) (f : CellField) → c < caps.cells → cell_open f ≡ true
      → written w caps (InCell c f) y ≡ set w (address caps.marks caps.cells (InCell c f)) y
  unfolding writable
  cell_inside c f h e = write_in (InCell c f) (rw (lt-ltb c caps.cells h) e)

  pub cell_outside : (c : ℕ) (f : CellField) → caps.cells ≤ c → written w caps (InCell c f) y ≡ w
  unfolding writable
  cell_outside c f h = write_out (InCell c f) (rw (le-ltb c caps.cells h) refl)

  -- as the code makes it
  pub write_at : (x : Slot) (i : ℕ) (w' : List ℕ) → w' ≡ set w i y → i ≡ address caps.marks caps.cells x → writable caps x ≡ true → w' ≡ written w caps x y
  write_at x i w' e f o = e ∙ (ap (λ (k : ℕ). set w k y) f ∙ sym (write_in x o))

  pub write_mark : (v : ℕ) (f : MarkField) (i : ℕ) (w' : List ℕ) → w' ≡ set w i y → i ≡ address caps.marks caps.cells (InMark v f)
      → v < caps.marks → mark_open f ≡ true → w' ≡ written w caps (InMark v f) y
  unfolding writable
  write_mark v f i w' e q h o = write_at (InMark v f) i w' e q (rw (lt-ltb v caps.marks h) o)

  pub write_cell : (c : ℕ) (f : CellField) (i : ℕ) (w' : List ℕ) → w' ≡ set w i y → i ≡ address caps.marks caps.cells (InCell c f)
      → c < caps.cells → cell_open f ≡ true → w' ≡ written w caps (InCell c f) y
  unfolding writable
  write_cell c f i w' e q h o = write_at (InCell c f) i w' e q (rw (lt-ltb c caps.cells h) o)

  -- field by field
  pub count_out : (t : ℕ) → (t < 1) ⊎ (most_code < t) → written w caps (InHead (Count t)) y ≡ w
  unfolding writable head_open
  count_out t h =
      write_out (InHead (Count t)) (⊎_elim (λ (l : t < 1). and_first (leb t most_code) (lt-leb 1 t l)) (λ (l : most_code < t). and_second (leb 1 t) (lt-leb t most_code l)) h)

  pub count_in_lem : (t i : ℕ) (w' : List ℕ) → w' ≡ set w i y → i ≡ 4 + t → 1 ≤ t → t ≤ most_code → w' ≡ written w caps (InHead (Count t)) y
  unfolding writable head_open address head_place
  count_in_lem t i w' e q a b = write_at (InHead (Count t)) i w' e q (and_both (le-leb 1 t a) (le-leb t most_code b))

  pub anchor_out : (v d : ℕ) → (d < 1) ⊎ (3 < d) → written w caps (InMark v (Anchor d)) y ≡ w
  unfolding writable mark_open
  anchor_out v d h =
      write_out (InMark v (Anchor d))
      (and_second (ltb v caps.marks)
      (⊎_elim (λ (l : d < 1). and_first (leb d 3) (lt-leb 1 d l)) (λ (l : 3 < d). and_second (leb 1 d) (lt-leb d 3 l)) h))

  pub anchor_in : (v d i : ℕ) (w' : List ℕ) → w' ≡ set w i y → i ≡ mark_at v + (1 + d) → v < caps.marks → 1 ≤ d → d ≤ 3
      → w' ≡ written w caps (InMark v (Anchor d)) y
  unfolding mark_open address mark_place
  anchor_in v d i w' e q h a b = write_mark v (Anchor d) i w' e q h (and_both (le-leb 1 d a) (le-leb d 3 b))

  -- the fields of a cell that have a number, under their bound
  module _ (field : ℕ → CellField) (bound : ℕ) (opens : (k : ℕ) → cell_open (field k) ≡ ltb k bound) (c k : ℕ) where
    pub field_out : bound ≤ k → written w caps (InCell c (field k)) y ≡ w
    unfolding writable
    field_out h = write_out (InCell c (field k)) (and_second (ltb c caps.cells) (opens k ∙ le-ltb k bound h))

    pub field_in : (i : ℕ) (w' : List ℕ) → w' ≡ set w i y → i ≡ address caps.marks caps.cells (InCell c (field k)) → c < caps.cells → k < bound
        → w' ≡ written w caps (InCell c (field k)) y
    field_in i w' e q h o = write_cell c (field k) i w' e q h (opens k ∙ lt-ltb k bound o)

  -- on any memory a write stays in the room
  pub write_only : (x : Slot) → Only (λ i. i < room caps.marks caps.cells) w (written w caps x y)
  unfolding written
  write_only x = go (writable caps x) refl
    where
      go : (b : Bool) → writable caps x ≡ b
          → Only (λ i. i < room caps.marks caps.cells) w (cond b (set w (address caps.marks caps.cells x) y) w)
      go true e = only_put w (address caps.marks caps.cells x) y (slot_below caps.marks caps.cells x (open_within caps x e))
      go false e = only_none

pub read_at : (w : List ℕ) (caps : Caps) (x : Slot) (i r : ℕ) → r ≡ get_or w i 0 → i ≡ address caps.marks caps.cells x → r ≡ read w caps x
unfolding read
read_at w caps x i r e f = e ∙ ap (λ (k : ℕ). get_or w k 0) f

pub part_at : (w : Bor (List ℕ)) (i j n : ℕ) (r : Bor (List ℕ)) → Part w i n r → i ≡ j → Part w j n r
part_at w i j n r p e = subst (λ (k : ℕ). Part w k n r) e p
