-- The words that say nothing: the lists name exactly those that the table of fields has. One test, computed.
use mathlib.Core.Path.{◌≡◌, refl, sym, ap, ◌∙◌}
use mathlib.Core.Bool.{Bool, true, false, not, ◌&&◌}
use mathlib.Core.List.{List, [], ◌∷◌}
use Prim.Native.Nat.{ℕ, ◌+◌, ◌<◌}
use borrow.Author.Tests.{eq-eqb, eqb-true, ltb-true}
use lib.Dec.{eqb, ltb}
use lib.ListN.{get_or}
use Rattle.lists.specs.Lists.{all, has, every}
use Rattle.lists.proofs.Bools.{clash, and_left, and_right}
use Rattle.lists.proofs.Members.{all_has, has_all}
use Rattle.lists.proofs.Every.{every_at}
use Rattle.numbers.specs.declared.Caps.{Caps}
use Rattle.store.specs.Layout.{mark_words, mark_at, far_at}
use Rattle.store.specs.Fields.{HeadField, Magic, MarkCap, CellCap, Edition, Count, HeadRest, MarkField, First, Held, Anchor, MarkRest, CellField, Code, Licence, Near, Sib, Link, Far, CellRest, Place, InNear, InFar, head_place, head_fields, head_field, mark_place, mark_fields, mark_field, cell_place, near_fields, far_fields, cell_field, HeadFits, MarkFits, CellFits}
use Rattle.store.specs.Slots.{Slot, InHead, InMark, InCell, place_at, address, read}
use Rattle.store.specs.Rests.{head_rests, mark_rests, far_rests, blank, head_blank, mark_blank, cell_blank}
use Rattle.store.proofs.Fields.{head_of, mark_of, cell_of_lem}

-- a field that says nothing
head_silent : HeadField → Bool
head_silent Magic = false
head_silent MarkCap = false
head_silent CellCap = false
head_silent Edition = false
head_silent (Count t) = false
head_silent (HeadRest k) = true

head_silent_lem : (f : HeadField) → head_silent f ≡ true → f ≡ HeadRest (head_place f)
unfolding head_silent head_place
head_silent_lem Magic e = absurd (clash e refl)
head_silent_lem MarkCap e = absurd (clash e refl)
head_silent_lem CellCap e = absurd (clash e refl)
head_silent_lem Edition e = absurd (clash e refl)
head_silent_lem (Count t) e = absurd (clash e refl)
head_silent_lem (HeadRest k) e = refl

mark_silent : MarkField → Bool
mark_silent First = false
mark_silent Held = false
mark_silent (Anchor d) = false
mark_silent (MarkRest k) = true

mark_silent_lem : (f : MarkField) → mark_silent f ≡ true → f ≡ MarkRest (mark_place f)
unfolding mark_silent mark_place
mark_silent_lem First e = absurd (clash e refl)
mark_silent_lem Held e = absurd (clash e refl)
mark_silent_lem (Anchor d) e = absurd (clash e refl)
mark_silent_lem (MarkRest k) e = refl

cell_silent : CellField → Bool
cell_silent Code = false
cell_silent Licence = false
cell_silent (Near k) = false
cell_silent (Sib f) = false
cell_silent (Link k) = false
cell_silent (Far k) = false
cell_silent (CellRest p) = true

cell_silent_lem : (f : CellField) → cell_silent f ≡ true → f ≡ CellRest (cell_place f)
unfolding cell_silent cell_place
cell_silent_lem Code e = absurd (clash e refl)
cell_silent_lem Licence e = absurd (clash e refl)
cell_silent_lem (Near k) e = absurd (clash e refl)
cell_silent_lem (Sib f) e = absurd (clash e refl)
cell_silent_lem (Link k) e = absurd (clash e refl)
cell_silent_lem (Far k) e = absurd (clash e refl)
cell_silent_lem (CellRest p) e = refl

-- a list names the places below n of the silent fields, and no other
alike : Bool → Bool → Bool
alike true b = b
alike false b = not b

alike_same : (a b : Bool) → alike a b ≡ true → a ≡ b
unfolding alike
alike_same true true e = refl
alike_same true false e = absurd (clash e refl)
alike_same false true e = absurd (clash e refl)
alike_same false false e = refl

names : ℕ → (ℕ → Bool) → List ℕ → Bool
names n silent l = every n (λ k. alike (silent k) (has k l)) && all (λ k. ltb k n) l

module _ (n : ℕ) (silent : ℕ → Bool) (l : List ℕ) (e : names n silent l ≡ true) where
  named_silent : (k : ℕ) → has k l ≡ true → (k < n) × (silent k ≡ true)
  unfolding names
  named_silent k t =
      let less = ltb-true k n (all_has (λ (k : ℕ). ltb k n) l (and_right (every n (λ (k : ℕ). alike (silent k) (has k l))) _ e) k t) in
      (less, alike_same (silent k) (has k l) (every_at (λ (k : ℕ). alike (silent k) (has k l)) n (and_left _ (all (λ (k : ℕ). ltb k n) l) e) k less) ∙ t)

  silent_named : (k : ℕ) → k < n → silent k ≡ true → has k l ≡ true
  unfolding names
  silent_named k less t =
      sym (alike_same (silent k) (has k l) (every_at (λ (k : ℕ). alike (silent k) (has k l)) n (and_left _ (all (λ (k : ℕ). ltb k n) l) e) k less)) ∙ t

head_named : names 16 (λ k. head_silent (head_field k)) head_rests ≡ true
unfolding names every all has alike head_silent head_field head_fields head_rests
head_named = refl

mark_named : names mark_words (λ k. mark_silent (mark_field k)) mark_rests ≡ true
unfolding names every all has alike mark_silent mark_field mark_fields mark_rests
mark_named = refl

near_named : names 16 (λ k. cell_silent (cell_field (InNear k))) [] ≡ true
unfolding names every all has alike cell_silent cell_field near_fields
near_named = refl

far_named : names 16 (λ k. cell_silent (cell_field (InFar k))) far_rests ≡ true
unfolding names every all has alike cell_silent cell_field far_fields far_rests
far_named = refl

-- as the code reads them, place by place
pub mark_blank_lem : (w : List ℕ) (caps : Caps) (v at : ℕ) (r : Bool) → r ≡ all (λ i. eqb (get_or w i 0) 0) ((at + 5) ∷ (at + 6) ∷ (at + 7) ∷ [])
    → at ≡ mark_at v → r ≡ mark_blank w caps v
unfolding mark_blank mark_rests blank read address mark_place all
mark_blank_lem w caps v at r e m = e ∙ rw m

pub cell_blank_lem : (w : List ℕ) (caps : Caps) (c far : ℕ) (r : Bool)
    → r ≡ all (λ i. eqb (get_or w i 0) 0) ((far + 12) ∷ (far + 13) ∷ (far + 14) ∷ (far + 15) ∷ [])
    → far ≡ far_at caps.marks caps.cells c → r ≡ cell_blank w caps c
unfolding cell_blank far_rests blank read address place_at cell_place all
cell_blank_lem w caps c far r e f = e ∙ rw f

module _ (w : List ℕ) (caps : Caps) where
  -- one of a list of blank slots
  one_blank : (slot : ℕ → Slot) (l : List ℕ) → all (λ k. blank w caps (slot k)) l ≡ true → (k : ℕ) → has k l ≡ true → read w caps (slot k) ≡ 0
  unfolding blank
  one_blank slot l e k t = eqb-true (read w caps (slot k)) 0 (all_has (λ (k : ℕ). eqb (read w caps (slot k)) 0) l e k t)

  all_blank : (slot : ℕ → Slot) (l : List ℕ) → ((k : ℕ) → has k l ≡ true → read w caps (slot k) ≡ 0) → all (λ k. blank w caps (slot k)) l ≡ true
  unfolding blank
  all_blank slot l f = has_all (λ (k : ℕ). eqb (read w caps (slot k)) 0) l (λ k t. eq-eqb (read w caps (slot k)) 0 (f k t))

  -- the head
  pub head_rest : head_blank w caps ≡ true → (k : ℕ) → HeadFits (HeadRest k) → read w caps (InHead (HeadRest k)) ≡ 0
  unfolding head_blank head_silent
  head_rest e k h =
      one_blank (λ k. InHead (HeadRest k)) head_rests e k (silent_named 16 (λ k. head_silent (head_field k)) head_rests head_named k h.0 (ap head_silent h.1))

  pub rest_head : ((k : ℕ) → HeadFits (HeadRest k) → read w caps (InHead (HeadRest k)) ≡ 0) → head_blank w caps ≡ true
  unfolding head_blank
  rest_head f =
      all_blank (λ k. InHead (HeadRest k)) head_rests
      (λ k t.
      let s = named_silent 16 (λ k. head_silent (head_field k)) head_rests head_named k t in
      f k (s.0, head_silent_lem (head_field k) s.1 ∙ ap HeadRest (head_of k s.0).0))

  -- a mark's record
  module _ (v : ℕ) where
    pub mark_rest : mark_blank w caps v ≡ true → (k : ℕ) → MarkFits (MarkRest k) → read w caps (InMark v (MarkRest k)) ≡ 0
    unfolding mark_blank mark_silent
    mark_rest e k h =
        one_blank (λ k. InMark v (MarkRest k)) mark_rests e k (silent_named mark_words (λ k. mark_silent (mark_field k)) mark_rests mark_named k h.0 (ap mark_silent h.1))

    pub rest_mark : ((k : ℕ) → MarkFits (MarkRest k) → read w caps (InMark v (MarkRest k)) ≡ 0) → mark_blank w caps v ≡ true
    unfolding mark_blank
    rest_mark f =
        all_blank (λ k. InMark v (MarkRest k)) mark_rests
        (λ k t.
        let s = named_silent mark_words (λ k. mark_silent (mark_field k)) mark_rests mark_named k t in
        f k (s.0, mark_silent_lem (mark_field k) s.1 ∙ ap MarkRest (mark_of k s.0).0))

  -- a cell's
  module _ (c : ℕ) where
    pub cell_rest : cell_blank w caps c ≡ true → (p : Place) → CellFits (CellRest p) → read w caps (InCell c (CellRest p)) ≡ 0
    unfolding cell_blank cell_silent has
    cell_rest e (InNear k) h =
        absurd (clash (silent_named 16 (λ k. cell_silent (cell_field (InNear k))) [] near_named k h.0 (ap cell_silent h.1)) refl)
    cell_rest e (InFar k) h =
        one_blank (λ k. InCell c (CellRest (InFar k))) far_rests e k
        (silent_named 16 (λ k. cell_silent (cell_field (InFar k))) far_rests far_named k h.0 (ap cell_silent h.1))

    pub rest_cell : ((p : Place) → CellFits (CellRest p) → read w caps (InCell c (CellRest p)) ≡ 0) → cell_blank w caps c ≡ true
    unfolding cell_blank
    rest_cell f =
        all_blank (λ k. InCell c (CellRest (InFar k))) far_rests
        (λ k t.
        let s = named_silent 16 (λ k. cell_silent (cell_field (InFar k))) far_rests far_named k t in
        f (InFar k) (s.0, cell_silent_lem (cell_field (InFar k)) s.1 ∙ ap CellRest (cell_of_lem (InFar k) s.0).0))
