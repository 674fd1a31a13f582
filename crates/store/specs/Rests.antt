-- The words that say nothing, by their places, and whether they are 0.
use Rattle.std.specs.Prelude.{Bool, List, [], ◌∷◌, ℕ, eqb}
use Rattle.lists.specs.Lists.{all}
use Rattle.numbers.specs.declared.Caps.{Caps}
use Rattle.store.specs.Fields.{HeadRest, MarkRest, CellRest, InFar}
use Rattle.store.specs.Slots.{Slot, InHead, InMark, InCell, read}

-- in the head, in a mark's record, in the second part of a cell's: in the first there is none
unfoldable pub head_rests : List ℕ
head_rests = 4 ∷ 12 ∷ 13 ∷ 14 ∷ 15 ∷ []

unfoldable pub mark_rests : List ℕ
mark_rests = 5 ∷ 6 ∷ 7 ∷ []

unfoldable pub far_rests : List ℕ
far_rests = 12 ∷ 13 ∷ 14 ∷ 15 ∷ []

-- the word of a slot is 0
unfoldable pub blank : List ℕ → Caps → Slot → Bool
blank w caps x = eqb (read w caps x) 0

-- all that say nothing are 0
unfoldable pub head_blank : List ℕ → Caps → Bool
head_blank w caps = all (λ k. blank w caps (InHead (HeadRest k))) head_rests

unfoldable pub mark_blank : List ℕ → Caps → ℕ → Bool
mark_blank w caps v = all (λ k. blank w caps (InMark v (MarkRest k))) mark_rests

unfoldable pub cell_blank : List ℕ → Caps → ℕ → Bool
cell_blank w caps c = all (λ k. blank w caps (InCell c (CellRest (InFar k)))) far_rests
