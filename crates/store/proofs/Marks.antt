-- The marks of a cell by the part of its record that they stand in.
use mathlib.Core.Path.{◌≡◌, ap}
use mathlib.Core.List.{List}
use Prim.Native.Nat.{ℕ, ◌+◌, ◌<◌, ◌≤◌}
use native.Mathlib.Decide.{dec_lt}
use native.Mathlib.Omega.{arith}
use borrow.Author.Tests.{lt-ltb, le-ltb, lt-leb, le-leb}
use lib.ListN.{get_or}
use Rattle.numbers.specs.declared.Caps.{Caps}
use Rattle.shapes.specs.Sizes.{most_marks}
use Rattle.store.specs.Layout.{near_marks, near_at, far_at, room}
use Rattle.store.specs.Fields.{Near, Far, cell_place}
use Rattle.store.specs.Slots.{InCell, address, place_at, read, corner_in, marks_at}

-- a corner
module _ (w : List ℕ) (caps : Caps) (c k : ℕ) where
  pub corner_near : k < near_marks → corner_in w caps c k ≡ read w caps (InCell c (Near k))
  unfolding corner_in
  corner_near h = rw (lt-ltb k near_marks h)

  pub corner_far : near_marks ≤ k → corner_in w caps c k ≡ read w caps (InCell c (Far k))
  unfolding corner_in
  corner_far h = rw (le-ltb k near_marks h)

-- where they stand side by side: in the room, at the places of their fields
module _ (caps : Caps) (c n : ℕ) where
  pub marks_near : n ≤ near_marks → marks_at caps c n ≡ near_at caps.marks c + 1
  unfolding marks_at address place_at cell_place
  marks_near h = rw (le-leb n near_marks h)

  pub marks_far : near_marks < n → marks_at caps c n ≡ far_at caps.marks caps.cells c + 0
  unfolding marks_at address place_at cell_place
  marks_far h = rw (lt-leb n near_marks h)

  pub marks_fit : c < caps.cells → n ≤ most_marks → marks_at caps c n + n ≤ room caps.marks caps.cells
  unfolding near_at far_at room
  marks_fit h few = go (dec_lt near_marks n)
    where
      go : Dec (near_marks < n) → marks_at caps c n + n ≤ room caps.marks caps.cells
      go (yes m) = omega (arith, marks_far m)
      go (no f) = omega (arith, marks_near (omega arith))

  module _ (w : List ℕ) (k : ℕ) where
    pub mark_near : n ≤ near_marks → get_or w (marks_at caps c n + k) 0 ≡ read w caps (InCell c (Near k))
    unfolding read address place_at cell_place
    mark_near h = ap (λ (i : ℕ). get_or w i 0) (omega (arith, marks_near h))

    pub mark_far : near_marks < n → get_or w (marks_at caps c n + k) 0 ≡ read w caps (InCell c (Far k))
    unfolding read address place_at cell_place
    mark_far h = ap (λ (i : ℕ). get_or w i 0) (omega (arith, marks_far h))
