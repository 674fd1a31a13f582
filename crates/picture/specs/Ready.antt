-- What a reader of stars and sets needs of a state while an edit is under way: its cells make a sound map, and each chain lists all
-- cells that hold the mark. With `Settled` the siblings and their ways are right too.
use Rattle.std.specs.Prelude.{◌≡◌, true, ℕ}
use Rattle.numbers.specs.declared.Caps.{Caps}
use Rattle.map.specs.Cells.{holds}
use Rattle.map.specs.Siblings.{is_half, sibling}
use Rattle.map.specs.Ways.{way}
use Rattle.map.specs.Sound.{Sound}
use Rattle.picture.specs.State.{State, map_with}

pub record Ready (caps : Caps) (s : State) : Type 0 where
  pub sound : Sound (map_with caps s)
  pub chains : (v c : ℕ) → s.chain v c ≡ holds (map_with caps s) v c

pub record Settled (caps : Caps) (s : State) : Type 0 where
  pub ready : Ready caps s
  pub siblings : (h : ℕ) → is_half (map_with caps s) h ≡ true → s.sib h ≡ sibling (map_with caps s) h
  pub ways : (h : ℕ) → is_half (map_with caps s) h ≡ true → s.way h ≡ way (map_with caps s) h
