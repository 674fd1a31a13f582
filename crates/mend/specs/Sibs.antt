-- While siblings are mended set by set.
use Rattle.std.specs.Prelude.{◌≡◌, false, List, ℕ}
use Rattle.numbers.specs.declared.Caps.{Caps}
use Rattle.picture.specs.State.{State, map_with, state_of}
use Rattle.picture.specs.Picture.{sib_word}
use Rattle.mend.specs.Settle.{among}

-- s' is s with siblings right, but for the sets that are left
pub record Sibs (caps : Caps) (s s' : State) (sets : List (List ℕ)) : Type 0 where
  pub at : s'.at ≡ s.at
  pub chain : s'.chain ≡ s.chain
  pub anc : s'.anc ≡ s.anc
  pub count : s'.count ≡ s.count
  pub right : (h : ℕ) → among (map_with caps s) sets h ≡ false → sib_word s' h ≡ sib_word (state_of (map_with caps s)) h
