-- What the walk of a chain writes and finds: the word that leads on, and the spot of a cell in a chain.
use Rattle.std.specs.Prelude.{◌≡◌, Bool, cond, List, ℕ, zero, suc, ◌-◌, ◌/◌, ◌%◌, ◌<◌, ◌≤◌, eqb}
use Rattle.numbers.specs.declared.Caps.{Caps}
use Rattle.store.specs.Fields.{First, Link}
use Rattle.store.specs.Slots.{InMark, InCell, written}
use Rattle.picture.specs.State.{State}
use Rattle.picture.specs.Picture.{Pic, link_to, link}
use Rattle.chain.specs.Chain.{Linked}
use Rattle.chain.specs.declared.Spot.{Spot}

-- the word that leads on from a link of the chain of v, or into the chain where that is 0, written
unfoldable pub set_lead : List ℕ → Caps → ℕ → ℕ → ℕ → List ℕ
set_lead w caps before v x =
    cond (eqb before 0) (written w caps (InMark v First) x) (written w caps (InCell ((before - 1) / 8) (Link ((before - 1) % 8))) x)

-- the last number below n that passes, as number + 1; 0 for none
unfoldable pub last_below : (ℕ → Bool) → ℕ → ℕ
last_below p zero = 0
last_below p (suc n) = cond (p n) (suc n) (last_below p n)

-- what `find` answers: the link to the last cell of the chain before c, and to the first one from c on
pub record Found (w : List ℕ) (caps : Caps) (v c : ℕ) (r : Spot) : Type 0 where
  pub spot : (s : State) → Pic w caps s → Linked caps s → v < caps.marks → c ≤ caps.cells
      → (r.before ≡ link_to s.at v (last_below (s.chain v) c)) × (r.after ≡ link caps s v c)
