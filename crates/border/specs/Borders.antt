-- Borders by the words.
use Rattle.std.specs.Prelude.{Bool, not, ◌||◌, List, ℕ, ◌%◌, eqb}
use Rattle.numbers.specs.Half.{cut, half_of}
use Rattle.numbers.specs.declared.Caps.{Caps}
use Rattle.store.specs.Slots.{sibling_in}

-- the stored sibling of a cell's facet is that half-facet
unfoldable pub border_in : List ℕ → Caps → ℕ → ℕ → Bool
border_in w caps c f = eqb (sibling_in w caps (half_of (cut c) (f % 8))) (half_of (cut c) (f % 8))

-- the half-facet is a border, where only those are asked for
unfoldable pub wanted_in : List ℕ → Caps → ℕ → ℕ → Bool → Bool
wanted_in w caps c f only = not only || border_in w caps c f
