-- `map::way_number` meets its contract.
use mathlib.Core.Path.{sym, ap}
use Rattle.map.specs.Ways.{way_number}
use Rattle.map.proofs.way_number.Goals as goal

pub returns-in-Lone : goal.returns-in-Lone
unfolding way_number
returns-in-Lone c = ap way_number (sym c.in-Lone.is)

pub returns-in-Same : goal.returns-in-Same
unfolding way_number
returns-in-Same c = ap way_number (sym c.in-Same.is)

pub returns-in-Opposite : goal.returns-in-Opposite
unfolding way_number
returns-in-Opposite c = ap way_number (sym c.in-Opposite.is)

pub returns-in-Neither : goal.returns-in-Neither
unfolding way_number
returns-in-Neither c = ap way_number (sym c.in-Neither.is)
