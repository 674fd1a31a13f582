-- `positions::measure_of` meets its contract.
use Rattle.positions.proofs.Measures.{of_bar, of_tri, of_quad, of_tetra, of_none}
use Rattle.positions.proofs.measure_of.Goals as goal

pub returns-in-1 : goal.returns-in-1
returns-in-1 c = of_bar _ _ _ _ _ _ _ c.in-1.is c.squared_length.ensures.value

pub returns-in-2 : goal.returns-in-2
returns-in-2 c = of_tri _ _ _ _ _ _ _ c.in-2.is c.doubled_area.ensures.value

pub returns-in-3 : goal.returns-in-3
returns-in-3 c = of_quad _ _ _ _ _ _ _ c.in-3.is c.doubled_area-in-3.ensures.value

pub returns-in-4 : goal.returns-in-4
returns-in-4 c = of_tetra _ _ _ _ _ _ _ c.in-4.is c.sixfold_volume.ensures.value

pub returns-in_default : goal.returns-in_default
returns-in_default c = of_none _ _ _ _ _ _ c.in_default.in_default-own.rest.0.0.0.1 c.in_default.in_default-own.rest.0.0.1 c.in_default.in_default-own.rest.0.1 c.in_default.in_default-own.rest.1
