-- `shapes::facet_table` meets its contract.
use mathlib.Core.Path.{refl}
use Rattle.shapes.specs.Shapes.{no_shape, shapes}
use Rattle.shapes.specs.Table.{padded, facet_row, type_row, table}
use Rattle.shapes.proofs.facet_table.Goals as goal

pub returns : goal.returns
unfolding no_shape shapes padded facet_row type_row table
returns c = refl
