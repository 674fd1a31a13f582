-- `insert_checks::third_solid` meets its contract.
use Rattle.insert_checks.proofs.Faces.{third_first, third_flat, third_looked}
use Rattle.insert_checks.proofs.third_solid.Goals as goal

pub returns-then-caps-ne-SECOND_EDITION : goal.returns-then-caps-ne-SECOND_EDITION
returns-then-caps-ne-SECOND_EDITION c = third_first _ _ _ _ c.if-caps-ne-SECOND_EDITION.true

pub returns-then-dimension-ne3 : goal.returns-then-dimension-ne3
returns-then-dimension-ne3 c = third_flat _ _ _ _ c.if-caps-ne-SECOND_EDITION.false _ c.dimension.ensures c.if-dimension-ne3.true

pub returns : goal.returns
returns c =
    third_looked _ _ _ _ _ c.if-caps-ne-SECOND_EDITION.false _ c.dimension.ensures c.if-dimension-ne3.false c.facet_table-rows.ensures _
    c.one_full.ensures
