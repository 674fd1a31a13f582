-- `surfaces_out::write_off` meets its contract.
use mathlib.Core.Path.{refl, sym, ◌∙◌}
use native.Mathlib.Omega.{arith}
use Rattle.surfaces_out.proofs.Answered.{total_few, write_none, write_positions, write_other, write_short, write_done}
use Rattle.store.proofs.Shut.{shut_as}
use Rattle.surfaces_out.specs.declared.NotWritten.TheVariants.{Refused}
use Rattle.surfaces_out.proofs.write_off.Goals as goal

pub returns-in_err-caps : goal.returns-in_err-caps
returns-in_err-caps c =
    let p = shut_as Refused _ _ _ _ c.from_residual.ensures.1 c.in_err-caps.was c.«open».ensures in
    rw p.0 (write_none _ _ _ p.1)

pub returns-then-positions-caps : goal.returns-then-positions-caps
returns-then-positions-caps c =
    write_positions _ _ _ _ (sym c.in_ok-caps.was ∙ c.«open».ensures) (omega arith)

pub returns-in_default : goal.returns-in_default
returns-in_default c =
    write_other _ _ _ _ (sym c.in_ok-caps.was ∙ c.«open».ensures) (omega arith) _ c.survey_cells.ensures c.in_default.is

pub overflow_add-total : goal.overflow_add-total
overflow_add-total c =
    let told = c.survey_cells.ensures.is _ c.in-Some.is in
    omega (arith, total_few _ _ _ _ _ _ _ _ _ c.head_length-head.ensures c.vertices_length.ensures told.2)

pub overflow_add-total-2 : goal.overflow_add-total-2
overflow_add-total-2 c =
    let told = c.survey_cells.ensures.is _ c.in-Some.is in
    omega (arith, total_few _ _ _ _ _ _ _ _ _ c.head_length-head.ensures c.vertices_length.ensures told.2)

pub returns-then-out-total : goal.returns-then-out-total
returns-then-out-total c =
    write_short _ _ _ _ (sym c.in_ok-caps.was ∙ c.«open».ensures) (omega arith) _ c.survey_cells.ensures _ c.in-Some.is _ _ _ c.head_length-head.ensures c.vertices_length.ensures refl
    (omega arith)

pub returns : goal.returns
returns c =
    write_done _ _ _ _ (sym c.in_ok-caps.was ∙ c.«open».ensures) (omega arith) _ c.survey_cells.ensures _ c.in-Some.is _ _ _ c.head_length-head.ensures c.vertices_length.ensures refl
    (omega arith) _ _ c.write_text.ensures
