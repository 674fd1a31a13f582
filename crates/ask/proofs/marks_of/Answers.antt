-- `ask::marks_of` meets its contract.
use Rattle.ask.proofs.Marks.{marks_refused, marks_given}
use mathlib.Core.Path.{refl}
use Rattle.ask.proofs.marks_of.Goals as goal

pub returns-in-Err : goal.returns-in-Err
returns-in-Err c = marks_refused _ _ _ _ c.about_cell.ensures _ c.in-Err.is c.part.ensures

pub returns-in-Ok : goal.returns-in-Ok
returns-in-Ok c =
    let opens = c.about_cell.ensures.opens _ c.in-Ok.is in
    marks_given _ _ _ _ opens.0 _ opens.1 refl c.marks_at.ensures
