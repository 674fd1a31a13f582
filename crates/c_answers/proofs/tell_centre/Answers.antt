-- `c_answers::tell_centre` meets its contract.
use Rattle.c_answers.proofs.Floats.{point_refused, point_given}
use Rattle.positions.specs.Replies.{centre_says}
use mathlib.Core.Path.{ap}
use Rattle.c_answers.proofs.tell_centre.Goals as goal

pub returns-in-Err : goal.returns-in-Err
unfolding centre_says
returns-in-Err c = point_refused _ _ _ _ _ _ (ap centre_says c.in-Err.is) c.byte_of.ensures

pub returns-in-Ok : goal.returns-in-Ok
unfolding centre_says
returns-in-Ok c = point_given _ _ _ _ _ _ _ (ap centre_says c.in-Ok.is)
