-- `c_answers::tell_half` meets its contract.
use Rattle.c_answers.proofs.Tells.{two_refused, two_given}
use Rattle.map.specs.Says.{half_says}
use mathlib.Core.Path.{ap}
use Rattle.c_answers.proofs.tell_half.Goals as goal

pub returns-in-Err : goal.returns-in-Err
unfolding half_says
returns-in-Err c = two_refused _ _ _ _ _ (ap half_says c.in-Err.is) c.byte_of.ensures

pub returns-in-Ok : goal.returns-in-Ok
unfolding half_says
returns-in-Ok c = two_given _ _ _ _ _ _ (ap half_says c.in-Ok.is) c.way_number.ensures
