-- `c_answers::tell_pair` meets its contract.
use Rattle.c_answers.proofs.Tells.{two_refused, two_given}
use Rattle.map.specs.Says.{pair_says}
use mathlib.Core.Path.{refl, ap}
use Rattle.c_answers.proofs.tell_pair.Goals as goal

pub returns-in-Err : goal.returns-in-Err
unfolding pair_says
returns-in-Err c = two_refused _ _ _ _ _ (ap pair_says c.in-Err.is) c.byte_of.ensures

pub returns-in-Ok : goal.returns-in-Ok
unfolding pair_says
returns-in-Ok c = two_given _ _ _ _ _ _ (ap pair_says c.in-Ok.is) refl
