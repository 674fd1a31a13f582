-- `c_answers::tell_proposal` meets its contract.
use Rattle.c_answers.proofs.Tells.{told_given, told_refused}
use Rattle.planner.specs.Proposed.{proposal_says}
use mathlib.Core.Path.{ap}
use Rattle.c_answers.proofs.tell_proposal.Goals as goal

pub returns-in-Ok : goal.returns-in-Ok
unfolding proposal_says
returns-in-Ok c = told_given _ _ _ (ap proposal_says c.in-Ok.is)

pub returns-in-Err : goal.returns-in-Err
unfolding proposal_says
returns-in-Err c = told_refused _ _ _ _ (ap proposal_says c.in-Err.is) c.byte_of.ensures
