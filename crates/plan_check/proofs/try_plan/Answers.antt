-- `plan_check::try_plan` meets its contract.
use native.Mathlib.Omega.{arith}
use Rattle.plan_check.proofs.Trying.{tried_stopped, tried_yes, tried_wrong}
use Rattle.plan_check.proofs.try_plan.Goals as goal

pub returns-in-Err : goal.returns-in-Err
returns-in-Err c =
    tried_stopped _ _ _ _ _ _ _ _ (omega arith) c.copy_words.ensures _ c.make_edits.ensures _ _ c.in-Err.is

pub shape_of-w-in-Err : goal.shape_of-w-in-Err
shape_of-w-in-Err c = (returns-in-Err c).size

pub returns-then-as_wanted : goal.returns-then-as_wanted
returns-then-as_wanted c =
    tried_yes _ _ _ _ _ _ _ _ (omega arith) c.copy_words.ensures _ c.make_edits.ensures _ c.in-Ok.is _ c.as_wanted.ensures c.if-as_wanted.true

pub shape_of-w-then-as_wanted : goal.shape_of-w-then-as_wanted
shape_of-w-then-as_wanted c = (returns-then-as_wanted c).size

pub returns : goal.returns
returns c =
    tried_wrong _ _ _ _ _ _ _ _ (omega arith) c.copy_words.ensures _ c.make_edits.ensures _ c.in-Ok.is _ c.as_wanted.ensures c.if-as_wanted.false

pub shape_of-w : goal.shape_of-w
shape_of-w c = (returns c).size
