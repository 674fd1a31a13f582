-- `reply::reply_sibling` meets its contract.
use Rattle.reply.proofs.Answered.{sibling_refused, sibling_replied}
use Rattle.reply.proofs.reply_sibling.Goals as goal

pub returns-in-Err : goal.returns-in-Err
returns-in-Err c =
    sibling_refused _ _ _ _ _ _ _ _ _ c.sibling.ensures _ c.in-Err.is c.write_verdict.ensures

pub returns-in-Ok : goal.returns-in-Ok
returns-in-Ok c =
    sibling_replied _ _ _ _ _ _ _ _ _ c.sibling.ensures _ _ c.in-Ok.is c.write_half.ensures
