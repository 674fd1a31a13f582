-- `reply::reply_insert` meets its contract.
use Rattle.reply.proofs.Answered.{edit_replied}
use Rattle.reply.proofs.reply_insert.Goals as goal

pub returns : goal.returns
returns c =
    λ start. edit_replied _ _ _ _ _ _ _ _ _ start _ _ c.enter_insert-said.ensures c.write_verdict.ensures
