-- `reply::reply_format` meets its contract.
use Rattle.reply.proofs.Answered.{format_replied}
use Rattle.reply.proofs.reply_format.Goals as goal

pub returns : goal.returns
returns c =
    format_replied _ _ _ _ _ _ _ _ _ c.format_and_begin-said.ensures c.write_verdict.ensures
