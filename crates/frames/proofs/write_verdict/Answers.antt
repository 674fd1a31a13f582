-- `frames::write_verdict` meets its contract.
use Rattle.frames.proofs.Texts.{verdict_done}
use Rattle.frames.proofs.write_verdict.Goals as goal

pub returns : goal.returns
returns c =
    verdict_done c.args.v _ c.refusal_byte.ensures c.add_byte-next.ensures c.add.ensures
