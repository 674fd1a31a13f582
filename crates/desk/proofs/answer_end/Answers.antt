-- `desk::answer_end` meets its contract.
use mathlib.Core.Path.{refl}
use Rattle.desk.proofs.Turning.{end_so}
use Rattle.desk.proofs.answer_end.Goals as goal

pub returns : goal.returns
returns c = end_so _ _ _ _ _ _ _ _ _ _ _ c.finish-n.ensures refl c.part.ensures refl c.write_out-sent.ensures
