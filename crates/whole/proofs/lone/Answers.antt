-- `whole::lone` meets its contract.
use Rattle.whole.proofs.Readings.{lone_none, lone_some}
use mathlib.Core.Path.{refl}
use Rattle.whole.proofs.lone.Goals as goal

pub returns-then-code_of-eq0 : goal.returns-then-code_of-eq0
returns-then-code_of-eq0 c = lone_none _ _ _ _ c.code_of.ensures c.if-code_of-eq0.true

pub returns : goal.returns
returns c =
    lone_some _ _ _ _ _ _ _ _ _ c.code_of.ensures c.if-code_of-eq0.false c.corner_of-v.ensures c.gather-n.ensures refl c.twins.ensures
