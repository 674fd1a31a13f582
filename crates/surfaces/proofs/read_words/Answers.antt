-- `surfaces::read_words` meets its contract.
use mathlib.Core.Path.{refl}
use native.Mathlib.Omega.{arith}
use Rattle.off_form.proofs.Passing.{took_stopped, took_got}
use Rattle.surfaces.proofs.Filling.{fill_start, fill_next, fill_stops, fill_done}
use Rattle.surfaces.proofs.read_words.Goals as goal

pub loop-i-init : goal.loop-i-init
loop-i-init g c = fill_start g.K.Kind.says _ _ _ _

pub returns-in_default : goal.returns-in_default
returns-in_default g c l ws e =
    absurd (fill_stops g.K.Kind.says _ _ _ _ _ _ _ c.loop-i.invariant (omega arith) _ (took_stopped _ _ _ c.take.ensures _ c.in_default.is) l ws e)

pub loop-i-preserved : goal.loop-i-preserved
loop-i-preserved g c =
    fill_next g.K.Kind.says _ _ _ _ _ _ _ c.loop-i.invariant (omega arith) _ _ (took_got _ _ _ c.take.ensures _ _ c.in-Ok.is) _ refl _ c.put_value.ensures _ refl

pub returns : goal.returns
returns g c l ws e = fill_done g.K.Kind.says _ _ _ _ _ _ _ c.loop-i.invariant (omega arith) l ws e
