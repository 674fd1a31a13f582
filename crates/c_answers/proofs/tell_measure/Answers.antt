-- `c_answers::tell_measure` meets its contract.
use Rattle.c_answers.proofs.Floats.{measure_refused, measure_given}
use Rattle.positions.specs.Replies.{measure_says}
use mathlib.Core.Path.{ap}
use Rattle.c_answers.proofs.Tells.{ok_with}
use Rattle.c_answers.proofs.tell_measure.Goals as goal

pub returns-in-Err : goal.returns-in-Err
unfolding measure_says
returns-in-Err c = measure_refused _ _ _ _ _ (ap measure_says c.in-Err.is) c.byte_of.ensures

pub returns-in-Ok-SquaredLength : goal.returns-in-Ok-SquaredLength
unfolding measure_says
returns-in-Ok-SquaredLength c = measure_given _ _ _ _ _ (ap measure_says (ok_with c.in-Ok-SquaredLength.is (rw c.in-Ok-SquaredLength.is at c.in-Ok-SquaredLength.field-0-is)))

pub returns-in-Ok-DoubledArea : goal.returns-in-Ok-DoubledArea
unfolding measure_says
returns-in-Ok-DoubledArea c = measure_given _ _ _ _ _ (ap measure_says (ok_with c.in-Ok-DoubledArea.is (rw c.in-Ok-DoubledArea.is at c.in-Ok-DoubledArea.field-0-is)))

pub returns-in-Ok-SixfoldVolume : goal.returns-in-Ok-SixfoldVolume
unfolding measure_says
returns-in-Ok-SixfoldVolume c = measure_given _ _ _ _ _ (ap measure_says (ok_with c.in-Ok-SixfoldVolume.is (rw c.in-Ok-SixfoldVolume.is at c.in-Ok-SixfoldVolume.field-0-is)))
