use Rattle.border.proofs.Walked.{Kept}
use Rattle.border.proofs.walks_out.Given as goal

abbrev pub invariant-loop-step : goal.invariant-loop-step
invariant-loop-step l = Kept l.w l.caps l.v.0 l.start.0 l.h.0
