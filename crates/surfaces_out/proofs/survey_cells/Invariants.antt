use Rattle.surfaces_out.proofs.Listed.{Surveying}
use Rattle.surfaces_out.proofs.survey_cells.Given as goal

abbrev pub invariant-loop-c : goal.invariant-loop-c
invariant-loop-c l = Surveying l.w l.caps l.c l.faces l.bytes
