use Rattle.numbers.specs.Sizes.{capacities}
use Rattle.surfaces.proofs.Building.{FacesGoing}
use Rattle.surfaces.proofs.build_faces.Given as goal

abbrev pub invariant-loop-c : goal.invariant-loop-c
invariant-loop-c l = FacesGoing l.initial.w l.text (capacities l.marks l.cells) l.cells l.initial.at.at l.at.at l.c l.w
