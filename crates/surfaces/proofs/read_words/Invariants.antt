use Rattle.surfaces.proofs.Filling.{Filling}
use Rattle.surfaces.proofs.read_words.Given as goal

abbrev pub invariant-loop-i : goal.invariant-loop-i
invariant-loop-i g l = Filling g.K.Kind.says l.text l.n l.initial.at.at l.initial.out l.i l.at.at l.out
