use mathlib.Core.Path.{◌≡◌}
use Prim.Native.Nat.{◌-◌}
use lib.ListN.{length}
use Rattle.off.specs.Reading.{faces}
use Rattle.off_form.specs.Took.{left, went}
use Rattle.off_form.proofs.pass_faces.Given as goal

abbrev pub invariant-loop : goal.invariant-loop
invariant-loop l =
    went (faces (length l.text) l.n 0 (left l.text l.initial.at.at)) ≡ went (faces (length l.text) (l.n - l.counter) l.counter (left l.text l.at.at))
