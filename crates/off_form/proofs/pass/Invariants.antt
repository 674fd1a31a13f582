use mathlib.Core.Path.{◌≡◌}
use Prim.Native.Nat.{◌-◌}
use lib.ListN.{length}
use Rattle.off.specs.Reading.{many}
use Rattle.off_form.specs.Took.{left, went}
use Rattle.off_form.proofs.pass.Given as goal

abbrev pub invariant-loop : goal.invariant-loop
invariant-loop g l =
    went (many g.K.Kind.says (length l.text) l.n (left l.text l.initial.at.at))
    ≡ went (many g.K.Kind.says (length l.text) (l.n - l.counter) (left l.text l.at.at))
