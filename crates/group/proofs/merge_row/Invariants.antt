use mathlib.Core.Path.{◌≡◌}
use Prim.Native.Nat.{◌<◌}
use lib.ListN.{length}
use Rattle.group.specs.Labels.{link_in, Pairs, Merged}
use Rattle.group.proofs.merge_row.Given as goal

abbrev pub invariant-loop-b : goal.invariant-loop-b
invariant-loop-b l = (length l.lab ≡ length l.initial.lab) × (l.a < l.n → Merged (link_in l.w l.caps l.rows l.v.0 l.cells) l.n (Pairs l.a l.b l.a) l.initial.lab l.lab)
