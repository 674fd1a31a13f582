use mathlib.Core.Path.{◌≡◌}
use Prim.Native.Nat.{◌≤◌}
use lib.ListN.{length}
use Rattle.lists.specs.Filled.{Copied}
use Rattle.group.specs.Places.{place_in, Remembered, anchors_in}
use Rattle.numbers.specs.Sizes.{most_around}
use Rattle.group.proofs.list.Given as goal

abbrev pub invariant-loop-i : goal.invariant-loop-i
invariant-loop-i l = (l.k ≤ l.i) × (length l.kept ≡ most_around) × Remembered (place_in l.w l.caps l.rows l.v.0 l.cells l.lab l.end) l.lab l.kept × Copied (anchors_in (place_in l.w l.caps l.rows l.v.0 l.cells l.lab l.end) l.cells l.i) l.initial.out l.k l.out
