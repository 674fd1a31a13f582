-- `cases::most_marks` meets its contract: the words are counted by a lemma, and not one by one.
use Prim.Native.Nat.{ℕ}
use mathlib.Core.Path.{sym}
use lib.ListN.{length-replicate}
use Rattle.cases.proofs.most_marks.Goals as goal

pub slice_bounds-try_room-end : goal.slice_bounds-try_room-end
slice_bounds-try_room-end g c = sym (length-replicate {0} {A = ℕ} 524296 0)
