-- `store::write_held` meets its contract.
use mathlib.Core.Path.{refl, sym}
use native.Mathlib.Omega.{arith}
use Rattle.store.proofs.Writes.{mark_outside, write_mark}
use Rattle.store.specs.Fields.{mark_place}
use Rattle.store.specs.Slots.{address, mark_open}
use Rattle.store.specs.Layout.{mark_at}
use Rattle.store.proofs.write_held.Goals as goal

pub returns-then-caps-v : goal.returns-then-caps-v
returns-then-caps-v c = sym (mark_outside _ _ _ _ _ (omega arith))

pub returns : goal.returns
unfolding address mark_place mark_at mark_open
returns c = write_mark _ _ _ _ _ _ _ c.put.ensures (omega arith) (omega arith) refl
