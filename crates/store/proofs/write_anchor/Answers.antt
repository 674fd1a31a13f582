-- `store::write_anchor` meets its contract.
use mathlib.Core.Path.{sym}
use mathlib.Core.Logic.{inl, inr}
use native.Mathlib.Omega.{arith}
use Rattle.store.proofs.Writes.{mark_outside, anchor_out, anchor_in}
use Rattle.store.specs.Layout.{mark_at}
use Rattle.store.proofs.write_anchor.Goals as goal

pub returns-then-caps-v : goal.returns-then-caps-v
returns-then-caps-v c = sym (mark_outside _ _ _ _ _ (omega arith))

pub returns-then-d-lt1 : goal.returns-then-d-lt1
returns-then-d-lt1 c = sym (anchor_out _ _ _ _ _ (inl (omega arith)))

pub returns-then-d-gt3 : goal.returns-then-d-gt3
returns-then-d-gt3 c = sym (anchor_out _ _ _ _ _ (inr (omega arith)))

pub returns : goal.returns
unfolding mark_at
returns c = anchor_in _ _ _ _ _ _ _ c.put.ensures (omega arith) (omega arith) (omega arith) (omega arith)
