-- `store::write_count` meets its contract.
use mathlib.Core.Path.{sym}
use mathlib.Core.Logic.{inl, inr}
use native.Mathlib.Omega.{arith}
use Rattle.store.proofs.Writes.{count_out, count_in_lem}
use Rattle.store.proofs.write_count.Goals as goal

pub returns-then-t-lt1 : goal.returns-then-t-lt1
returns-then-t-lt1 c = sym (count_out _ _ _ _ (inl (omega arith)))

pub returns-then-t-gt-MOST_CODE : goal.returns-then-t-gt-MOST_CODE
returns-then-t-gt-MOST_CODE c = sym (count_out _ _ _ _ (inr (omega arith)))

pub returns : goal.returns
returns c = count_in_lem _ _ _ _ _ _ c.put.ensures (omega arith) (omega arith) (omega arith)
