-- `input::keep` meets its contract.
use native.Mathlib.Omega.{arith}
use Rattle.input.proofs.Lines.{kept_full, kept_out, kept_more}
use Rattle.input.proofs.keep.Goals as goal

pub returns-then-n-ge-MOST : goal.returns-then-n-ge-MOST
returns-then-n-ge-MOST c = kept_full _ _ _ (omega arith)

pub returns-then-line-n : goal.returns-then-line-n
returns-then-line-n c = kept_out _ _ _ (omega arith) (omega arith)

pub returns : goal.returns
returns c = kept_more _ _ _ _ (omega arith) (omega arith) (omega arith)
