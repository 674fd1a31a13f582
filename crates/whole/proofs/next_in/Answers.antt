-- `whole::next_in` meets its contract.
use Rattle.whole.proofs.Afters.{above_start, above_more, after_found, after_none, after_first}
use native.Mathlib.Omega.{arith}
use Rattle.whole.proofs.next_in.Goals as goal

pub loop-i-init : goal.loop-i-init
loop-i-init c = above_start _ _

pub returns-then-h-x : goal.returns-then-h-x
returns-then-h-x c = after_found _ _ c.loop-i.i _ _ c.loop-i.invariant c.word-x.ensures c.if-h-x.true (omega arith)

pub loop-i-preserved : goal.loop-i-preserved
loop-i-preserved c = above_more _ _ c.loop-i.i _ c.loop-i.invariant c.word-x.ensures c.if-h-x.false

pub returns-then-n-eq0 : goal.returns-then-n-eq0
returns-then-n-eq0 c = after_none _ _ c.loop-i.i _ c.loop-i.invariant (omega arith) (omega arith) c.if-n-eq0.true

pub returns : goal.returns
returns c = after_first _ _ c.loop-i.i _ _ c.loop-i.invariant (omega arith) (omega arith) c.if-n-eq0.false c.word.ensures
