-- `sibling::same_turned` meets its contract.
use mathlib.Core.Path.{refl}
use native.Mathlib.Omega.{arith}
use Rattle.sibling.proofs.Turned.{same_sizes, agree_start, agree_more, agree_stop, agree_end}
use Rattle.sibling.proofs.same_turned.Goals as goal

pub returns-then-a-b : goal.returns-then-a-b
returns-then-a-b c = same_sizes _ _ _ _ c.if-a-b.true

pub loop-k-init : goal.loop-k-init
loop-k-init c = agree_start _ _ _ _ c.if-a-b.false

pub returns-then-x-word : goal.returns-then-x-word
returns-then-x-word c =
    let loop = c.loop-k in
    agree_stop _ _ _ _ _ _ _ _ _ loop.invariant refl c.word.ensures c.end_place-at.ensures
    c.turned_place.ensures (omega arith) c.if-x-word.true

pub loop-k-preserved : goal.loop-k-preserved
loop-k-preserved c =
    let loop = c.loop-k in
    agree_more _ _ _ _ _ _ _ _ _ loop.invariant refl c.word.ensures c.end_place-at.ensures
    c.turned_place.ensures c.if-x-word.false

pub returns : goal.returns
returns c = agree_end _ _ _ _ _ c.loop-k.invariant (omega arith) (omega arith)
