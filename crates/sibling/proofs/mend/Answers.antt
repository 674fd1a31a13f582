-- `sibling::mend` meets its contract.
use mathlib.Core.Path.{refl}
use mathlib.Core.Logic.{inl, inr}
use Rattle.sibling.proofs.Mended.{mend_start, mend_more, mend_end}
use Rattle.sibling.proofs.mend.Goals as goal
use Rattle.sibling.proofs.mend.Goals.{then-next-n, else-next-n}

pub loop-i-init : goal.loop-i-init
loop-i-init c = mend_start _ _ _ _

pub loop-i-preserved : goal.loop-i-preserved
loop-i-preserved c =
    mend_more _ _ _ _ _ _ _ c.loop-i.i c.if-next-n.to _ _ _ _ _ c.sharers-n.ensures refl c.loop-i.invariant
    c.loop-i-test.true (elim c.if-next-n.branch [ then-next-n w ↦ inl (w.if-next-n.true, w.to-is) | else-next-n w ↦ inr (w.if-next-n.false, w.to-is) ])
    c.word.ensures c.word-in-loop-i.ensures c.facing-way.ensures c.put_sibling.ensures

pub returns : goal.returns
returns c =
    mend_end _ _ _ _ _ c.loop-i.i _ _ _ c.sharers-n.ensures c.loop-i.invariant
    c.loop-i-test.false
