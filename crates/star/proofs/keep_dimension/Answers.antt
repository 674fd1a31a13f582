-- `star::keep_dimension` meets its contract.
use Rattle.star.proofs.Along.{kept_start, kept_yes, kept_no, kept_end}
use native.Mathlib.Omega.{arith}
use Rattle.star.proofs.keep_dimension.Goals as goal
use Rattle.star.proofs.keep_dimension.Goals.{then-dimension-d, else-dimension-d}

pub loop-i-init : goal.loop-i-init
loop-i-init c = (omega arith, kept_start _ _ _ _ _)

pub loop-i-preserved : goal.loop-i-preserved
loop-i-preserved c =
    elim c.if-dimension-d.branch [
      | then-dimension-d w ↦ (
        omega (arith, w.k-is, c.loop-i.invariant.0),
        rw (w.k-is, w.out-is) (kept_yes _ _ _ _ _ c.loop-i.i _ _ _ _ _ _ c.loop-i.invariant.1 c.word.ensures c.code_of.ensures c.dimension.ensures w.if-dimension-d.true w.put.ensures),
      )
      | else-dimension-d w ↦ (
        omega (arith, w.k-is, c.loop-i.invariant.0),
        rw (w.k-is, w.out-is) (kept_no _ _ _ _ _ c.loop-i.i _ _ _ _ _ c.loop-i.invariant.1 c.word.ensures c.code_of.ensures c.dimension.ensures w.if-dimension-d.false),
      )
    ]

pub returns : goal.returns
returns c = kept_end _ _ _ _ _ _ c.loop-i.i _ _ c.loop-i.invariant.1 (omega arith) (omega arith)
