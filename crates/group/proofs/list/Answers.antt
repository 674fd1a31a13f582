-- `group::list` meets its contract.
use mathlib.Core.Path.{refl}
use native.Mathlib.Omega.{arith}
use Rattle.group.proofs.Recalling.{kept_none}
use Rattle.group.proofs.Listing.{list_start, list_yes, list_no, list_end}
use Rattle.numbers.specs.Sizes.{most_around}
use Rattle.group.proofs.list.Goals as goal
use Rattle.group.proofs.list.Goals.{then-x-i, else-x-i}

pub loop-i-init : goal.loop-i-init
loop-i-init c = (omega arith, refl, kept_none _ _ most_around, list_start _ _ _)

pub loop-i-preserved : goal.loop-i-preserved
loop-i-preserved c =
    elim c.if-x-i.branch [
      | then-x-i w ↦ (
        omega (arith, w.k-is, c.loop-i.invariant.0),
        omega arith,
        c.recall-x.ensures.still c.loop-i.invariant.2,
        rw (w.k-is, w.out-is) (list_yes _ _ _ c.loop-i.i _ _ _ _ _ _ c.loop-i.invariant.3 (c.recall-x.ensures.right c.loop-i.invariant.2) w.if-x-i.true w.word.ensures w.half_of-half.ensures w.put.ensures),
      )
      | else-x-i w ↦ (
        omega (arith, w.k-is, c.loop-i.invariant.0),
        omega arith,
        c.recall-x.ensures.still c.loop-i.invariant.2,
        rw (w.k-is, w.out-is) (list_no _ _ _ c.loop-i.i _ _ _ c.loop-i.invariant.3 (c.recall-x.ensures.right c.loop-i.invariant.2) w.if-x-i.false),
      )
    ]

pub returns : goal.returns
returns c = list_end _ _ _ c.loop-i.i _ _ _ c.loop-i.invariant.3 (omega arith) (omega arith)
