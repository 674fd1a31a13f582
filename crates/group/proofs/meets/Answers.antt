-- `group::meets` meets its contract.
use mathlib.Core.Path.{◌≡◌, sym, ◌∙◌}
use Prim.Native.Nat.{◌+◌, ◌-◌}
use native.Mathlib.Omega.{arith}
use Rattle.numbers.specs.Sizes.{most_around}
use Rattle.group.proofs.Meeting.{meets_start, met_none, met_back, met_here, met_more}
use Rattle.group.proofs.meets.Goals as goal

pub loop-init : goal.loop-init
loop-init c = meets_start _ _ _ _ _ c.sibling_of-h.ensures

pub returns-then-h-start : goal.returns-then-h-start
returns-then-h-start c = met_back _ _ _ _ (most_around - c.loop.counter) c.loop.h.0 c.loop.invariant (omega arith) c.if-h-start.true

pub returns-then-cell_of-b : goal.returns-then-cell_of-b
returns-then-cell_of-b c =
    met_here _ _ _ _ (most_around - c.loop.counter) c.loop.h.0 c.loop.invariant (omega arith) c.if-h-start.false (sym c.cell_of.ensures ∙ c.if-cell_of-b.true)

pub loop-preserved : goal.loop-preserved
loop-preserved c =
    let left : most_around - c.loop.counter - 1 ≡ most_around - (c.loop.counter + 1) = omega arith in
    rw left at (met_more _ _ _ _ (most_around - c.loop.counter) c.loop.h.0 c.loop.invariant (omega arith) c.if-h-start.false (λ e. c.if-cell_of-b.false (c.cell_of.ensures ∙ e)) _ c.sibling_of-h-in-loop.ensures)

pub returns : goal.returns
returns c = met_none _ _ _ _ (most_around - c.loop.counter) c.loop.h.0 c.loop.invariant (omega arith)
