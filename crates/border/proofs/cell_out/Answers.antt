-- `border::cell_out` meets its contract.
use native.Mathlib.Omega.{arith}
use Rattle.border.proofs.Corners.{from_start, from_more}
use Rattle.border.proofs.Walked.{cell_out_not, cell_out_blank, cell_out_found}
use Rattle.border.proofs.cell_out.Goals as goal

pub returns-then-bits-eq0 : goal.returns-then-bits-eq0
returns-then-bits-eq0 c = cell_out_blank _ _ _ _ _ c.if-bits-eq0.true

pub loop-f-init : goal.loop-f-init
loop-f-init c = from_start _

pub returns-then-facet_out : goal.returns-then-facet_out
returns-then-facet_out c =
    cell_out_found _ _ _ _ _ c.loop-f.f _ _ c.loop-f.invariant (omega arith) c.facet_out.ensures c.if-facet_out.true

pub loop-f-preserved : goal.loop-f-preserved
loop-f-preserved c = from_more _ _ _ c.loop-f.invariant

pub returns : goal.returns
returns c = cell_out_not _ _ _ _ _
