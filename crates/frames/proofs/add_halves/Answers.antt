-- `frames::add_halves` meets its contract.
use mathlib.Core.Path.{refl}
use native.Mathlib.Omega.{arith}
use Rattle.frames.specs.Frames.{cell_and_facet}
use Rattle.frames.proofs.Texts.{each_none, each_more, each_all}
use Rattle.frames.proofs.add_halves.Goals as goal

pub loop-half-init : goal.loop-half-init
loop-half-init c = each_none cell_and_facet c.args.halves.now _ _

pub loop-half-preserved : goal.loop-half-preserved
loop-half-preserved c =
    each_more cell_and_facet _ c.loop-half.half-index _ (omega arith) refl c.loop-half.invariant c.add_half-next.ensures

pub returns : goal.returns
returns c = each_all cell_and_facet _ c.loop-half.half-index (omega arith) c.loop-half.invariant
