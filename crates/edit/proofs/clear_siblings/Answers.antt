-- `edit::clear_siblings` meets its contract.
use mathlib.Core.Path.{◌≡◌, refl}
use native.Mathlib.Omega.{arith}
use Rattle.edit.proofs.Removes.{clears_start, clears_more}
use Rattle.shapes.specs.Sizes.{most_facets}
use Rattle.edit.proofs.clear_siblings.Goals as goal

pub loop-f-init : goal.loop-f-init
loop-f-init c = clears_start _ _ _

pub loop-f-preserved : goal.loop-f-preserved
loop-f-preserved c =
    clears_more _ _ _ _ _ c.loop-f.f _ _ c.loop-f.invariant c.half_of.ensures refl c.put_sibling.ensures (omega arith)

pub returns : goal.returns
returns c = let all : c.loop-f.f ≡ most_facets = omega arith in rw all at c.loop-f.invariant
