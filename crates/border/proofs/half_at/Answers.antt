-- `border::half_at` meets its contract.
use native.Mathlib.Omega.{arith}
use Rattle.numbers.specs.Half.{half_of}
use Rattle.border.proofs.Corners.{half_found, half_none, half_blank}
use Rattle.border.proofs.half_at.Goals as goal

pub returns-then-bits-eq0 : goal.returns-then-bits-eq0
returns-then-bits-eq0 c = half_blank _ _ _ _ _ c.if-bits-eq0.true

pub returns-then-f-ge-NO_FACET : goal.returns-then-f-ge-NO_FACET
returns-then-f-ge-NO_FACET c = half_none _ _ _ _ _ _ c.facet_at-f.ensures c.if-f-ge-NO_FACET.true

pub overflow_add-result : goal.overflow_add-result
unfolding half_of
overflow_add-result c = omega (arith, c.half_of.ensures)

pub returns : goal.returns
returns c =
    half_found _ _ _ _ _ _ _ c.facet_at-f.ensures c.if-f-ge-NO_FACET.false c.half_of.ensures
