-- `off_lines::coordinate_length` meets its contract.
use mathlib.Core.Path.{◌∙◌, ap}
use Prim.Native.Nat.{ℕ, ◌+◌}
use native.Mathlib.Omega.{arith}
use Rattle.off.proofs.Turned.{wide_fits, turned_fits, turned_casts, below_length, plain_casts, above_length}
use Rattle.off_lines.proofs.Lengths.{number_most}
use Rattle.off_lines.proofs.coordinate_length.Goals as goal

pub overflow_cast-z : goal.overflow_cast-z
overflow_cast-z c = wide_fits c.args.z c.ranges.z

pub overflow_sub-z : goal.overflow_sub-z
overflow_sub-z c = turned_fits c.args.z c.ranges.z

pub overflow_cast-z-then-z-lt0 : goal.overflow_cast-z-then-z-lt0
overflow_cast-z-then-z-lt0 c = turned_casts c.args.z c.ranges.z c.if-z-lt0.true

pub overflow_add-result : goal.overflow_add-result
overflow_add-result c = omega (arith, number_most _ _ c.number_length.ensures)

pub returns-then-z-lt0 : goal.returns-then-z-lt0
returns-then-z-lt0 c =
    ap (λ (k : ℕ). 1 + k) c.number_length.ensures ∙ below_length c.args.z c.ranges.z c.if-z-lt0.true

pub overflow_cast-z-2 : goal.overflow_cast-z-2
overflow_cast-z-2 c = plain_casts c.args.z c.ranges.z c.if-z-lt0.false

pub returns : goal.returns
returns c =
    c.number_length-2.ensures ∙ above_length c.args.z c.ranges.z c.if-z-lt0.false
