-- `frames::number_at` meets its contract.
use Prim.Native.Nat.{◌+◌}
use native.Mathlib.Omega.{arith}
use Rattle.frames.proofs.Lines.{number_here, number_past, byte_small}
use Rattle.frames.proofs.number_at.Goals as goal

pub returns-then-line-k : goal.returns-then-line-k
returns-then-line-k c = number_past _ _ c.if-line-k.true

pub overflow_mul-result : goal.overflow_mul-result
overflow_mul-result c = omega (arith, c.byte_at.ensures, byte_small c.args.line.now c.args.k)

pub overflow_add-result : goal.overflow_add-result
overflow_add-result c = omega (arith, c.byte_at.ensures, byte_small c.args.line.now c.args.k, c.byte_at-2.ensures, byte_small c.args.line.now (c.args.k + 1))

pub returns : goal.returns
returns c = number_here _ c.args.k _ _ c.byte_at.ensures c.byte_at-2.ensures
