-- `frames::byte_at` meets its contract.
use Prim.Native.Nat.{◌+◌, ◌*◌}
use native.Mathlib.Omega.{arith}
use lib.ListN.{get_or}
use Rattle.frames.proofs.Digits.{digit_most}
use Rattle.frames.proofs.Lines.{byte_here, byte_past}
use Rattle.frames.proofs.byte_at.Goals as goal

pub returns-then-line-k : goal.returns-then-line-k
returns-then-line-k c = byte_past _ _ c.if-line-k.true

pub overflow_mul-result : goal.overflow_mul-result
overflow_mul-result c = omega (arith, c.digit.ensures, digit_most (get_or c.args.line.now (2 * c.args.k) 0))

pub overflow_add-result : goal.overflow_add-result
overflow_add-result c =
    omega (arith, c.digit.ensures, digit_most (get_or c.args.line.now (2 * c.args.k) 0), c.digit-2.ensures, digit_most (get_or c.args.line.now (2 * c.args.k + 1) 0))

pub returns : goal.returns
returns c =
    byte_here _ c.args.k _ _ (omega arith) c.digit.ensures c.digit-2.ensures
