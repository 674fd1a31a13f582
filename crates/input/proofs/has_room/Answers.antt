-- `input::has_room` meets its contract.
use mathlib.Core.Path.{sym}
use Prim.Native.Nat.{◌+◌}
use native.Mathlib.Omega.{arith}
use borrow.Author.Tests.{lt-leb}
use Rattle.input.proofs.Ends.{has_room_so}
use Rattle.input.proofs.has_room.Goals as goal

pub returns-then-room-lt-ANSWER : goal.returns-then-room-lt-ANSWER
returns-then-room-lt-ANSWER c = sym (lt-leb (c.args.at + 775) c.args.room (omega arith))

pub returns : goal.returns
returns c = has_room_so c.args.room c.args.at (omega arith)
