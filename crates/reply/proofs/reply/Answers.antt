-- `reply::reply` meets its contract.
use mathlib.Core.Path.{sym}
use native.Mathlib.Omega.{arith}
use lib.Seq.{length-take-le}
use Rattle.reply.proofs.Cut.{replied_whole, replied_cut}
use Rattle.reply.proofs.Obeys.{line_answered}
use borrow.Author.Rules.{rules}
use Rattle.reply.proofs.reply.Goals as goal

pub returns-then-mesh-lt-ROOM : goal.returns-then-mesh-lt-ROOM
returns-then-mesh-lt-ROOM c =
    replied_whole _ _ _ _ _ _ _ _ _ _ _ (omega arith) (line_answered _ _ _ _ _ _ _ _ _ _ (search rules) c.read-frame.ensures c.obey.ensures)

pub slice_bounds-obey-end-3 : goal.slice_bounds-obey-end-3
slice_bounds-obey-end-3 c =
    sym (length-take-le 15376 c.args.mesh.now (omega arith))

pub returns : goal.returns
returns c =
    replied_cut _ c.args.mesh.now _ _ _ _ _ _ _ _ _ (omega arith) (line_answered _ _ _ _ _ _ _ _ _ _ (search rules) c.read-frame.ensures c.obey-2.ensures)
