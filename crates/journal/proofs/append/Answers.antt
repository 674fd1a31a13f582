-- `journal::append` meets its contract.
use mathlib.Core.Path.{refl}
use native.Mathlib.Omega.{arith}
use lib.ListN.{length}
use Rattle.journal.proofs.Appending.{places_most, appended}
use Rattle.journal.proofs.append.Goals as goal

pub overflow_add-head : goal.overflow_add-head
overflow_add-head c =
    omega (arith, c.requires, c.entries_of-n.ensures, places_most (length c.args.j.now))

pub returns : goal.returns
returns c =
    appended _ _ _ _ _ _ _ _ _ c.entries_of-n.ensures refl c.fold_of-fold.ensures.written (omega (arith, c.requires, c.entries_of-n.ensures)) c.put_entry.ensures c.put_head.ensures
