-- `journal_store::used_of` meets its contract.
use native.Mathlib.Omega.{arith}
use Rattle.journal_store.specs.Entries.{used_of}
use Rattle.journal_store.proofs.used_of.Goals as goal

pub returns : goal.returns
unfolding used_of
returns c = omega arith
