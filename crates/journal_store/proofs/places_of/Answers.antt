-- `journal_store::places_of` meets its contract.
use native.Mathlib.Omega.{arith}
use Rattle.journal_store.specs.Entries.{places_of}
use Rattle.journal_store.proofs.places_of.Goals as goal

pub returns-then-n-lt1 : goal.returns-then-n-lt1
unfolding places_of
returns-then-n-lt1 c = omega arith

pub returns-then-n-gt-MOST_ENTRIES : goal.returns-then-n-gt-MOST_ENTRIES
unfolding places_of
returns-then-n-gt-MOST_ENTRIES c = omega arith

pub returns : goal.returns
unfolding places_of
returns c = omega arith
