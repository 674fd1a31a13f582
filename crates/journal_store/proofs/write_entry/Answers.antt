-- `journal_store::write_entry` meets its contract.
use mathlib.Core.Path.{refl}
use mathlib.Core.List.{[], ◌∷◌}
use native.Mathlib.Omega.{arith}
use Rattle.journal_store.proofs.Copying.{copied_then}
use Rattle.journal_store.proofs.write_entry.Goals as goal

pub returns : goal.returns
returns c =
    let given = c.args in
    rw (← c.entry_at-at.ensures)
    (copied_then (given.day ∷ given.kind ∷ given.c.0 ∷ given.t ∷ given.licence ∷ []) _ _ _ _ _ _ 5 11 16 c.copy_words.ensures c.copy_words-2.ensures (omega arith) refl refl)
