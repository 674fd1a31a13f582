-- `journal_store::is_journal` meets its contract.
use native.Mathlib.Omega.{arith}
use Rattle.journal_store.proofs.Heads.{is_short, is_other, is_marks, is_cells, is_edition_lem, is_fits}
use Rattle.journal_store.proofs.is_journal.Goals as goal

pub returns-then-j-lt-HEAD_WORDS : goal.returns-then-j-lt-HEAD_WORDS
returns-then-j-lt-HEAD_WORDS c = is_short _ _ (omega arith)

pub returns-then-word-ne-MAGIC : goal.returns-then-word-ne-MAGIC
returns-then-word-ne-MAGIC c = is_other _ _ (omega arith) (λ e. omega arith)

pub returns-then-word-caps : goal.returns-then-word-caps
returns-then-word-caps c = is_marks _ _ (omega arith) (omega arith) (λ e. omega arith)

pub returns-then-word-caps-2 : goal.returns-then-word-caps-2
returns-then-word-caps-2 c = is_cells _ _ (omega arith) (omega arith) (omega arith) (λ e. omega arith)

pub returns-then-word-caps-3 : goal.returns-then-word-caps-3
returns-then-word-caps-3 c = is_edition_lem _ _ (omega arith) (omega arith) (omega arith) (omega arith) (λ e. omega arith)

pub returns : goal.returns
returns c = is_fits _ _ (omega arith) (omega arith) (omega arith) (omega arith) (omega arith) _ _ c.entries_of.ensures c.places_of.ensures
