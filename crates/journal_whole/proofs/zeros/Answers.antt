-- `journal_whole::zeros` meets its contract.
use Rattle.std.proofs.Common.{ℕ, rules, tests, arith}
use Rattle.std.proofs.lemmas.Iterator.{YieldsList-from_slice}
use Rattle.std.proofs.lemmas.Iterator.Search.{all_from_yields_List}
use lib.Dec.{eqb}
use Rattle.journal_whole.proofs.Zeroed.{zeros_part}
use Rattle.journal_whole.proofs.zeros.Goals as goal

pub returns : goal.returns
returns c =
    zeros_part _ _ _ c.min-start.result c.min-within.result (omega arith) (omega arith) _ c.part.ensures.words _
    (all_from_yields_List (λ (x : ℕ). eqb x 0) _ _ c.all.result c.all.ensures.ran (YieldsList-from_slice c.part.result.now cc) (λ x b q k. search (rules, tests)))
