-- `insert_checks::full_mark` meets its contract.
use mathlib.Core.Path.{sym}
use Rattle.std.proofs.Common.{rules, tests, ◌∙◌}
use Rattle.std.proofs.lemmas.Iterator.{YieldsList-from_slice}
use Rattle.std.proofs.lemmas.Iterator.Search.{any_from_yields_List}
use Rattle.insert_checks.specs.Admit.{full_in}
use Rattle.lists.proofs.Tested.{any_listed}
use Rattle.insert_checks.proofs.full_mark.Goals as goal

pub returns : goal.returns
unfolding full_in
returns c =
    let full = full_in c.args.w.now c.args.caps in
    any_from_yields_List full _ _ c.any.result c.any.ensures.ran (YieldsList-from_slice c.args.marks.now cc) (λ x b q k. search (rules, tests))
    ∙ sym (any_listed full c.args.marks.now)
