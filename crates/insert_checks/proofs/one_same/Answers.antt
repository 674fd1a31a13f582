-- `insert_checks::one_same` meets its contract.
use Rattle.std.proofs.Common.{ℕ, refl, rules, tests, arith, get_or, ◌∙◌}
use Rattle.std.proofs.lemmas.Iterator.{YieldsList-from_range}
use Rattle.std.proofs.lemmas.Iterator.Search.{any_from_yields_List}
use Rattle.insert_checks.specs.Admit.{same_in}
use Rattle.insert_checks.proofs.Ranges.{any_places}
use Rattle.insert_checks.proofs.one_same.Goals as goal

pub returns : goal.returns
returns c =
    let same = same_in c.args.w.now c.args.caps c.args.t c.args.marks.now in
    let cell = λ (i : ℕ). get_or c.args.cells.now i 0 in
    any_from_yields_List (λ i. same (cell i)) _ _ c.any.result c.any.ensures.ran
    (YieldsList-from_range 0 c.args.n c.args.n refl (omega arith)) (λ x b q k. search (rules, tests))
    ∙ any_places same cell c.args.n
