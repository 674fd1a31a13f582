-- `year::not_allowed` meets its contract.
use mathlib.Core.Path.{sym, ◌∙◌}
use native.Mathlib.Omega.{arith}
use borrow.Author.Tests.{ltb-true, ltb-false, not-true, not-false}
use Rattle.year.proofs.Allowing.{not_ever, not_late, not_year}
use Rattle.year.proofs.not_allowed.Goals as goal

pub returns-then-not-was_entered : goal.returns-then-not-was_entered
returns-then-not-was_entered c =
    let none = ltb-false _ _ (sym c.was_entered.ensures ∙ not-true _ c.if-not-was_entered.true-raw) in
    not_ever _ _ _ _ (omega (arith, none))

pub returns-then-folded : goal.returns-then-folded
returns-then-folded c =
    let some = ltb-true _ _ (sym c.was_entered.ensures ∙ not-false _ c.if-not-was_entered.false-raw) in
    not_late _ _ _ _ (λ z. omega (arith, some)) _ c.is_folded-folded.ensures c.if-folded.true

pub returns : goal.returns
returns c =
    let some = ltb-true _ _ (sym c.was_entered.ensures ∙ not-false _ c.if-not-was_entered.false-raw) in
    not_year _ _ _ _ (λ z. omega (arith, some)) _ c.is_folded-folded.ensures c.if-folded.false _ c.last_of.ensures
