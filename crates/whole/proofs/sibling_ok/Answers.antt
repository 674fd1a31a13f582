-- `whole::sibling_ok` meets its contract.
use mathlib.Core.Path.{refl}
use Rattle.whole.proofs.Readings.{sibling_many, sibling_wrong, sibling_held}
use borrow.Author.Tests.{not-true, not-false, ne_eqb}
use Rattle.whole.proofs.sibling_ok.Goals as goal

pub returns-then-not-few : goal.returns-then-not-few
returns-then-not-few c =
    sibling_many _ _ _ _ _ _ _ _ _ _ c.facet_sharers-n.ensures refl c.code_of.ensures c.few.ensures
    (not-true _ c.if-not-few.true-raw)

pub returns-else-sibling_of-next : goal.returns-else-sibling_of-next
returns-else-sibling_of-next c =
    rw (ne_eqb _ _ c.if-sibling_of-next.false)
    (sibling_wrong _ _ _ _ _ _ _ _ _ _ c.facet_sharers-n.ensures refl c.code_of.ensures c.few.ensures
    (not-false _ c.if-not-few.false-raw) _ _ _ c.half_of-half.ensures c.next_in.ensures c.sibling_of.ensures
    c.if-sibling_of-next.false)

pub returns-then-sibling_of-next : goal.returns-then-sibling_of-next
returns-then-sibling_of-next c =
    sibling_held _ _ _ _ _ _ _ _ _ _ c.facet_sharers-n.ensures refl c.code_of.ensures c.few.ensures
    (not-false _ c.if-not-few.false-raw) _ _ _ c.half_of-half.ensures c.next_in.ensures c.sibling_of.ensures
    c.if-sibling_of-next.true _ _ _ _ c.way_of.ensures c.way_number.ensures c.facing.ensures
    c.way_number-then-sibling_of-next.ensures
