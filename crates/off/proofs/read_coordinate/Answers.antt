-- `off::read_coordinate` meets its contract.
use mathlib.Core.Path.{refl, sym, ◌∙◌}
use borrow.Author.Rules.{rules}
use Rattle.off.proofs.Signed.{coordinate_empty, word_fits, taken_fits, minus_breaks, minus_is, plus_breaks, plus_is}
use Rattle.off.proofs.read_coordinate.Goals as goal

pub returns-then-is_empty : goal.returns-then-is_empty
returns-then-is_empty c = coordinate_empty _ (search rules)

pub returns-in_err-n : goal.returns-in_err-n
returns-in_err-n c =
    rw c.from_residual.ensures (minus_breaks _ (search rules) c.if-word-eq45.true (sym c.in_err-n.was ∙ c.read_number.ensures))

pub overflow_cast-n : goal.overflow_cast-n
overflow_cast-n c = word_fits _ _ (sym c.in_ok-n.was ∙ c.read_number.ensures)

pub overflow_sub-n : goal.overflow_sub-n
overflow_sub-n c = taken_fits _ _ (sym c.in_ok-n.was ∙ c.read_number.ensures)

pub returns-then-word-eq45 : goal.returns-then-word-eq45
returns-then-word-eq45 c =
    minus_is _ (search rules) c.if-word-eq45.true _ (sym c.in_ok-n.was ∙ c.read_number.ensures) _ _ c.try_from.ensures refl _ c.ok.ensures.value

pub returns-in_err-n-2 : goal.returns-in_err-n-2
returns-in_err-n-2 c =
    rw c.from_residual-in_err-n-2.ensures (plus_breaks _ (search rules) c.if-word-eq45.false (sym c.in_err-n-2.was ∙ c.read_number-2.ensures))

pub returns : goal.returns
returns c =
    plus_is _ (search rules) c.if-word-eq45.false _ (sym c.in_ok-n-2.was ∙ c.read_number-2.ensures) _ c.try_from-2.ensures _ c.ok-2.ensures.value
