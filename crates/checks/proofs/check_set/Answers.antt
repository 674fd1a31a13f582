-- `checks::check_set` meets its contract.
use mathlib.Core.Path.{sym, ◌∙◌}
use Rattle.checks.proofs.Rows.{set_none, set_many, set_outside, set_twice, set_good}
use Rattle.checks.proofs.check_set.Goals as goal

pub returns-then-set-lt1 : goal.returns-then-set-lt1
returns-then-set-lt1 c = set_none _ _ _ c.if-set-lt1.true

pub returns-then-set : goal.returns-then-set
returns-then-set c = set_many _ _ _ c.if-set-lt1.false c.if-set.true

pub returns-then-reaches : goal.returns-then-reaches
returns-then-reaches c = set_outside _ _ _ c.if-set-lt1.false c.if-set.false (sym c.reaches.ensures ∙ c.if-reaches.true)

pub returns-then-repeats : goal.returns-then-repeats
returns-then-repeats c =
    set_twice _ _ _ c.if-set-lt1.false c.if-set.false (sym c.reaches.ensures ∙ c.if-reaches.false) (sym c.repeats.ensures ∙ c.if-repeats.true)

pub returns : goal.returns
returns c =
    set_good _ _ _ c.if-set-lt1.false c.if-set.false (sym c.reaches.ensures ∙ c.if-reaches.false) (sym c.repeats.ensures ∙ c.if-repeats.false)
