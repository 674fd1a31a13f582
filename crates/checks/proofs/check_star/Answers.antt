-- `checks::check_star` meets its contract.
use Rattle.checks.proofs.Rows.{star_low, star_high, star_mark, star_good}
use Rattle.checks.proofs.check_star.Goals as goal

pub returns-then-d-lt1 : goal.returns-then-d-lt1
returns-then-d-lt1 c = star_low _ _ _ _ c.if-d-lt1.true

pub returns-then-d-gt3 : goal.returns-then-d-gt3
returns-then-d-gt3 c = star_high _ _ _ _ c.if-d-lt1.false c.if-d-gt3.true

pub returns-then-caps-v : goal.returns-then-caps-v
returns-then-caps-v c = star_mark _ _ _ _ c.if-d-lt1.false c.if-d-gt3.false c.if-caps-v.true

pub returns : goal.returns
returns c = star_good _ _ _ _ c.if-d-lt1.false c.if-d-gt3.false c.if-caps-v.false
