-- `off::add_digits` meets its contract. The measure is how many digits may stand before the last.
use mathlib.Core.Path.{refl}
use Rattle.off.proofs.Added.{digits_last, digits_few, digits_more}
use Rattle.off.proofs.+add_digits.Goals as goal

pub returns-then-more-eq0 : goal.returns-then-more-eq0
returns-then-more-eq0 t c = digits_last _ _ _ c.if-more-eq0.true refl c.add.ensures

pub returns-then-n-lt10 : goal.returns-then-n-lt10
returns-then-n-lt10 t c = digits_few _ _ _ c.if-more-eq0.false c.if-n-lt10.true refl c.add-then-n-lt10.ensures

pub returns : goal.returns
returns t c = digits_more _ _ _ c.if-more-eq0.false c.if-n-lt10.false refl c.add_digits-next.ensures c.add-2.ensures
