-- `numbers::is_edition` meets its contract.
use Rattle.numbers.proofs.Editions.{is_first, is_other}
use Rattle.numbers.proofs.is_edition.Goals as goal

pub returns-then-edition-eq-FIRST_EDITION : goal.returns-then-edition-eq-FIRST_EDITION
returns-then-edition-eq-FIRST_EDITION c = is_first _ c.if-edition-eq-FIRST_EDITION.true

pub returns : goal.returns
returns c = is_other _ c.if-edition-eq-FIRST_EDITION.false
