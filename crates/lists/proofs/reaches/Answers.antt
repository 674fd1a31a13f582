-- `lists::reaches` meets its contract.
use lib.Dec.{leb}
use borrow.Author.Rules.{rules}
use borrow.Author.Tests.{tests}
use Rattle.std.proofs.lemmas.Iterator.{YieldsList-from_slice}
use Rattle.std.proofs.lemmas.Iterator.Search.{any_from_yields_List}
use Rattle.lists.proofs.Tested.{any_listed}
use Rattle.lists.proofs.reaches.Goals as goal

pub returns : goal.returns
returns c =
    rw (any_listed (leb c.args.n) c.args.l.now)
    (any_from_yields_List _ _ _ _ c.any.ensures.ran (YieldsList-from_slice c.args.l.now cc) (λ x b q k. search (rules, tests)))
