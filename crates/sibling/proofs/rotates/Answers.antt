-- `sibling::rotates` meets its contract.
use mathlib.Core.Path.{refl}
use native.Mathlib.Omega.{arith}
use lib.ListN.{length}
use borrow.Author.Rules.{rules}
use borrow.Author.Tests.{tests}
use Rattle.std.proofs.lemmas.Iterator.{YieldsList-from_range}
use Rattle.std.proofs.lemmas.Iterator.Search.{any_from_yields_List}
use Rattle.sibling.proofs.Turned.{turns}
use Rattle.sibling.proofs.rotates.Goals as goal

pub returns : goal.returns
returns c =
    rw (turns c.args.b.now c.args.back c.args.a.now)
    (any_from_yields_List _ _ _ _ c.any.ensures.ran (YieldsList-from_range 0 _ (length c.args.b.now) refl (omega arith)) (λ x b q k. search (rules, tests)))
