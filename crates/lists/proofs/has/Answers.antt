-- `lists::has` meets its contract.
use Prim.Native.Nat.{ℕ}
use lib.Dec.{eqb}
use borrow.Author.Rules.{rules}
use borrow.Author.Tests.{tests}
use Rattle.std.proofs.lemmas.Iterator.{YieldsList-from_slice}
use Rattle.std.proofs.lemmas.Iterator.Search.{any_from_yields_List}
use Rattle.lists.proofs.Tested.{has_listed}
use Rattle.lists.proofs.has.Goals as goal

pub returns : goal.returns
returns c =
    rw (has_listed c.args.v c.args.l.now)
    (any_from_yields_List (λ (x : ℕ). eqb x c.args.v) _ _ _ c.any.ensures.ran (YieldsList-from_slice c.args.l.now (search rules)) (λ x b q k. search (rules, tests)))
