-- `store::blank_at` meets its contract.
use Prim.Native.Nat.{ℕ}
use lib.Dec.{eqb}
use lib.ListN.{get_or}
use borrow.Author.Rules.{rules}
use borrow.Author.Tests.{tests}
use Rattle.std.proofs.lemmas.Iterator.{YieldsList-from_slice}
use Rattle.std.proofs.lemmas.Iterator.Search.{all_from_yields_List}
use Rattle.lists.proofs.Tested.{all_listed}
use Rattle.store.proofs.blank_at.Goals as goal

pub returns : goal.returns
returns c =
    rw (all_listed (λ (i : ℕ). eqb (get_or c.args.w.now i 0) 0) c.args.places.now)
    (all_from_yields_List _ _ _ _ c.all.ensures.ran (YieldsList-from_slice c.args.places.now cc) (λ x b q k. search (rules, tests)))
