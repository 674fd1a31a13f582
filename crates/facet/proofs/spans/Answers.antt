-- `facet::spans` meets its contract.
use mathlib.Core.List.{◌∷◌}
use Prim.Native.Nat.{ℕ}
use borrow.Author.Rules.{rules}
use borrow.Author.Tests.{tests}
use Rattle.std.proofs.lemmas.Iterator.Adapters.{YieldsList-from_rev_slice}
use Rattle.std.proofs.lemmas.Iterator.Search.{all_from_yields_List}
use Rattle.lists.specs.Lists.{has}
use Rattle.lists.proofs.Tested.{all_reversed}
use Rattle.facet.proofs.spans.Goals as goal

pub returns : goal.returns
returns c =
    rw (all_reversed (λ (x : ℕ). has x (0 ∷ c.args.marks.now)) c.args.set.now)
    (all_from_yields_List _ _ _ _ c.all.ensures.ran (YieldsList-from_rev_slice c.args.set.now cc) (λ x b q k. search (rules, tests)))
