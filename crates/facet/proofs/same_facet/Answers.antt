-- `facet::same_facet` meets its contract.
use mathlib.Core.Path.{sym, ◌∙◌}
use Prim.Native.Nat.{ℕ}
use borrow.Author.Rules.{rules}
use borrow.Author.Tests.{tests}
use Rattle.std.proofs.lemmas.Iterator.{YieldsList-from_slice}
use Rattle.std.proofs.lemmas.Iterator.Search.{all_from_yields_List}
use Rattle.lists.specs.Lists.{has}
use Rattle.lists.proofs.Tested.{all_listed}
use Rattle.facet.specs.Facet.{set_in}
use Rattle.facet.proofs.Held.{not_within, is_within}
use Rattle.facet.proofs.same_facet.Goals as goal

pub returns-then-set_within : goal.returns-then-set_within
returns-then-set_within c =
    is_within _ _ (sym c.set_within.ensures ∙ c.if-set_within.true) _
    (rw (all_listed (λ (x : ℕ). has x (set_in c.args.rows.now c.args.t c.args.f c.args.marks.now)) c.args.set.now)
    (all_from_yields_List _ _ _ _ c.all.ensures.ran (YieldsList-from_slice c.args.set.now cc) (λ x b q k. search (rules, tests))))

pub returns-else-set_within : goal.returns-else-set_within
returns-else-set_within c = c.if-set_within.false ∙ not_within _ _ (sym c.set_within.ensures ∙ c.if-set_within.false)
