-- `whole::siblings_ok` meets its contract.
use borrow.Author.Rules.{rules}
use mathlib.Core.Path.{ap, ◌∙◌}
use Rattle.shapes.specs.Shapes.{facet_count}
use Rattle.whole.proofs.Ranges.{sees_below}
use Rattle.whole.specs.SecondHalf.{facets_right}
use Rattle.whole.proofs.siblings_ok.Goals as goal

pub returns : goal.returns
unfolding facets_right
returns c =
    sees_below _ _ _ _ (ap (λ n. record { start = 0; end = n }) (c.facet_count-n.ensures ∙ ap facet_count c.code_of.ensures)) _ _ _ _ c.all.ensures.ran
    (λ x q k. search rules) (λ x q k. search rules)
