-- `group::chosen` meets its contract.
use mathlib.Core.Path.{ap, ◌∙◌}
use mathlib.Core.Bool.{not}
use Rattle.group.proofs.Seeking.{chosen_apart, chosen_off, chosen_here}
use Rattle.group.proofs.chosen.Goals as goal

pub returns-then-word : goal.returns-then-word
returns-then-word c = chosen_apart _ _ _ _ _ _ _ _ _ _ _ c.word.ensures c.word-2.ensures c.if-word.true

pub returns-then-wanted : goal.returns-then-wanted
returns-then-wanted c =
    chosen_here _ _ _ _ _ _ _ _ _ _ _ c.word.ensures c.word-2.ensures c.if-word.false _ c.word-3.ensures _ c.wanted.ensures _ (ap not c.if-wanted.true) c.facet_has.ensures

pub returns-else-wanted : goal.returns-else-wanted
returns-else-wanted c =
    c.if-wanted.false ∙ chosen_off _ _ _ _ _ _ _ _ _ _ _ c.word.ensures c.word-2.ensures c.if-word.false _ c.word-3.ensures _ c.wanted.ensures (ap not c.if-wanted.false)
