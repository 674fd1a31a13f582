-- `whole::twin` meets its contract.
use Rattle.lists.proofs.Bools.{and_no, and_yes, clash}
use borrow.Author.Tests.{eq-eqb, ne_eqb}
use Rattle.facet.proofs.Copy.{marks_words}
use Rattle.whole.specs.SecondHalf.{twin_in}
use mathlib.Core.Bool.{not}
use mathlib.Core.Path.{sym, ap, ◌∙◌}
use Rattle.whole.proofs.twin.Goals as goal
use Rattle.whole.proofs.twin.Goals.{then-k-c, else-k-c}

pub returns-then-code_of : goal.returns-then-code_of
unfolding twin_in
returns-then-code_of c =
    elim c.if-k-c.branch [
      | then-k-c w ↦
          and_yes _ _ _ (ap not (ne_eqb _ _ w.if-k-c.true)) (rw (← w.code_of.ensures, ← w.code_of-then-k-c.ensures, ← marks_words _ _ _ _ c.marks_at.ensures, ← marks_words _ _ _ _ c.marks_at-then-code_of.ensures) (and_yes _ _ _ (sym w.value-is ∙ c.if-code_of.true) c.same_set.ensures))
      | else-k-c w ↦ absurd (clash c.if-code_of.true (w.value-is ∙ ap not (eq-eqb _ _ w.if-k-c.false)))
    ]

pub returns-else-code_of : goal.returns-else-code_of
unfolding twin_in
returns-else-code_of c =
    elim c.if-k-c.branch [
      | then-k-c w ↦ rw c.if-code_of.false
          (and_yes _ _ _ (ap not (ne_eqb _ _ w.if-k-c.true)) (rw (← w.code_of.ensures, ← w.code_of-then-k-c.ensures) (and_no _ _ (sym w.value-is ∙ c.if-code_of.false))))
      | else-k-c w ↦ rw c.if-code_of.false (and_no _ _ (ap not (eq-eqb _ _ w.if-k-c.false)))
    ]
