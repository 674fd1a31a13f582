-- `sibling::facing` meets its contract.
use Rattle.facet.proofs.Copy.{marks_words}
use Rattle.sibling.proofs.Turned.{facing_self, facing_other}
use Rattle.sibling.proofs.facing.Goals as goal

pub returns-then-h-x : goal.returns-then-h-x
returns-then-h-x c = facing_self _ _ _ _ _ c.if-h-x.true

pub returns : goal.returns
returns c =
    facing_other _ _ _ _ _ c.if-h-x.false _ _ _ _ _ _ _ _ _ c.cell_of-c.ensures c.cell_of-d.ensures
    c.code_of.ensures c.facet_of.ensures (marks_words _ _ _ _ c.marks_at.ensures)
    c.code_of-2.ensures c.facet_of-2.ensures (marks_words _ _ _ _ c.marks_at-2.ensures) c.beside.ensures
