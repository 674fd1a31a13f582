-- `facet::marks_at` meets its contract.
use Rattle.facet.proofs.marks_at.Goals as goal

pub returns : goal.returns
returns c = record { part = rw (← c.code_of.ensures, ← c.mark_count-n.ensures) c.marks_of.ensures }
