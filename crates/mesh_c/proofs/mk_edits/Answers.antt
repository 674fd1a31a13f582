-- `mesh_c::mk_edits` meets its contract.
use mathlib.Core.Path.{refl}
use Rattle.mesh_c.specs.Mornings.{tally_in, holding}
use Rattle.mesh_c.proofs.Mornings.{edits_told}
use Rattle.mesh_c.proofs.mk_edits.Goals as goal

pub returns : goal.returns
unfolding tally_in holding
returns c =
    edits_told _ _ _ _ c.make_edits-answer.ensures _ _ _ c.tell_edits.ensures _ _ _ refl c.tallied-after.ensures _ refl
