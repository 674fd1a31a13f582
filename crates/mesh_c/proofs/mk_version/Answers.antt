-- `mesh_c::mk_version` meets its contract.
use mathlib.Core.Path.{refl}
use Rattle.mesh_c.specs.Version.{version_of, version}
use Rattle.mesh_c.proofs.mk_version.Goals as goal

pub returns : goal.returns
unfolding version version_of
returns c = refl
