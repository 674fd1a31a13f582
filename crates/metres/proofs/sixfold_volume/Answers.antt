-- `metres::sixfold_volume` meets its contract.
use Rattle.metres.proofs.Measures.{at, volume_exact}
use Rattle.metres.proofs.sixfold_volume.Goals as goal

pub returns : goal.returns
returns c =
    let e = volume_exact (at c.point_at-o.ensures.value c.point_at-o.ensures.sixteen) (at c.point_at-p.ensures.value c.point_at-p.ensures.sixteen) (at c.point_at-q.ensures.value c.point_at-q.ensures.sixteen) (at c.point_at-r.ensures.value c.point_at-r.ensures.sixteen) in
    record { value = e.0; fits = e.1 }
