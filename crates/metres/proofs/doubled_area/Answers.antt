-- `metres::doubled_area` meets its contract.
use Rattle.metres.proofs.Measures.{at, area_exact}
use Rattle.metres.proofs.doubled_area.Goals as goal

pub returns : goal.returns
returns c =
    let e = area_exact (at c.point_at-p.ensures.value c.point_at-p.ensures.sixteen) (at c.point_at-q.ensures.value c.point_at-q.ensures.sixteen) (at c.point_at-r.ensures.value c.point_at-r.ensures.sixteen) (at c.point_at-s.ensures.value c.point_at-s.ensures.sixteen) in
    record { value = e.0; fits = e.1 }
