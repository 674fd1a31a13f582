-- `metres::squared_length` meets its contract.
use Rattle.metres.proofs.Measures.{at, length_exact}
use Rattle.metres.proofs.squared_length.Goals as goal

pub returns : goal.returns
returns c =
    let e = length_exact (at c.point_at-p.ensures.value c.point_at-p.ensures.sixteen) (at c.point_at-q.ensures.value c.point_at-q.ensures.sixteen) in
    record { value = e.0; fits = e.1 }
