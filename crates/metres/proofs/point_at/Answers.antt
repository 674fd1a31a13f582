-- `metres::point_at` meets its contract.
use mathlib.Core.Path.{refl}
use Rattle.metres.proofs.Measures.{point_made}
use Rattle.metres.proofs.point_at.Goals as goal

pub returns : goal.returns
returns c =
    let e = point_made _ _ _ _ _ _ refl c.metre-x.ensures.value c.metre-y.ensures.value c.metre-z.ensures.value
    c.metre-x.ensures.fits c.metre-y.ensures.fits c.metre-z.ensures.fits in
    record { value = e.0; sixteen = e.1 }
