-- `off_lines::vertex_length` meets its contract.
use mathlib.Core.Path.{refl}
use native.Mathlib.Omega.{arith}
use mir.Syntax.{w16}
use mir.Val.{to_z, of_z}
use Rattle.off_lines.proofs.Lengths.{coordinate_few, vertex_long}
use Rattle.off_lines.proofs.vertex_length.Goals as goal

pub overflow_add-result : goal.overflow_add-result
overflow_add-result c =
    omega (
      arith,
      c.coordinate_length-z.ensures,
      c.coordinate_length-y.ensures,
      c.coordinate_length-x.ensures,
      coordinate_few (to_z w16 (of_z w16 c.metre-3.result)),
      coordinate_few (to_z w16 (of_z w16 c.metre-2.result)),
      coordinate_few (to_z w16 (of_z w16 c.metre.result)),
    )

pub overflow_add-result-2 : goal.overflow_add-result-2
overflow_add-result-2 c =
    omega (
      arith,
      c.coordinate_length-z.ensures,
      c.coordinate_length-y.ensures,
      c.coordinate_length-x.ensures,
      coordinate_few (to_z w16 (of_z w16 c.metre-3.result)),
      coordinate_few (to_z w16 (of_z w16 c.metre-2.result)),
      coordinate_few (to_z w16 (of_z w16 c.metre.result)),
    )

pub overflow_add-result-3 : goal.overflow_add-result-3
overflow_add-result-3 c =
    omega (
      arith,
      c.coordinate_length-z.ensures,
      c.coordinate_length-y.ensures,
      c.coordinate_length-x.ensures,
      coordinate_few (to_z w16 (of_z w16 c.metre-3.result)),
      coordinate_few (to_z w16 (of_z w16 c.metre-2.result)),
      coordinate_few (to_z w16 (of_z w16 c.metre.result)),
    )

pub returns : goal.returns
returns c =
    vertex_long _ _ _ _ _ _ _ _ c.metre.ensures.value c.metre.ensures.fits refl c.metre-2.ensures.value c.metre-2.ensures.fits refl
    c.metre-3.ensures.value c.metre-3.ensures.fits refl _ _ _ c.coordinate_length-x.ensures c.coordinate_length-y.ensures c.coordinate_length-z.ensures
