-- `off::write_coordinate` meets its contract.
use Rattle.off.proofs.Turned.{wide_fits, turned_fits, turned_casts, below_written, plain_casts, above_written}
use Rattle.off.proofs.write_coordinate.Goals as goal

pub overflow_cast-z : goal.overflow_cast-z
overflow_cast-z c =
    wide_fits c.args.z c.ranges.z

pub overflow_sub-z : goal.overflow_sub-z
overflow_sub-z c =
    turned_fits c.args.z c.ranges.z

pub overflow_cast-z-then-z-lt0 : goal.overflow_cast-z-then-z-lt0
overflow_cast-z-then-z-lt0 c =
    turned_casts c.args.z c.ranges.z c.if-z-lt0.true

pub returns-then-z-lt0 : goal.returns-then-z-lt0
returns-then-z-lt0 c =
    below_written c.args.z c.ranges.z c.if-z-lt0.true c.add-next.ensures c.write_number.ensures

pub overflow_cast-z-2 : goal.overflow_cast-z-2
overflow_cast-z-2 c =
    plain_casts c.args.z c.ranges.z c.if-z-lt0.false

pub returns : goal.returns
returns c =
    above_written c.args.z c.ranges.z c.if-z-lt0.false c.write_number-2.ensures
