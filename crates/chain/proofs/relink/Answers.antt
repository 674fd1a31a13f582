-- `chain::relink` meets its contract.
use Rattle.chain.proofs.relink.Goals as goal

pub returns-then-on : goal.returns-then-on
returns-then-on c =
    rw c.if-on.true c.splice.ensures

pub returns : goal.returns
returns c =
    rw c.if-on.false c.unsplice.ensures
