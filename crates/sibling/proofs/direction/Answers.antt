-- `sibling::direction` meets its contract.
use Rattle.sibling.proofs.Turned.{bar_way, edge_way, face_way}
use Rattle.sibling.proofs.direction.Goals as goal

pub returns-then-a-eq1 : goal.returns-then-a-eq1
returns-then-a-eq1 c = bar_way _ _ _ _ _ c.if-a-eq1.true c.run_way.ensures

pub returns-then-a-eq2 : goal.returns-then-a-eq2
returns-then-a-eq2 c =
    edge_way _ _ _ _ _ _ _ c.run_way-then-a-eq2.ensures c.if-a-eq2.true c.same_turned.ensures c.same_turned-then-a-eq2.ensures

pub returns : goal.returns
returns c =
    face_way _ _ _ _ _ _ _ c.run_way-2.ensures c.if-a-eq1.false c.if-a-eq2.false c.rotates.ensures c.rotates-2.ensures
