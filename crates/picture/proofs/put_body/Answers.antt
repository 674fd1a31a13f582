-- `picture::put_body` meets its contract.
use Rattle.picture.proofs.Bodies.{body_step}
use Rattle.picture.proofs.put_body.Goals as goal

pub returns : goal.returns
returns c =
    body_step _ _ _ _ _ _ _ _ _ _ _ c.put_near.ensures c.put_far.ensures c.write_licence.ensures c.write_code.ensures
