-- `reply::reply_anchors` meets its contract.
use native.Mathlib.Omega.{arith}
use Rattle.reply.proofs.Answered.{anchors_lists, listing_refused, listing_replied}
use borrow.Author.Rules.{rules}
use Rattle.reply.proofs.reply_anchors.Goals as goal

pub returns-in-Err : goal.returns-in-Err
returns-in-Err c =
    listing_refused _ _ _ _ _ _ _ _ (anchors_lists _ _) _ _ _ _ (search rules) c.anchors.ensures _ c.in-Err.is c.write_verdict.ensures

pub returns-in-Ok : goal.returns-in-Ok
returns-in-Ok c =
    listing_replied _ _ _ _ _ _ _ _ (anchors_lists _ _) _ _ _ _ (search rules) c.anchors.ensures _ c.in-Ok.is _ _ (omega arith) c.part.ensures.words (search rules) c.write_halves.ensures
