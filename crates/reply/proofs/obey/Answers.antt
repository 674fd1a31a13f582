-- `reply::obey` meets its contract.
use mathlib.Core.Path.{ap}
use native.Mathlib.Omega.{arith}
use Rattle.reply.proofs.Answered.{bad_replied}
use Rattle.reply.proofs.Obeys.{obeyed, obeyed_insert, obeyed_sibling}
use Rattle.frames.proofs.Told.{told}
use Rattle.reply.proofs.obey.Goals as goal

pub returns-in-Format : goal.returns-in-Format
unfolding told
returns-in-Format c =
    obeyed _ _ _ _ _ _ _ _ _ (λ l. ap (λ x. told x l) c.in-Format.is) c.reply_format.ensures

pub returns-in-Insert : goal.returns-in-Insert
returns-in-Insert c =
    obeyed_insert _ _ _ _ _ _ _ _ c.in-Insert.is c.part.ensures.words (omega arith) (c.reply_insert.ensures _)

pub returns-in-Remove : goal.returns-in-Remove
unfolding told
returns-in-Remove c =
    obeyed _ _ _ _ _ _ _ _ _ (λ l. ap (λ x. told x l) c.in-Remove.is) (c.reply_remove.ensures _)

pub returns-in-Star : goal.returns-in-Star
unfolding told
returns-in-Star c =
    obeyed _ _ _ _ _ _ _ _ _ (λ l. ap (λ x. told x l) c.in-Star.is) (c.reply_star.ensures _ _)

pub returns-in-Anchors : goal.returns-in-Anchors
unfolding told
returns-in-Anchors c =
    obeyed _ _ _ _ _ _ _ _ _ (λ l. ap (λ x. told x l) c.in-Anchors.is) (c.reply_anchors.ensures _ _)

pub returns-in-Sibling : goal.returns-in-Sibling
returns-in-Sibling c =
    obeyed_sibling _ _ _ _ _ _ _ _ c.in-Sibling.is (omega arith) (c.reply_sibling.ensures _ _)

pub returns-in-Bad : goal.returns-in-Bad
unfolding told
returns-in-Bad c = obeyed _ _ _ _ _ _ _ _ _ (λ l. ap (λ x. told x l) c.in-Bad.is) (bad_replied _ _ _ _ _ c.write_verdict.ensures)
