-- `group::recall` meets its contract.
use Rattle.group.proofs.Recalling.{place_alike, recall_known, recall_none, recall_new}
use Rattle.group.proofs.recall.Goals as goal

pub returns-then-known-gt0 : goal.returns-then-known-gt0
returns-then-known-gt0 c = recall_known _ _ _ _ _ _ c.word-label.ensures c.word-known.ensures c.if-known-gt0.true

pub returns-then-end-x : goal.returns-then-end-x
returns-then-end-x c = recall_none _ _ _ _ _ c.place-x.ensures

pub returns : goal.returns
returns c =
    recall_new _ _ _ _ (place_alike _ _ _ _ _ _ _ _) _ _ _ c.word-label.ensures c.place-x.ensures c.put.ensures
