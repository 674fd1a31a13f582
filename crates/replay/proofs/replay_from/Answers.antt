-- `replay::replay_from` meets its contract.
use native.Mathlib.Omega.{arith}
use Rattle.replay.proofs.Runs.{replayed}
use Rattle.replay.proofs.replay_from.Goals as goal

pub returns : goal.returns
returns c =
    replayed _ _ _ _ _ _ _ (omega arith) c.copy_words.ensures c.replay.ensures
