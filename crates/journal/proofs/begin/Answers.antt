-- `journal::begin` meets its contract.
use mathlib.Core.Path.{sym, ◌∙◌}
use native.Mathlib.Omega.{arith}
use Rattle.journal.proofs.Beginning.{begin_none, begin_short, begin_room, begin_made}
use Rattle.store.proofs.Shut.{shut}
use Rattle.journal.proofs.begin.Goals as goal

pub returns-in_err-caps : goal.returns-in_err-caps
returns-in_err-caps c =
    let p = shut _ _ _ _ c.from_residual.ensures.1 c.in_err-caps.was c.«open».ensures in
    rw p.0 (begin_none _ _ _ p.1)

pub returns-then-j-lt-HEAD_WORDS : goal.returns-then-j-lt-HEAD_WORDS
returns-then-j-lt-HEAD_WORDS c = begin_short _ _ _ _ (sym c.in_ok-caps.was ∙ c.«open».ensures) (omega arith)

pub returns-then-start-room : goal.returns-then-start-room
returns-then-start-room c = begin_room _ _ _ _ (sym c.in_ok-caps.was ∙ c.«open».ensures) (omega arith) _ c.room_of-room.ensures (omega arith)

pub returns : goal.returns
returns c =
    begin_made _ _ _ _ (sym c.in_ok-caps.was ∙ c.«open».ensures) (omega (arith, c.if-j-lt-HEAD_WORDS.false)) _ c.room_of-room.ensures (omega (arith, c.if-start-room.false)) _ _ _ _ _ c.copy_words.ensures c.used_of-used.ensures c.part.ensures.words c.copy_words-2.ensures c.put_head.ensures
