-- `input::feed` meets its contract.
use mathlib.Core.Path.{refl, sym, ◌∙◌}
use native.Mathlib.Omega.{arith}
use Rattle.input.proofs.Going.{going_start, going_more, fed_whole, fed_full}
use Rattle.input.proofs.feed.Goals as goal

pub loop-i-init : goal.loop-i-init
loop-i-init c = going_start _ _ _ _ _ _ _ refl refl

pub loop-i-preserved : goal.loop-i-preserved
loop-i-preserved c =
    going_more _ _ _ _ _ _ _ _ c.loop-i.n c.loop-i.i _ c.loop-i.invariant _ _ _ _ _ _ (omega arith) refl (sym c.has_room.ensures ∙ c.if-not-has_room.false) c.take_byte-next.ensures (omega arith)

pub returns-then-not-has_room : goal.returns-then-not-has_room
returns-then-not-has_room c = fed_full _ _ _ _ _ _ _ _ _ _ _ c.loop-i.invariant (sym c.has_room.ensures ∙ c.if-not-has_room.true)

pub returns : goal.returns
returns c = fed_whole _ _ _ _ _ _ _ _ _ _ _ c.loop-i.invariant _ refl (omega arith)
