-- `chain::splice` meets its contract.
use mathlib.Core.Path.{refl}
use native.Mathlib.Omega.{arith}
use Rattle.numbers.specs.Half.{half_of}
use Rattle.chain.proofs.Places.{count_word}
use Rattle.chain.proofs.Relinks.{step_never, splice_step}
use Rattle.chain.proofs.splice.Goals as goal

pub returns-then-count-ge-MOST_AROUND : goal.returns-then-count-ge-MOST_AROUND
returns-then-count-ge-MOST_AROUND c = step_never _ _ _ _ (λ s p m. omega (arith, c.if-count-ge-MOST_AROUND.true, c.held_of-count.ensures, count_word _ _ s p _ m.mark, m.few refl))

pub overflow_add-here : goal.overflow_add-here
unfolding half_of
overflow_add-here c = omega (arith, c.half_of-here.ensures)

pub returns : goal.returns
returns c =
    splice_step _ _ _ _ _ _ _ _ _ _ c.find-spot.ensures c.held_of-count.ensures _ c.half_of-here.ensures c.put_lead.ensures c.write_link.ensures c.write_held.ensures
