-- `chain::unsplice` meets its contract.
use native.Mathlib.Omega.{arith}
use Rattle.chain.proofs.Places.{count_word}
use Rattle.chain.proofs.Links.{chain_less}
use Rattle.chain.proofs.Relinks.{step_never, unsplice_step}
use Rattle.chain.proofs.unsplice.Goals as goal

pub returns-then-count-eq0 : goal.returns-then-count-eq0
returns-then-count-eq0 c = step_never _ _ _ _ (λ s p m. omega (arith, c.if-count-eq0.true, c.held_of-count.ensures, count_word _ _ s p _ m.mark, chain_less c.args.caps s _ _ m.cell m.was))

pub returns : goal.returns
returns c =
    unsplice_step _ _ _ _ _ _ _ _ _ _ c.find-spot.ensures c.held_of-count.ensures _ c.link_of-after.ensures c.put_lead.ensures c.write_link.ensures c.write_held.ensures
