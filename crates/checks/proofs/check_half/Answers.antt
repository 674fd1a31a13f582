-- `checks::check_half` meets its contract.
use mathlib.Core.Path.{refl}
use Rattle.checks.proofs.Rows.{half_outside, half_dead, half_facet, half_live}
use Rattle.checks.proofs.check_half.Goals as goal

pub returns-then-caps-c : goal.returns-then-caps-c
returns-then-caps-c c = half_outside _ _ _ _ c.if-caps-c.true

pub returns-then-t-eq0 : goal.returns-then-t-eq0
returns-then-t-eq0 c = half_dead _ _ _ c.if-caps-c.false _ c.code_of-t.ensures _ _ refl c.if-t-eq0.true

pub returns-then-facet_count-f : goal.returns-then-facet_count-f
returns-then-facet_count-f c = half_facet _ _ _ c.if-caps-c.false _ c.code_of-t.ensures _ _ c.facet_count.ensures c.if-t-eq0.false c.if-facet_count-f.true

pub returns : goal.returns
returns c = half_live _ _ _ c.if-caps-c.false _ c.code_of-t.ensures _ _ c.facet_count.ensures c.if-t-eq0.false c.if-facet_count-f.false
