-- `record_checks::chain_ok` meets its contract.
use mathlib.Core.Path.{◌≡◌, sym, ap, ◌∙◌}
use native.Mathlib.Omega.{arith}
use borrow.Author.Tests.{not-true, not-false, ne_eqb}
use lib.Dec.{eqb}
use Rattle.numbers.specs.Sizes.{most_around}
use Rattle.record_checks.proofs.Steps.{go_start, go_end, go_no, go_more, go_full}
use Rattle.record_checks.proofs.chain_ok.Goals as goal

pub loop-n-init : goal.loop-n-init
loop-n-init c = (omega (arith, c.first_of-link.type_inv), go_start _ _ _ _ c.first_of-link.ensures)

pub returns-then-link-eq0 : goal.returns-then-link-eq0
returns-then-link-eq0 c =
    go_end _ _ _ c.loop-n.n _ c.loop-n.low _ c.loop-n.invariant.1 c.if-link-eq0.true c.held_of-count.ensures

pub returns-then-not-stands : goal.returns-then-not-stands
returns-then-not-stands c =
    go_no _ _ _ c.loop-n.n c.loop-n.link _ c.loop-n.low c.loop-n.invariant.1 (omega arith) (omega arith) (sym c.stands.ensures ∙ not-true _ c.if-not-stands.true-raw)

pub loop-n-preserved : goal.loop-n-preserved
loop-n-preserved c =
    (omega (arith, c.link_of-link.type_inv), go_more _ _ _ c.loop-n.n c.loop-n.link _ c.loop-n.low _ c.loop-n.invariant.1 (omega arith) (omega arith) (sym c.stands.ensures ∙ not-false _ c.if-not-stands.false-raw) c.link_of-link.ensures)

pub returns-then-link-eq0-2 : goal.returns-then-link-eq0-2
returns-then-link-eq0-2 c =
    let all : most_around ≡ c.loop-n.n = omega arith in
    ap (eqb c.held_of-count.result) all ∙ go_end _ _ _ c.loop-n.n _ c.loop-n.low _ c.loop-n.invariant.1 c.if-link-eq0-2.true c.held_of-count.ensures

pub returns-else-link-eq0-2 : goal.returns-else-link-eq0-2
returns-else-link-eq0-2 c =
    ne_eqb _ 0 c.if-link-eq0-2.false ∙ go_full _ _ _ c.loop-n.n c.loop-n.link c.loop-n.low c.loop-n.invariant.1 (omega arith) c.if-link-eq0-2.false
