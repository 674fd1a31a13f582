-- `off_form::pass` meets its contract.
use mathlib.Core.Path.{refl}
use native.Mathlib.Omega.{arith}
use Rattle.std.proofs.lemmas.Result.{err_from_is_err_and}
use Rattle.off_form.proofs.Passing.{took_stopped, took_got, many_start, many_halts, many_goes, many_done}
use Rattle.off_form.proofs.pass.Goals as goal

pub loop-init : goal.loop-init
loop-init g c = many_start g.K.Kind.says _ _ _

pub returns-in_err-behind : goal.returns-in_err-behind
returns-in_err-behind g c =
    let p = err_from_is_err_and c.from_residual.result c.from_residual.ensures.1 in rw (p.1, p.2)
    (many_halts g.K.Kind.says _ _ _ _ _ c.loop.invariant (omega arith) _ (took_stopped _ _ _ c.take.ensures _ c.in_err-behind.was))

pub loop-preserved : goal.loop-preserved
loop-preserved g c =
    many_goes g.K.Kind.says _ _ _ _ _ c.loop.invariant (omega arith) _ _ (took_got _ _ _ c.take.ensures _ _ c.in_ok-behind.was)

pub returns : goal.returns
returns g c = many_done g.K.Kind.says _ _ _ _ _ c.loop.invariant (omega arith) _ refl
