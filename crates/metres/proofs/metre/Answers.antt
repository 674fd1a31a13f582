-- `metres::metre` meets its contract.
use mathlib.Core.Path.{sym}
use native.Mathlib.Omega.{arith}
use lib.IntN.{pos}
use lib.ListN.{get_or-eq_default}
use Rattle.metres.proofs.Measures.{read_back}
use Rattle.metres.proofs.metre.Goals as goal

pub returns-then-at-positions : goal.returns-then-at-positions
returns-then-at-positions c = let e = read_back _ c.result-1.given in record { value = e.0; fits = e.1 }

pub returns : goal.returns
returns c = record { value = sym (get_or-eq_default c.args.positions.now (pos 0) c.if-at-positions.false); fits = record { sfits = omega arith } }
