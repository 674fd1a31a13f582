-- `frames::bad_line` meets its contract.
use mathlib.Core.Path.{refl, ◌∙◌}
use native.Mathlib.Omega.{arith}
use borrow.Author.Rules.{rules}
use Rattle.frames.proofs.Lines.{no_digits, bad_long, bad_odd, bad_rest}
use Rattle.frames.proofs.bad_line.Goals as goal

pub returns-then-line-gt64 : goal.returns-then-line-gt64
returns-then-line-gt64 c = bad_long _ c.if-line-gt64.true

pub returns-then-line-eq1 : goal.returns-then-line-eq1
returns-then-line-eq1 c = bad_odd _ c.if-line-gt64.false c.if-line-eq1.true

pub returns : goal.returns
returns c = no_digits _ _ (λ h. search rules) (λ h. search rules) ∙ bad_rest _ c.if-line-gt64.false c.if-line-eq1.false
