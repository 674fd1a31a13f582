-- `tell::byte_of` meets its contract.
use Prim.Native.Nat.{ℕ, ◌%◌}
use Rattle.map.proofs.Refusals.{number_byte}
use mathlib.Core.Path.{ap, ◌∙◌}
use Rattle.c_answers.proofs.byte_of.Goals as goal

pub returns : goal.returns
returns c = ap (λ (n : ℕ). n % 256) c.number_of.ensures ∙ number_byte c.args.why
