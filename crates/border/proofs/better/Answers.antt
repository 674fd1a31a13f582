-- `border::better` meets its contract.
use mathlib.Core.Path.{refl}
use mathlib.Core.Logic.{inl, inr}
use Rattle.border.proofs.Corners.{bit_one}
use Rattle.border.proofs.better.Goals as goal

pub returns-then-left-eq0 : goal.returns-then-left-eq0
returns-then-left-eq0 c = record { one = inl refl }

pub returns-then-found-g : goal.returns-then-found-g
returns-then-found-g c = record { one = inr (refl, bit_one _ c.if-left-eq0.false) }

pub returns-then-f-g : goal.returns-then-f-g
returns-then-f-g c = record { one = inl refl }

pub returns-then-found-g-2 : goal.returns-then-found-g-2
returns-then-found-g-2 c = record { one = inr (refl, bit_one _ c.if-left-eq0.false) }

pub returns-else-found-g-2 : goal.returns-else-found-g-2
returns-else-found-g-2 c = record { one = inl refl }
