-- Nothing else fits: an answer of the outline is that of one step alone.
use mathlib.Core.Path.{◌≡◌, refl, sym, ap, ◌∙◌}
use Rattle.map.specs.Says.{half_says}
use Rattle.ask.specs.declared.Walker.{Walker}
use Rattle.map.specs.declared.Way.{Way}
use Rattle.numbers.specs.declared.Half.{Half}
use Rattle.map.specs.declared.Refusal.{Refusal}
use Rattle.std.specs.Prelude.{Result, Ok, Err}
use Rattle.map.proofs.Says.{half_one}
use Rattle.ask.specs.Steps.{step_says}

-- a step tells what the sibling's query does
as_half : Result (Walker × Way) Refusal → Result (Half × Way) Refusal
as_half (Ok (w, way)) = Ok (w.0, way)
as_half (Err r) = Err r

as_step : Result (Half × Way) Refusal → Result (Walker × Way) Refusal
as_step (Ok (h, way)) = Ok ((record { 0 = h }), way)
as_step (Err r) = Err r

pub step_one : (x y : Result (Walker × Way) Refusal) → step_says x ≡ step_says y → x ≡ y
unfolding as_half as_step step_says half_says
step_one x y e = sym (again x) ∙ (ap as_step (half_one (as_half x) (as_half y) (sym (says x) ∙ (e ∙ says y))) ∙ again y)
  where
    again : (x : Result (Walker × Way) Refusal) → as_step (as_half x) ≡ x
    again (Ok (w, way)) = refl
    again (Err r) = refl

    says : (x : Result (Walker × Way) Refusal) → step_says x ≡ half_says (as_half x)
    says (Ok (w, way)) = refl
    says (Err r) = refl
