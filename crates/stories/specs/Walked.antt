-- Steps of a walker one after another, on one memory: each is a result of `ask::Walker::step`, and none is refused.
use Rattle.std.specs.Prelude.{List, ℕ, zero, suc, Result, Ok}
use Rattle.map.specs.declared.Way.{Way}
use Rattle.map.specs.Answers.{step_answer}
use Rattle.map.specs.declared.Refusal.{Refusal}
use Rattle.ask.specs.declared.Walker.{Walker}
use Rattle.ask.specs.Steps.{step_says}
use Rattle.ask.specs.Asked.{Asked}
use Rattle.ask.specs.Refusals.{no_step}

-- what a step of a walker at this place promises
abbrev pub Stepped : List ℕ → Walker → Result (Walker × Way) Refusal → Type 0
Stepped w at r = Asked step_says no_step w (λ m. step_answer m at.0.0) r

-- n steps from a place to a place
pub data Walked (w : List ℕ) : ℕ → Walker → Walker → Type 0 where
  here : {at : Walker} → Walked w zero at at
  onward : {n : ℕ} {from at next : Walker} {ran : Way} → Walked w n from at → Stepped w at (Ok (next, ran)) → Walked w (suc n) from next
