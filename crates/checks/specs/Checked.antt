-- What a row of checks tells, on well-formed memory: accepted, or the first that fails.
use Rattle.std.specs.Prelude.{◌≡◌, List, [], ℕ, Result, ⊤}
use Rattle.numbers.specs.declared.Caps.{Caps}
use Rattle.map.specs.Cells.{Map}
use Rattle.map.specs.Answers.{Check, answer}
use Rattle.map.specs.Says.{verdict_says}
use Rattle.map.specs.declared.Refusal.{Refusal}
use Rattle.picture.specs.Picture.{Wf}

pub record Checked (w : List ℕ) (caps : Caps) (checks : Map → List Check) (r : Result ⊤ Refusal) : Type 0 where
  pub says : (m : Map) → m.caps ≡ caps → Wf w m → verdict_says r ≡ answer (checks m) []
