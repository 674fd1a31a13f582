-- Edits made in memory one after another, accepted or refused.
use Rattle.std.specs.Prelude.{List, [], ◌∷◌, ℕ, Result, ⊤}
use Rattle.map.specs.History.{Edit}
use Rattle.map.specs.declared.Refusal.{Refusal}
use Rattle.mesh.specs.Edited.{Edited}

pub data Run : List ℕ → List Edit → List ℕ → Type 0 where
  done : {w : List ℕ} → Run w [] w
  then : {w w' w'' : List ℕ} {e : Edit} {es : List Edit} (r : Result ⊤ Refusal) → Edited w e r w' → Run w' es w'' → Run w (e ∷ es) w''
