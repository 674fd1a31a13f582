-- How memory came to be: formatted or built, then edited, with formats and builds between.
use Rattle.std.specs.Prelude.{◌≡◌, List, ℕ, length, Result, ⊤, Ok, Err}
use Rattle.numbers.specs.declared.Caps.{Caps}
use Rattle.map.specs.Cells.{Map}
use Rattle.map.specs.History.{empty, Edit, history, build}
use Rattle.map.specs.declared.Unbuilt.{Unbuilt}
use Rattle.map.specs.declared.Refusal.{Refusal}
use Rattle.format.specs.Formatted.{Formatted}
use Rattle.mesh.specs.Run.{Run}
use Rattle.build.specs.Builds.{format_refusal, Builds}

-- the memory, and the map that its history leaves: "the built cells, with each accepted edit applied in turn"
pub data Story : List ℕ → Map → Type 0 where
  -- in any memory, also in one that has a story: from here on it begins anew, and so with a build
  formatted : {w w' : List ℕ} {caps : Caps} → Formatted w caps (Ok tt) w' → Story w' (empty caps)
  -- accepted, or refused at a record
  built : {w w' : List ℕ} {caps : Caps} {records : List ℕ} {r : Result ⊤ Unbuilt} → Builds w caps records r w'
      → format_refusal (length w) caps ≡ 0 → Story w' (build caps records).map
  -- edits, accepted and refused
  then : {w w' : List ℕ} {m : Map} {es : List Edit} → Story w m → Run w es w' → Story w' (history m es)
  -- a format or a build between that is refused with 6, 1 or 2: the map stays
  refused_format : {w w' : List ℕ} {m : Map} {caps : Caps} {why : Refusal} → Story w m → Formatted w caps (Err why) w' → Story w' m
  refused_build : {w w' : List ℕ} {m : Map} {caps : Caps} {records : List ℕ} {r : Result ⊤ Unbuilt} → Story w m → Builds w caps records r w'
      → (format_refusal (length w) caps ≡ 0 → ⊥) → Story w' m
