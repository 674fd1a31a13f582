-- How mesh, journal and starting map came to be: "kept by our own calls since that journal began". The mesh had a known map when it began.
use Rattle.std.specs.Prelude.{List, [], ℕ, length, Result, ⊤, Ok}
use Rattle.map.specs.Cells.{Map}
use Rattle.map.specs.declared.Refusal.{Refusal}
use Rattle.picture.specs.Picture.{Wf}
use Rattle.journal_store.specs.Days.{Dated, entered, fold_after}
use Rattle.journal_store.specs.Entries.{places_of}
use Rattle.journal.specs.Calls.{Begun, Entered}
use Rattle.year.specs.Calls.{Folded}

pub data Since : Map → List Dated → ℕ → List ℕ → List ℕ → List ℕ → Type 0 where
  begun : {m : Map} {mesh j start j' start' : List ℕ} → Wf mesh m → Begun mesh j start (Ok tt) j' start' → Since m [] 0 mesh j' start'
  -- entries and folds, accepted and refused
  enter : {m : Map} {past : List Dated} {fold : ℕ} {mesh j start mesh' j' : List ℕ} {e : Dated} {r : Result ⊤ Refusal} → Since m past fold mesh j start → Entered mesh j e r mesh' j'
      → Since m (entered m past fold (places_of (length j)) e) fold mesh' j' start
  folded : {m : Map} {past : List Dated} {fold : ℕ} {mesh j start j' start' : List ℕ} {day : ℕ} {r : Result ⊤ Refusal} → Since m past fold mesh j start → Folded j start day r j' start'
      → Since m past (fold_after past fold day) mesh j' start'
