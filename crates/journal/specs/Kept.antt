-- The one relation that every call keeps: journal, starting map and mesh, and the history of the edits since the journal began.
use Rattle.std.specs.Prelude.{◌≡◌, Bool, cond, ◌&&◌, List, ℕ, ◌+◌, ◌<◌, ◌≤◌}
use Rattle.store.specs.Open.{is_mesh, caps_in}
use Rattle.map.specs.Cells.{Map}
use Rattle.picture.specs.Picture.{Wf}
use Rattle.journal_store.specs.Days.{Dated, most_day, before, since, map_after, last_day, ever_of, Ascends, AllFit, Accepted}
use Rattle.journal_store.specs.Journals.{is_journal, Pictured}

-- `m` is the map when the journal began, `past` the edits that were entered since, `fold` the day of the last fold + 1, 0 for none. The journal
-- has the edits that were not folded, the starting map is that of the others.
pub record Filed (m : Map) (past : List Dated) (fold : ℕ) (j start : List ℕ) : Type 0 where
  pub order : Ascends 0 past
  pub days : last_day past ≤ most_day
  pub fit : AllFit past
  -- "F + 366 is not after the last day"
  pub year : 0 < fold → fold + 365 ≤ last_day past
  pub starts : Wf start (map_after m (before fold past))
  pub journal : Pictured j m.caps (since fold past) (last_day past) (ever_of past) fold

-- "a mesh, journal and starting map kept by our own calls since that journal began"
pub record Kept (m : Map) (past : List Dated) (fold : ℕ) (mesh j start : List ℕ) : Type 0 where
  pub filed : Filed m past fold j start
  pub accepted : Accepted m past
  pub today : Wf mesh (map_after m past)

-- memory is a mesh, and the journal one of its capacities and edition: else 14
unfoldable pub both : List ℕ → List ℕ → Bool
both w j = is_mesh w && is_journal j (caps_in w)
