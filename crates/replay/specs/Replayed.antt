-- What a replay from a starting map promises: from as many of its words as are lent, the edits of the first entries one after another.
use Rattle.std.specs.Prelude.{◌≡◌, List, ℕ, ◌≤◌, length, take}
use Rattle.mesh.specs.Run.{Run}
use Rattle.journal_store.specs.Journals.{edits_in}

pub record Replayed (start j : List ℕ) (n : ℕ) (w w' : List ℕ) : Type 0 where
  pub size : length w' ≡ length w
  pub runs : length w ≤ length start → Run (take (length w) start) (edits_in j n) w'
