-- What stands at a cursor, as the code carries it.
use Rattle.std.specs.Prelude.{List, ℕ, drop, Result, Ok, Err}
use Rattle.off.specs.Words.{Word, words_from}
use Rattle.off.specs.Reading.{Read, Got, Stop}
use Rattle.off.specs.declared.Cursor.{Cursor}
use Rattle.off_form.specs.declared.Broken.{Broken}

-- the words from a cursor on, with their places in the whole text
unfoldable pub left : List ℕ → ℕ → List Word
left text at = words_from at (drop at text)

-- what was read at a cursor and the words behind it, or the place of 17
unfoldable pub took : {A : Type 0} → List ℕ → Result (A × Cursor) Broken → Read A
took text (Ok (a, c)) = Got a (left text c.at)
took text (Err broken) = Stop broken.place

-- where a reading went, whatever it read: the words after it, or the place of 17
pub data Went : Type 0 where
  On : List Word → Went
  Broke : ℕ → Went

unfoldable pub went : {A : Type 0} → Read A → Went
went (Got a ws) = On ws
went (Stop place) = Broke place

unfoldable pub went_says : List ℕ → Result Cursor Broken → Went
went_says text (Ok c) = On (left text c.at)
went_says text (Err broken) = Broke broken.place
