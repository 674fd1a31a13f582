-- What is read a second time, of a text that is of the form.
use Rattle.std.specs.Prelude.{◌≡◌, List, ℕ, ℤ, length, get_or, drop, Result, Ok, Err}
use Rattle.std.proofs.lemmas.List.Edits.{sets}
use Rattle.off.specs.Words.{Word}
use Rattle.off.specs.Numbers.{Says, number_of, coordinate_of}
use Rattle.off.specs.Reading.{Got, many, face}
use Rattle.off_form.specs.Took.{left}
use Rattle.map.specs.Cells.{body_of}
use Rattle.map.specs.History.{Insert}
use Rattle.map.specs.declared.Refusal.{Refusal}
use Rattle.mesh.specs.Edited.{Edited}
use Rattle.off.specs.declared.Cursor.{Cursor}

-- words of a kind written to the first places, and the words behind them
abbrev pub WordsRead : {A : Type 0} → (List ℕ → Says A) → List ℕ → ℕ → ℕ → List A → ℕ → List A → Type 0
WordsRead f text from n out at out' =
    (l : List _) (ws : List Word) → many f (length text) n (left text from) ≡ Got l ws → (left text at ≡ ws) × (out' ≡ sets out 0 l)

-- marks written to the first places, and the words behind them
abbrev pub MarksRead : List ℕ → ℕ → ℕ → List ℕ → ℕ → List ℕ → Type 0
MarksRead text from n out at out' =
    (l : List ℕ) (ws : List Word) → many number_of (length text) n (left text from) ≡ Got l ws → (left text at ≡ ws) × (out' ≡ sets out 0 l)

-- coordinates written to the first places
abbrev pub PositionsRead : List ℕ → ℕ → ℕ → List ℤ → List ℤ → Type 0
PositionsRead text from n out out' =
    (l : List ℤ) (ws : List Word) → many coordinate_of (length text) n (left text from) ≡ Got l ws → out' ≡ sets out 0 l

-- the face x inserted: its number, its type and its marks, without a licence
pub record FaceInserted (w text : List ℕ) (from c : ℕ) (r : Result Cursor Refusal) (w' : List ℕ) : Type 0 where
  pub size : length w' ≡ length w
  pub refused : (x : List ℕ) (ws : List Word) → face (length text) c (left text from) ≡ Got x ws → (why : Refusal) → r ≡ Err why
      → Edited w (Insert c (body_of (get_or x 1 0) (drop 3 x))) (Err why) w'
  pub made : (x : List ℕ) (ws : List Word) → face (length text) c (left text from) ≡ Got x ws → (at : Cursor) → r ≡ Ok at
      → Edited w (Insert c (body_of (get_or x 1 0) (drop 3 x))) (Ok tt) w' × (left text at.at ≡ ws)
