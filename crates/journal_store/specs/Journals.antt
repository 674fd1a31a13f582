-- What memory is a journal, what its words tell, and the words of one that was kept.
use Rattle.std.specs.Prelude.{◌≡◌, Bool, cond, ◌&&◌, List, [], ◌++◌, ◌∷◌, ℕ, zero, suc, ◌+◌, ◌<◌, ◌≤◌, eqb, leb, get_or, length}
use Rattle.words.specs.Words.{part_of}
use Rattle.numbers.specs.declared.Caps.{Caps}
use Rattle.shapes.specs.Shapes.{shape}
use Rattle.map.specs.Cells.{licensed_body}
use Rattle.map.specs.History.{Edit, Insert, Remove}
use Rattle.journal_store.specs.Days.{Dated}
use Rattle.journal_store.specs.Entries.{journal_magic, head_words, entry_words, places_of, entry_at, head_of, insert_kind, words_at}

-- the words of the head
abbrev pub entries_in : List ℕ → ℕ
entries_in j = get_or j 4 0

abbrev pub last_in : List ℕ → ℕ
last_in j = get_or j 5 0

abbrev pub ever_in : List ℕ → ℕ
ever_in j = get_or j 6 0

abbrev pub fold_in : List ℕ → ℕ
fold_in j = get_or j 7 0

-- "14 also for a journal .. that is none": it has a journal's head, of these capacities and this edition, and its entries fit
unfoldable pub is_journal : List ℕ → Caps → Bool
is_journal j caps =
    leb head_words (length j)
    && (eqb (get_or j 0 0) journal_magic
    && (eqb (get_or j 1 0) caps.marks && (eqb (get_or j 2 0) caps.cells
    && (eqb (get_or j 3 0) caps.edition && leb (entries_in j) (places_of (length j))))))

-- the day of an entry, and its edit
abbrev pub day_in : List ℕ → ℕ → ℕ
day_in j k = get_or j (entry_at k) 0

abbrev pub type_in : List ℕ → ℕ → ℕ
type_in j k = get_or j (entry_at k + 3) 0

abbrev pub licence_in : List ℕ → ℕ → ℕ
licence_in j k = get_or j (entry_at k + 4) 0

unfoldable pub edit_in : List ℕ → ℕ → Edit
edit_in j k =
    cond (eqb (get_or j (entry_at k + 1) 0) insert_kind)
    (Insert (get_or j (entry_at k + 2) 0) (licensed_body (type_in j k) (licence_in j k) (part_of j (entry_at k + 5) (shape (type_in j k)).marks)))
    (Remove (get_or j (entry_at k + 2) 0))

-- the edits of the first n entries
unfoldable pub edits_in : List ℕ → ℕ → List Edit
edits_in j zero = []
edits_in j (suc n) = edits_in j n ++ (edit_in j n ∷ [])

-- the first k of n entries are of the day or earlier, and the next one is not
pub record Counted (j : List ℕ) (n day k : ℕ) : Type 0 where
  pub few : k ≤ n
  pub early : (i : ℕ) → i < k → day_in j i ≤ day
  pub late : k < n → day < day_in j k

-- every word that a journal uses is fixed by its capacities, its entries, the last day, ever entered and the last fold
pub record Pictured (j : List ℕ) (caps : Caps) (es : List Dated) (last ever fold : ℕ) : Type 0 where
  pub long : head_words ≤ length j
  pub fits : length es ≤ places_of (length j)
  pub head : (i : ℕ) → i < head_words → get_or j i 0 ≡ get_or (head_of caps (length es) last ever fold) i 0
  pub entry : (k f : ℕ) → k < places_of (length j) → f < entry_words → get_or j (entry_at k + f) 0 ≡ get_or (words_at es k) f 0
