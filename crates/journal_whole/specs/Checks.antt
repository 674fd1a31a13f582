-- The whole check of a journal and its starting map, exact like the mesh's.
use Rattle.std.specs.Prelude.{◌≡◌, Bool, true, false, cond, ◌&&◌, ◌||◌, List, [], ◌∷◌, ◌++◌, ℕ, zero, suc, ◌+◌, ◌-◌, ◌<◌, ◌≤◌, eqb, leb, get_or, length}
use Rattle.map.specs.Cells.{Map}
use Rattle.journal_store.specs.Days.{Dated, dated, most_day, last_or, Ascends, Fits, AllFit}
use Rattle.journal_store.specs.Entries.{entry_words, entry_at, words_of, words_at}
use Rattle.journal_store.specs.Journals.{entries_in, last_in, ever_in, fold_in, day_in, edit_in}
use Rattle.journal.specs.Kept.{Filed}

-- the words from a place on, n of them, are 0
pub record Zeros (j : List ℕ) (at n : ℕ) (r : Bool) : Type 0 where
  pub yes : r ≡ true → (i : ℕ) → i < n → get_or j (at + i) 0 ≡ 0
  pub no : r ≡ false → ((i : ℕ) → i < n → get_or j (at + i) 0 ≡ 0) → ⊥

-- the entry at a place, as its words tell it, and the first n
abbrev pub entry_in : List ℕ → ℕ → Dated
entry_in j k = dated (day_in j k) (edit_in j k)

unfoldable pub entries_of : List ℕ → ℕ → List Dated
entries_of j zero = []
entries_of j (suc n) = entries_of j n ++ (entry_in j n ∷ [])

-- the words of a place are those of an edit that fits an entry
pub record Entry (j : List ℕ) (k : ℕ) (e : Dated) : Type 0 where
  pub words : (f : ℕ) → f < entry_words → get_or j (entry_at k + f) 0 ≡ get_or (words_of e) f 0
  pub fit : Fits e.edit

pub record EntryGood (j : List ℕ) (k : ℕ) (r : Bool) : Type 0 where
  pub yes : r ≡ true → entry_at k + entry_words ≤ length j → Entry j k (entry_in j k)
  pub no : r ≡ false → (e : Dated) → Entry j k e → ⊥

-- the first n entries are those edits, of days from the first on, in their order
pub record Listed (j : List ℕ) (n first : ℕ) (es : List Dated) : Type 0 where
  pub size : length es ≡ n
  pub order : Ascends first es
  pub fit : AllFit es
  pub words : (k f : ℕ) → k < n → f < entry_words → get_or j (entry_at k + f) 0 ≡ get_or (words_at es k) f 0

pub record EntriesGood (j : List ℕ) (n first : ℕ) (r : Bool) : Type 0 where
  pub yes : r ≡ true → entry_at n ≤ length j → Listed j n first (entries_of j n)
  pub no : r ≡ false → (es : List Dated) → Listed j n first es → ⊥

-- the head of no entries, and of some
unfoldable pub head_good : List ℕ → Bool
head_good j =
    cond (eqb (entries_in j) 0) (eqb (last_in j) 0 && (eqb (ever_in j) 0 && eqb (fold_in j) 0))
    (eqb (ever_in j) 1 && (eqb (last_in j) (day_in j (entries_in j - 1)) && (leb (last_in j) most_day && (eqb (fold_in j) 0 || leb (fold_in j + 365) (last_in j)))))

-- "yes exactly if a well-formedness fact written in the definitions holds": filed, for some map and some dated edits
pub record WholeJournal (j start : List ℕ) (r : Bool) : Type 0 where
  pub yes : r ≡ true → (m : Map) × (past : List Dated) × (fold : ℕ) × Filed m past fold j start
  pub no : r ≡ false → (m : Map) (past : List Dated) (fold : ℕ) → Filed m past fold j start → ⊥
