-- The words of a journal: "16 words an edit in lent memory, after a head of 16 words, as many as fit".
use Rattle.std.specs.Prelude.{List, [], ◌∷◌, ℕ, zero, suc, ◌+◌, ◌-◌, ◌*◌, ◌/◌, min}
use Rattle.numbers.specs.declared.Caps.{Caps}
use Rattle.map.specs.History.{Edit, Insert, Remove}
use Rattle.journal_store.specs.Days.{Dated}

-- the first word of a journal
abbrev pub journal_magic : ℕ
journal_magic = 1296780874

abbrev pub head_words : ℕ
head_words = 16

abbrev pub entry_words : ℕ
entry_words = 16

-- no journal counts more entries: the count is a word
abbrev pub most_entries : ℕ
most_entries = 4294967295

-- "as many as fit": 16 to 31 words hold none
unfoldable pub places_of : ℕ → ℕ
places_of words = min (words / 16 - 1) most_entries

-- the words that a journal uses, of so many: none behind the last edit that fits
unfoldable pub used_of : ℕ → ℕ
used_of words = head_words + entry_words * places_of words

-- where an entry begins
abbrev pub entry_at : ℕ → ℕ
entry_at k = head_words + entry_words * k

-- the head: what says that this is a journal, the capacities and the edition, the entries, the last day, ever entered, last fold + 1; the rest 0
abbrev pub head_of : Caps → ℕ → ℕ → ℕ → ℕ → List ℕ
head_of caps entries last ever fold =
    journal_magic ∷ caps.marks ∷ caps.cells ∷ caps.edition ∷ entries ∷ last ∷ ever ∷ fold ∷ []

-- an entry: day, kind, cell, type, licence, the marks; the rest 0
abbrev pub entry_of : ℕ → ℕ → ℕ → ℕ → ℕ → List ℕ → List ℕ
entry_of day kind c t licence marks = day ∷ kind ∷ c ∷ t ∷ licence ∷ marks

-- "1 and a build record to insert, 2 and a cell number to remove"
abbrev pub insert_kind : ℕ
insert_kind = 1

abbrev pub remove_kind : ℕ
remove_kind = 2

unfoldable pub edit_words : ℕ → Edit → List ℕ
edit_words day (Insert c x) = entry_of day insert_kind c x.code x.licence x.marks
edit_words day (Remove c) = entry_of day remove_kind c 0 0 []

abbrev pub words_of : Dated → List ℕ
words_of e = edit_words e.day e.edit

-- the words of the entry at a place; none where there is none
unfoldable pub words_at : List Dated → ℕ → List ℕ
words_at [] k = []
words_at (e ∷ es) zero = words_of e
words_at (e ∷ es) (suc k) = words_at es k
