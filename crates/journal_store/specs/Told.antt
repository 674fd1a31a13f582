-- What the numbers in a journal's words stand for: the kind of an edit, whether one was ever entered, the day of the last fold.
use Rattle.std.specs.Prelude.{◌≡◌, Bool, true, false, List, ℕ, suc, min, Option, Some, None}
use Rattle.numbers.specs.declared.Caps.{Caps}
use Rattle.journal_store.specs.Entries.{head_of, entry_of, insert_kind, remove_kind}
use Rattle.journal_store.specs.declared.Kind as K
use Rattle.journal_store.specs.declared.Kind.{Kind}
use Rattle.journal_store.specs.declared.Entry.{Entry}
use Rattle.journal_store.specs.declared.Head.{Head}

-- "1 and a build record to insert, 2 and a cell number to remove"
abbrev pub kind_word : Kind → ℕ
kind_word K.TheVariants.Insert = insert_kind
kind_word K.TheVariants.Remove = remove_kind

-- the kind that a word tells; any other word tells none
abbrev pub KindTold : ℕ → Option Kind → Type 0
KindTold n (Some K.TheVariants.Insert) = n ≡ insert_kind
KindTold n (Some K.TheVariants.Remove) = n ≡ remove_kind
KindTold n None = (n ≡ insert_kind → ⊥) × (n ≡ remove_kind → ⊥)

-- 1 if an edit was ever entered
abbrev pub ever_word : Bool → ℕ
ever_word true = 1
ever_word false = 0

-- the last fold is kept as its day + 1, 0 for none
abbrev pub fold_word : Option ℕ → ℕ
fold_word (Some day) = min (suc day) 4294967295
fold_word None = 0

-- the last fold that a word tells
abbrev pub FoldTold : ℕ → Option ℕ → Type 0
FoldTold n (Some day) = n ≡ suc day
FoldTold n None = n ≡ 0

-- the words of a head, and of an entry
abbrev pub head_told : Caps → Head → List ℕ
head_told caps h = head_of caps h.entries h.last (ever_word h.ever) (fold_word h.fold)

abbrev pub entry_told : Entry → List ℕ
entry_told e = entry_of e.day (kind_word e.kind) e.cell.0 e.code e.licence e.marks.now
