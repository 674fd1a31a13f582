-- An entry written behind the others.
use mathlib.Core.Path.{◌≡◌}
use mathlib.Core.List.{List}
use Prim.Native.Nat.{ℕ, ◌+◌, ◌<◌, ◌≤◌}
use native.Mathlib.Omega.{arith}
use lib.ListN.{length}
use Rattle.numbers.specs.declared.Caps.{Caps}
use Rattle.journal_store.specs.Entries.{head_words, entry_words, most_entries, places_of, entry_at, head_of}
use Rattle.journal_store.specs.Journals.{entries_in, fold_in}
use Rattle.journal_store.specs.Writes.{Copied}
use Rattle.journal_store.proofs.Pictures.{append_only, append_pictured}
use Rattle.journal.specs.Calls.{Appended}

-- one more entry is counted
pub places_most : (words : ℕ) → places_of words ≤ most_entries
unfolding places_of
places_most words = omega arith

pub appended : (j j₁ j' words : List ℕ) (caps : Caps) (n more day fold : ℕ) → n ≡ entries_in j → more ≡ n + 1 → fold ≡ fold_in j → n < places_of (length j)
    → Copied words (entry_at n) entry_words j j₁ → Copied (head_of caps more day 1 fold) 0 head_words j₁ j' → Appended j caps day words j'
appended j j₁ j' words caps n more day fold en em ef room entry head = record {
  within = append_only j j₁ j' words caps n more day 1 fold en em ef room entry head;
  pictured = λ es last ever fold₀ e we p few. append_pictured j j₁ j' words caps n more day 1 fold en em ef room entry head es last ever fold₀ e we p;
}
