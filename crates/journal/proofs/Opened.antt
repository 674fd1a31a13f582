-- What opens an entry, test by test.
use mathlib.Core.Path.{◌≡◌, refl, sym, ap, ◌∙◌}
use mathlib.Core.Bool.{Bool, true, false, cond}
use mathlib.Core.List.{List}
use Prim.Native.Nat.{ℕ, ◌+◌, ◌<◌, ◌≤◌}
use borrow.Author.Tests.{lt-ltb, le-ltb}
use lib.Dec.{leb, ltb}
use lib.ListN.{length}
use Rattle.numbers.specs.declared.Caps.{Caps}
use Rattle.store.specs.Open.{opened}
use Rattle.std.specs.Prelude.{Result, Ok, Err}
use Rattle.map.specs.declared.Refusal.{Refusal}
use Rattle.map.specs.declared.Refusal.TheVariants.{NotMesh, CapacityAbove, DayBefore, JournalFull}
use Rattle.checks.proofs.Opens.{mesh_opened}
use Rattle.journal_store.specs.Days.{most_day}
use Rattle.journal_store.specs.Entries.{places_of}
use Rattle.journal_store.specs.Journals.{entries_in, last_in, is_journal}
use Rattle.journal.specs.Calls.{entry_opened, full_in, full_verdict}
use Rattle.journal.proofs.Both.{none_both, opened_both}

module _ (mesh j : List ℕ) (day : ℕ) where
  pub opens_none : (Err NotMesh) ≡ opened mesh → Err NotMesh ≡ entry_opened mesh j day
  unfolding entry_opened
  opens_none e = rw (none_both mesh j e)

  module _ (caps : Caps) (opens : Ok caps ≡ opened mesh) where
    pub opens_other : (is : Bool) → is ≡ is_journal j caps → is ≡ false → Err NotMesh ≡ entry_opened mesh j day
    unfolding entry_opened
    opens_other is ei ef = rw (opened_both mesh j caps opens ∙ (sym ei ∙ ef))

    module _ (is : Bool) (ei : is ≡ is_journal j caps) (et : is ≡ true) where
      pub opens_above : most_day < day → Err CapacityAbove ≡ entry_opened mesh j day
      unfolding entry_opened
      opens_above h = rw (opened_both mesh j caps opens ∙ (sym ei ∙ et), lt-ltb most_day day h)

      module _ (few : day ≤ most_day) (last : ℕ) (el : last ≡ last_in j) where
        pub opens_before : day < last → Err DayBefore ≡ entry_opened mesh j day
        unfolding entry_opened
        opens_before h = rw (opened_both mesh j caps opens ∙ (sym ei ∙ et), le-ltb most_day day few, ← el, lt-ltb day last h)

        pub opens_open : last ≤ day → Ok caps ≡ entry_opened mesh j day
        unfolding entry_opened
        opens_open h =
            rw (opened_both mesh j caps opens ∙ (sym ei ∙ et), le-ltb most_day day few, ← el, le-ltb day last h) (ap Ok (mesh_opened mesh caps opens).1)

-- whether no place is left
pub full_told : (j : List ℕ) (places entries : ℕ) → places ≡ places_of (length j) → entries ≡ entries_in j → leb places entries ≡ full_in j
unfolding full_in
full_told j places entries ep ee = rw (ep, ee)

-- in a full journal
pub full_refused : (own : Result Caps Refusal) (why : Refusal) → own ≡ Err why → Err why ≡ full_verdict own
unfolding full_verdict
full_refused own why e = ap full_verdict (sym e)

pub full_open : (own : Result Caps Refusal) (caps : Caps) → own ≡ Ok caps → Err JournalFull ≡ full_verdict own
unfolding full_verdict
full_open own caps e = ap full_verdict (sym e)
