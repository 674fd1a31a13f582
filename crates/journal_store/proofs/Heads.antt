-- Whether a head is that of a journal, test by test.
use mathlib.Core.Path.{◌≡◌}
use mathlib.Core.Bool.{Bool, true, false, ◌&&◌}
use mathlib.Core.List.{List}
use Prim.Native.Nat.{ℕ, ◌<◌, ◌≤◌}
use borrow.Author.Tests.{le-leb, lt-leb, leb-true, eq-eqb, ne_eqb}
use lib.Dec.{leb, eqb}
use lib.ListN.{get_or, length}
use Rattle.lists.proofs.Bools.{and_right}
use Rattle.numbers.specs.declared.Caps.{Caps}
use Rattle.journal_store.specs.Entries.{journal_magic, head_words, places_of}
use Rattle.journal_store.specs.Journals.{entries_in, is_journal}

-- the last of six
last_of_six : (a b c d e f : Bool) → a && (b && (c && (d && (e && f)))) ≡ true → f ≡ true
last_of_six a b c d e f h =
    and_right e f (and_right d (e && f) (and_right c (d && (e && f)) (and_right b (c && (d && (e && f))) (and_right a (b && (c && (d && (e && f)))) h))))

-- the entries of a journal fit
pub journal_fits : (j : List ℕ) (caps : Caps) → is_journal j caps ≡ true → entries_in j ≤ places_of (length j)
unfolding is_journal
journal_fits j caps e =
    leb-true (entries_in j) (places_of (length j))
    (last_of_six (leb head_words (length j)) (eqb (get_or j 0 0) journal_magic) (eqb (get_or j 1 0) caps.marks) (eqb (get_or j 2 0) caps.cells) (eqb (get_or j 3 0) caps.edition) _ e)

module _ (j : List ℕ) (caps : Caps) where
  pub is_short : length j < head_words → false ≡ is_journal j caps
  unfolding is_journal
  is_short h = rw (lt-leb head_words (length j) h)

  module _ (long : head_words ≤ length j) where
    pub is_other : (get_or j 0 0 ≡ journal_magic → ⊥) → false ≡ is_journal j caps
    unfolding is_journal
    is_other n = rw (le-leb head_words (length j) long, ne_eqb (get_or j 0 0) journal_magic n)

    module _ (magic : get_or j 0 0 ≡ journal_magic) where
      pub is_marks : (get_or j 1 0 ≡ caps.marks → ⊥) → false ≡ is_journal j caps
      unfolding is_journal
      is_marks n = rw (le-leb head_words (length j) long, eq-eqb (get_or j 0 0) journal_magic magic, ne_eqb (get_or j 1 0) caps.marks n)

      module _ (marks : get_or j 1 0 ≡ caps.marks) where
        pub is_cells : (get_or j 2 0 ≡ caps.cells → ⊥) → false ≡ is_journal j caps
        unfolding is_journal
        is_cells n =
            rw (
              le-leb head_words (length j) long,
              eq-eqb (get_or j 0 0) journal_magic magic,
              eq-eqb (get_or j 1 0) caps.marks marks,
              ne_eqb (get_or j 2 0) caps.cells n,
            )

        module _ (cells : get_or j 2 0 ≡ caps.cells) where
          pub is_edition_lem : (get_or j 3 0 ≡ caps.edition → ⊥) → false ≡ is_journal j caps
          unfolding is_journal
          is_edition_lem n =
              rw (
                le-leb head_words (length j) long,
                eq-eqb (get_or j 0 0) journal_magic magic,
                eq-eqb (get_or j 1 0) caps.marks marks,
                eq-eqb (get_or j 2 0) caps.cells cells,
                ne_eqb (get_or j 3 0) caps.edition n,
              )

          module _ (edition : get_or j 3 0 ≡ caps.edition) where
            pub is_fits : (n places : ℕ) → n ≡ entries_in j → places ≡ places_of (length j) → leb n places ≡ is_journal j caps
            unfolding is_journal
            is_fits n places en ep =
                rw (
                  le-leb head_words (length j) long,
                  eq-eqb (get_or j 0 0) journal_magic magic,
                  eq-eqb (get_or j 1 0) caps.marks marks,
                  eq-eqb (get_or j 2 0) caps.cells cells,
                  eq-eqb (get_or j 3 0) caps.edition edition,
                  en,
                  ep,
                )
