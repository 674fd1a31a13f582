-- The whole check, test by test.
use mathlib.Core.Path.{◌≡◌, refl, sym, ap, ◌∙◌, subst}
use mathlib.Core.Bool.{Bool, true, false, ◌&&◌}
use mathlib.Core.List.{List}
use Prim.Native.Nat.{ℕ, ◌+◌, ◌-◌, ◌<◌, ◌≤◌}
use native.Mathlib.Omega.{arith}
use borrow.Author.Tests.{leb-true, eqb-true}
use lib.Dec.{eqb, leb}
use lib.ListN.{length, get_or}
use Rattle.lists.proofs.Bools.{clash, and_left, and_right}
use Rattle.numbers.specs.declared.Caps.{Caps}
use Rattle.store.specs.Open.{opened}
use Rattle.map.specs.declared.Refusal.TheVariants.{NotMesh}
use Rattle.std.specs.Prelude.{Ok, Err}
use Rattle.map.specs.Cells.{Map}
use Rattle.picture.specs.Picture.{Wf}
use Rattle.checks.proofs.Opens.{nothing_opened, wf_mesh, wf_caps}
use Rattle.whole.specs.Whole.{Whole}
use Rattle.journal_store.specs.Days.{Dated, before, since, map_after, last_day, ever_of}
use Rattle.journal_store.specs.Entries.{journal_magic, head_words, places_of, used_of, entry_at}
use Rattle.journal_store.specs.Journals.{entries_in, fold_in, is_journal}
use Rattle.journal_store.proofs.Heads.{journal_fits}
use Rattle.journal_store.proofs.Reading.{places_fit}
use Rattle.journal.specs.Kept.{Filed, both}
use Rattle.journal.proofs.Both.{after_caps, opened_both, kept_both}
use Rattle.journal_whole.specs.Checks.{Zeros, entries_of, EntriesGood, head_good, WholeJournal}
use Rattle.journal_whole.proofs.Heads.{head_good_lem, good_head}
use Rattle.journal_whole.proofs.Filing.{filed_good, filed_rest, filed_listed, filed_behind, passed_filed}

-- what the head of a journal says, test by test
record Headed (j : List ℕ) (caps : Caps) : Type 0 where
  long : head_words ≤ length j
  magic : get_or j 0 0 ≡ journal_magic
  marks : get_or j 1 0 ≡ caps.marks
  cells : get_or j 2 0 ≡ caps.cells
  edition : get_or j 3 0 ≡ caps.edition

six : (a b c d e f : Bool) → a && (b && (c && (d && (e && f)))) ≡ true → ((a ≡ true) × (b ≡ true)) × (((c ≡ true) × (d ≡ true)) × (e ≡ true))
six true true true true true f h = ((refl, refl), ((refl, refl), refl))
six false b c d e f h = absurd (clash h refl)
six true false c d e f h = absurd (clash h refl)
six true true false d e f h = absurd (clash h refl)
six true true true false e f h = absurd (clash h refl)
six true true true true false f h = absurd (clash h refl)

headed : (j : List ℕ) (caps : Caps) → is_journal j caps ≡ true → Headed j caps
unfolding is_journal
headed j caps e =
    let h = six (leb head_words (length j)) (eqb (get_or j 0 0) journal_magic) (eqb (get_or j 1 0) caps.marks) (eqb (get_or j 2 0) caps.cells) (eqb (get_or j 3 0) caps.edition) _ e in
    record {
      long = leb-true _ _ h.0.0;
      magic = eqb-true _ _ h.0.1;
      marks = eqb-true _ _ h.1.0.0;
      cells = eqb-true _ _ h.1.0.1;
      edition = eqb-true _ _ h.1.1;
    }

module _ (j start : List ℕ) where
  not_whole : ((m : Map) (past : List Dated) (fold : ℕ) → Filed m past fold j start → ⊥) → WholeJournal j start false
  not_whole f = record { yes = λ q. absurd (clash q refl); no = λ q. f }

  pub no_mesh : (Err NotMesh) ≡ opened start → WholeJournal j start false
  no_mesh e = not_whole (λ m past fold f. clash (wf_mesh start (map_after m (before fold past)) f.starts) (nothing_opened start e))

  module _ (caps : Caps) (opens : Ok caps ≡ opened start) where
    pub no_journal : (is : Bool) → is ≡ is_journal j caps → is ≡ false → WholeJournal j start false
    no_journal is ei ef =
        not_whole (λ m past fold f.
        clash
        (kept_both start j (map_after m (before fold past)) (since fold past) (last_day past) (ever_of past) fold f.starts (rw (after_caps m (before fold past)) f.journal))
        (opened_both start j caps opens ∙ (sym ei ∙ ef)))

    module _ (is : Bool) (ei : is ≡ is_journal j caps) (et : is ≡ true) where
      pub no_head : (r : Bool) → r ≡ head_good j → r ≡ false → WholeJournal j start false
      no_head r er ef = not_whole (λ m past fold f. clash (good_head j (filed_good past f) (eqb (entries_in j) 0) refl) (sym er ∙ ef))

      pub no_rest : (r : Bool) → Zeros j 8 8 r → r ≡ false → WholeJournal j start false
      no_rest r z ef = not_whole (λ m past fold f. z.no ef (filed_rest f))

      module _ (n first at used : ℕ) (en : n ≡ entries_in j) (ef : first ≡ fold_in j) where
        pub no_entries : (r : Bool) → EntriesGood j n first r → r ≡ false → WholeJournal j start false
        no_entries r g bad = not_whole (λ m past fold f. g.no bad (since fold past) (filed_listed f n first en ef))

        module _ (ea : at ≡ entry_at n) (eu : used ≡ used_of (length j)) where
          pub no_room : used < at → WholeJournal j start false
          unfolding used_of
          no_room h = not_whole (λ m past fold f. omega (arith, journal_fits j caps (sym ei ∙ et)))

          pub no_behind : (k : ℕ) → k ≡ used - at → (r : Bool) → Zeros j at k r → r ≡ false → WholeJournal j start false
          no_behind k ek r z bad = not_whole (λ m past fold f. z.no bad (λ i h. filed_behind f n at used en ea eu i (omega arith)))

          pub all_passed : (k : ℕ) → k ≡ used - at → at ≤ used → (a b c d : Bool) → a ≡ head_good j → a ≡ true → Zeros j 8 8 b → b ≡ true
              → EntriesGood j n first c → c ≡ true → Zeros j at k d → d ≡ true → (r : Bool) → Whole start r → WholeJournal j start r
          all_passed k ek room a b c d ea' at' zb bt gc ct zd dt r w = record {
            yes = λ q.
                let x = w.yes q in
                (x.0, entries_of j n, first, filed x.0 x.1);
            no = λ q m past fold f. w.no q (map_after m (before fold past)) f.starts;
          }
            where
              h : Headed j caps
              h = headed j caps (sym ei ∙ et)

              filed : (m : Map) → Wf start m → Filed m (entries_of j n) first j start
              filed m wf =
                  passed_filed j start caps h.long h.magic h.marks h.cells h.edition (journal_fits j caps (sym ei ∙ et)) (head_good_lem j (sym ea' ∙ at')) (zb.yes bt)
                  n first at used en ef (gc.yes ct (omega (arith, places_fit (length j) h.long))) ea eu (λ i l. zd.yes dt i (omega arith)) m (wf_caps start m wf caps opens) wf
