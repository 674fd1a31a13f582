-- What is filed passes each check, and what passes all is filed.
use mathlib.Core.Path.{◌≡◌, refl, sym, ap, ◌∙◌, subst}
use mathlib.Core.Bool.{Bool, true, false}
use mathlib.Core.List.{List, [], ◌∷◌, ◌++◌}
use Prim.Native.Nat.{ℕ, zero, suc, ◌+◌, ◌-◌, ◌*◌, ◌/◌, ◌%◌, ◌<◌, ◌≤◌}
use native.Mathlib.Decide.{dec_lt}
use native.Mathlib.Omega.{arith}
use lib.ListN.{length, get_or}
use lib.Seq.{get_or-append-add}
use Rattle.numbers.specs.declared.Caps.{Caps}
use Rattle.map.specs.Cells.{Map}
use Rattle.map.specs.History.{history}
use Rattle.picture.specs.Picture.{Wf}
use Rattle.journal_store.specs.Days as D
use Rattle.journal_store.specs.Days.{Dated, before, since, map_after, last_or, last_day, ever_of, Ascends, AllFit}
use Rattle.journal_store.specs.Entries.{journal_magic, head_words, entry_words, places_of, used_of, entry_at, head_of, words_at}
use Rattle.journal_store.specs.Journals.{entries_in, last_in, ever_in, fold_in, day_in, Pictured}
use Rattle.journal_store.proofs.Days.{since_early, since_late, since_all, before_none, ascends_weaken, ascends_since, fit_since, ever_end, day_at, first_day, last_or_end}
use Rattle.journal_store.proofs.Reading.{words_none, head_entries, head_last, head_ever, head_fold, day_read, place_fits}
use Rattle.journal.specs.Kept.{Filed}
use Rattle.journal_whole.specs.Checks.{Zeros, entry_in, entries_of, Listed}
use Rattle.journal_whole.proofs.Heads.{Good}

-- the edits from a day on are of no day before it
ascends_from : {d : ℕ} {es : List Dated} (f : ℕ) → Ascends d es → Ascends f (since f es)
unfolding since
ascends_from f D.none = D.none
ascends_from f (D.next {d} {e} {es} low rest) = go (ascends_from f rest) (ascends_since f rest) (dec_lt e.day f)
  where
    go : Ascends f (since f es) → Ascends e.day (since f es) → Dec (e.day < f) → Ascends f (since f (e ∷ es))
    go on late (yes l) = rw (since_early f e es l) on
    go on late (no n) = rw (since_late f e es (omega arith)) (D.next {d = f} {e = e} (omega arith) late)

-- a day up to the last leaves the last edit
since_last : {d : ℕ} {es : List Dated} (f c : ℕ) → Ascends d es → 0 < length es → f ≤ last_or d es
    → (0 < length (since f es)) × (last_or c (since f es) ≡ last_or d es)
unfolding since last_or
since_last f c D.none some h = absurd (omega arith)
since_last f c (D.next {d = d} {e = e} {es = []} low rest) some h = rw (since_late f e [] h) (omega arith, refl)
since_last f c (D.next {d = d} {e = e} {es = x ∷ es} low rest) some h = go (since_last f c rest (omega arith) h) (dec_lt e.day f)
  where
    go : (0 < length (since f (x ∷ es))) × (last_or c (since f (x ∷ es)) ≡ last_or e.day (x ∷ es)) → Dec (e.day < f)
        → (0 < length (since f (e ∷ x ∷ es))) × (last_or c (since f (e ∷ x ∷ es)) ≡ last_or e.day (x ∷ es))
    go on (yes l) = rw (since_early f e (x ∷ es) l) on
    go on (no n) =
        let late : Ascends f (e ∷ x ∷ es) = D.next {d = f} {e = e} (omega arith) rest in
        rw (since_all f (omega arith) late) (omega arith, refl)

-- the last day is that of the last entry
last_at : (d : ℕ) (es : List Dated) → 0 < length es → last_or d es ≡ day_at es (length es - 1)
unfolding last_or words_at
last_at d [] h = absurd (omega arith)
last_at d (e ∷ []) h = sym (first_day e.day e.edit)
last_at d (e ∷ x ∷ es) h =
    let i : length (e ∷ x ∷ es) - 1 ≡ suc (length (x ∷ es) - 1) = omega arith in
    rw i (last_at e.day (x ∷ es) (omega arith))

-- the last fold is not after the last day
late_fold : {m : Map} {past : List Dated} {fold : ℕ} {j start : List ℕ} → Filed m past fold j start → fold ≤ last_day past
late_fold {past = past} {fold = fold} f = go (dec_lt 0 fold)
  where
    go : Dec (0 < fold) → fold ≤ last_day past
    go (yes some) = omega (arith, f.year some)
    go (no none) = omega arith

-- the head is good
pub filed_good : (past : List Dated) {m : Map} {fold : ℕ} {j start : List ℕ} → Filed m past fold j start → Good j
unfolding since last_day last_or ever_of
filed_good [] {m} {fold} {j} f =
    let l : last_in j ≡ 0 = head_last j _ _ _ _ _ f.journal in
    let v : ever_in j ≡ 0 = head_ever j _ _ _ _ _ f.journal in
    let g : fold_in j ≡ 0 = omega (arith, head_fold j _ _ _ _ _ f.journal, late_fold f) in
    let n : entries_in j ≡ 0 = head_entries j _ _ _ _ _ f.journal in
    record { none = λ k. ((l, v), g); some = λ k. absurd (k n); few = omega arith; year = λ h. absurd (omega arith) }
filed_good (x ∷ xs) {m} {fold} {j} f =
    let es : List Dated = since fold (x ∷ xs) in
    let kept = since_last fold 0 f.order (omega arith) (late_fold f) in
    let n : entries_in j ≡ length es = head_entries j _ _ _ _ _ f.journal in
    let l : last_in j ≡ last_or 0 (x ∷ xs) = head_last j _ _ _ _ _ f.journal in
    let g : fold_in j ≡ fold = head_fold j _ _ _ _ _ f.journal in
    let i : length es - 1 ≡ entries_in j - 1 = omega arith in
    record {
      none = λ k. absurd (omega (arith, kept.0));
      some = λ k. (
        head_ever j _ _ _ _ _ f.journal,
        l ∙ (sym kept.1 ∙ (last_at 0 es kept.0 ∙ (sym (day_read j _ _ _ _ _ f.journal (length es - 1) (omega (arith, kept.0))) ∙ ap (day_in j) i))),
      );
      few = omega (arith, f.days);
      year = λ h. omega (arith, f.year (omega arith));
    }

module _ {m : Map} {past : List Dated} {fold : ℕ} {j start : List ℕ} (f : Filed m past fold j start) where
  -- the words of the head that say nothing
  pub filed_rest : (i : ℕ) → i < 8 → get_or j (8 + i) 0 ≡ 0
  filed_rest i h =
      f.journal.head (8 + i) (omega arith)
      ∙ get_or-append-add (journal_magic ∷ m.caps.marks ∷ m.caps.cells ∷ m.caps.edition ∷ length (since fold past) ∷ last_day past ∷ ever_of past ∷ fold ∷ []) [] i 0

  -- the entries
  pub filed_listed : (n first : ℕ) → n ≡ entries_in j → first ≡ fold_in j → Listed j n first (since fold past)
  filed_listed n first en ef =
      let size : n ≡ length (since fold past) = en ∙ head_entries j _ _ _ _ _ f.journal in
      let from : first ≡ fold = ef ∙ head_fold j _ _ _ _ _ f.journal in
      record {
        size = sym size;
        order = rw from (ascends_from fold f.order);
        fit = fit_since fold f.fit;
        words = λ k g h less. f.journal.entry k g (omega (arith, f.journal.fits)) less;
      }

  -- the places behind them
  pub filed_behind : (n at used : ℕ) → n ≡ entries_in j → at ≡ entry_at n → used ≡ used_of (length j) → (i : ℕ) → i < used - at → get_or j (at + i) 0 ≡ 0
  unfolding used_of
  filed_behind n at used en ea eu i h =
      let size : n ≡ length (since fold past) = en ∙ head_entries j _ _ _ _ _ f.journal in
      let k = n + i / 16 in
      let g = i % 16 in
      let e : entry_at k + g ≡ at + i = omega arith in
      let few : k < places_of (length j) = omega arith in
      let small : g < entry_words = omega arith in
      subst (λ (x : ℕ). get_or j x 0 ≡ 0) e (f.journal.entry k g few small ∙ ap (λ (l : List ℕ). get_or l g 0) (words_none (since fold past) k (omega arith)))

-- the last day of the entries, and whether there is one
read_last : (j : List ℕ) (n : ℕ) → Good j → n ≡ entries_in j → last_day (entries_of j n) ≡ last_in j
unfolding entries_of last_day last_or
read_last j zero g e = sym (g.none (sym e)).0.0
read_last j (suc n) g e =
    let i : n ≡ entries_in j - 1 = omega arith in
    last_or_end (entry_in j n) 0 (entries_of j n) ∙ (ap (day_in j) i ∙ sym (g.some (λ z. omega arith)).1)

read_ever : (j : List ℕ) (n : ℕ) → Good j → n ≡ entries_in j → ever_of (entries_of j n) ≡ ever_in j
unfolding entries_of ever_of
read_ever j zero g e = sym (g.none (sym e)).0.1
read_ever j (suc n) g e = ever_end (entry_in j n) (entries_of j n) ∙ sym (g.some (λ z. omega arith)).0

-- what passes all is filed
module _ (j start : List ℕ) (caps : Caps) (long : head_words ≤ length j) (magic : get_or j 0 0 ≡ journal_magic) (marks : get_or j 1 0 ≡ caps.marks)
    (cells : get_or j 2 0 ≡ caps.cells) (edition : get_or j 3 0 ≡ caps.edition) (fits : entries_in j ≤ places_of (length j)) (good : Good j)
    (rest : (i : ℕ) → i < 8 → get_or j (8 + i) 0 ≡ 0) (n first at used : ℕ) (en : n ≡ entries_in j) (ef : first ≡ fold_in j)
    (listed : Listed j n first (entries_of j n)) (ea : at ≡ entry_at n) (eu : used ≡ used_of (length j))
    (behind : (i : ℕ) → i < used - at → get_or j (at + i) 0 ≡ 0) where
  head_are : (i : ℕ) → i < head_words → get_or j i 0 ≡ get_or (head_of caps n (last_in j) (ever_in j) first) i 0
  head_are zero h = magic
  head_are (suc zero) h = marks
  head_are (suc (suc zero)) h = cells
  head_are (suc (suc (suc zero))) h = edition
  head_are (suc (suc (suc (suc zero)))) h = sym en
  head_are (suc (suc (suc (suc (suc zero))))) h = refl
  head_are (suc (suc (suc (suc (suc (suc zero)))))) h = refl
  head_are (suc (suc (suc (suc (suc (suc (suc zero))))))) h = sym ef
  head_are (suc (suc (suc (suc (suc (suc (suc (suc i)))))))) h =
      let e : suc (suc (suc (suc (suc (suc (suc (suc i))))))) ≡ 8 + i = omega arith in
      ap (λ (x : ℕ). get_or j x 0) e ∙ rest i (omega arith)

  entries_are : (k g : ℕ) → k < places_of (length j) → g < entry_words → Dec (k < n) → get_or j (entry_at k + g) 0 ≡ get_or (words_at (entries_of j n) k) g 0
  unfolding used_of
  entries_are k g few small (yes l) = listed.words k g l small
  entries_are k g few small (no f) =
      let i = entry_words * (k - n) + g in
      let e : at + i ≡ entry_at k + g = omega arith in
      subst (λ (x : ℕ). get_or j x 0 ≡ 0) e (behind i (omega arith))
      ∙ sym (ap (λ (l : List ℕ). get_or l g 0) (words_none (entries_of j n) k (omega (arith, listed.size))))

  pub passed_filed : (m : Map) → m.caps ≡ caps → Wf start m → Filed m (entries_of j n) first j start
  unfolding map_after history
  passed_filed m ec wf =
      let late : Ascends first (entries_of j n) = listed.order in
      record {
        order = ascends_weaken 0 (omega arith) late;
        days = omega (arith, read_last j n good en, good.few);
        fit = listed.fit;
        year = λ h. omega (arith, read_last j n good en, good.year (omega arith));
        starts = rw (before_none first (omega arith) late) wf;
        journal = rw (since_all first (omega arith) late, read_last j n good en, read_ever j n good en, ec) (record {
          long = long;
          fits = omega (arith, listed.size);
          head = λ i h. head_are i h ∙ ap (λ (x : ℕ). get_or (head_of caps x (last_in j) (ever_in j) first) i 0) (sym listed.size);
          entry = λ k g few small. entries_are k g few small (dec_lt k n);
        });
      }
