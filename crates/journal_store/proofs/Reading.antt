-- What the words of a kept journal tell: its head, and each entry's day and edit.
use mathlib.Core.Path.{◌≡◌, refl, sym, ap, ◌∙◌, subst}
use mathlib.Core.Bool.{true}
use mathlib.Core.List.{List, [], ◌∷◌, map, map-append}
use mathlib.Core.Logic.{⊎_elim}
use Prim.Native.Nat.{ℕ, zero, suc, ◌+◌, ◌<◌, ◌≤◌}
use native.Mathlib.Nat.{eq-or-lt_of_le}
use native.Mathlib.Omega.{arith}
use borrow.Author.Tests.{eq-eqb, le-leb}
use lib.ListN.{length, get_or, take}
use lib.Seq.{take-suc, get_or-append-add}
use Rattle.std.specs.Option.{MatchOption, unwrap_or}
use Rattle.std.specs.declared.option.Option.{Option}
use Rattle.std.specs.declared.option.Option.TheVariants.{None, Some}
use Rattle.words.proofs.Fits.{part_is}
use Rattle.numbers.specs.declared.Caps.{Caps}
use Rattle.shapes.proofs.Facts.{facts}
use Rattle.map.specs.History.{Edit, Insert, Remove}
use Rattle.journal_store.specs.Days as D
use Rattle.journal_store.specs.Days.{Dated, Fits, AllFit}
use Rattle.journal_store.specs.Entries.{head_words, entry_words, places_of, used_of, entry_at, insert_kind, remove_kind, edit_words, words_of, words_at}
use Rattle.journal_store.specs.declared.Kind as K
use Rattle.journal_store.specs.declared.Kind.{Kind}
use Rattle.journal_store.specs.Told.{KindTold}
use Rattle.journal_store.specs.Journals.{entries_in, last_in, ever_in, fold_in, is_journal, day_in, edit_in, edits_in, Counted, Pictured}

-- one more entry is of the day or earlier
pub counted_more : (j : List ℕ) (day k : ℕ) → ((i : ℕ) → i < k → day_in j i ≤ day) → (d : ℕ) → d ≡ day_in j k → d ≤ day → (i : ℕ) → i < k + 1 → day_in j i ≤ day
counted_more j day k early d e h i less = ⊎_elim (λ z. rw z (omega arith)) (λ l. early i l) (eq-or-lt_of_le {n = i} {m = k} (omega arith))

-- the entries that fit lie in the memory
pub places_fit : (words : ℕ) → head_words ≤ words → used_of words ≤ words
unfolding used_of places_of
places_fit words h = omega arith

pub place_fits : (words k : ℕ) → head_words ≤ words → k < places_of words → entry_at k + entry_words ≤ words
unfolding places_of
place_fits words k h less = omega arith

-- a place past the entries has no words
pub words_none : (es : List Dated) (k : ℕ) → length es ≤ k → words_at es k ≡ []
unfolding words_at
words_none [] k h = refl
words_none (e ∷ es) zero h = absurd (omega arith)
words_none (e ∷ es) (suc k) h = words_none es k (omega arith)

pub words_some : (es : List Dated) (k : ℕ) (d : Dated) → k < length es → words_at es k ≡ words_of (get_or es k d)
unfolding words_at
words_some [] k d h = absurd (omega arith)
words_some (e ∷ es) zero d h = refl
words_some (e ∷ es) (suc k) d h = words_some es k d (omega arith)

pub fit_some : {es : List Dated} (k : ℕ) (d : Dated) → AllFit es → k < length es → Fits (get_or es k d).edit
fit_some k d D.none h = absurd (omega arith)
fit_some zero d (D.next x rest) h = x
fit_some (suc k) d (D.next x rest) h = fit_some k d rest (omega arith)

-- an edit is read back from its words
edit_read : (j : List ℕ) (k day : ℕ) (x : Edit) → ((f : ℕ) → f < entry_words → get_or j (entry_at k + f) 0 ≡ get_or (edit_words day x) f 0) → Fits x
    → entry_at k + entry_words ≤ length j → edit_in j k ≡ x
unfolding edit_in edit_words
edit_read j k day (Insert c b) words fit room =
    rw (words 1 (omega arith), words 2 (omega arith), words 3 (omega arith), words 4 (omega arith), ← fit, part_is j (entry_at k + 5) b.marks long marks)
  where
    few : length b.marks ≤ 8
    few = omega (arith, (facts b.code).marks)

    long : entry_at k + 5 + length b.marks ≤ length j
    long = omega (arith, few)

    marks : (i : ℕ) → i < length b.marks → get_or j (entry_at k + 5 + i) 0 ≡ get_or b.marks i 0
    marks i h =
        let e : entry_at k + (5 + i) ≡ entry_at k + 5 + i = omega arith in
        subst (λ (n : ℕ). get_or j n 0 ≡ get_or b.marks i 0) e
        (words (5 + i) (omega (arith, few)) ∙ get_or-append-add (day ∷ insert_kind ∷ c ∷ b.code ∷ b.licence ∷ []) b.marks i 0)
edit_read j k day (Remove c) words fit room = rw (words 1 (omega arith), words 2 (omega arith))

module _ (j : List ℕ) (caps : Caps) (es : List Dated) (last ever fold : ℕ) (p : Pictured j caps es last ever fold) where
  -- the head
  pub head_entries : entries_in j ≡ length es
  head_entries = p.head 4 (omega arith)

  pub head_last : last_in j ≡ last
  head_last = p.head 5 (omega arith)

  pub head_ever : ever_in j ≡ ever
  head_ever = p.head 6 (omega arith)

  pub head_fold : fold_in j ≡ fold
  head_fold = p.head 7 (omega arith)

  -- it is a journal
  pub pictured_journal : is_journal j caps ≡ true
  unfolding is_journal
  pictured_journal =
      rw (
        le-leb head_words (length j) p.long,
        p.head 0 (omega arith),
        p.head 1 (omega arith),
        p.head 2 (omega arith),
        p.head 3 (omega arith),
        head_entries,
        eq-eqb caps.marks caps.marks refl,
        eq-eqb caps.cells caps.cells refl,
        eq-eqb caps.edition caps.edition refl,
        le-leb (length es) (places_of (length j)) p.fits,
      )

  -- the day of an entry
  pub day_read : (k : ℕ) → k < length es → day_in j k ≡ get_or (words_at es k) 0 0
  day_read k h =
      let e : entry_at k + 0 ≡ entry_at k = omega arith in
      subst (λ (n : ℕ). get_or j n 0 ≡ get_or (words_at es k) 0 0) e (p.entry k 0 (omega (arith, p.fits)) (omega arith))

  -- and its edit
  pub entry_read : AllFit es → (k : ℕ) (d : Dated) → k < length es → edit_in j k ≡ (get_or es k d).edit
  entry_read fit k d h =
      edit_read j k (get_or es k d).day (get_or es k d).edit
      (λ f less. p.entry k f (omega (arith, p.fits)) less ∙ ap (λ (l : List ℕ). get_or l f 0) (words_some es k d h))
      (fit_some k d fit h) (place_fits (length j) k p.long (omega (arith, p.fits)))

  pub edits_read : AllFit es → (k : ℕ) → k ≤ length es → edits_in j k ≡ map (λ (e : Dated). e.edit) (take k es)
  unfolding edits_in
  edits_read fit zero h = refl
  edits_read fit (suc k) h =
      let d : Dated = record { day = 0; edit = Remove 0 } in
      let less : k < length es = omega arith in
      rw (edits_read fit k (omega arith), entry_read fit k d less, take-suc es k d less)
      (sym (map-append _ (take k es) (get_or es k d ∷ [])))

-- the first entry that is later, or none of the first n
pub counted_found : (j : List ℕ) (n day r : ℕ) (o : Option ℕ) → r ≡ unwrap_or o n
    → MatchOption o ((k : ℕ) → 0 ≤ k → k < n → day_in j k ≤ day)
    (λ i. (0 ≤ i) × (i < n) × (day < day_in j i) × ((k : ℕ) → 0 ≤ k → k < i → day_in j k ≤ day))
    → Counted j n day r
counted_found j n day r None e h = rw e (record { few = omega arith; early = λ i less. h i (omega arith) less; late = λ less. absurd (omega arith) })
counted_found j n day r (Some k) e h = rw e (record { few = omega (arith, h.1); early = λ i less. h.3 i (omega arith) less; late = λ less. h.2 })

-- the kind that a word tells
pub told_insert : (n : ℕ) (k : Kind) → KindTold n (Some k) → k ≡ K.TheVariants.Insert → n ≡ insert_kind
told_insert n K.TheVariants.Insert t e = t
told_insert n K.TheVariants.Remove t e = absurd (let z : ◌≡◌ {A = ℕ} 0 1 = cc in omega arith)

pub told_remove : (n : ℕ) (k : Kind) → KindTold n (Some k) → k ≡ K.TheVariants.Remove → n ≡ remove_kind
told_remove n K.TheVariants.Insert t e = absurd (let z : ◌≡◌ {A = ℕ} 0 1 = cc in omega arith)
told_remove n K.TheVariants.Remove t e = t

-- no insert is told by the word of a removal, nor by one of none
pub told_other : (n : ℕ) (o : Option Kind) → KindTold n o → (o ≡ Some K.TheVariants.Insert → ⊥) → n ≡ insert_kind → ⊥
told_other n (Some K.TheVariants.Insert) t f e = f refl
told_other n (Some K.TheVariants.Remove) t f e = let z : n ≡ 2 = t in omega arith
told_other n None t f e = t.0 e
