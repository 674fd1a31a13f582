-- The entries looked at one by one.
use mathlib.Core.Path.{◌≡◌, refl, sym, ap, ◌∙◌, subst}
use mathlib.Core.Bool.{Bool, true, false}
use mathlib.Core.List.{List, [], ◌∷◌, ◌++◌}
use Prim.Native.Nat.{ℕ, zero, suc, ◌+◌, ◌*◌, ◌<◌, ◌≤◌}
use native.Mathlib.Decide.{ℕ_discrete}
use native.Mathlib.Numerals.{add-one}
use native.Mathlib.Omega.{arith}
use lib.ListN.{length, get_or, length-append}
use Rattle.lists.proofs.Bools.{clash}
use Rattle.map.specs.History.{Remove}
use Rattle.journal_store.specs.Days as D
use Rattle.journal_store.specs.Days.{Dated, last_or, Ascends, Fits, AllFit}
use Rattle.journal_store.specs.Entries.{entry_words, entry_at, edit_words, words_of, words_at}
use Rattle.journal_store.specs.Journals.{day_in}
use Rattle.journal_store.proofs.Days.{last_or_end, ascends_or_end, fit_end, day_at, first_day}
use Rattle.journal_store.proofs.Pictures.{words_end, words_other}
use Rattle.journal_store.proofs.Reading.{words_some, fit_some}
use Rattle.journal_whole.specs.Checks.{entry_in, entries_of, Entry, EntryGood, Listed, EntriesGood}

-- the days in their order
ascends_first : {d : ℕ} {es : List Dated} → Ascends d es → 0 < length es → d ≤ day_at es 0
unfolding words_at
ascends_first D.none h = absurd (omega arith)
ascends_first (D.next {e = e} low rest) h = omega (arith, first_day e.day e.edit)

ascends_next : {d : ℕ} {es : List Dated} (i : ℕ) → Ascends d es → suc i < length es → day_at es i ≤ day_at es (suc i)
unfolding words_at
ascends_next i D.none h = absurd (omega arith)
ascends_next zero (D.next {e = e} low rest) h = omega (arith, first_day e.day e.edit, ascends_first rest (omega arith))
ascends_next (suc i) (D.next low rest) h = ascends_next i rest (omega arith)

-- the first k entries are edits in their order, and `last` is the day of the last of them, or the first day
pub record Going (j : List ℕ) (first k last : ℕ) : Type 0 where
  pub start : k ≡ 0 → last ≡ first
  pub behind : (i : ℕ) → k ≡ suc i → last ≡ day_in j i
  pub listed : entry_at k ≤ length j → Listed j k first (entries_of j k)
  pub days : last_or first (entries_of j k) ≡ last

pub going_start : (j : List ℕ) (first k last : ℕ) → k ≡ 0 → last ≡ first → Going j first k last
unfolding entries_of last_or
going_start j first k last z e = rw (z, e) (record {
  start = λ q. refl;
  behind = λ i q. absurd (omega arith);
  listed = λ room. record { size = refl; order = D.none; fit = D.none; words = λ q f h less. absurd (omega arith) };
  days = refl;
})

module _ (j : List ℕ) (first k last : ℕ) (g : Going j first k last) where
  -- one more
  module _ (day : ℕ) (ed : day ≡ day_in j k) (late : last ≤ day) (r : Bool) (good : EntryGood j k r) (yes' : r ≡ true) where
    more_listed : entry_at (suc k) ≤ length j → Listed j (suc k) first (entries_of j (suc k))
    unfolding entries_of
    more_listed room =
        let old = g.listed (omega arith) in
        let now = good.yes yes' (omega arith) in
        record {
          size = length-append (entries_of j k) (entry_in j k ∷ []) ∙ (ap (λ (x : ℕ). x + 1) old.size ∙ add-one k);
          order = ascends_or_end (entry_in j k) old.order (omega (arith, g.days));
          fit = fit_end (entry_in j k) old.fit now.fit;
          words = λ q f h less. go old now q f h less (ℕ_discrete q k);
        }
      where
        go : Listed j k first (entries_of j k) → Entry j k (entry_in j k) → (q f : ℕ) → q < suc k → f < entry_words → Dec (q ≡ k)
            → get_or j (entry_at q + f) 0 ≡ get_or (words_at (entries_of j k ++ (entry_in j k ∷ [])) q) f 0
        go old now q f h less (yes z) =
            rw z (now.words f less ∙ sym (ap (λ (l : List ℕ). get_or l f 0) (words_end (entries_of j k) (entry_in j k) k (sym old.size))))
        go old now q f h less (no z) =
            old.words q f (omega arith) less ∙ sym (ap (λ (l : List ℕ). get_or l f 0) (words_other (entries_of j k) (entry_in j k) q (λ e. z (e ∙ old.size))))

    more_days : last_or first (entries_of j (suc k)) ≡ day
    unfolding entries_of
    more_days = last_or_end (entry_in j k) first (entries_of j k) ∙ sym ed

    pub going_more : Going j first (k + 1) day
    going_more = rw (add-one k) (record {
      start = λ q. absurd (omega arith);
      behind = λ i q. let z : k ≡ i = omega arith in ed ∙ ap (day_in j) z;
      listed = more_listed;
      days = more_days;
    })

  module _ (n : ℕ) where
    pub going_end : k ≤ n → n ≤ k → EntriesGood j n first true
    going_end a b =
        let same : k ≡ n = omega arith in
        record { yes = λ q room. rw same at (g.listed (omega arith)); no = λ q es listed. clash refl q }

    module _ (less : k < n) where
      day_told : (es : List Dated) → Listed j n first es → (i : ℕ) → i < n → day_in j i ≡ day_at es i
      day_told es l i h =
          let e : entry_at i + 0 ≡ entry_at i = omega arith in
          subst (λ (x : ℕ). get_or j x 0 ≡ day_at es i) e (l.words i 0 h (omega arith))

      pub going_before : (day : ℕ) → day ≡ day_in j k → day < last → EntriesGood j n first false
      going_before day ed h = record { yes = λ q. absurd (clash q refl); no = λ q es l. go k refl es l }
        where
          go : (x : ℕ) → k ≡ x → (es : List Dated) → Listed j n first es → ⊥
          go zero e es l =
              omega (arith, g.start e, ascends_first l.order (omega (arith, l.size)), day_told es l 0 (omega arith), ap (day_in j) e)
          go (suc i) e es l =
              omega (arith, g.behind i e, ascends_next i l.order (omega (arith, l.size)), day_told es l i (omega arith), day_told es l (suc i) (omega arith), ap (day_in j) e)

      pub going_bad : (r : Bool) → EntryGood j k r → r ≡ false → EntriesGood j n first false
      going_bad r good bad = record { yes = λ q. absurd (clash q refl); no = λ q es l. good.no bad (get_or es k none) (entry es l) }
        where
          none : Dated
          none = record { day = 0; edit = Remove 0 }

          entry : (es : List Dated) → Listed j n first es → Entry j k (get_or es k none)
          entry es l = record {
            words = λ f h. l.words k f less h ∙ ap (λ (x : List ℕ). get_or x f 0) (words_some es k none (omega (arith, l.size)));
            fit = fit_some k none l.fit (omega (arith, l.size));
          }
