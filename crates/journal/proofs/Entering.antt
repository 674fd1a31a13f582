-- An edit entered: each answer in its order, and what is left.
use mathlib.Core.Path.{◌≡◌, refl, sym, ap, ◌∙◌, subst}
use mathlib.Core.Bool.{Bool, true, false, cond, not}
use mathlib.Core.List.{List, [], ◌∷◌, ◌++◌}
use Prim.Native.Nat.{ℕ, suc, ◌+◌, ◌<◌, ◌≤◌}
use native.Mathlib.Decide.{dec_lt}
use native.Mathlib.Omega.{arith}
use borrow.Author.Tests.{lt-ltb, le-ltb, ltb-true, ltb-false, le-leb, lt-leb, leb-true, leb-false, eq-eqb, ne_eqb}
use lib.Dec.{eqb, leb, ltb}
use lib.ListN.{length}
use Rattle.lists.proofs.Bools.{clash}
use Rattle.numbers.specs.declared.Caps.{Caps}
use Rattle.words.specs.Words.{part_of}
use Rattle.words.proofs.Frame.{only_none}
use Rattle.words.proofs.Fits.{part_fits}
use Rattle.store.specs.Open.{caps_in, opened}
use Rattle.std.specs.Prelude.{Result, ⊤, Ok, Err}
use Rattle.map.specs.Cells.{Map, licensed_body}
use Rattle.map.specs.Answers.{Answer, Check, ◌when◌, answer}
use Rattle.map.specs.History.{Edit, Insert, Remove, edit_answer, edited, history}
use Rattle.map.specs.Says.{number_of, given, refused, verdict_says}
use Rattle.map.specs.declared.Refusal.{Refusal}
use Rattle.map.specs.declared.Refusal.TheVariants.{NotMesh, CapacityAbove, DayBefore, JournalFull}
use Rattle.map.proofs.Refusals.{number_some}
use Rattle.laws.proofs.Edits.{may_insert}
use Rattle.picture.specs.Picture.{Wf}
use Rattle.checks.specs.Opening.{Opens}
use Rattle.checks.proofs.Opens.{wf_caps, mesh_opened}
use Rattle.mesh.specs.Edited.{Edited}
use Rattle.journal_store.specs.Days as D
use Rattle.journal_store.specs.Days.{Dated, dated, most_day, before, since, map_after, last_day, ever_of, Fits, enter_answer, entered}
use Rattle.journal_store.specs.Entries.{places_of, insert_kind, remove_kind, entry_of, edit_words, words_of}
use Rattle.journal_store.specs.Journals.{entries_in, last_in, Pictured}
use Rattle.journal_store.proofs.Days.{before_end, since_end, last_end, ever_end, ascends_end, fit_end, accepted_end, after_then}
use Rattle.journal_store.proofs.Reading.{head_entries, head_last}
use Rattle.journal.specs.Kept.{Filed, Kept, both}
use Rattle.journal.specs.Calls.{entry_opened, full_in, full_verdict, Appended, Entered}
use Rattle.journal.proofs.Both.{after_caps, wf_head, kept_both}

-- the answer, check by check
module _ (m : Map) (past : List Dated) (fold places : ℕ) (e : Dated) where
  enter_above : most_day < e.day → enter_answer m past fold places e ≡ refused CapacityAbove
  unfolding enter_answer ◌when◌ answer refused
  enter_above h = rw (lt-ltb most_day e.day h)

  module _ (few : e.day ≤ most_day) where
    enter_before : e.day < last_day past → enter_answer m past fold places e ≡ refused DayBefore
    unfolding enter_answer ◌when◌ answer refused
    enter_before h = rw (le-ltb most_day e.day few, lt-ltb e.day (last_day past) h)

    module _ (late : last_day past ≤ e.day) where
      enter_own : (why : Refusal) → refused why ≡ edit_answer (map_after m past) e.edit → enter_answer m past fold places e ≡ refused why
      unfolding enter_answer ◌when◌ answer refused
      enter_own why q =
          rw (le-ltb most_day e.day few, le-ltb e.day (last_day past) late, ← q, ne_eqb (number_of why) 0 (λ z. omega (arith, number_some why)))

      module _ (ok : (edit_answer (map_after m past) e.edit).refusal ≡ 0) where
        enter_full : places ≤ length (since fold past) → enter_answer m past fold places e ≡ refused JournalFull
        unfolding enter_answer ◌when◌ answer refused
        enter_full h =
            rw (le-ltb most_day e.day few, le-ltb e.day (last_day past) late, ok, le-leb places (length (since fold past)) h)

        enter_made : length (since fold past) < places → enter_answer m past fold places e ≡ given []
        unfolding enter_answer ◌when◌ answer given
        enter_made h =
            rw (le-ltb most_day e.day few, le-ltb e.day (last_day past) late, ok, lt-leb places (length (since fold past)) h)

  entered_same : (why : Refusal) → enter_answer m past fold places e ≡ refused why → entered m past fold places e ≡ past
  unfolding entered refused
  entered_same why q = rw (q, ne_eqb (number_of why) 0 (λ z. omega (arith, number_some why)))

  entered_more : enter_answer m past fold places e ≡ given [] → entered m past fold places e ≡ past ++ (e ∷ [])
  unfolding entered given
  entered_more q = rw q

-- the map with one edit more
after_end : (m : Map) (past : List Dated) (e : Dated) → edited (map_after m past) e.edit ≡ map_after m (past ++ (e ∷ []))
unfolding map_after history
after_end m past e = sym (after_then m past (e ∷ []))

-- a place is left
pub room_left : (j : List ℕ) (full : Bool) → full ≡ full_in j → full ≡ false → entries_in j < places_of (length j)
unfolding full_in
room_left j full ef et = leb-false _ _ (sym ef ∙ et)

-- the words of an entry
pub insert_words : (day c t licence : ℕ) (marks : List ℕ)
    → words_of (dated day (Insert c (licensed_body t licence marks))) ≡ entry_of day insert_kind c t licence marks
unfolding edit_words
insert_words day c t licence marks = refl

pub remove_words : (day c : ℕ) (w l : List ℕ) → l ≡ part_of w 0 0 → words_of (dated day (Remove c)) ≡ entry_of day remove_kind c 0 0 l
unfolding edit_words
remove_words day c w l e = rw (e ∙ part_fits w 0 0 (omega arith))

-- an accepted edit fits an entry
accepted_fits : (m : Map) (e : Edit) → (edit_answer m e).refusal ≡ 0 → Fits e
accepted_fits m (Insert c x) ok = (may_insert m c x ok).count
accepted_fits m (Remove c) ok = omega arith

-- the edit is of no day that was folded
late_fold : {m : Map} {past : List Dated} {fold : ℕ} {j start : List ℕ} → Filed m past fold j start → (day : ℕ) → last_day past ≤ day → fold ≤ day
late_fold {fold = fold} f day h = go (dec_lt 0 fold)
  where
    go : Dec (0 < fold) → fold ≤ day
    go (yes some) = omega (arith, f.year some)
    go (no none) = omega arith

module _ (mesh j : List ℕ) (e : Dated) where
  kept_pictured : {m : Map} {past : List Dated} {fold : ℕ} {start : List ℕ} → Kept m past fold mesh j start → both mesh j ≡ true
  kept_pictured {m} {past} {fold} k =
      kept_both mesh j (map_after m past) (since fold past) (last_day past) (ever_of past) fold k.today (rw (after_caps m past) k.filed.journal)

  kept_last : {m : Map} {past : List Dated} {fold : ℕ} {start : List ℕ} → Kept m past fold mesh j start → last_in j ≡ last_day past
  kept_last k = head_last j _ _ _ _ _ k.filed.journal

  kept_entries : {m : Map} {past : List Dated} {fold : ℕ} {start : List ℕ} → Kept m past fold mesh j start → entries_in j ≡ length (since fold past)
  kept_entries k = head_entries j _ _ _ _ _ k.filed.journal

  -- a refusal
  entered_refused : (why : Refusal) → (both mesh j ≡ false → why ≡ NotMesh)
      → ((m : Map) (past : List Dated) (fold : ℕ) (start : List ℕ) → Kept m past fold mesh j start → enter_answer m past fold (places_of (length j)) e ≡ refused why)
      → Entered mesh j e (Err why) mesh j
  unfolding verdict_says
  entered_refused why none says = record {
    refused = λ n. ap Err (none n);
    kept = λ other q. (refl, refl);
    within = only_none;
    inside = only_none;
    answers = λ m past fold start k.
        let q = says m past fold start k in
        (sym q, rw (entered_same m past fold (places_of (length j)) e why q) k);
  }

  -- by what opens it
  pub entry_refused : (opening : Result Caps Refusal) → opening ≡ entry_opened mesh j e.day → (why : Refusal) → opening ≡ Err why → Entered mesh j e (Err why) mesh j
  unfolding entry_opened
  entry_refused opening eo why ew = go (both mesh j) refl (ltb most_day e.day) refl (ltb e.day (last_in j)) refl (sym ew ∙ eo)
    where
      go : (a : Bool) → both mesh j ≡ a → (b : Bool) → ltb most_day e.day ≡ b → (c : Bool) → ltb e.day (last_in j) ≡ c
          → Err why ≡ cond a (cond b (Err CapacityAbove) (cond c (Err DayBefore) (Ok (caps_in mesh)))) (Err NotMesh)
          → Entered mesh j e (Err why) mesh j
      go true ea true eb c ec q =
          let same : why ≡ CapacityAbove = cc in
          rw same (entered_refused CapacityAbove (λ n. absurd (clash ea n)) (λ m past fold start k. enter_above m past fold _ e (ltb-true _ _ eb)))
      go true ea false eb true ec q =
          let same : why ≡ DayBefore = cc in
          rw same
          (entered_refused DayBefore (λ n. absurd (clash ea n)) (λ m past fold start k.
          enter_before m past fold _ e (ltb-false _ _ eb) (omega (arith, ltb-true e.day (last_in j) ec, kept_last k))))
      go true ea false eb false ec q = absurd (let z : ◌≡◌ {A = ℕ} 0 1 = cc in omega arith)
      go false ea b eb c ec q =
          let same : why ≡ NotMesh = cc in
          rw same (entered_refused NotMesh (λ n. refl) (λ m past fold start k. absurd (clash (kept_pictured k) ea)))

  -- what an opening tells
  pub record Told (caps : Caps) : Type 0 where
    pub both_are : both mesh j ≡ true
    pub few : e.day ≤ most_day
    pub late : last_in j ≤ e.day
    pub caps_are : caps ≡ caps_in mesh

  pub entry_open : (opening : Result Caps Refusal) → opening ≡ entry_opened mesh j e.day → (caps : Caps) → opening ≡ Ok caps → Told caps
  unfolding entry_opened
  entry_open opening eo caps ew = go (both mesh j) refl (ltb most_day e.day) refl (ltb e.day (last_in j)) refl (sym ew ∙ eo)
    where
      go : (a : Bool) → both mesh j ≡ a → (b : Bool) → ltb most_day e.day ≡ b → (c : Bool) → ltb e.day (last_in j) ≡ c
          → Ok caps ≡ cond a (cond b (Err CapacityAbove) (cond c (Err DayBefore) (Ok (caps_in mesh)))) (Err NotMesh)
          → Told caps
      go true ea true eb c ec q = absurd (let z : ◌≡◌ {A = ℕ} 0 1 = cc in omega arith)
      go true ea false eb true ec q = absurd (let z : ◌≡◌ {A = ℕ} 0 1 = cc in omega arith)
      go true ea false eb false ec q = record { both_are = ea; few = ltb-false _ _ eb; late = ltb-false _ _ ec; caps_are = cc }
      go false ea b eb c ec q = absurd (let z : ◌≡◌ {A = ℕ} 0 1 = cc in omega arith)

  module _ (caps : Caps) (o : Told caps) where
    -- by the mesh's own checks
    own : (why : Refusal) → ((m : Map) → Wf mesh m → refused why ≡ edit_answer m e.edit) → Entered mesh j e (Err why) mesh j
    own why says =
        entered_refused why (λ n. absurd (clash o.both_are n)) (λ m past fold start k.
        enter_own m past fold _ e o.few (omega (arith, o.late, kept_last k)) why (says (map_after m past) k.today))

    -- "then 23 if the journal is full"
    pub entry_full : (full : Bool) → full ≡ full_in j → full ≡ true → (checks : Map → List Check) → ((m : Map) → edit_answer m e.edit ≡ answer (checks m) [])
        → (opening : Result Caps Refusal) → Opens mesh checks opening → (r : Result ⊤ Refusal) → r ≡ full_verdict opening → Entered mesh j e r mesh j
    unfolding full_in full_verdict verdict_says given
    entry_full full ef et checks says opening opens r er = subst (λ (v : Result ⊤ Refusal). Entered mesh j e v mesh j) (sym er) (go opening opens)
      where
        go : (x : Result Caps Refusal) → Opens mesh checks x → Entered mesh j e (full_verdict x) mesh j
        go (Err why) p = own why (λ m wf. p.fails why refl m wf ∙ sym (says m))
        go (Ok other) p =
            entered_refused JournalFull (λ n. absurd (clash o.both_are n)) (λ m past fold start k.
            let opens = p.opens other refl in
            let wf = k.today in
            let ok : (edit_answer (map_after m past) e.edit).refusal ≡ 0 =
            ap (λ (a : Answer). a.refusal) (says (map_after m past) ∙ sym (opens.1.says (map_after m past) (wf_caps mesh (map_after m past) wf other opens.0) wf)) in
            enter_full m past fold _ e o.few (omega (arith, o.late, kept_last k)) ok (omega (arith, leb-true (places_of (length j)) (entries_in j) (sym ef ∙ et), kept_entries k)))

    -- refused by the edit itself
    pub entry_own : (mesh' : List ℕ) (why : Refusal) (r : Result ⊤ Refusal) → Edited mesh e.edit r mesh' → r ≡ Err why → Entered mesh j e (Err why) mesh' j
    unfolding verdict_says
    entry_own mesh' why r did er =
        subst (λ (w : List ℕ). Entered mesh j e (Err why) w j) (sym (did.kept why er))
        (own why (λ m wf. ap verdict_says (sym er) ∙ (did.answers m wf).0))

    -- made, and entered
    module _ (full : Bool) (ef : full ≡ full_in j) (et : full ≡ false) where
      entry_room : entries_in j < places_of (length j)
      entry_room = room_left j full ef et

      pub entry_made : (mesh' j' : List ℕ) (r : Result ⊤ Refusal) (words : List ℕ) → Edited mesh e.edit r mesh' → r ≡ (Ok tt) → words_of e ≡ words
          → Appended j caps e.day words j' → Entered mesh j e (Ok tt) mesh' j'
      unfolding verdict_says given
      entry_made mesh' j' r words did er ew added = record {
        refused = λ n. absurd (clash o.both_are n);
        kept = λ why q. absurd (let z : ◌≡◌ {A = ℕ} 0 1 = cc in omega arith);
        within = added.within;
        inside = did.inside;
        answers = λ m past fold start k.
            let q = says m past fold start k in
            (sym q, rw (entered_more m past fold (places_of (length j)) e q) (kept m past fold start k));
      }
        where
          ok : (m : Map) → Wf mesh m → (edit_answer m e.edit).refusal ≡ 0
          ok m wf = ap (λ (a : Answer). a.refusal) (sym (did.answers m wf).0 ∙ ap verdict_says er)

          says : (m : Map) (past : List Dated) (fold : ℕ) (start : List ℕ) → Kept m past fold mesh j start
              → enter_answer m past fold (places_of (length j)) e ≡ given []
          says m past fold start k =
              enter_made m past fold _ e o.few (omega (arith, o.late, kept_last k)) (ok (map_after m past) k.today) (omega (arith, entry_room, kept_entries k))

          kept : (m : Map) (past : List Dated) (fold : ℕ) (start : List ℕ) → Kept m past fold mesh j start → Kept m (past ++ (e ∷ [])) fold mesh' j' start
          kept m past fold start k =
              let late : last_day past ≤ e.day = omega (arith, o.late, kept_last k) in
              let behind : fold ≤ e.day = late_fold k.filed e.day late in
              let caps_same : caps_in mesh ≡ m.caps = wf_head mesh (map_after m past) k.today ∙ after_caps m past in
              record {
                filed = record {
                  order = ascends_end e k.filed.order late;
                  days = rw (last_end e past) o.few;
                  fit = fit_end e k.filed.fit (accepted_fits (map_after m past) e.edit (ok (map_after m past) k.today));
                  year = λ some. rw (last_end e past) (omega (arith, k.filed.year some));
                  starts = rw (before_end e fold past behind) k.filed.starts;
                  journal =
                      rw (since_end e fold past behind, last_end e past, ever_end e past)
                      (rw (o.caps_are ∙ caps_same) at (added.pictured (since fold past) (last_day past) (ever_of past) fold e ew
                      (rw (sym (o.caps_are ∙ caps_same)) at k.filed.journal) (omega (arith, entry_room, kept_entries k))));
                };
                accepted = accepted_end e k.accepted (ok (map_after m past) k.today);
                today = subst (λ (z : Map). Wf mesh' z) (after_end m past e) (did.answers (map_after m past) k.today).1;
              }
