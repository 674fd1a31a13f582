-- Edits folded into the starting map: each answer, and what is left.
use mathlib.Core.Path.{◌≡◌, refl, sym, ap, ◌∙◌, subst}
use mathlib.Core.Bool.{Bool, true, false, cond, ◌||◌}
use mathlib.Core.List.{List, [], ◌∷◌, ◌++◌}
use Prim.Native.Nat.{ℕ, zero, suc, ◌+◌, ◌-◌, ◌<◌, ◌≤◌}
use native.Mathlib.Numerals.{add-one}
use native.Mathlib.Omega.{arith}
use borrow.Author.Tests.{lt-ltb, le-ltb, ltb-false, eqb-false, eq-eqb, ne_eqb}
use lib.Dec.{eqb, ltb, leb}
use lib.ListN.{length, take, drop}
use Rattle.lists.proofs.Bools.{clash}
use Rattle.numbers.specs.Room.{room}
use Rattle.numbers.specs.declared.Caps.{Caps}
use Rattle.words.proofs.Frame.{only_none}
use Rattle.store.specs.Open.{room_in, opened}
use Rattle.std.specs.Prelude.{Ok, Err}
use Rattle.map.specs.Cells.{Map}
use Rattle.map.specs.Answers.{◌when◌, answer}
use Rattle.map.specs.Says.{number_of, given, refused, verdict_says}
use Rattle.map.specs.declared.Refusal.{Refusal}
use Rattle.map.specs.declared.Refusal.TheVariants.{NotMesh, FoldNotAllowed}
use Rattle.map.proofs.Refusals.{number_some}
use Rattle.checks.proofs.Opens.{mesh_opened}
use Rattle.mesh.specs.Run.{Run}
use Rattle.edits.proofs.Cut.{mesh_fits}
use Rattle.journal_store.specs.Days.{Dated, kept_days, before, since, map_after, last_day, ever_of, before_fold, not_allowed, fold_answer, fold_after}
use Rattle.journal_store.specs.Entries.{head_words, places_of, head_of}
use Rattle.journal_store.specs.Journals.{entries_in, last_in, ever_in, fold_in, is_journal, edits_in, Counted, Pictured}
use Rattle.journal_store.specs.Writes.{Copied, Moved}
use Rattle.journal_store.proofs.Days.{since_then}
use Rattle.journal_store.proofs.Heads.{journal_fits}
use Rattle.journal_store.proofs.Reading.{head_last, head_ever}
use Rattle.journal_store.proofs.Pictures.{moved_only, moved_pictured}
use Rattle.replay.proofs.Runs.{run_size}
use Rattle.journal.specs.Kept.{Filed, both}
use Rattle.year.specs.Calls.{Folded}
use Rattle.journal.proofs.Both.{none_both, opened_both, opened_room, wf_head, after_caps}
use Rattle.year.proofs.Opened.{filed_both, filed_fold}
use Rattle.year.proofs.Replaying.{filed_entries, filed_counted, filed_replayed, room_only}

-- a fold that is allowed
pub record Allowed (ever fold last day : ℕ) : Type 0 where
  pub some : ever ≡ 0 → ⊥
  pub late : fold ≤ day + 1
  pub year : day + kept_days ≤ last

pub allowed : (ever fold last day : ℕ) → not_allowed ever fold last day ≡ false → Allowed ever fold last day
unfolding not_allowed before_fold
allowed ever fold last day e = go (eqb ever 0) refl (ltb (day + 1) fold) refl (ltb last (day + kept_days)) refl e
  where
    go : (a : Bool) → eqb ever 0 ≡ a → (b : Bool) → ltb (day + 1) fold ≡ b → (c : Bool) → ltb last (day + kept_days) ≡ c → a || (b || c) ≡ false → Allowed ever fold last day
    go true ea b eb c ec q = absurd (clash refl q)
    go false ea true eb c ec q = absurd (clash refl q)
    go false ea false eb true ec q = absurd (clash refl q)
    go false ea false eb false ec q = record { some = eqb-false _ _ ea; late = ltb-false _ _ eb; year = ltb-false _ _ ec }

-- an edit was entered: the word is 1
ever_one : (past : List Dated) → (ever_of past ≡ 0 → ⊥) → ever_of past ≡ 1
unfolding ever_of
ever_one [] f = absurd (f refl)
ever_one (e ∷ es) f = refl

-- the answer
module _ (past : List Dated) (fold day : ℕ) where
  fold_not : not_allowed (ever_of past) fold (last_day past) day ≡ true → fold_answer past fold day ≡ refused FoldNotAllowed
  unfolding fold_answer ◌when◌ answer refused
  fold_not e = rw e

  fold_may : not_allowed (ever_of past) fold (last_day past) day ≡ false → fold_answer past fold day ≡ given []
  unfolding fold_answer ◌when◌ answer given
  fold_may e = rw e

  after_same : (why : Refusal) → fold_answer past fold day ≡ refused why → fold_after past fold day ≡ fold
  unfolding fold_after refused
  after_same why q = rw (q, ne_eqb (number_of why) 0 (λ z. omega (arith, number_some why)))

  after_fold : fold_answer past fold day ≡ given [] → fold_after past fold day ≡ suc day
  unfolding fold_after given
  after_fold q = rw q

-- what the head tells
filed_tests : {m : Map} {past : List Dated} {fold : ℕ} {j start : List ℕ} → Filed m past fold j start → (day : ℕ)
    → not_allowed (ever_in j) (fold_in j) (last_in j) day ≡ not_allowed (ever_of past) fold (last_day past) day
filed_tests {j = j} f day = rw (head_ever j _ _ _ _ _ f.journal, head_last j _ _ _ _ _ f.journal, filed_fold f)

module _ (j start : List ℕ) (day : ℕ) where
  fold_refused : (why : Refusal) → (both start j ≡ false → why ≡ NotMesh)
      → ((m : Map) (past : List Dated) (fold : ℕ) → Filed m past fold j start → fold_answer past fold day ≡ refused why) → Folded j start day (Err why) j start
  unfolding verdict_says
  fold_refused why none says = record {
    refused = λ n. ap Err (none n);
    kept = λ other q. (refl, refl);
    within = only_none;
    inside = only_none;
    answers = λ m past fold f. (sym (says m past fold f), rw (after_same past fold day why (says m past fold f)) f);
  }

  pub fold_none : (Err NotMesh) ≡ opened start → Folded j start day (Err NotMesh) j start
  fold_none e = fold_refused NotMesh (λ n. refl) (λ m past fold f. absurd (clash (filed_both f) (none_both start j e)))

  module _ (caps : Caps) (opens : Ok caps ≡ opened start) where
    pub fold_other : (is : Bool) → is ≡ is_journal j caps → is ≡ false → Folded j start day (Err NotMesh) j start
    fold_other is ei ef =
        fold_refused NotMesh (λ n. refl) (λ m past fold f. absurd (clash (filed_both f) (opened_both start j caps opens ∙ (sym ei ∙ ef))))

    module _ (is : Bool) (ei : is ≡ is_journal j caps) (et : is ≡ true) (no-fold : Bool) (en : no-fold ≡ not_allowed (ever_in j) (fold_in j) (last_in j) day) where
      both_are : both start j ≡ true
      both_are = opened_both start j caps opens ∙ (sym ei ∙ et)

      pub fold_forbidden : no-fold ≡ true → Folded j start day (Err FoldNotAllowed) j start
      fold_forbidden e =
          fold_refused FoldNotAllowed (λ n. absurd (clash both_are n)) (λ m past fold f. fold_not past fold day (sym (filed_tests f day) ∙ (sym en ∙ e)))

      module _ (may : no-fold ≡ false) where
        pub fold_allowed : Allowed (ever_in j) (fold_in j) (last_in j) day
        fold_allowed = allowed _ _ _ _ (sym en ∙ may)

        module _ (r : ℕ) (er : r ≡ room caps.marks caps.cells) (n k last left next : ℕ) (ek : n ≡ entries_in j) (c : Counted j n day k) (el : last ≡ last_in j)
            (e-left : left ≡ n - k) (e-next : next ≡ day + 1) (x j₁ j' : List ℕ) (run : Run (take r start) (edits_in j k) x) (moved : Moved n k j j₁)
            (head : Copied (head_of caps left last 1 next) 0 head_words j₁ j') where
          fits : n ≤ places_of (length j)
          fits = omega (arith, journal_fits j caps (sym ei ∙ et))

          pub fold_long : r ≤ length start
          fold_long = omega (arith, er, opened_room start j caps opens, mesh_fits start (mesh_opened start caps opens).0)

          filed : {m : Map} {past : List Dated} {fold : ℕ} → Filed m past fold j start → Filed m past (suc day) j' (x ++ drop r start)
          filed {m} {past} {fold} f =
              let es : List Dated = since fold past in
              let late : fold ≤ day + 1 = omega (arith, fold_allowed.late, filed_fold f) in
              let caps_same : caps ≡ m.caps = (mesh_opened start caps opens).1 ∙ (wf_head start (map_after m (before fold past)) f.starts ∙ after_caps m (before fold past)) in
              let behind : drop k es ≡ since (suc day) past = sym (filed_counted f n day k ek c).1 ∙ since_then fold (suc day) (omega arith) past in
              let one : ever_of past ≡ 1 = ever_one past (λ z. fold_allowed.some (head_ever j _ _ _ _ _ f.journal ∙ z)) in
              record {
                order = f.order;
                days = f.days;
                fit = f.fit;
                year = λ h. omega (arith, fold_allowed.year, head_last j _ _ _ _ _ f.journal);
                starts = filed_replayed f caps opens r er n day k ek c late x (drop r start) run;
                journal = rw (← behind, one, ← (head_last j _ _ _ _ _ f.journal), ← el, ← caps_same, ← (add-one day), ← e-next)
                    (moved_pictured j j₁ j' caps n k left last 1 next c.few e-left fits moved head es (last_day past) (ever_of past) fold (ek ∙ filed_entries f)
                    (rw caps_same f.journal));
              }

          pub fold_made : Folded j start day (Ok tt) j' (x ++ drop r start)
          unfolding verdict_says
          fold_made = record {
            refused = λ n. absurd (clash both_are n);
            kept = λ why q. absurd (let z : ◌≡◌ {A = ℕ} 0 1 = cc in omega arith);
            within = moved_only j j₁ j' caps n k left last 1 next c.few e-left fits moved head;
            inside = rw (← (er ∙ opened_room start j caps opens)) (room_only start x r fold_long (run_size run));
            answers = λ m past fold f.
                let q = fold_may past fold day (sym (filed_tests f day) ∙ (sym en ∙ may)) in
                (sym q, rw (after_fold past fold day q) (filed f));
          }
