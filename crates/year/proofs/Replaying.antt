-- The map of a day: the edits that were not folded, up to the day, made once more from the starting map.
use mathlib.Core.Path.{◌≡◌, refl, sym, ap, ◌∙◌, subst}
use mathlib.Core.Bool.{Bool, true, false, cond}
use mathlib.Core.List.{List, [], ◌∷◌, ◌++◌, map}
use Prim.Native.Nat.{ℕ, suc, ◌+◌, ◌-◌, ◌<◌, ◌≤◌}
use native.Mathlib.Omega.{arith}
use lib.ListN.{length, take, drop, take-append-drop}
use lib.Seq.{length-take-le}
use Rattle.lists.proofs.Bools.{clash}
use Rattle.numbers.specs.Room.{room}
use Rattle.numbers.specs.declared.Caps.{Caps}
use Rattle.words.specs.Words.{Only}
use Rattle.words.proofs.Frame.{only_none}
use Rattle.store.specs.Open.{room_in, opened}
use Rattle.std.specs.Prelude.{Result, Ok, Err}
use Rattle.map.specs.Cells.{Map}
use Rattle.map.specs.History.{Edit, history}
use Rattle.map.specs.Says.{verdict_says}
use Rattle.map.specs.declared.Refusal.{Refusal}
use Rattle.map.specs.declared.Refusal.TheVariants.{NotMesh}
use Rattle.picture.specs.Picture.{Wf}
use Rattle.checks.proofs.Opens.{mesh_opened, wf_caps}
use Rattle.mesh.specs.Run.{Run}
use Rattle.mesh.proofs.Evening.{run_wf}
use Rattle.edits.proofs.Cut.{room_of, joined_inside, wf_joined, wf_cut, mesh_fits}
use Rattle.journal_store.specs.Days.{Dated, before, since, map_after, map_on, last_day, ever_of}
use Rattle.journal_store.specs.Journals.{entries_in, fold_in, day_in, is_journal, edits_in, Counted, Pictured}
use Rattle.journal_store.proofs.Days.{before_then, ascends_since, fit_since, counted_split, after_then}
use Rattle.journal_store.proofs.Reading.{head_entries, head_fold, day_read, edits_read}
use Rattle.replay.specs.Replayed.{Replayed}
use Rattle.journal.specs.Kept.{Filed, both}
use Rattle.year.specs.Calls.{day_opened, OnDay}
use Rattle.journal.proofs.Both.{after_caps, opened_room, kept_both}
use Rattle.year.proofs.Opened.{filed_fold, filed_room, opening_says, DayOpen, day_other_why, day_opens, day_fits, day_says}

module _ {m : Map} {past : List Dated} {fold : ℕ} {j start : List ℕ} (f : Filed m past fold j start) where
  pub filed_entries : entries_in j ≡ length (since fold past)
  filed_entries = head_entries j _ _ _ _ _ f.journal

  -- the entries up to a day are counted
  pub filed_counted : (n day k : ℕ) → n ≡ entries_in j → Counted j n day k
      → (before (suc day) (since fold past) ≡ take k (since fold past)) × (since (suc day) (since fold past) ≡ drop k (since fold past))
  filed_counted n day k en c =
      counted_split day k (ascends_since fold f.order) (omega (arith, c.few, filed_entries))
      (λ i h. omega (arith, c.early i h, day_read j _ _ _ _ _ f.journal i (omega (arith, c.few, filed_entries))))
      (λ h. omega (arith, c.late (omega (arith, filed_entries)), day_read j _ _ _ _ _ f.journal k h))

  -- "all edits of that day and earlier ones"
  pub filed_edits : (n day k : ℕ) → n ≡ entries_in j → Counted j n day k → fold ≤ day + 1
      → history (map_after m (before fold past)) (edits_in j k) ≡ map_after m (before (suc day) past)
  unfolding map_after
  filed_edits n day k en c late =
      ap (history (map_after m (before fold past))) (edits_read j _ _ _ _ _ f.journal (fit_since fold f.fit) k (omega (arith, c.few, filed_entries)))
      ∙ (ap (map_after (map_after m (before fold past))) (sym (filed_counted n day k en c).0)
      ∙ (sym (after_then m (before fold past) (before (suc day) (since fold past)))
      ∙ ap (map_after m) (before_then fold (suc day) (omega arith) f.order)))

  -- made from the words of the starting map's room
  pub filed_replayed : (caps : Caps) → Ok caps ≡ opened start → (r : ℕ) → r ≡ room caps.marks caps.cells → (n day k : ℕ) → n ≡ entries_in j
      → Counted j n day k → fold ≤ day + 1 → (x rest : List ℕ) → Run (take r start) (edits_in j k) x → Wf (x ++ rest) (map_after m (before (suc day) past))
  filed_replayed caps opens r er n day k en c late x rest run =
      let at : Map = map_after m (before fold past) in
      let same : room_of at ≡ r = ap (λ (z : Caps). room z.marks z.cells) (wf_caps start at f.starts caps opens) ∙ sym er in
      let long : r ≤ length start = omega (arith, f.starts.picture.fits) in
      let cut : Wf (take r start) at = wf_cut (take r start) (drop r start) at (rw (take-append-drop r start) f.starts) (omega (arith, length-take-le r start long)) in
      wf_joined x rest _ (subst (λ (z : Map). Wf x z) (filed_edits n day k en c late) (run_wf run at cut))

-- only the room changes
pub room_only : (w x : List ℕ) (r : ℕ) → r ≤ length w → length x ≡ length (take r w) → Only (λ i. i < r) w (x ++ drop r w)
room_only w x r long size = rw (length-take-le r w long, take-append-drop r w) at (joined_inside (take r w) x (drop r w) size)

-- what opens a day, or does not
module _ (j start second : List ℕ) (day : ℕ) (opening : Result Caps Refusal) (is : opening ≡ day_opened j start day (length second)) where
  pub on_refused : (why : Refusal) → opening ≡ Err why → OnDay j start day second (Err why) second
  unfolding verdict_says opening_says
  on_refused why q = record {
    refused = λ n. ap Err (day_other_why j start day (length second) n why (sym is ∙ q));
    kept = λ other q. refl;
    inside = only_none;
    answers = λ m past fold f.
        (ap opening_says (sym q ∙ is) ∙ day_says f day (length second), λ q. let z : ◌≡◌ {A = ℕ} 0 1 = cc in absurd (omega arith));
  }

  module _ (caps : Caps) (q : opening ≡ Ok caps) (r : ℕ) (er : r ≡ room caps.marks caps.cells) where
    opens : DayOpen j start day (length second) caps
    opens = day_opens j start day (length second) caps (sym is ∙ q)

    on_fits : r ≤ length second
    on_fits = day_fits j start day (length second) opening is caps q r er

    pub on_made : (n k : ℕ) → n ≡ entries_in j → Counted j n day k → (x : List ℕ) → Replayed start j k (take r second) x
        → OnDay j start day second (Ok tt) (x ++ drop r second)
    unfolding verdict_says map_on opening_says
    on_made n k en c x did = record {
      refused = λ n. absurd (clash opens.are n);
      kept = λ why q. absurd (let z : ◌≡◌ {A = ℕ} 0 1 = cc in omega arith);
      inside = rw (← (er ∙ opened_room start j caps opens.mesh)) (room_only second x r on_fits did.size);
      answers = λ m past g f. (
        ap opening_says (sym q ∙ is) ∙ day_says f day (length second),
        λ q. filed_replayed f caps opens.mesh r er n day k en c (omega (arith, opens.late, filed_fold f)) x (drop r second) run,
      );
    }
      where
        size : length (take r second) ≡ r
        size = length-take-le r second on_fits

        long : r ≤ length start
        long = omega (arith, er, opened_room start j caps opens.mesh, mesh_fits start (mesh_opened start caps opens.mesh).0)

        run : Run (take r start) (edits_in j k) x
        run = rw size at (did.runs (omega (arith, size, long)))
