-- A journal begun: each answer, and what is left.
use mathlib.Core.Path.{◌≡◌, refl, sym, ap, ◌∙◌, subst}
use mathlib.Core.Bool.{Bool, true, false, cond, ◌||◌}
use mathlib.Core.List.{List, []}
use Prim.Native.Nat.{ℕ, ◌+◌, ◌<◌, ◌≤◌}
use native.Mathlib.Omega.{arith}
use borrow.Author.Tests.{lt-ltb, le-ltb}
use lib.ListN.{length, get_or}
use Rattle.lists.proofs.Bools.{clash}
use Rattle.numbers.specs.Room.{room}
use Rattle.numbers.specs.declared.Caps.{Caps}
use Rattle.words.specs.Words.{part_of, Only}
use Rattle.words.proofs.Frame.{only_none, only_wider}
use Rattle.words.proofs.Fits.{part_fits}
use Rattle.store.specs.Open.{room_in, caps_in, is_mesh, opened}
use Rattle.std.specs.Prelude.{Ok, Err}
use Rattle.map.specs.Cells.{Map}
use Rattle.map.specs.Answers.{◌when◌, answer}
use Rattle.map.specs.History.{history}
use Rattle.map.specs.Says.{given, refused, verdict_says}
use Rattle.map.specs.declared.Refusal.{Refusal}
use Rattle.map.specs.declared.Refusal.TheVariants.{NotMesh, MemoryShort}
use Rattle.picture.specs.Picture.{Wf}
use Rattle.checks.proofs.Opens.{nothing_opened, mesh_opened, wf_mesh, wf_caps}
use Rattle.edits.proofs.Cut.{wf_alike}
use Rattle.journal_store.specs.Days as D
use Rattle.journal_store.specs.Days.{before, since, map_after, last_or, last_day, ever_of, begin_answer}
use Rattle.journal_store.specs.Entries.{head_words, used_of, head_of}
use Rattle.journal_store.specs.Writes.{Copied}
use Rattle.journal_store.proofs.Copying.{copied_word}
use Rattle.journal_store.proofs.Pictures.{begun_only, begun_pictured}
use Rattle.journal.specs.Kept.{Filed, Kept}
use Rattle.journal.specs.Calls.{Begun}
use Rattle.journal.proofs.Both.{opened_room}

module _ (mesh j start : List ℕ) where
  pub begin_none : (Err NotMesh) ≡ opened mesh → Begun mesh j start (Err NotMesh) j start
  begin_none e = record {
    refused = λ n. refl;
    kept = λ why q. (refl, refl);
    within = only_none;
    inside = only_none;
    answers = λ m wf. absurd (clash (wf_mesh mesh m wf) (nothing_opened mesh e));
  }

  module _ (caps : Caps) (opens : Ok caps ≡ opened mesh) where
    -- refused with 2
    begin_two : ((m : Map) → m.caps ≡ caps → refused MemoryShort ≡ begin_answer (room m.caps.marks m.caps.cells) (length j) (length start))
        → Begun mesh j start (Err MemoryShort) j start
    unfolding verdict_says
    begin_two says = record {
      refused = λ n. absurd (clash (mesh_opened mesh caps opens).0 n);
      kept = λ why q. (refl, refl);
      within = only_none;
      inside = only_none;
      answers = λ m wf. (says m (wf_caps mesh m wf caps opens), λ q. let z : ◌≡◌ {A = ℕ} 0 1 = cc in absurd (omega arith));
    }

    pub begin_short : length j < head_words → Begun mesh j start (Err MemoryShort) j start
    unfolding begin_answer ◌when◌ answer refused
    begin_short h = begin_two (λ m e. rw (lt-ltb (length j) 16 h))

    module _ (long : head_words ≤ length j) (r : ℕ) (er : r ≡ room caps.marks caps.cells) where
      pub begin_room : length start < r → Begun mesh j start (Err MemoryShort) j start
      unfolding begin_answer ◌when◌ answer refused
      begin_room h =
          begin_two (λ m e.
          rw (le-ltb (length j) 16 long, e, lt-ltb (length start) (room caps.marks caps.cells) (omega arith)))

      module _ (fits : r ≤ length start) (start' j₁ j' none : List ℕ) (used : ℕ) (copy : Copied mesh 0 r start start') (eu : used ≡ used_of (length j))
          (en : none ≡ part_of mesh 0 0) (clear : Copied none 0 used j j₁) (head : Copied (head_of caps 0 0 0 0) 0 head_words j₁ j') where
        empty : none ≡ []
        empty = en ∙ part_fits mesh 0 0 (omega arith)

        cleared : Copied [] 0 used j j₁
        cleared = rw empty at clear

        says : (m : Map) → m.caps ≡ caps → verdict_says (Ok tt) ≡ begin_answer (room m.caps.marks m.caps.cells) (length j) (length start)
        unfolding begin_answer ◌when◌ answer verdict_says given
        says m e =
            rw (le-ltb (length j) 16 long, e, le-ltb (length start) (room caps.marks caps.cells) (omega arith))

        copied : (m : Map) → Wf mesh m → Wf start' m
        copied m wf =
            let e = wf_caps mesh m wf caps opens in
            let same : room m.caps.marks m.caps.cells ≡ r = ap (λ (c : Caps). room c.marks c.cells) e ∙ sym er in
            wf_alike mesh start' m wf (omega (arith, copy.only.size)) (λ i h. copied_word copy i i (omega arith) (omega arith) (omega arith))

        kept : (m : Map) → Wf mesh m → Kept m [] 0 mesh j' start'
        unfolding before since map_after history last_day last_or ever_of
        kept m wf = record {
          filed = record {
            order = D.none;
            days = omega arith;
            fit = D.none;
            year = λ h. absurd (omega arith);
            starts = copied m wf;
            journal = rw (wf_caps mesh m wf caps opens) (begun_pictured j j₁ j' caps used eu cleared head long);
          };
          accepted = D.none;
          today = wf;
        }

        pub begin_made : Begun mesh j start (Ok tt) j' start'
        begin_made = record {
          refused = λ n. absurd (clash (mesh_opened mesh caps opens).0 n);
          kept = λ why q. absurd (let z : ◌≡◌ {A = ℕ} 0 1 = cc in omega arith);
          within = begun_only j j₁ j' caps used eu cleared head;
          inside = only_wider (λ i q. omega (arith, opened_room mesh j caps opens)) copy.only;
          answers = λ m wf. (says m (wf_caps mesh m wf caps opens), λ q. kept m wf);
        }
