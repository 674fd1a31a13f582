-- What the check of a plan answers and leaves, refusal by refusal.
use mathlib.Core.Path.{◌≡◌, refl, sym, ap, ◌∙◌, subst}
use mathlib.Core.Bool.{Bool, true, false, cond, not}
use mathlib.Core.List.{List, [], ◌∷◌, ◌++◌}
use Prim.Native.Nat.{ℕ, ◌<◌, ◌≤◌}
use native.Mathlib.Omega.{arith}
use borrow.Author.Tests.{lt-ltb, le-ltb, eq-eqb, ne_eqb}
use lib.Dec.{eqb, ltb}
use lib.ListN.{length, take, drop, take-append-drop}
use lib.Seq.{length-take-le}
use Rattle.lists.proofs.Bools.{clash}
use Rattle.numbers.specs.Room.{room}
use Rattle.numbers.specs.declared.Caps.{Caps}
use Rattle.words.specs.Words.{Only}
use Rattle.words.proofs.Frame.{only_none}
use Rattle.store.specs.Open.{room_in, caps_in, is_mesh, opened}
use Rattle.std.specs.Prelude.{Result, ⊤, Ok, Err}
use Rattle.map.specs.Cells.{Map}
use Rattle.map.specs.Answers.{Answer, ◌when◌, answer}
use Rattle.map.specs.Morning.{morning}
use Rattle.map.specs.Says.{number_of, given, refused, verdict_says}
use Rattle.map.specs.declared.Refusal.{Refusal}
use Rattle.map.specs.declared.Refusal.TheVariants.{NotMesh, MemoryShort}
use Rattle.map.proofs.Refusals.{number_some}
use Rattle.picture.specs.Picture.{Wf}
use Rattle.checks.proofs.Opens.{nothing_opened, mesh_opened, wf_mesh, wf_caps}
use Rattle.edits.proofs.Cut.{joined_inside, wf_joined}
use Rattle.wanted.specs.Wanted.{wanted_of}
use Rattle.wanted.specs.Records.{refused_with}
use Rattle.wanted.specs.Plans.{plan_checks, plan_verdict, plan_answer}
use Rattle.plan_check.specs.Checked.{planned_says, PlanChecked}
use Rattle.plan_check.specs.Steps.{Tried}
use Rattle.plan_check.specs.declared.Flaw.TheVariants.{Refused}
use Rattle.plan_check.specs.declared.Flaw.{Flaw}

-- the checks before 24, by what fails
module _ (m : Map) (words : ℕ) (edits wanted : List ℕ) where
  pub plan_short : words < room m.caps.marks m.caps.cells → answer (plan_checks m words wanted) [] ≡ refused_with 2
  unfolding plan_checks ◌when◌ answer
  plan_short h = rw (lt-ltb words (room m.caps.marks m.caps.cells) h)

  module _ (fits : room m.caps.marks m.caps.cells ≤ words) where
    pub plan_list : (n : ℕ) → (wanted_of wanted).refusal ≡ n → (n ≡ 0 → ⊥) → answer (plan_checks m words wanted) [] ≡ refused_with n
    unfolding plan_checks ◌when◌ answer
    plan_list n e f = rw (le-ltb words (room m.caps.marks m.caps.cells) fits, e, ne_eqb n 0 f)

    pub plan_passes : (wanted_of wanted).refusal ≡ 0 → answer (plan_checks m words wanted) [] ≡ refused_with 0
    unfolding plan_checks ◌when◌ answer
    plan_passes e = rw (le-ltb words (room m.caps.marks m.caps.cells) fits, e)

  pub plan_refused : (n : ℕ) → (n ≡ 0 → ⊥) → answer (plan_checks m words wanted) [] ≡ refused_with n → plan_answer m words edits wanted ≡ refused_with n
  unfolding plan_answer
  plan_refused n f e = rw (e, ne_eqb n 0 f)

  pub plan_tried : answer (plan_checks m words wanted) [] ≡ refused_with 0 → plan_answer m words edits wanted ≡ plan_verdict m edits wanted
  unfolding plan_answer
  plan_tried e = rw e

module _ (mesh edits wanted second : List ℕ) where
  pub check_none : (Err NotMesh) ≡ opened mesh → PlanChecked mesh edits wanted second (Err (Refused NotMesh)) second
  check_none e = record {
    refused = λ n. refl;
    kept = λ why q. refl;
    inside = only_none;
    answers = λ m wf. absurd (clash (wf_mesh mesh m wf) (nothing_opened mesh e));
  }

  module _ (caps : Caps) (opens : Ok caps ≡ opened mesh) (k : ℕ) (ek : k ≡ room caps.marks caps.cells) where
    rooms : (m : Map) → Wf mesh m → room m.caps.marks m.caps.cells ≡ k
    rooms m wf = ap (λ (c : Caps). room c.marks c.cells) (wf_caps mesh m wf caps opens) ∙ sym ek

    -- refused with a number before 24
    check_refused : (why : Refusal) → ((m : Map) → Wf mesh m → answer (plan_checks m (length second) wanted) [] ≡ refused_with (number_of why))
        → PlanChecked mesh edits wanted second (Err (Refused why)) second
    unfolding planned_says refused
    check_refused why says = record {
      refused = λ n. absurd (clash (mesh_opened mesh caps opens).0 n);
      kept = λ other q. refl;
      inside = only_none;
      answers = λ m wf. (
        sym (plan_refused m (length second) edits wanted (number_of why) some (says m wf)),
        λ z. absurd (some (sym (ap (λ (a : Answer). a.refusal) (says m wf)) ∙ z)),
      );
    }
      where
        some : number_of why ≡ 0 → ⊥
        some z = omega (arith, number_some why)

    pub check_short : length second < k → PlanChecked mesh edits wanted second (Err (Refused MemoryShort)) second
    check_short h = check_refused MemoryShort (λ m wf. plan_short m (length second) edits wanted (omega (arith, rooms m wf)))

    module _ (fits : k ≤ length second) (v : Result ⊤ Refusal) (says : verdict_says v ≡ refused_with (wanted_of wanted).refusal) where
      pub check_list : (why : Refusal) → v ≡ Err why → PlanChecked mesh edits wanted second (Err (Refused why)) second
      unfolding verdict_says refused
      check_list why e =
          check_refused why (λ m wf.
          plan_list m (length second) edits wanted (omega (arith, rooms m wf)) (number_of why)
          (sym (ap (λ (a : Answer). a.refusal) (ap verdict_says (sym e) ∙ says))) (λ z. omega (arith, number_some why)))

      pub check_tried : v ≡ (Ok tt) → (r : Result ⊤ Flaw) (x : List ℕ) → Tried (take k second) caps mesh edits wanted r x
          → PlanChecked mesh edits wanted second r (x ++ drop k second)
      unfolding verdict_says given caps_in
      check_tried e r x did = record {
        refused = λ n. absurd (clash (mesh_opened mesh caps opens).0 n);
        kept = λ why q. absurd (did.decided why q);
        inside = rw (← room_in_lem) inside;
        answers = λ m wf.
            let passes = plan_passes m (length second) edits wanted (omega (arith, rooms m wf)) ok in
            let done = did.answers ok m (wf_caps mesh m wf caps opens) wf (size ∙ sym (rooms m wf)) in
            (done.0 ∙ sym (plan_tried m (length second) edits wanted passes), λ z. wf_joined x (drop k second) _ done.1);
      }
        where
          ok : (wanted_of wanted).refusal ≡ 0
          ok = sym (ap (λ (a : Answer). a.refusal) (ap verdict_says (sym e) ∙ says))

          size : length (take k second) ≡ k
          size = length-take-le k second fits

          room_in_lem : k ≡ room_in mesh
          room_in_lem = ek ∙ ap (λ (c : Caps). room c.marks c.cells) (mesh_opened mesh caps opens).1

          inside : Only (λ i. i < k) second (x ++ drop k second)
          inside = rw (size, take-append-drop k second) at (joined_inside (take k second) x (drop k second) did.size)
