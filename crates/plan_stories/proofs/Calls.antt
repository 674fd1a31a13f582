-- The two calls together: where `build_edition` accepts a wanted list under the capacities and edition of a mesh, in any memory, `plan` gives a plan
-- if it has room for it, and `plan_check` says yes to its words.
use mathlib.Core.Path.{◌≡◌, refl, sym, ap, ◌∙◌}
use mathlib.Core.Bool.{Bool, true, false, cond, not}
use mathlib.Core.List.{List, [], ◌∷◌, ◌++◌}
use Prim.Native.Nat.{ℕ, ◌≤◌, ◌<◌}
use native.Mathlib.Decide.{dec_lt}
use native.Mathlib.Omega.{arith}
use borrow.Author.Tests.{eqb-true, eq-eqb, lt-ltb, le-ltb}
use lib.Dec.{eqb, ltb}
use lib.ListN.{length, take, drop}
use lib.Seq.{take_at}
use Rattle.lists.specs.Lists.{first}
use Rattle.lists.proofs.Bools.{clash}
use Rattle.numbers.specs.Room.{room}
use Rattle.numbers.specs.declared.Caps.{Caps}
use Rattle.map.specs.Cells.{Map}
use Rattle.map.specs.Answers.{Answer, ◌when◌, answer, list_answer}
use Rattle.map.specs.History.{build}
use Rattle.map.specs.Says.{number_of, given, refused, built_says}
use Rattle.std.specs.Prelude.{Result, Ok, Err, ⊤}
use Rattle.map.specs.declared.Refusal.{Refusal}
use Rattle.map.specs.declared.Refusal.TheVariants.{OutputShort}
use Rattle.map.proofs.Refusals.{number_some}
use Rattle.picture.specs.Picture.{Wf}
use Rattle.listing.specs.Listing.{listed}
use Rattle.build.specs.Builds.{placed, format_refusal, build_answer, Builds}
use Rattle.wanted.specs.Wanted.{wanted_of}
use Rattle.wanted.specs.Plans.{plan_right, plan_checks, plan_verdict, plan_answer}
use Rattle.planner.specs.Plan.{plan_words}
use Rattle.planner.specs.Proposed.{planner_checks, planner_answer, proposal_says, Proposed}
use Rattle.plan_check.specs.Checked.{planned_says, PlanChecked}
use Rattle.plan_check.specs.declared.Flaw.TheVariants.{Wrong, Refused}
use Rattle.plan_check.specs.declared.Flaw.{Flaw}
use Rattle.plan_stories.proofs.Passes.{wanted_whole}
use Rattle.plan_stories.proofs.Right.{plan_right_lem}

-- an accepted build builds its records
built_accepted : {b b' records : List ℕ} {caps : Caps} → Builds b caps records (Ok tt) b' → (build caps records).refusal ≡ 0
unfolding built_says given build_answer placed
built_accepted {b} {b'} {records} {caps} builds = go (eqb (format_refusal (length b) caps) 0) refl (ap (λ (a : Answer). a.refusal) builds.says)
  where
    go : (t : Bool) → eqb (format_refusal (length b) caps) 0 ≡ t
        → 0 ≡ (cond t (placed (build caps records).refusal (build caps records).place) (placed (format_refusal (length b) caps) 0)).refusal
        → (build caps records).refusal ≡ 0
    go true e q = sym q
    go false e q = absurd (clash (eq-eqb _ 0 (sym q)) e)

-- an answer that is a count is that of a plan
words_said : (r : Result ℕ Refusal) (n : ℕ) → proposal_says r ≡ given (n ∷ []) → r ≡ Ok n
unfolding proposal_says given refused first
words_said (Ok k) n e = ap Ok (ap (λ (a : Answer). first 0 a.values) e)
words_said (Err why) n e = absurd (let z : number_of why ≡ 0 = ap (λ (a : Answer). a.refusal) e in omega (arith, number_some why))

yes_said : (r : Result ⊤ Flaw) → planned_says r ≡ given [] → r ≡ (Ok tt)
unfolding planned_says given refused
yes_said (Ok tt) e = refl
yes_said (Err (Wrong place)) e = absurd (let z : ◌≡◌ {A = ℕ} 24 0 = ap (λ (a : Answer). a.refusal) e in omega (arith, z))
yes_said (Err (Refused why)) e = absurd (let z : number_of why ≡ 0 = ap (λ (a : Answer). a.refusal) e in omega (arith, number_some why))

module _ {w : List ℕ} {m : Map} (wf : Wf w m) (wanted : List ℕ) {b b' : List ℕ} (builds : Builds b m.caps wanted (Ok tt) b') where
  whole : (wanted_of wanted).refusal ≡ 0
  whole = wanted_whole m wf.sound wanted (built_accepted builds)

  -- the check says yes to the words of the plan
  right_answer : (words : ℕ) → room m.caps.marks m.caps.cells ≤ words → plan_answer m words (plan_words m wanted) wanted ≡ given []
  unfolding plan_answer plan_checks plan_verdict ◌when◌ answer
  right_answer words h = rw (whole, le-ltb words (room m.caps.marks m.caps.cells) h, plan_right_lem m wf.sound wanted (built_accepted builds))

  module _ {o o' : List ℕ} {r : Result ℕ Refusal} (planned : Proposed w wanted o r o') where
    fits_answer : length (plan_words m wanted) ≤ length o → planner_answer m wanted (length o) ≡ given (length (plan_words m wanted) ∷ [])
    unfolding planner_answer planner_checks list_answer ◌when◌ answer given
    fits_answer h = rw (whole, le-ltb (length o) (length (plan_words m wanted)) h)

    short_answer : length o < length (plan_words m wanted) → (planner_answer m wanted (length o)).refusal ≡ 12
    unfolding planner_answer planner_checks list_answer ◌when◌ answer
    short_answer h = rw (planner_answer, whole, lt-ltb (length o) (length (plan_words m wanted)) h)

    -- a plan that fits is given, and stands in the first places of the output
    pub plan_given : length (plan_words m wanted) ≤ length o
        → (r ≡ Ok (length (plan_words m wanted))) × (take (length (plan_words m wanted)) o' ≡ plan_words m wanted)
    unfolding listed given
    plan_given h =
        let q = planned.answers m wf in
        let left : o' ≡ plan_words m wanted ++ drop (length (plan_words m wanted)) o = rw (fits_answer h) at q.1 in (
          words_said r (length (plan_words m wanted)) (q.0 ∙ fits_answer h),
          ap (take (length (plan_words m wanted))) left ∙ take_at (plan_words m wanted) (drop (length (plan_words m wanted)) o) (length (plan_words m wanted)) refl,
        )

    -- a plan that is given fits
    plan_fits : (n : ℕ) → r ≡ Ok n → length (plan_words m wanted) ≤ length o
    unfolding proposal_says given
    plan_fits n e = go (dec_lt (length o) (length (plan_words m wanted)))
      where
        go : Dec (length o < length (plan_words m wanted)) → length (plan_words m wanted) ≤ length o
        go (yes h) =
            absurd (let z : ◌≡◌ {A = ℕ} 0 12 = ap (λ (p : Result ℕ Refusal). (proposal_says p).refusal) (sym e)
            ∙ (ap (λ (a : Answer). a.refusal) (planned.answers m wf).0 ∙ short_answer h) in
            omega (arith, z))
        go (no f) = omega arith

    -- and its words pass the check
    pub plan_passes : (n : ℕ) → r ≡ Ok n → {second second' : List ℕ} {s : Result ⊤ Flaw} → PlanChecked w (take n o') wanted second s second'
        → room m.caps.marks m.caps.cells ≤ length second → s ≡ (Ok tt)
    plan_passes n e {second} {second'} {s} checked fits =
        let given = plan_given (plan_fits n e) in
        let count : n ≡ length (plan_words m wanted) = one n (length (plan_words m wanted)) (sym e ∙ given.0) in
        let words : take n o' ≡ plan_words m wanted = ap (λ (k : ℕ). take k o') count ∙ given.1 in
        yes_said s ((checked.answers m wf).0 ∙ (ap (λ (l : List ℕ). plan_answer m (length second) l wanted) words ∙ right_answer (length second) fits))
      where
        one : (a k : ℕ) → ◌≡◌ {A = Result ℕ Refusal} (Ok a) (Ok k) → a ≡ k
        one a k q = cc
