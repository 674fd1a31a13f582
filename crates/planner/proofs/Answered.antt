-- What the planner answers, step by step.
use mathlib.Core.Path.{◌≡◌, refl, sym, ap, ◌∙◌, fun_ext}
use mathlib.Core.Bool.{Bool, true, false, cond, not, ◌&&◌, ◌||◌}
use mathlib.Core.List.{List, [], ◌∷◌, ◌++◌}
use Prim.Native.Nat.{ℕ, ◌+◌, ◌*◌, ◌<◌, ◌≤◌}
use native.Mathlib.Omega.{arith}
use borrow.Author.Tests.{lt-ltb, le-ltb, ltb-true, ne_eqb}
use lib.Dec.{eqb, ltb}
use lib.ListN.{length, drop, length-append}
use Rattle.lists.specs.Lists.{any, select}
use Rattle.lists.proofs.Bools.{clash, and_left}
use Rattle.lists.proofs.Select.{select_same}
use Rattle.numbers.specs.Sizes.{past_cells}
use Rattle.numbers.specs.declared.Caps.{Caps}
use Rattle.store.specs.Open.{is_mesh, opened}
use Rattle.store.specs.Slots.{code_in}
use Rattle.std.specs.Prelude.{Result, ⊤, Ok, Err}
use Rattle.map.specs.Cells.{Live, Map, live}
use Rattle.map.specs.Answers.{Answer, ◌when◌, answer, list_answer}
use Rattle.map.specs.Says.{number_of, given, refused, verdict_says}
use Rattle.map.specs.declared.Refusal.{Refusal}
use Rattle.map.specs.declared.Refusal.TheVariants.{NotMesh, OutputShort}
use Rattle.map.proofs.Refusals.{number_some}
use Rattle.picture.specs.Picture.{Wf}
use Rattle.checks.proofs.Opens.{nothing_opened, mesh_opened, wf_mesh, wf_caps}
use Rattle.checks.proofs.Rows.{cells_of_lem, code_of}
use Rattle.listing.specs.Listing.{listed}
use Rattle.listing.proofs.Listed.{first_only}
use Rattle.frames.specs.Forms.{Appended}
use Rattle.frames.proofs.Append.{append_more, append_fits}
use Rattle.cell_set.specs.CellSet.{in_set}
use Rattle.wanted.specs.Wanted.{wanted_of, stands}
use Rattle.wanted.specs.Records.{refused_with, body_at, stands_in}
use Rattle.wanted.proofs.Standing.{stands_in_lem}
use Rattle.planner.specs.Plan.{wanted_as, unwanted, missing, plan_of, plan_words}
use Rattle.planner.specs.Proposed.{planner_checks, planner_answer, proposal_says, Proposed}
use Rattle.planner.specs.InMemory.{removal_words, insertion_words, marked_in, goes_in, Marked, Inserted, Wrote}
use Rattle.planner.proofs.Marking.{marked_in_lem}
use Rattle.planner.proofs.Removing.{words_then, removals_size}

-- the removals written, then the insertions
pub both_written : (w : List ℕ) (caps : Caps) (s wanted : List ℕ) {o o₁ o₂ : List ℕ} {i j : ℕ}
    → Appended (removal_words (select (goes_in w caps s) caps.cells)) o 0 i o₁
    → Inserted w caps wanted o₁ i j o₂ → Wrote w caps s wanted o j o₂
both_written w caps s wanted f g = record {
  words = removal_words (select (goes_in w caps s) caps.cells) ++ g.words;
  appended = append_more (removal_words (select (goes_in w caps s) caps.cells)) g.words f g.appended;
  all = λ ok. ap (λ (l : List ℕ). removal_words (select (goes_in w caps s) caps.cells) ++ l) (g.all ok);
}

or_none : (a b : Bool) → b ≡ false → a || b ≡ a
or_none true b e = refl
or_none false b e = e

module _ (w wanted o : List ℕ) where
  -- no mesh
  pub plan_none : (Err NotMesh) ≡ opened w → Proposed w wanted o (Err NotMesh) o
  plan_none e = record {
    refused = λ n. refl;
    kept = λ why q. refl;
    first = λ n z. let q : ◌≡◌ {A = ℕ} 0 1 = cc in absurd (omega arith);
    answers = λ m wf. absurd (clash (wf_mesh w m wf) (nothing_opened w e));
  }

  module _ (caps : Caps) (e : Ok caps ≡ opened w) (v : Result ⊤ Refusal) (says : verdict_says v ≡ refused_with (wanted_of wanted).refusal) where
    -- 7 or 6
    pub plan_refused : (why : Refusal) → v ≡ Err why → Proposed w wanted o (Err why) o
    unfolding planner_answer planner_checks list_answer ◌when◌ answer proposal_says verdict_says refused listed
    plan_refused why z =
        let number : (wanted_of wanted).refusal ≡ number_of why = sym (ap (λ (a : Answer). a.refusal) (ap verdict_says (sym z) ∙ says)) in
        let some : eqb (number_of why) 0 ≡ false = ne_eqb (number_of why) 0 (λ q. omega (arith, number_some why)) in
        record {
          refused = λ n. absurd (clash (mesh_opened w caps e).0 n);
          kept = λ other q. refl;
          first = λ n z. let q : ◌≡◌ {A = ℕ} 0 1 = cc in absurd (omega arith);
          answers = λ m wf. rw (number, some) (refl, rw some);
        }

    module _ (ok : v ≡ (Ok tt)) where
      good : (wanted_of wanted).refusal ≡ 0
      unfolding verdict_says given
      good = sym (ap (λ (a : Answer). a.refusal) (ap verdict_says (sym ok) ∙ says))

      module _ (zeros s : List ℕ) (none : (k : ℕ) → in_set zeros k ≡ false) (bytes : length zeros ≡ past_cells) (coming : ℕ)
          (marked : Marked w caps wanted zeros coming s) (going : ℕ) (counted : going ≡ length (select (goes_in w caps s) caps.cells))
          (total : ℕ) (sum : total ≡ 2 * going + coming) where
        abbrev cells : List Live
        cells = (wanted_of wanted).cells

        abbrev gone : List ℕ
        gone = select (goes_in w caps s) caps.cells

        abbrev text : List ℕ
        text = removal_words gone ++ insertion_words (stands_in w caps) cells

        size : total ≡ length text
        size = omega (arith, sum, counted, (marked.all good).0, length-append (removal_words gone) (insertion_words (stands_in w caps) cells), removals_size gone)

        module _ (m : Map) (wf : Wf w m) where
          caps_are : m.caps ≡ caps
          caps_are = wf_caps w m wf caps e

          stand_same : stands_in w caps ≡ stands m
          stand_same = fun_ext (λ x. stands_in_lem w caps m caps_are wf x)

          -- a cell of memory that passes has its byte
          below : (x : Live) → stands_in w caps x ≡ true → x.number < length zeros
          unfolding stands_in
          below x h = omega (arith, ltb-true x.number caps.cells (and_left _ _ h), wf.picture.cells, cells_of_lem caps m caps_are, bytes)

          in_same : (k : ℕ) → in_set s k ≡ wanted_as m cells k
          unfolding wanted_as
          in_same k =
              ap (λ (l : List ℕ). in_set l k) (marked.all good).1
              ∙ (marked_in_lem (stands_in w caps) cells zeros below k
              ∙ (or_none (any (λ (x : Live). eqb x.number k && stands_in w caps x) cells) (in_set zeros k) (none k)
              ∙ ap (λ (p : Live → Bool). any (λ (x : Live). eqb x.number k && p x) cells) stand_same))

          goes_same : (k : ℕ) → k < caps.cells → goes_in w caps s k ≡ live m k && not (wanted_as m cells k)
          unfolding goes_in live
          goes_same k h = rw (code_of caps m caps_are w wf k h, in_same k)

          gone_same : gone ≡ unwanted m cells
          unfolding unwanted
          gone_same =
              select_same (goes_in w caps s) (λ c. live m c && not (wanted_as m cells c)) caps.cells goes_same
              ∙ ap (select (λ c. live m c && not (wanted_as m cells c))) (sym (cells_of_lem caps m caps_are))

          text_is : text ≡ plan_words m wanted
          unfolding plan_words plan_of missing
          text_is =
              ap (λ (l : List ℕ). removal_words l ++ insertion_words (stands_in w caps) cells) gone_same
              ∙ (ap (λ (p : Live → Bool). removal_words (unwanted m cells) ++ insertion_words p cells) stand_same ∙ sym (words_then _ _))

        pub plan_short : length o < total → Proposed w wanted o (Err OutputShort) o
        unfolding planner_answer planner_checks list_answer ◌when◌ answer proposal_says refused listed
        plan_short h = record {
          refused = λ n. absurd (clash (mesh_opened w caps e).0 n);
          kept = λ other q. refl;
          first = λ n z. let q : ◌≡◌ {A = ℕ} 0 1 = cc in absurd (omega arith);
          answers = λ m wf.
              let short : ltb (length o) (length (plan_words m wanted)) ≡ true =
              lt-ltb (length o) (length (plan_words m wanted)) (omega (arith, size, ap length (text_is m wf))) in
              rw (good, short) (refl, refl);
        }

        pub plan_done : total ≤ length o → (r : ℕ) (o' : List ℕ) → Wrote w caps s wanted o r o' → Proposed w wanted o (Ok total) o'
        unfolding planner_answer planner_checks list_answer ◌when◌ answer proposal_says given listed
        plan_done h r o' did =
            let is : did.words ≡ text = did.all good in
            let fits : 0 + length did.words ≤ length o = omega (arith, size, ap length is) in
            let place : 0 + length did.words ≡ length text = omega (arith, ap length is) in
            let wrote : o' ≡ text ++ drop (length text) o =
            (append_fits did.words did.appended fits).1
            ∙ (ap (λ (k : ℕ). did.words ++ drop k o) place ∙ ap (λ (l : List ℕ). l ++ drop (length text) o) is) in
            record {
              refused = λ q. absurd (clash (mesh_opened w caps e).0 q);
              kept = λ why z. let q : ◌≡◌ {A = ℕ} 0 1 = cc in absurd (omega arith);
              first = λ k q.
                  let same : total ≡ k = cc in
                  rw (← same) (h, first_only text o o' total (omega (arith, size)) h wrote);
              answers = λ m wf.
                  let long : ltb (length o) (length (plan_words m wanted)) ≡ false =
                  le-ltb (length o) (length (plan_words m wanted)) (omega (arith, size, ap length (text_is m wf))) in
                  let number : total ≡ length (plan_words m wanted) = size ∙ ap length (text_is m wf) in
                  rw (good, long) (ap (λ (k : ℕ). given (k ∷ [])) number, wrote ∙ ap (λ (l : List ℕ). l ++ drop (length l) o) (text_is m wf));
            }
