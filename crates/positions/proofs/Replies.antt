-- A call with positions: refused by what opens it, or the values given.
use mathlib.Core.Path.{◌≡◌, refl, ap, ◌∙◌}
use mathlib.Core.List.{List, []}
use Prim.Native.Nat.{ℕ, ◌≤◌}
use native.Mathlib.Omega.{arith}
use borrow.Author.Tests.{ne_eqb}
use lib.ListN.{get_or, length}
use lib.IntN.{ℤ, pos}
use lib.Ieee.{Float, binary64, of_int, div}
use Rattle.lists.proofs.Bools.{clash}
use Rattle.shapes.specs.Shapes.{shape}
use Rattle.shapes.specs.Sizes.{most_marks}
use Rattle.numbers.specs.declared.Caps.{Caps}
use Rattle.std.specs.Prelude.{Result, Ok, Err}
use Rattle.store.specs.Slots.{code_in, corner_in}
use Rattle.store.specs.Open.{opened}
use Rattle.map.specs.Cells.{Map}
use Rattle.map.specs.Answers.{Check}
use Rattle.map.specs.Says.{number_of, given, refused, verdict_says}
use Rattle.map.specs.declared.Refusal.{Refusal}
use Rattle.map.specs.declared.Refusal.TheVariants.{NotMesh}
use Rattle.map.proofs.Refusals.{number_some}
use Rattle.picture.specs.Picture.{Wf}
use Rattle.checks.specs.Checked.{Checked}
use Rattle.checks.specs.Opening.{Opens}
use Rattle.checks.proofs.Rows.{code_of}
use Rattle.checks.proofs.Opens.{mesh_opened, wf_caps}
use Rattle.metres.specs.Whole.{sum_of}
use Rattle.metres.proofs.Sums.{sum_same}
use Rattle.ask.specs.Asked.{Asked}
use Rattle.positions.specs.declared.Measured.{Measured}
use Rattle.positions.specs.Measures.{measure_of, coordinate, mean, centre_of}
use Rattle.positions.specs.Rows.{corner_checks, measure_checks}
use Rattle.positions.specs.Replies.{Reply, reply, measure_says, no_measure, measure_reply, centre_says, no_centre, centre_reply}
use Rattle.positions.proofs.Rows.{corner_below, measure_below}
use Rattle.positions.proofs.Marked.{corner_is, count_is, few_marks}

module _ {A : Type 0} (says : A → Reply) (w : List ℕ) (checks : Map → List Check) (values : Map → Reply) where
  reply_refused : (say : Refusal → A) → ((why : Refusal) → says (say why) ≡ record { answer = refused why; floats = [] }) → (opening : Result Caps Refusal) → Opens w checks opening
      → (why : Refusal) → opening ≡ Err why → Asked says (say NotMesh) w (λ m. reply (checks m) (values m)) (say why)
  unfolding reply refused
  reply_refused say tells opening o why q = record {
    refused = λ none. ap say (o.no_mesh why q none);
    answers = λ m wf. tells why ∙ rw (← o.fails why q m wf, ne_eqb (number_of why) 0 (λ z. omega (arith, number_some why)));
  }

  reply_given : (noMesh : A) (caps : Caps) → Ok caps ≡ opened w → (r : A) → Checked w caps checks (Ok tt)
      → ((m : Map) → m.caps ≡ caps → Wf w m → says r ≡ values m) → Asked says noMesh w (λ m. reply (checks m) (values m)) r
  unfolding reply verdict_says given
  reply_given noMesh caps opens r k q = record {
    refused = λ none. absurd (clash (mesh_opened w caps opens).0 none);
    answers = λ m wf.
        let e = wf_caps w m wf caps opens in
        q m e wf ∙ rw (← k.says m e wf);
  }

module _ (w : List ℕ) (positions : List ℤ) (c : ℕ) where
  pub measured_refused : (opening : Result Caps Refusal) → Opens w (λ m. measure_checks m c (length positions)) opening → (why : Refusal) → opening ≡ Err why
      → Asked measure_says no_measure w (λ m. measure_reply m positions c) (Err why)
  unfolding measure_reply measure_says
  measured_refused =
      reply_refused measure_says w (λ m. measure_checks m c (length positions))
      (λ m. measure_says (measure_of positions (m.at c).code (get_or (m.at c).marks 0 0) (get_or (m.at c).marks 1 0) (get_or (m.at c).marks 2 0) (get_or (m.at c).marks 3 0)))
      Err (λ why. refl)

  pub centred_refused : (opening : Result Caps Refusal) → Opens w (λ m. corner_checks m c (length positions)) opening → (why : Refusal) → opening ≡ Err why
      → Asked centre_says no_centre w (λ m. centre_reply m positions c) (Err why)
  unfolding centre_reply centre_says
  centred_refused =
      reply_refused centre_says w (λ m. corner_checks m c (length positions)) (λ m. centre_says (Ok (centre_of positions (m.at c).marks))) Err (λ why. refl)

  module _ (caps : Caps) (opens : Ok caps ≡ opened w) where
    pub measured_given : Checked w caps (λ m. measure_checks m c (length positions)) (Ok tt) → (t p q r s : ℕ) → t ≡ code_in w caps c
        → p ≡ corner_in w caps c 0 → q ≡ corner_in w caps c 1 → r ≡ corner_in w caps c 2 → s ≡ corner_in w caps c 3
        → (x : Result Measured Refusal) → x ≡ measure_of positions t p q r s → Asked measure_says no_measure w (λ m. measure_reply m positions c) x
    unfolding measure_reply
    measured_given k t p q r s code at_p at-q at-r at-s x told =
        reply_given measure_says w (λ m. measure_checks m c (length positions))
        (λ m. measure_says (measure_of positions (m.at c).code (get_or (m.at c).marks 0 0) (get_or (m.at c).marks 1 0) (get_or (m.at c).marks 2 0) (get_or (m.at c).marks 3 0)))
        no_measure caps opens x k
        (λ m e wf.
        let h = measure_below w c (length positions) caps k m e wf in
        let at = corner_is w caps m e wf c h in
        rw (told, code ∙ code_of caps m e w wf c h, at_p ∙ at 0 (omega arith), at-q ∙ at 1 (omega arith), at-r ∙ at 2 (omega arith), at-s ∙ at 3 (omega arith)))

    module _ (k : Checked w caps (λ m. corner_checks m c (length positions)) (Ok tt)) (n : ℕ) (count : n ≡ (shape (code_in w caps c)).marks) where
      -- a sum divided is the definition's mean
      mean_is : (j : ℕ) (s : Float) → (n ≤ most_marks → s ≡ of_int binary64 (sum_of n (λ i. coordinate positions j (corner_in w caps c i))))
          → (m : Map) → m.caps ≡ caps → Wf w m → div binary64 s (of_int binary64 (pos n)) ≡ mean positions (m.at c).marks j
      unfolding mean
      mean_is j s sum m e wf =
          let h = corner_below w c (length positions) caps k m e wf in
          let few = few_marks (code_in w caps c) n count in
          let same : sum_of n (λ i. coordinate positions j (corner_in w caps c i)) ≡ sum_of n (λ i. coordinate positions j (get_or (m.at c).marks i 0)) =
          sum_same n (λ i. coordinate positions j (corner_in w caps c i)) (λ i. coordinate positions j (get_or (m.at c).marks i 0))
          (λ i l. ap (coordinate positions j) (corner_is w caps m e wf c h i (omega arith))) in
          ap (λ (x : Float). div binary64 x (of_int binary64 (pos n))) (sum few ∙ ap (of_int binary64) same)
          ∙ ap (λ (l : ℕ). div binary64 (of_int binary64 (sum_of l (λ i. coordinate positions j (get_or (m.at c).marks i 0)))) (of_int binary64 (pos l)))
          (count_is w caps m e wf c h n count)

      pub centred_given : (x y z : Float)
          → (n ≤ most_marks → x ≡ of_int binary64 (sum_of n (λ i. coordinate positions 0 (corner_in w caps c i))))
          → (n ≤ most_marks → y ≡ of_int binary64 (sum_of n (λ i. coordinate positions 1 (corner_in w caps c i))))
          → (n ≤ most_marks → z ≡ of_int binary64 (sum_of n (λ i. coordinate positions 2 (corner_in w caps c i))))
          → (p q r : Float) → p ≡ div binary64 x (of_int binary64 (pos n)) → q ≡ div binary64 y (of_int binary64 (pos n)) → r ≡ div binary64 z (of_int binary64 (pos n))
          → Asked centre_says no_centre w (λ m. centre_reply m positions c) (Ok (record { x = p; y = q; z = r }))
      unfolding centre_reply centre_of
      centred_given x y z at_x at_y at-z p q r px qy rz =
          reply_given centre_says w (λ m. corner_checks m c (length positions)) (λ m. centre_says (Ok (centre_of positions (m.at c).marks))) no_centre caps opens
          (Ok (record { x = p; y = q; z = r })) k
          (λ m e wf. rw (px, qy, rz, mean_is 0 x at_x m e wf, mean_is 1 y at_y m e wf, mean_is 2 z at-z m e wf))
