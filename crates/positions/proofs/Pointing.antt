-- The points of a cell: refused by what opens the question, refused for want of room, or written.
use mathlib.Core.Path.{◌≡◌, refl, sym, ap, ◌∙◌}
use mathlib.Core.Bool.{true, false}
use mathlib.Core.List.{List, [], ◌∷◌, ◌++◌}
use Prim.Native.Nat.{ℕ, ◌*◌, ◌<◌, ◌≤◌}
use native.Mathlib.Nat.{le_trans}
use native.Mathlib.Omega.{arith}
use borrow.Author.Tests.{lt-ltb, le-ltb, ne_eqb}
use lib.Dec.{ltb}
use lib.ListN.{length, drop, length-map}
use lib.Seq.{drop-append_seam}
use lib.IntN.{ℤ}
use lib.Ieee.{Float}
use Rattle.lists.specs.Lists.{all, list_of}
use Rattle.lists.proofs.Bools.{clash}
use Rattle.lists.proofs.Fill.{length_list_of}
use Rattle.shapes.specs.Shapes.{shape}
use Rattle.shapes.specs.Sizes.{most_marks}
use Rattle.metres.specs.Whole.{position_of}
use Rattle.metres.specs.Points.{point_of}
use Rattle.metres.specs.declared.Point.{Point}
use Rattle.ask.specs.Refusals.{no_value}
use Rattle.ask.proofs.Asks.{asked_refused, asked_given}
use Rattle.numbers.specs.declared.Caps.{Caps}
use Rattle.std.specs.Prelude.{Result, Ok, Err}
use Rattle.store.specs.Slots.{code_in, corner_in}
use Rattle.store.specs.Open.{opened}
use Rattle.map.specs.Cells.{Map}
use Rattle.map.specs.Answers.{Answer, ◌when◌, answer, cell_checks}
use Rattle.map.specs.Says.{number_of, given, refused, value_says, verdict_says}
use Rattle.map.specs.declared.Refusal.{Refusal}
use Rattle.map.specs.declared.Refusal.TheVariants.{OutputShort}
use Rattle.map.proofs.Refusals.{number_some}
use Rattle.picture.specs.Picture.{Wf}
use Rattle.checks.specs.Checked.{Checked}
use Rattle.checks.specs.Opening.{Opens}
use Rattle.checks.proofs.Values.{Numbered, refused_more, given_more}
use Rattle.checks.proofs.Opens.{mesh_opened, wf_caps}
use Rattle.positions.specs.Measures.{coordinates, points_of, origins}
use Rattle.positions.specs.Rows.{list_check, corner_checks}
use Rattle.positions.specs.Pointed.{Wrote, points_answer, pointed, Pointed, corners_answer, Cornered}
use Rattle.positions.proofs.Rows.{corner_below}
use Rattle.positions.proofs.Marked.{count_is, corners_are, few_marks}
use Rattle.positions.proofs.Written.{three_each, origins_full}

corner_numbered : (m : Map) (c numbers : ℕ) → Numbered (corner_checks m c numbers)
unfolding corner_checks list_check cell_checks ◌when◌ all
corner_numbered m c numbers = refl

-- a refusal gives no count, and a count is no refusal
not_given : (n : ℕ) (why : Refusal) → Err why ≡ Ok n → ⊥
not_given n why e = let z : ◌≡◌ {A = ℕ} 0 1 = cc in omega arith

count_one : (n k : ℕ) → ◌≡◌ {A = Result ℕ Refusal} (Ok n) (Ok k) → n ≡ k
count_one n k e = cc

module _ (w : List ℕ) (positions : List ℤ) (c : ℕ) (o : List Float) where
  -- a refused answer leaves the output
  still : (a : Answer) (why : Refusal) (l : List Float) → refused why ≡ a → o ≡ pointed a l o
  unfolding pointed refused
  still a why l e = rw (← e, ne_eqb (number_of why) 0 (λ z. omega (arith, number_some why)))

  pub pointed_refused : (opening : Result Caps Refusal) → Opens w (λ m. corner_checks m c (length positions)) opening → (why : Refusal) → opening ≡ Err why
      → Pointed w positions c o (Err why) o
  unfolding points_answer value_says
  pointed_refused opening k why q = record {
    refused = λ none. ap Err (k.no_mesh why q none);
    kept = λ other z. refl;
    first = λ n z. absurd (not_given n why z);
    answers = λ m wf.
        let a = refused_more (corner_checks m c (length positions)) ((12 when ltb (length o) (3 * length (m.at c).marks)) ∷ []) why (length (m.at c).marks ∷ []) (k.fails why q m wf) in
        (a, still (answer (corner_checks m c (length positions) ++ ((12 when ltb (length o) (3 * length (m.at c).marks)) ∷ [])) (length (m.at c).marks ∷ [])) why (coordinates positions (m.at c).marks) a);
  }

  module _ (caps : Caps) (opens : Ok caps ≡ opened w) (k : Checked w caps (λ m. corner_checks m c (length positions)) (Ok tt)) (n : ℕ)
      (count : n ≡ (shape (code_in w caps c)).marks) where
    -- the room decides
    behind : (m : Map) → Wf w m
        → answer ((12 when ltb (length o) (3 * length (m.at c).marks)) ∷ []) (length (m.at c).marks ∷ []) ≡ points_answer m positions c (length o)
    unfolding points_answer verdict_says
    behind m wf =
        given_more (corner_checks m c (length positions)) ((12 when ltb (length o) (3 * length (m.at c).marks)) ∷ []) (length (m.at c).marks ∷ [])
        (corner_numbered m c (length positions)) (k.says m (wf_caps w m wf caps opens) wf)

    counted : (m : Map) → Wf w m → n ≡ length (m.at c).marks
    counted m wf =
        let e = wf_caps w m wf caps opens in
        count_is w caps m e wf c (corner_below w c (length positions) caps k m e wf) n count

    pub pointed_short : length o < 3 * n → Pointed w positions c o (Err OutputShort) o
    unfolding ◌when◌ answer value_says refused pointed
    pointed_short h = record {
      refused = λ none. absurd (clash (mesh_opened w caps opens).0 none);
      kept = λ why q. refl;
      first = λ n q. absurd (not_given n OutputShort q);
      answers = λ m wf.
          let short : ltb (length o) (3 * length (m.at c).marks) ≡ true = lt-ltb (length o) (3 * length (m.at c).marks) (omega (arith, counted m wf)) in
          rw (← behind m wf, short) (refl, refl);
    }

    pub pointed_written : 3 * n ≤ length o → (o' : List Float) → Wrote (coordinates positions (list_of n (corner_in w caps c))) o o' → Pointed w positions c o (Ok n) o'
    unfolding ◌when◌ answer value_says given pointed
    pointed_written h o' f = record {
      refused = λ none. absurd (clash (mesh_opened w caps opens).0 none);
      kept = λ why q. absurd (not_given n why (sym q));
      first = λ j q. rw (← count_one n j q) (h, f.size, behind_them);
      answers = λ m wf.
          let e = wf_caps w m wf caps opens in
          let marks = corners_are w caps m e wf c (corner_below w c (length positions) caps k m e wf) n count in
          let fits : ltb (length o) (3 * length (m.at c).marks) ≡ false = le-ltb (length o) (3 * length (m.at c).marks) (omega (arith, counted m wf)) in
          rw (← behind m wf, fits) (ap (λ (j : ℕ). record { refusal = 0; values = j ∷ [] }) (counted m wf), rw (← marks) written);
    }
      where
        l : List Float
        l = coordinates positions (list_of n (corner_in w caps c))

        size : length l ≡ 3 * n
        size = three_each positions (list_of n (corner_in w caps c)) ∙ omega (arith, length_list_of n (corner_in w caps c))

        written : o' ≡ l ++ drop (length l) o
        written = f.wrote (omega (arith, size, h))

        behind_them : drop (3 * n) o' ≡ drop (3 * n) o
        behind_them = rw (← size, written) (drop-append_seam l (drop (length l) o))

-- the corners by value
module _ (w : List ℕ) (positions : List ℤ) (c : ℕ) where
  pub cornered_refused : (opening : Result Caps Refusal) → Opens w (λ m. corner_checks m c (length positions)) opening → (why : Refusal) → opening ≡ Err why
      → (at : List Point) → at ≡ origins → Cornered w positions c (record { count = Err why; at = at })
  unfolding corners_answer value_says
  cornered_refused opening k why q at e = record {
    count = asked_refused value_says w (λ m. corner_checks m c (length positions)) (λ m. length (m.at c).marks ∷ []) Err (λ why. refl) opening k why q;
    few = λ n z. absurd (not_given n why z);
    none = λ other z. e;
    points = λ m wf n z. absurd (not_given n why z);
  }

  module _ (caps : Caps) (opens : Ok caps ≡ opened w) (k : Checked w caps (λ m. corner_checks m c (length positions)) (Ok tt)) (n : ℕ)
      (count : n ≡ (shape (code_in w caps c)).marks) where
    pub cornered_given : (at : List Point) → Wrote (points_of positions (list_of n (corner_in w caps c))) origins at
        → Cornered w positions c (record { count = Ok n; at = at })
    unfolding corners_answer value_says points_of
    cornered_given at f = record {
      count =
          asked_given value_says w (λ m. corner_checks m c (length positions)) (λ m. length (m.at c).marks ∷ []) no_value caps opens (Ok n) (Ok tt) k refl
          (λ m. corner_numbered m c (length positions)) (λ m e wf. ap (λ (j : ℕ). given (j ∷ [])) (counted m e wf));
      few = λ j z. rw (← count_one n j z) (few_marks (code_in w caps c) n count);
      none = λ why z. absurd (not_given n why (sym z));
      points = λ m wf j z.
          let e = wf_caps w m wf caps opens in
          let size : length (points_of positions (list_of n (corner_in w caps c))) ≡ length (m.at c).marks =
          length-map (list_of n (corner_in w caps c)) (λ (v : ℕ). point_of (position_of positions v)) ∙ (length_list_of n (corner_in w caps c) ∙ counted m e wf) in
          let eight : n ≤ most_marks = few_marks (code_in w caps c) n count in
          let wrote = f.wrote (rw (length-map (list_of n (corner_in w caps c)) (λ (v : ℕ). point_of (position_of positions v)), length_list_of n (corner_in w caps c)) (le_trans eight origins_full)) in
          let marks = corners_are w caps m e wf c (corner_below w c (length positions) caps k m e wf) n count in
          wrote ∙ (λ i. points_of positions (marks i) ++ drop (size i) origins);
    }
      where
        counted : (m : Map) → m.caps ≡ caps → Wf w m → n ≡ length (m.at c).marks
        counted m e wf = count_is w caps m e wf c (corner_below w c (length positions) caps k m e wf) n count
