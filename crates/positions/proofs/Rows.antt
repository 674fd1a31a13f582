-- A row of checks behind another, and the rows of the calls with positions.
use mathlib.Core.Path.{◌≡◌, refl, sym, ap, ◌∙◌}
use mathlib.Core.Bool.{Bool, true, false, not}
use mathlib.Core.List.{List, [], ◌∷◌, ◌++◌}
use Prim.Native.Nat.{ℕ, ◌*◌, ◌<◌, ◌≤◌}
use native.Mathlib.Omega.{arith}
use borrow.Author.Tests.{lt-ltb, le-ltb, leb-false}
use lib.Dec.{leb, ltb}
use Rattle.numbers.specs.declared.Caps.{Caps}
use Rattle.store.specs.Slots.{code_in}
use Rattle.std.specs.Prelude.{Result, ⊤, Ok, Err}
use Rattle.store.specs.Open.{opened}
use Rattle.map.specs.Cells.{Map, live}
use Rattle.map.specs.Answers.{Check, Answer, ◌when◌, answer, cell_checks}
use Rattle.map.specs.Says.{given, refused, verdict_says}
use Rattle.map.specs.declared.Refusal.{Refusal}
use Rattle.map.specs.declared.Refusal.TheVariants.{TypeUnknown, PositionsShort}
use Rattle.picture.specs.Picture.{Wf}
use Rattle.checks.specs.Checked.{Checked}
use Rattle.checks.specs.Opening.{Opens}
use Rattle.checks.proofs.Rows.{marks_of_lem, cells_of_lem, code_of}
use Rattle.checks.proofs.Values.{Numbered, refused_more, given_more}
use Rattle.checks.proofs.Passed.{cell_numbered, cell_passed}
use Rattle.checks.proofs.Begins.{opens_refused, opens_open}
use Rattle.positions.specs.Rows.{most_measured, list_check, corner_checks, measure_checks}

-- refused before the second row, or after the first
module _ (w : List ℕ) (checks more : Map → List Check) where
  row_refused : (opening : Result Caps Refusal) → Opens w checks opening → (why : Refusal) → opening ≡ Err why
      → Opens w (λ m. checks m ++ more m) (Err why)
  row_refused opening k why q = record {
    opens = λ caps z. absurd (let y : ◌≡◌ {A = ℕ} 0 1 = cc in omega arith);
    no_mesh = λ other z none. k.no_mesh other (q ∙ z) none;
    fails = λ other z m wf. refused_more (checks m) (more m) other [] (k.fails other (q ∙ z) m wf);
  }

  row_more : (caps : Caps) → ((m : Map) → Numbered (checks m)) → Checked w caps checks (Ok tt) → (r : Result ⊤ Refusal) → Checked w caps more r
      → Checked w caps (λ m. checks m ++ more m) r
  unfolding verdict_says
  row_more caps n k r j = record { says = λ m e wf. j.says m e wf ∙ given_more (checks m) (more m) [] (n m) (k.says m e wf) }

module _ (w : List ℕ) (caps : Caps) (numbers : ℕ) where
  list_short : ltb numbers (3 * caps.marks) ≡ true → Checked w caps (λ m. list_check m numbers) (Err PositionsShort)
  unfolding list_check ◌when◌ answer verdict_says refused
  list_short h = record { says = λ m e wf. rw (marks_of_lem caps m e, h) }

  list_long : ltb numbers (3 * caps.marks) ≡ false → Checked w caps (λ m. list_check m numbers) (Ok tt)
  unfolding list_check ◌when◌ answer verdict_says given
  list_long h = record { says = λ m e wf. rw (marks_of_lem caps m e, h) }

-- the row of the corners
module _ (w : List ℕ) (c numbers : ℕ) where
  pub corners_refused : (opening : Result Caps Refusal) → Opens w (λ m. cell_checks m c) opening → (why : Refusal) → opening ≡ Err why
      → Opens w (λ m. corner_checks m c numbers) (Err why)
  unfolding corner_checks
  corners_refused = row_refused w (λ m. cell_checks m c) (λ m. list_check m numbers)

  pub measure_refused : (opening : Result Caps Refusal) → Opens w (λ m. cell_checks m c) opening → (why : Refusal) → opening ≡ Err why
      → Opens w (λ m. measure_checks m c numbers) (Err why)
  unfolding measure_checks
  measure_refused = row_refused w (λ m. cell_checks m c) (λ m. (6 when ltb most_measured (m.at c).code) ∷ list_check m numbers)

  module _ (caps : Caps) (mesh : Ok caps ≡ opened w) (passed : Checked w caps (λ m. cell_checks m c) (Ok tt)) where
    pub corners_short : ltb numbers (3 * caps.marks) ≡ true → Opens w (λ m. corner_checks m c numbers) (Err PositionsShort)
    unfolding corner_checks
    corners_short h =
        opens_refused w (λ m. cell_checks m c ++ list_check m numbers) caps mesh (Err PositionsShort)
        (row_more w (λ m. cell_checks m c) (λ m. list_check m numbers) caps (λ m. cell_numbered m c) passed (Err PositionsShort) (list_short w caps numbers h)) PositionsShort refl

    pub corners_open : ltb numbers (3 * caps.marks) ≡ false → Opens w (λ m. corner_checks m c numbers) (Ok caps)
    unfolding corner_checks
    corners_open h =
        opens_open w (λ m. cell_checks m c ++ list_check m numbers) caps mesh (Ok tt)
        (row_more w (λ m. cell_checks m c) (λ m. list_check m numbers) caps (λ m. cell_numbered m c) passed (Ok tt) (list_long w caps numbers h)) refl

    -- the row of the measure
    module _ (t : ℕ) (word : t ≡ code_in w caps c) where
      code : (m : Map) → m.caps ≡ caps → Wf w m → (m.at c).code ≡ t
      code m e wf =
          let below : c < caps.cells = omega (arith, (cell_passed w caps (Ok tt) refl m e wf c passed).0, cells_of_lem caps m e) in
          sym (code_of caps m e w wf c below) ∙ sym word

      abbrev kind_row : Map → List Check
      kind_row m = (6 when ltb most_measured (m.at c).code) ∷ list_check m numbers

      kind_passed : t ≤ most_measured → (r : Result ⊤ Refusal) → Checked w caps (λ m. list_check m numbers) r → Checked w caps kind_row r
      unfolding ◌when◌ answer
      kind_passed h r k = record { says = λ m e wf. rw (le-ltb most_measured (m.at c).code (omega (arith, code m e wf))) (k.says m e wf) }

      kind_none : most_measured < t → Checked w caps kind_row (Err TypeUnknown)
      unfolding ◌when◌ answer verdict_says refused
      kind_none h = record { says = λ m e wf. rw (lt-ltb most_measured (m.at c).code (omega (arith, code m e wf))) }

      all_rows : (r : Result ⊤ Refusal) → Checked w caps kind_row r → Checked w caps (λ m. measure_checks m c numbers) r
      unfolding measure_checks
      all_rows = row_more w (λ m. cell_checks m c) kind_row caps (λ m. cell_numbered m c) passed

      pub measure_none : most_measured < t → Opens w (λ m. measure_checks m c numbers) (Err TypeUnknown)
      measure_none h = opens_refused w (λ m. measure_checks m c numbers) caps mesh (Err TypeUnknown) (all_rows (Err TypeUnknown) (kind_none h)) TypeUnknown refl

      pub measure_short : t ≤ most_measured → ltb numbers (3 * caps.marks) ≡ true → Opens w (λ m. measure_checks m c numbers) (Err PositionsShort)
      measure_short few h =
          opens_refused w (λ m. measure_checks m c numbers) caps mesh (Err PositionsShort)
          (all_rows (Err PositionsShort) (kind_passed few (Err PositionsShort) (list_short w caps numbers h))) PositionsShort refl

      pub measure_open : t ≤ most_measured → ltb numbers (3 * caps.marks) ≡ false → Opens w (λ m. measure_checks m c numbers) (Ok caps)
      measure_open few h =
          opens_open w (λ m. measure_checks m c numbers) caps mesh (Ok tt) (all_rows (Ok tt) (kind_passed few (Ok tt) (list_long w caps numbers h))) refl

-- a row that begins with the checks of a cell passes for cells below the capacity alone
cell_first : (w : List ℕ) (c : ℕ) (more : Map → List Check) (caps : Caps) → Checked w caps (λ m. cell_checks m c ++ more m) (Ok tt)
    → (m : Map) → m.caps ≡ caps → Wf w m → c < caps.cells
unfolding cell_checks ◌when◌ answer verdict_says given
cell_first w c more caps k m e wf = go (leb m.caps.cells c) refl (ap (λ (a : Answer). a.refusal) (k.says m e wf))
  where
    go : (b : Bool) → leb m.caps.cells c ≡ b → 0 ≡ (answer ((3 when leb m.caps.cells c) ∷ (5 when not (live m c)) ∷ more m) []).refusal → c < caps.cells
    go true q z = absurd (let y : 0 ≡ 3 = z ∙ rw q in omega arith)
    go false q z = omega (arith, leb-false m.caps.cells c q, cells_of_lem caps m e)

module _ (w : List ℕ) (c numbers : ℕ) (caps : Caps) where
  pub corner_below : Checked w caps (λ m. corner_checks m c numbers) (Ok tt) → (m : Map) → m.caps ≡ caps → Wf w m → c < caps.cells
  unfolding corner_checks
  corner_below = cell_first w c (λ m. list_check m numbers) caps

  pub measure_below : Checked w caps (λ m. measure_checks m c numbers) (Ok tt) → (m : Map) → m.caps ≡ caps → Wf w m → c < caps.cells
  unfolding measure_checks
  measure_below = cell_first w c (λ m. (6 when ltb most_measured (m.at c).code) ∷ list_check m numbers) caps
