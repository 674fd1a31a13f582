-- The marks of a cell are a part of its record.
use mathlib.Core.Path.{◌≡◌, refl, sym, ap, ◌∙◌}
use mathlib.Core.Bool.{Bool, true, false, cond}
use mathlib.Core.List.{List, [], ◌∷◌}
use Prim.Native.Nat.{ℕ, ◌+◌, ◌<◌, ◌≤◌}
use native.Mathlib.Omega.{arith}
use borrow.Author.Tests.{ne_eqb, le-leb, leb-true}
use denote.Ref.{Bor}
use lib.Dec.{eqb, leb}
use lib.ListN.{length, take, drop}
use Rattle.lists.proofs.Bools.{clash}
use Rattle.words.specs.Words.{BeginsAt, part_of, Part}
use Rattle.words.proofs.Fits.{part_fits}
use Rattle.shapes.specs.Shapes.{shape}
use Rattle.numbers.specs.declared.Caps.{Caps}
use Rattle.std.specs.Prelude.{Result, ⊤, Ok, Err}
use Rattle.store.specs.Slots.{code_in, marks_at}
use Rattle.store.specs.Open.{opened}
use Rattle.map.specs.Cells.{Map, live, dimension_at}
use Rattle.map.specs.Answers.{Answer, answer, cell_checks, type_answer, marks_part}
use Rattle.map.specs.Says.{number_of, given, refused, verdict_says}
use Rattle.map.specs.declared.Refusal.{Refusal}
use Rattle.picture.specs.Picture.{Wf}
use Rattle.shapes.proofs.Types.{type_marks}
use Rattle.facet.specs.Facet.{MarksAt, marks_in}
use Rattle.facet.proofs.Copy.{marks_words}
use Rattle.checks.specs.Checked.{Checked}
use Rattle.checks.specs.Opening.{Opens}
use Rattle.checks.proofs.Rows.{cells_of_lem, code_of, marks_in_lem}
use Rattle.map.proofs.Refusals.{number_some}
use Rattle.checks.proofs.Values.{refused_values, given_values}
use Rattle.checks.proofs.Passed.{cell_numbered, cell_passed}
use Rattle.checks.proofs.Opens.{mesh_opened, wf_caps}
use Rattle.ask.specs.Asked.{Handed, HandedMarks}

-- a refusal's number is not 0
some_number : (why : Refusal) → eqb (number_of why) 0 ≡ false
some_number why = ne_eqb (number_of why) 0 (λ z. omega (arith, number_some why))

-- a part with a word in it lies in memory
part_there : (w : List ℕ) (at n : ℕ) → 0 < length (part_of w at n) → at + n ≤ length w
unfolding part_of
part_there w at n = go (leb (at + n) (length w)) refl
  where
    go : (b : Bool) → leb (at + n) (length w) ≡ b → 0 < length (cond b (take n (drop at w)) []) → at + n ≤ length w
    go true e some = leb-true (at + n) (length w) e
    go false e some = absurd (omega arith)

-- no part
part_zero : (w : List ℕ) → part_of w 0 0 ≡ []
part_zero w = part_fits w 0 0 (omega arith)

-- refused: nothing is handed back
handed_refused : (w : List ℕ) (c : ℕ) (opening : Result Caps Refusal) → Opens w (λ m. cell_checks m c) opening → (why : Refusal) → opening ≡ Err why
    → (r : List ℕ) → r ≡ part_of w 0 0 → Handed w (λ m. marks_part m c) r
unfolding marks_part type_answer refused
handed_refused w c opening o why q r none = record {
  refused = λ _. none ∙ part_zero w;
  answers = λ m wf.
      let a : refused why ≡ answer (cell_checks m c) ((m.at c).code ∷ []) =
      refused_values (cell_checks m c) why ((m.at c).code ∷ []) (o.fails why q m wf) in
      (none ∙ part_zero w) ∙ rw (← a, some_number why);
}

module _ (w : List ℕ) (caps : Caps) (opens : Ok caps ≡ opened w) (c : ℕ) (verdict : Result ⊤ Refusal) (checked : Checked w caps (λ m. cell_checks m c) verdict) where
  module _ (v : verdict ≡ (Ok tt)) where
    handed_marks : (r : List ℕ) → r ≡ marks_in w caps c → Handed w (λ m. marks_part m c) r
    unfolding marks_part type_answer verdict_says given marks_in
    handed_marks r q = record {
      refused = λ none. absurd (clash (mesh_opened w caps opens).0 none);
      answers = λ m wf.
          let e = wf_caps w m wf caps opens in
          let a : given ((m.at c).code ∷ []) ≡ answer (cell_checks m c) ((m.at c).code ∷ []) =
          given_values (cell_checks m c) ((m.at c).code ∷ []) (cell_numbered m c) (ap verdict_says (sym v) ∙ checked.says m e wf) in
          let below : c < caps.cells = omega (arith, (cell_passed w caps verdict v m e wf c checked).0, cells_of_lem caps m e) in
          (q ∙ marks_in_lem caps m e w wf c below) ∙ rw (← a);
    }

-- where the marks of a live cell begin
marks_begin : (w r : Bor (List ℕ)) (caps : Caps) (m : Map) → m.caps ≡ caps → Wf w.now m → (c : ℕ) → c < caps.cells → live m c ≡ true
    → MarksAt w caps c r → BeginsAt w (marks_at m.caps c (length (m.at c).marks)) r
unfolding dimension_at
marks_begin w r caps m e wf c below alive q = rw (e, ← size) (simp (le-leb _ _ there) at q.part.begins)
  where
    n : ℕ
    n = (shape (code_in w.now caps c)).marks

    size : n ≡ length (m.at c).marks
    size = ap (λ (t : ℕ). (shape t).marks) (code_of caps m e w.now wf c below) ∙ sym (wf.sound.fitting c)

    some : 0 < length (m.at c).marks
    some = rw (wf.sound.fitting c) (type_marks (m.at c).code (wf.sound.typed c alive))

    there : marks_at caps c n + n ≤ length w.now
    there = part_there w.now (marks_at caps c n) n (rw (marks_in_lem caps m e w.now wf c below) some)

-- the same of references: the part that is handed back lies where the marks are stored
module _ (w r : Bor (List ℕ)) (c : ℕ) where
  pub marks_refused : (opening : Result Caps Refusal) → Opens w.now (λ m. cell_checks m c) opening → (why : Refusal) → opening ≡ Err why → Part w 0 0 r
      → HandedMarks w c r
  unfolding type_answer refused
  marks_refused opening o why q none = record {
    marks = handed_refused w.now c opening o why q r.now none.words;
    begins = λ m wf accepted.
        let a : refused why ≡ answer (cell_checks m c) ((m.at c).code ∷ []) =
        refused_values (cell_checks m c) why ((m.at c).code ∷ []) (o.fails why q m wf) in
        absurd (omega (arith, number_some why, ap (λ (k : Answer). k.refusal) a, accepted));
  }

  module _ (caps : Caps) (opens : Ok caps ≡ opened w.now) (verdict : Result ⊤ Refusal) (checked : Checked w.now caps (λ m. cell_checks m c) verdict) where
    pub marks_given : verdict ≡ (Ok tt) → MarksAt w caps c r → HandedMarks w c r
    marks_given v q = record {
      marks = handed_marks w.now caps opens c verdict checked v r.now (marks_words w caps c r q);
      begins = λ m wf accepted.
          let e = wf_caps w.now m wf caps opens in
          let p = cell_passed w.now caps verdict v m e wf c checked in
          marks_begin w r caps m e wf c (omega (arith, p.0, cells_of_lem caps m e)) p.1 q;
    }
