-- What writing a surface answers, step by step.
use mathlib.Core.Path.{◌≡◌, refl, sym, ap, ◌∙◌}
use mathlib.Core.Bool.{true, false}
use mathlib.Core.List.{List, [], ◌∷◌, ◌++◌, append_assoc}
use Rattle.std.specs.Prelude.{Option, Some, None, Ok, Err}
use Prim.Native.Nat.{ℕ, ◌+◌, ◌*◌, ◌<◌, ◌≤◌}
use native.Mathlib.Omega.{arith}
use borrow.Author.Tests.{lt-ltb, le-ltb}
use lib.Dec.{ltb}
use lib.ListN.{length, drop, length-append}
use lib.Seq.{drop_at}
use lib.IntN.{ℤ}
use Rattle.lists.proofs.Bools.{clash}
use Rattle.numbers.specs.declared.Caps.{Caps}
use Rattle.store.specs.Open.{opened}
use Rattle.map.specs.Cells.{Map}
use Rattle.map.specs.Answers.{◌when◌, answer, list_answer}
use Rattle.map.specs.Says.{given, refused}
use Rattle.map.specs.declared.Refusal.TheVariants.{NotMesh, PositionsShort, OutputShort}
use Rattle.picture.specs.Picture.{Wf}
use Rattle.checks.proofs.Opens.{nothing_opened, mesh_opened, wf_mesh, wf_caps}
use Rattle.frames.specs.Forms.{Appended}
use Rattle.frames.proofs.Append.{append_fits, append_length}
use Rattle.off.specs.Numbers.{title}
use Rattle.off.specs.Writing.{line, counts_line, vertex_lines, face_lines, text_of}
use Rattle.off_lines.proofs.Lengths.{vertices_few, head_few}
use Rattle.surfaces_out.specs.WritesOff.{other_cell, faces_of, off_text, write_checks, write_answer, written_says, text_left, WritesOff}
use Rattle.surfaces_out.specs.InMemory.{faces_in, Surveyed}
use Rattle.surfaces_out.specs.declared.Survey.{Survey}
use Rattle.surfaces_out.specs.declared.NotWritten.TheVariants as NotWritten'
use Rattle.surfaces_out.proofs.Listed.{faces_are, others_none, others_some, lines_most}

-- the whole text, in the order in which it is written
text_parts : (marks n : ℕ) (positions : List ℤ) (faces : List (List ℕ)) → n ≡ length faces
    → (line title [] ++ counts_line marks n) ++ (vertex_lines marks positions ++ face_lines faces) ≡ text_of marks positions faces
unfolding text_of
text_parts marks n positions faces e =
    ap (λ (k : ℕ). (line title [] ++ counts_line marks k) ++ (vertex_lines marks positions ++ face_lines faces)) e
    ∙ append_assoc (line title []) (counts_line marks (length faces)) (vertex_lines marks positions ++ face_lines faces)

text_long : (marks n : ℕ) (positions : List ℤ) (faces : List (List ℕ)) (a b c : ℕ) → a ≡ length (line title [] ++ counts_line marks n)
    → b ≡ length (vertex_lines marks positions) → c ≡ length (face_lines faces)
    → a + b + c ≡ length ((line title [] ++ counts_line marks n) ++ (vertex_lines marks positions ++ face_lines faces))
text_long marks n positions faces a b c ea eb ec =
    omega (arith, length-append (line title [] ++ counts_line marks n) (vertex_lines marks positions ++ face_lines faces), length-append (vertex_lines marks positions) (face_lines faces))

-- the lengths are small
pub total_few : (marks n cells : ℕ) (positions : List ℤ) (w : List ℕ) (caps : Caps) (a b c : ℕ) → a ≡ length (line title [] ++ counts_line marks n)
    → b ≡ length (vertex_lines marks positions) → c ≡ length (face_lines (faces_in w caps cells)) → (a ≤ 20) × (b ≤ 24 * marks) × (c ≤ 64 * cells)
total_few marks n cells positions w caps a b c ea eb ec =
    (omega (arith, head_few marks n), omega (arith, vertices_few positions marks), omega (arith, lines_most w caps cells))

module _ (w : List ℕ) (positions : List ℤ) (o : List ℕ) where
  -- no mesh
  pub write_none : (Err NotMesh) ≡ opened w → WritesOff w positions o (Err (NotWritten'.Refused NotMesh)) o
  write_none e = record {
    refused = λ n. refl;
    kept = λ f. refl;
    first = λ n z. cc;
    answers = λ m wf. absurd (clash (wf_mesh w m wf) (nothing_opened w e));
  }

  module _ (caps : Caps) (e : Ok caps ≡ opened w) where
    marks_are : (m : Map) → Wf w m → m.caps.marks ≡ caps.marks
    marks_are m wf = ap (λ (c : Caps). c.marks) (wf_caps w m wf caps e)

    pub write_positions : length positions < 3 * caps.marks → WritesOff w positions o (Err (NotWritten'.Refused PositionsShort)) o
    unfolding write_answer list_answer write_checks ◌when◌ answer written_says refused text_left
    write_positions h = record {
      refused = λ n. absurd (clash (mesh_opened w caps e).0 n);
      kept = λ f. refl;
      first = λ n z. cc;
      answers = λ m wf.
          let t : ltb (length positions) (3 * m.caps.marks) ≡ true = lt-ltb (length positions) (3 * m.caps.marks) (omega (arith, marks_are m wf)) in
          rw t (refl, refl);
    }

    module _ (enough : 3 * caps.marks ≤ length positions) (s : Option Survey) (surveyed : Surveyed w caps s) where
      has_positions : (m : Map) → Wf w m → ltb (length positions) (3 * m.caps.marks) ≡ false
      has_positions m wf = le-ltb (length positions) (3 * m.caps.marks) (omega (arith, marks_are m wf))

      pub write_other : s ≡ None → WritesOff w positions o (Err NotWritten'.NotSurface) o
      unfolding write_answer list_answer write_checks ◌when◌ answer written_says text_left
      write_other z = record {
        refused = λ n. absurd (clash (mesh_opened w caps e).0 n);
        kept = λ f. refl;
        first = λ n z. cc;
        answers = λ m wf.
            let found = surveyed.other z in
            rw (has_positions m wf, others_some w caps m (wf_caps w m wf caps e) wf found.0 found.1 found.2) (refl, refl);
      }

      module _ (found : Survey) (z : s ≡ Some found) (a b total : ℕ) (ea : a ≡ length (line title [] ++ counts_line caps.marks found.faces))
          (eb : b ≡ length (vertex_lines caps.marks positions)) (et : total ≡ a + b + found.bytes) where
        abbrev faces : List (List ℕ)
        faces = faces_in w caps caps.cells

        abbrev text : List ℕ
        text = (line title [] ++ counts_line caps.marks found.faces) ++ (vertex_lines caps.marks positions ++ face_lines faces)

        size : total ≡ length text
        size = et ∙ text_long caps.marks found.faces positions faces a b found.bytes ea eb (surveyed.is found z).2

        text_is : (m : Map) → Wf w m → text ≡ off_text m positions
        unfolding off_text
        text_is m wf =
            text_parts caps.marks found.faces positions faces (surveyed.is found z).1
            ∙ (ap (λ (l : List (List ℕ)). text_of caps.marks positions l) (faces_are w caps m (wf_caps w m wf caps e) wf)
            ∙ ap (λ (k : ℕ). text_of k positions (faces_of m)) (sym (marks_are m wf)))

        no_others : (m : Map) → Wf w m → other_cell m ≡ false
        no_others m wf = others_none w caps m (wf_caps w m wf caps e) wf (surveyed.is found z).0

        pub write_short : length o < total → WritesOff w positions o (Err (NotWritten'.Refused OutputShort)) o
        unfolding write_answer list_answer write_checks ◌when◌ answer written_says refused text_left
        write_short h = record {
          refused = λ n. absurd (clash (mesh_opened w caps e).0 n);
          kept = λ f. refl;
          first = λ n z. cc;
          answers = λ m wf.
              let short : ltb (length o) (length (off_text m positions)) ≡ true = lt-ltb (length o) (length (off_text m positions)) (omega (arith, size, ap length (text_is m wf))) in
              rw (has_positions m wf, no_others m wf, short) (refl, refl);
        }

        pub write_done : total ≤ length o → (r : ℕ) (o' : List ℕ) → Appended text o 0 r o' → WritesOff w positions o (Ok total) o'
        unfolding write_answer list_answer write_checks ◌when◌ answer written_says given text_left
        write_done h r o' f =
            let fits : 0 + length text ≤ length o = omega (arith, size) in
            let place : 0 + length text ≡ total = omega (arith, size) in
            let wrote : o' ≡ text ++ drop total o = (append_fits text f fits).1 ∙ ap (λ (k : ℕ). text ++ drop k o) place in
            record {
              refused = λ q. absurd (clash (mesh_opened w caps e).0 q);
              kept = λ g. absurd (g total refl);
              first = λ k q.
                  let same : total ≡ k = cc in
                  rw (← same) (h, append_length text f, ap (drop total) wrote ∙ drop_at text (drop total o) total (sym size));
              answers = λ m wf.
                  let long : ltb (length o) (length (off_text m positions)) ≡ false = le-ltb (length o) (length (off_text m positions)) (omega (arith, size, ap length (text_is m wf))) in
                  let number : total ≡ length (off_text m positions) = size ∙ ap length (text_is m wf) in
                  rw (has_positions m wf, no_others m wf, long)
                  (ap (λ (k : ℕ). given (k ∷ [])) number, wrote ∙ (ap (λ (l : List ℕ). l ++ drop total o) (text_is m wf) ∙ ap (λ (k : ℕ). off_text m positions ++ drop k o) number));
            }
