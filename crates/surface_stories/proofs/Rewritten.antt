-- Three calls: a surface written, read, and written again. The texts are the same.
use mathlib.Core.Path.{◌≡◌, refl, sym, ap, ◌∙◌}
use mathlib.Core.List.{List}
use Prim.Native.Nat.{ℕ, zero, suc, ◌+◌, ◌*◌, ◌<◌, ◌≤◌}
use native.Mathlib.Omega.{arith}
use lib.ListN.{length, get_or, take, drop, length-take}
use lib.Seq.{get_or-take, take_at}
use lib.IntN.{ℤ, pos}
use Rattle.std.specs.Prelude.{Result, Ok}
use Rattle.map.specs.Cells.{Map}
use Rattle.picture.specs.Picture.{Wf}
use Rattle.off.specs.Writing.{vertex_line, vertex_lines, text_of}
use Rattle.surfaces.specs.declared.NotRead.{NotRead}
use Rattle.surfaces_out.specs.WritesOff.{faces_of, off_text, WritesOff}
use Rattle.surface_stories.specs.Renumbered.{renumbered, ReadRenumbered}
use Rattle.surface_stories.proofs.Numbered.{marks_same}
use Rattle.surface_stories.proofs.Rebuilt.{faces_renumbered}
use Rattle.surface_stories.proofs.Gaps.{enough, all_faces, text_is}

-- the lines of the vertices are those of the first numbers
module _ (a b : List ℤ) (most : ℕ) (same : take most a ≡ take most b) where
  number_same : (k : ℕ) → k < most → get_or a k (pos 0) ≡ get_or b k (pos 0)
  number_same k h = sym (get_or-take most a k (pos 0) h) ∙ (ap (λ (l : List ℤ). get_or l k (pos 0)) same ∙ get_or-take most b k (pos 0) h)

  lines_same : (n : ℕ) → 3 * n ≤ most → vertex_lines n a ≡ vertex_lines n b
  unfolding vertex_lines vertex_line
  lines_same zero h = refl
  lines_same (suc n) h =
      rw (
        lines_same n (omega (arith, h)),
        number_same (3 * n) (omega (arith, h)),
        number_same (3 * n + 1) (omega (arith, h)),
        number_same (3 * n + 2) (omega (arith, h)),
      )

text_same : (marks : ℕ) (a b : List ℤ) (faces : List (List ℕ)) → take (3 * marks) a ≡ take (3 * marks) b → text_of marks a faces ≡ text_of marks b faces
unfolding text_of
text_same marks a b faces same = rw (lines_same a b (3 * marks) same marks (omega arith))

pub rewritten : (w : List ℕ) (m : Map) → Wf w m → (positions : List ℤ) (o o' : List ℕ) (n : ℕ) → WritesOff w positions o (Ok n) o'
    → (v : List ℕ) (metres : List ℤ) (r : Result (Unit {0}) NotRead) (v' : List ℕ) (metres' : List ℤ) → ReadRenumbered m positions v metres r v' metres'
    → (p p' : List ℕ) (k : ℕ) → WritesOff v' metres' p (Ok k) p' → take k p' ≡ take n o'
unfolding off_text
rewritten w m wf positions o o' n q v metres r v' metres' x p p' k u =
    let count : ℕ = 3 * m.caps.marks in
    let size : length (take count positions) ≡ count = omega (arith, length-take count positions, enough w m wf positions o o' n q) in
    let first : take count metres' ≡ take count positions =
    ap (take count) x.metres ∙ take_at (take count positions) (drop count metres) count size in
    let faces = faces_renumbered m wf.sound (all_faces w m wf positions o o' n q) wf.picture.marks in
    text_is v' (renumbered m) x.wf metres' p p' k u
    ∙ (ap (λ (i : ℕ). text_of i metres' (faces_of (renumbered m))) (marks_same m)
    ∙ (ap (text_of m.caps.marks metres') faces
    ∙ (text_same m.caps.marks metres' positions (faces_of m) first ∙ sym (text_is w m wf positions o o' n q))))
