-- Two calls: a surface read, then written. What the text says is what was read.
use mathlib.Core.Path.{◌≡◌, refl, sym, ap, ◌∙◌}
use mathlib.Core.Bool.{Bool, true, false}
use mathlib.Core.List.{List, [], ◌∷◌, ◌++◌}
use Prim.Native.Nat.{ℕ, ◌*◌, ◌≤◌}
use native.Mathlib.Decide.{ℕ_discrete}
use native.Mathlib.Omega.{arith}
use borrow.Author.Tests.{ne_eqb}
use lib.Dec.{ltb}
use lib.ListN.{length, take, drop, length-append}
use lib.Seq.{take_at}
use lib.IntN.{ℤ}
use Rattle.std.specs.Prelude.{Ok}
use Rattle.numbers.specs.Sizes.{most_capacity}
use Rattle.numbers.specs.declared.Caps.{Caps}
use Rattle.map.specs.Cells.{Map}
use Rattle.map.specs.Answers.{Answer, ◌when◌, answer, list_answer}
use Rattle.map.specs.Says.{given}
use Rattle.build.specs.Builds.{placed}
use Rattle.off.specs.Words.{Word}
use Rattle.off.specs.Reading.{Read, Got, Stop, Surface, reading}
use Rattle.surfaces.specs.ReadsOff.{broken, surfaced_says, caps_of, room_refusal, outcome, surface_answer, read_answer, positions_left, ReadsOff}
use Rattle.surfaces.proofs.Facing.{many_length}
use Rattle.surfaces_out.specs.WritesOff.{other_cell, off_text, write_checks, write_answer, written_says, text_left, WritesOff}
use Rattle.off.specs.Numbers.{coordinate_of}
use Rattle.surface_stories.proofs.Again.{stands, outcome_caps, read_again}

-- an accepted read: its text is of the form, there is room, and the build is accepted
room_zero : (words numbers : ℕ) (s : Surface) → (surface_answer words numbers s).refusal ≡ 0 → (room_refusal words numbers s ≡ 0) × ((outcome s).refusal ≡ 0)
unfolding surface_answer placed
room_zero words numbers s e = go (ℕ_discrete (room_refusal words numbers s) 0)
  where
    go : Dec (room_refusal words numbers s ≡ 0) → (room_refusal words numbers s ≡ 0) × ((outcome s).refusal ≡ 0)
    go (yes z) = (z, rw z at e)
    go (no f) = absurd (f (rw (ne_eqb (room_refusal words numbers s) 0 f) at e))

pub record Accepted (w : List ℕ) (positions : List ℤ) (text : List ℕ) : Type 0 where
  pub surface : Surface
  pub behind : List Word
  pub reads : reading text ≡ Got surface behind
  pub room : room_refusal (length w) (length positions) surface ≡ 0
  pub built : (outcome surface).refusal ≡ 0

pub accepted : (w : List ℕ) (positions : List ℤ) (text w' : List ℕ) (positions' : List ℤ) → ReadsOff w positions text (Ok tt) w' positions' → Accepted w positions text
unfolding surfaced_says read_answer given broken
accepted w positions text w' positions' r = go (reading text) refl r.says
  where
    go : (x : Read Surface) → reading text ≡ x → given [] ≡ read_answer (length w) (length positions) x → Accepted w positions text
    go (Stop p) e q = let z : ◌≡◌ {A = ℕ} 0 17 = ap (λ (a : Answer). a.refusal) q in absurd (omega arith)
    go (Got s us) e q =
        let zero = room_zero (length w) (length positions) s (sym (ap (λ (a : Answer). a.refusal) q)) in
        record { surface = s; behind = us; reads = e; room = zero.0; built = zero.1 }

-- an accepted write
abbrev pub checked : Bool → Bool → Bool → ℕ → Answer
checked a b c k = answer ((16 when a) ∷ (18 when b) ∷ (12 when c) ∷ []) (k ∷ [])

all_pass : (a b c : Bool) (n k : ℕ) → given (n ∷ []) ≡ checked a b c k → ((checked a b c k).refusal ≡ 0) × (n ≡ k)
unfolding answer ◌when◌ given
all_pass true b c n k q = let z : ◌≡◌ {A = ℕ} 0 16 = ap (λ (a : Answer). a.refusal) q in absurd (omega arith)
all_pass false true c n k q = let z : ◌≡◌ {A = ℕ} 0 18 = ap (λ (a : Answer). a.refusal) q in absurd (omega arith)
all_pass false false true n k q = let z : ◌≡◌ {A = ℕ} 0 12 = ap (λ (a : Answer). a.refusal) q in absurd (omega arith)
all_pass false false false n k q = let z : n ∷ [] ≡ k ∷ [] = ap (λ (a : Answer). a.values) q in (refl, cc)

pub written : (m : Map) (positions : List ℤ) (o : List ℕ) (n : ℕ) → written_says (Ok n) ≡ write_answer m positions (length o)
    → ((write_answer m positions (length o)).refusal ≡ 0) × (n ≡ length (off_text m positions))
unfolding written_says write_answer list_answer write_checks
written m positions o n e =
    all_pass (ltb (length positions) (3 * m.caps.marks)) (other_cell m) (ltb (length o) (length (off_text m positions))) n (length (off_text m positions)) e

-- "An OFF surface read, written as OFF by us and read again gives the same cells and positions.": the text that is written says the same surface
pub turned : (w : List ℕ) (positions : List ℤ) (text w' : List ℕ) (positions' : List ℤ) → ReadsOff w positions text (Ok tt) w' positions'
    → (o o' : List ℕ) (n : ℕ) → WritesOff w' positions' o (Ok n) o'
    → (s : Surface) × (us : List Word) × (reading text ≡ Got s us) × (reading (take n o') ≡ Got s [])
unfolding positions_left text_left
turned w positions text w' positions' r o o' n q =
    let a = accepted w positions text w' positions' r in
    let s = a.surface in
    let left = r.left s a.behind a.reads a.room in
    let m = (outcome s).map in
    let caps : m.caps ≡ caps_of s = outcome_caps text s a.behind a.reads a.built in
    let marks : s.marks ≤ most_capacity = omega (arith, left.wf.picture.marks, ap (λ (c : Caps). c.marks) caps) in
    let cells : s.cells ≤ most_capacity = omega (arith, left.wf.picture.cells, ap (λ (c : Caps). c.cells) caps) in
    let there = stands text s a.behind a.reads a.built in
    let size : length s.positions ≡ 3 * s.marks = many_length coordinate_of (length text) (3 * s.marks) s.positions there.before there.between there.vertices in
    let metres : positions' ≡ s.positions ++ drop (length s.positions) positions = left.metres ∙ rw a.built in
    let first : take (3 * s.marks) positions' ≡ s.positions = ap (take (3 * s.marks)) metres ∙ take_at s.positions (drop (length s.positions) positions) (3 * s.marks) size in
    let enough : 3 * s.marks ≤ length positions' = omega (arith, size, ap length metres, length-append s.positions (drop (length s.positions) positions)) in
    let answers = q.answers m left.wf in
    let done = written m positions' o n answers.0 in
    let wrote : o' ≡ off_text m positions' ++ drop (length (off_text m positions')) o = answers.1 ∙ rw done.0 in
    let bytes : take n o' ≡ off_text m positions' = ap (take n) wrote ∙ take_at (off_text m positions') (drop (length (off_text m positions')) o) n (sym done.1) in
    (s, a.behind, a.reads, ap reading bytes ∙ read_again text s a.behind a.reads a.built marks cells positions' first enough)
