-- One frame is carried so.
use mathlib.Core.Path.{◌≡◌, sym, ap, ◌∙◌}
use mathlib.Core.List.{List}
use Prim.Native.Nat.{ℕ}
use native.Mathlib.Omega.{arith}
use lib.ListN.{length}
use Rattle.words.specs.Words.{part_of}
use Rattle.map.specs.Cells.{body_of}
use Rattle.map.specs.History.{Insert, Remove}
use Rattle.frames.specs.declared.Frame as Code
use Rattle.frames.specs.declared.Frame.TheVariants as Frame'
use Rattle.frames.specs.Frames.{Frame, Format, Change, Star, Anchors, Sibling, Bad, frame_of}
use Rattle.frames.specs.Forms.{carried, marks_carried, Unlicensed, Reading}
use Rattle.frames.proofs.Told.{told, told_carried, line_unlicensed, marks_part_lem}
use Rattle.frames.proofs.Rows.{marks_few}
use Rattle.reply.specs.Memory.{Memory}
use Rattle.reply.specs.Replied.{FrameAnswered, Obeyed}

module _ (f : Frame) (none : Unlicensed f) (code : Code.Frame) (e : code ≡ carried f) where
  -- the frame that the code carries
  pub told_so : told code (marks_carried f) ≡ f
  told_so = ap (λ (x : Code.Frame). told x (marks_carried f)) e ∙ told_carried f none

-- an insert carries the count of its marks
pub insert_count : (f : Frame) (n : ℕ) {c : _} {day t : ℕ} → Frame'.Insert day c t n ≡ carried f → n ≡ length (marks_carried f)
unfolding carried marks_carried
insert_count (Change day (Insert c x)) n e = cc
insert_count (Format marks cells) n e = absurd (let z : ◌≡◌ {A = ℕ} 0 1 = cc in omega arith)
insert_count (Change day (Remove c)) n e = absurd (let z : ◌≡◌ {A = ℕ} 0 1 = cc in omega arith)
insert_count (Star d v) n e = absurd (let z : ◌≡◌ {A = ℕ} 0 1 = cc in omega arith)
insert_count (Anchors d v) n e = absurd (let z : ◌≡◌ {A = ℕ} 0 1 = cc in omega arith)
insert_count (Sibling c f) n e = absurd (let z : ◌≡◌ {A = ℕ} 0 1 = cc in omega arith)
insert_count Bad n e = absurd (let z : ◌≡◌ {A = ℕ} 0 1 = cc in omega arith)

module _ (code : Code.Frame) (marks : List ℕ) (w : Memory) (o : List ℕ) (at r : ℕ) (w' : Memory) (o' : List ℕ) where
  -- a frame without marks
  pub obeyed : (is : Frame) → ((l : List ℕ) → told code l ≡ is) → FrameAnswered is w o at r w' o' → Obeyed code marks w o at r w' o'
  obeyed is same p f none e m = rw (← (sym (same (marks_carried f)) ∙ told_so f none code e)) p

  pub obeyed_insert : {c : _} {day t n k : ℕ} {l : List ℕ} → code ≡ Frame'.Insert day c t n → l ≡ part_of marks k n → k ≡ 0
      → FrameAnswered (Change day (Insert c.0 (body_of t l))) w o at r w' o' → Obeyed code marks w o at r w' o'
  unfolding told
  obeyed_insert {c} {day} {t} {n} {k} {l} is part first p f none e m =
      let count : n ≡ length (marks_carried f) = insert_count f n (sym is ∙ e) in
      let list : l ≡ marks_carried f = part ∙ (rw first (ap (part_of marks 0) count ∙ m)) in
      let frame : Change day (Insert c.0 (body_of t (marks_carried f))) ≡ f = ap (λ (x : Code.Frame). told x (marks_carried f)) (sym is) ∙ told_so f none code e in
      rw (← frame) (rw list at p)

  pub obeyed_sibling : {c : _} {facet asked : ℕ} → code ≡ Frame'.Sibling c facet → asked ≡ facet → FrameAnswered (Sibling c.0 asked) w o at r w' o'
      → Obeyed code marks w o at r w' o'
  unfolding told
  obeyed_sibling {c} {facet} {asked} is same p =
      obeyed (Sibling c.0 facet) (λ l. ap (λ (x : Code.Frame). told x l) is) (rw same at p)

-- a line read and obeyed
pub line_answered : (line zeros marks : List ℕ) (w : Memory) (o : List ℕ) (at r : ℕ) (w' : Memory) (o' : List ℕ) (code : Code.Frame) → length zeros ≡ 13 → Reading (frame_of line) zeros code marks
    → Obeyed code marks w o at r w' o' → FrameAnswered (frame_of line) w o at r w' o'
line_answered line zeros marks w o at r w' o' code size reading p =
    p (frame_of line) (line_unlicensed line) reading.frame (marks_part_lem (frame_of line) reading (omega (arith, marks_few line)))
