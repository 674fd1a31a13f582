-- What a caller of `read` knows: the frame itself, its marks, that it has no licence, and what a long line is.
use mathlib.Core.Path.{◌≡◌, refl, sym, ap, ◌∙◌}
use mathlib.Core.Bool.{Bool, true, false, cond}
use mathlib.Core.List.{List, [], ◌∷◌}
use Prim.Native.Nat.{ℕ, ◌<◌, ◌≤◌}
use native.Mathlib.Decide.{dec_lt}
use native.Mathlib.Omega.{arith}
use lib.Dec.{eqb}
use lib.ListN.{length, get_or, take, length-take}
use lib.Seq.{sets-eq, length-sets, take_all, take-append_seam}
use Rattle.words.specs.Words.{part_of}
use Rattle.words.proofs.Fits.{part_fits}
use Rattle.map.specs.Cells.{body_of, licensed_body}
use Rattle.map.specs.History.{Insert, Remove}
use Rattle.frames.specs.declared.Frame as Code
use Rattle.frames.specs.declared.Frame.TheVariants as Frame'
use Rattle.frames.specs.Frames.{Frame, Format, Change, Star, Anchors, Sibling, Bad, Row, ◌sized◌means◌, bad_line, bytes_of, rows, meaning, frame_in, frame_of}
use Rattle.frames.specs.Forms.{carried, marks_carried, Unlicensed, Reading}
use Rattle.frames.proofs.Lines.{bad_long}

-- the frame that the code's frame and the marks tell
unfoldable pub told : Code.Frame → List ℕ → Frame
told (Frame'.Format marks cells) l = Format marks cells
told (Frame'.Insert day c t n) l = Change day (Insert c.0 (body_of t l))
told (Frame'.Remove day c) l = Change day (Remove c.0)
told (Frame'.Star d v) l = Star d v.0
told (Frame'.Anchors d v) l = Anchors d v.0
told (Frame'.Sibling c f) l = Sibling c.0 f
told Frame'.Bad l = Bad

-- nothing else fits: one frame without a licence is carried so
pub told_carried : (f : Frame) → Unlicensed f → told (carried f) (marks_carried f) ≡ f
unfolding told carried marks_carried
told_carried (Format marks cells) none = refl
told_carried (Change day (Insert c x)) none = ap (λ (n : ℕ). Change day (Insert c (licensed_body x.code n x.marks))) (sym none)
told_carried (Change day (Remove c)) none = refl
told_carried (Star d v) none = refl
told_carried (Anchors d v) none = refl
told_carried (Sibling c f) none = refl
told_carried Bad none = refl

-- and so is every frame of a line
nothing : 0 ≤ 0
nothing = omega arith

either_unlicensed : (b : Bool) (f g : Frame) → Unlicensed f → Unlicensed g → Unlicensed (cond b f g)
either_unlicensed true f g p q = p
either_unlicensed false f g p q = q

AllUnlicensed : List Row → Type 0
AllUnlicensed [] = 0 ≤ 0
AllUnlicensed (r ∷ rs) = Unlicensed r.frame × AllUnlicensed rs

meaning_unlicensed : (code : ℕ) (rs : List Row) → AllUnlicensed rs → Unlicensed (meaning code rs)
unfolding meaning AllUnlicensed
meaning_unlicensed code [] p = nothing
meaning_unlicensed code (r ∷ rs) p =
    either_unlicensed (eqb r.code code) (cond r.fits r.frame Bad) (meaning code rs)
    (either_unlicensed r.fits r.frame Bad p.0 nothing) (meaning_unlicensed code rs p.1)

rows_unlicensed : (bytes : List ℕ) → AllUnlicensed (rows bytes)
unfolding AllUnlicensed rows ◌sized◌means◌
rows_unlicensed bytes = (nothing, (refl, (nothing, (nothing, (nothing, (nothing, nothing))))))

pub line_unlicensed : (line : List ℕ) → Unlicensed (frame_of line)
unfolding frame_of frame_in
line_unlicensed line =
    either_unlicensed (bad_line line) Bad (frame_in (bytes_of line)) nothing
    (meaning_unlicensed (get_or (bytes_of line) 0 0) (rows (bytes_of line)) (rows_unlicensed (bytes_of line)))

-- the marks stand in the first places of the lent words, where these reach
pub marks_part_lem : (f : Frame) {o o' : List ℕ} {r : Code.Frame} → Reading f o r o' → length (marks_carried f) ≤ length o → part_of o' 0 (length (marks_carried f)) ≡ marks_carried f
marks_part_lem f {o} {o'} {r} h fits =
    part_fits o' 0 (length (marks_carried f)) (omega (arith, ap length h.marks, length-sets o 0 (marks_carried f)))
    ∙ (ap (take (length (marks_carried f))) (h.marks ∙ sets-eq (marks_carried f) o 0 (omega arith)) ∙ take-append_seam (marks_carried f) _)

-- a line of more than 64 bytes is bad, so no more than 65 of them need be kept
pub frame_long : (line : List ℕ) → 64 < length line → frame_of line ≡ Bad
unfolding frame_of
frame_long line h = rw (← bad_long line h)

pub frame_kept : (line : List ℕ) → frame_of (take 65 line) ≡ frame_of line
frame_kept line = go (dec_lt 65 (length line))
  where
    go : Dec (65 < length line) → frame_of (take 65 line) ≡ frame_of line
    go (yes h) = frame_long (take 65 line) (omega (arith, length-take 65 line)) ∙ sym (frame_long line (omega arith))
    go (no f) = ap frame_of (take_all 65 line (omega arith))
