-- How the code carries frames and appends bytes.
use Rattle.std.specs.Prelude.{◌≡◌, cond, List, [], ℕ, zero, suc, ◌≤◌, ltb, length}
use Rattle.std.proofs.lemmas.List.Edits.{sets}
use Rattle.map.specs.History.{Insert, Remove}
use Rattle.frames.specs.declared.Frame as Code
use Rattle.frames.specs.declared.Frame.TheVariants as Frame'
use Rattle.frames.specs.Frames.{Frame, Format, Change, Star, Anchors, Sibling, Bad}

-- the frame as the code carries it: the marks of an insert stand in lent words, with their count in the frame
unfoldable pub carried : Frame → Code.Frame
carried (Format marks cells) = Frame'.Format marks cells
carried (Change day (Insert c x)) = Frame'.Insert day (record { 0 = c }) x.code (length x.marks)
carried (Change day (Remove c)) = Frame'.Remove day (record { 0 = c })
carried (Star d v) = Frame'.Star d (record { 0 = v })
carried (Anchors d v) = Frame'.Anchors d (record { 0 = v })
carried (Sibling c f) = Frame'.Sibling (record { 0 = c }) f
carried Bad = Frame'.Bad

-- the marks that an insert names; none of another frame
unfoldable pub marks_carried : Frame → List ℕ
marks_carried (Format marks cells) = []
marks_carried (Change day (Insert c x)) = x.marks
marks_carried (Change day (Remove c)) = []
marks_carried (Star d v) = []
marks_carried (Anchors d v) = []
marks_carried (Sibling c f) = []
marks_carried Bad = []

-- "Insert without one, as in the frame program .., means 0.": a frame has no licence
abbrev pub Unlicensed : Frame → Type 0
Unlicensed (Format marks cells) = 0 ≤ 0
Unlicensed (Change day (Insert c x)) = x.licence ≡ 0
Unlicensed (Change day (Remove c)) = 0 ≤ 0
Unlicensed (Star d v) = 0 ≤ 0
Unlicensed (Anchors d v) = 0 ≤ 0
Unlicensed (Sibling c f) = 0 ≤ 0
Unlicensed Bad = 0 ≤ 0

-- a frame read: its marks stand in the first places of the words o, as far as they reach, and all else is as it was
pub record Reading (f : Frame) (o : List ℕ) (r : Code.Frame) (o' : List ℕ) : Type 0 where
  pub frame : r ≡ carried f
  pub marks : o' ≡ sets o 0 (marks_carried f)

-- numbers counted, and written to the first places of the words o, as far as they reach
pub record Marked (l o : List ℕ) (r : ℕ) (o' : List ℕ) : Type 0 where
  pub count : r ≡ length l
  pub words : o' ≡ sets o 0 l

-- the place after n bytes written from a place on: the room's end stops it
unfoldable pub place_after : ℕ → ℕ → ℕ → ℕ
place_after room at zero = at
place_after room at (suc n) = cond (ltb at room) (place_after room (suc at) n) at

-- the bytes l appended at a place of o, as far as it reaches, and all else is as it was
pub record Appended (l o : List ℕ) (at r : ℕ) (o' : List ℕ) : Type 0 where
  pub bytes : o' ≡ sets o at l
  pub place : r ≡ place_after (length o) at (length l)
