-- Which frame a code and a count of bytes make.
use mathlib.Core.Path.{◌≡◌, refl, sym, ap, ◌∙◌}
use mathlib.Core.Bool.{Bool, true, false, cond, ◌&&◌}
use mathlib.Core.List.{List, [], ◌∷◌}
use Prim.Native.Nat.{ℕ, ◌+◌, ◌-◌, ◌*◌, ◌/◌, ◌%◌, ◌<◌, ◌≤◌}
use native.Mathlib.Decide.{dec_lt}
use native.Mathlib.Omega.{arith}
use borrow.Author.Tests.{eqb-true, eq-eqb, ne_eqb, le-leb, lt-leb}
use lib.Dec.{eqb, leb}
use lib.ListN.{length, get_or}
use Rattle.lists.proofs.Bools.{clash}
use Rattle.lists.proofs.Fill.{length_list_of}
use Rattle.map.specs.Cells.{body_of}
use Rattle.map.specs.History.{Insert, Remove}
use Rattle.frames.specs.declared.Frame as Code
use Rattle.frames.specs.declared.Frame.TheVariants as Frame'
use Rattle.frames.specs.Frames.{bad_line, bytes_of, number_at, marks_from, Frame, Format, Change, Star, Anchors, Sibling, Bad, Row, ◌sized◌means◌, rows, meaning, frame_in, frame_of}
use Rattle.frames.specs.Forms.{carried, marks_carried, Reading, Marked}
use Rattle.frames.proofs.Lines.{bytes_length, bad_long}

module _ (line : List ℕ) (code : ℕ) (is : code ≡ get_or (bytes_of line) 0 0) where
  format_row : code ≡ 240 → frame_in (bytes_of line) ≡ cond (eqb (length (bytes_of line)) 5) (Format (number_at (bytes_of line) 1) (number_at (bytes_of line) 3)) Bad
  unfolding frame_in rows meaning ◌sized◌means◌
  format_row e = rw (← is, e)

  insert_row : code ≡ 160 → frame_in (bytes_of line) ≡ cond (leb 6 (length (bytes_of line)) && eqb (length (bytes_of line) % 2) 0) (Change (number_at (bytes_of line) 1) (Insert (number_at (bytes_of line) 3) (body_of (get_or (bytes_of line) 5 0) (marks_from (bytes_of line))))) Bad
  unfolding frame_in rows meaning ◌sized◌means◌
  insert_row e = rw (← is, e)

  remove_row : code ≡ 208 → frame_in (bytes_of line) ≡ cond (eqb (length (bytes_of line)) 5) (Change (number_at (bytes_of line) 1) (Remove (number_at (bytes_of line) 3))) Bad
  unfolding frame_in rows meaning ◌sized◌means◌
  remove_row e = rw (← is, e)

  star_row : code ≡ 80 → frame_in (bytes_of line) ≡ cond (eqb (length (bytes_of line)) 4) (Star (get_or (bytes_of line) 1 0) (number_at (bytes_of line) 2)) Bad
  unfolding frame_in rows meaning ◌sized◌means◌
  star_row e = rw (← is, e)

  anchors_row : code ≡ 81 → frame_in (bytes_of line) ≡ cond (eqb (length (bytes_of line)) 4) (Anchors (get_or (bytes_of line) 1 0) (number_at (bytes_of line) 2)) Bad
  unfolding frame_in rows meaning ◌sized◌means◌
  anchors_row e = rw (← is, e)

  sibling_row : code ≡ 91 → frame_in (bytes_of line) ≡ cond (eqb (length (bytes_of line)) 4) (Sibling (number_at (bytes_of line) 1) (get_or (bytes_of line) 3 0)) Bad
  unfolding frame_in rows meaning ◌sized◌means◌
  sibling_row e = rw (← is, e)

  -- a row with its count of bytes, and without
  module _ (size : ℕ) (frame : Frame) (row : frame_in (bytes_of line) ≡ cond (eqb (length (bytes_of line)) size) frame Bad) where
    row_fits : length line / 2 ≡ size → carried frame ≡ carried (frame_in (bytes_of line))
    row_fits e = ap carried (sym (row ∙ rw (bytes_length line, eq-eqb (length line / 2) size e)))

    row_none : (length line / 2 ≡ size → ⊥) → Frame'.Bad ≡ carried (frame_in (bytes_of line))
    unfolding carried
    row_none f = sym (ap carried row ∙ rw (bytes_length line, ne_eqb (length line / 2) size f))

  pub format_yes : (a b : ℕ) → code ≡ 240 → length line / 2 ≡ 5 → a ≡ number_at (bytes_of line) 1 → b ≡ number_at (bytes_of line) 3
      → Frame'.Format a b ≡ carried (frame_in (bytes_of line))
  unfolding carried
  format_yes a b e size f g = rw (f, g) (row_fits 5 _ (format_row e) size)

  pub format_no : code ≡ 240 → (length line / 2 ≡ 5 → ⊥) → Frame'.Bad ≡ carried (frame_in (bytes_of line))
  format_no e size = row_none 5 _ (format_row e) size

  pub remove_yes : (a b : ℕ) → code ≡ 208 → length line / 2 ≡ 5 → a ≡ number_at (bytes_of line) 1 → b ≡ number_at (bytes_of line) 3
      → Frame'.Remove a (record { 0 = b }) ≡ carried (frame_in (bytes_of line))
  unfolding carried
  remove_yes a b e size f g = rw (f, g) (row_fits 5 _ (remove_row e) size)

  pub remove_no : code ≡ 208 → (length line / 2 ≡ 5 → ⊥) → Frame'.Bad ≡ carried (frame_in (bytes_of line))
  remove_no e size = row_none 5 _ (remove_row e) size

  pub star_yes : (a b : ℕ) → code ≡ 80 → length line / 2 ≡ 4 → a ≡ get_or (bytes_of line) 1 0 → b ≡ number_at (bytes_of line) 2
      → Frame'.Star a (record { 0 = b }) ≡ carried (frame_in (bytes_of line))
  unfolding carried
  star_yes a b e size f g = rw (f, g) (row_fits 4 _ (star_row e) size)

  pub star_no : code ≡ 80 → (length line / 2 ≡ 4 → ⊥) → Frame'.Bad ≡ carried (frame_in (bytes_of line))
  star_no e size = row_none 4 _ (star_row e) size

  pub anchors_yes : (a b : ℕ) → code ≡ 81 → length line / 2 ≡ 4 → a ≡ get_or (bytes_of line) 1 0 → b ≡ number_at (bytes_of line) 2
      → Frame'.Anchors a (record { 0 = b }) ≡ carried (frame_in (bytes_of line))
  unfolding carried
  anchors_yes a b e size f g = rw (f, g) (row_fits 4 _ (anchors_row e) size)

  pub anchors_no : code ≡ 81 → (length line / 2 ≡ 4 → ⊥) → Frame'.Bad ≡ carried (frame_in (bytes_of line))
  anchors_no e size = row_none 4 _ (anchors_row e) size

  pub sibling_yes : (a b : ℕ) → code ≡ 91 → length line / 2 ≡ 4 → a ≡ number_at (bytes_of line) 1 → b ≡ get_or (bytes_of line) 3 0
      → Frame'.Sibling (record { 0 = a }) b ≡ carried (frame_in (bytes_of line))
  unfolding carried
  sibling_yes a b e size f g = rw (f, g) (row_fits 4 _ (sibling_row e) size)

  pub sibling_no : code ≡ 91 → (length line / 2 ≡ 4 → ⊥) → Frame'.Bad ≡ carried (frame_in (bytes_of line))
  sibling_no e size = row_none 4 _ (sibling_row e) size

  unknown : (code ≡ 240 → ⊥) → (code ≡ 160 → ⊥) → (code ≡ 208 → ⊥) → (code ≡ 80 → ⊥) → (code ≡ 81 → ⊥) → (code ≡ 91 → ⊥)
      → frame_in (bytes_of line) ≡ Bad
  unfolding frame_in rows meaning ◌sized◌means◌
  unknown f a d s n b =
      rw (← is) (simp (ne_eqb 240 code (λ e. f (sym e)), ne_eqb 160 code (λ e. a (sym e)), ne_eqb 208 code (λ e. d (sym e)), ne_eqb 80 code (λ e. s (sym e)), ne_eqb 81 code (λ e. n (sym e)), ne_eqb 91 code (λ e. b (sym e))))

  pub none_of : (code ≡ 240 → ⊥) → (get_or (bytes_of line) 0 0 ≡ 160 → ⊥) → (code ≡ 208 → ⊥) → (code ≡ 80 → ⊥) → (code ≡ 81 → ⊥) → (code ≡ 91 → ⊥)
      → Frame'.Bad ≡ carried (frame_in (bytes_of line))
  unfolding carried
  none_of f a d s n b = ap carried (sym (unknown f (λ e. a (sym is ∙ e)) d s n b))

  -- "half a mark", or an insert that stops before its type's end
  pub insert_short : code ≡ 160 → length line / 2 < 6 → frame_in (bytes_of line) ≡ Bad
  insert_short e h = insert_row e ∙ rw (bytes_length line, lt-leb 6 (length line / 2) h)

  pub insert_half : code ≡ 160 → 6 ≤ length line / 2 → length line / 2 % 2 ≡ 1 → frame_in (bytes_of line) ≡ Bad
  insert_half e h odd = insert_row e ∙ rw (bytes_length line, le-leb 6 (length line / 2) h, odd)

  pub insert_whole : code ≡ 160 → 6 ≤ length line / 2 → (length line / 2 % 2 ≡ 1 → ⊥)
      → frame_in (bytes_of line) ≡ Change (number_at (bytes_of line) 1) (Insert (number_at (bytes_of line) 3) (body_of (get_or (bytes_of line) 5 0) (marks_from (bytes_of line))))
  insert_whole e h even =
      insert_row e ∙ rw (bytes_length line, le-leb 6 (length line / 2) h, eq-eqb (length line / 2 % 2) 0 (omega arith))

-- what holds of each row of a code, and of a bad frame, holds of the code's meaning
module _ (P : Frame → Type 0) (code : ℕ) where
  pub Each : List Row → Type 0
  Each [] = Unit
  Each (r ∷ rs) = (r.code ≡ code → P r.frame) × Each rs

  pub meaning_each : (rs : List Row) → P Bad → Each rs → P (meaning code rs)
  unfolding Each meaning
  meaning_each [] none h = none
  meaning_each (r ∷ rs) none h = go (eqb r.code code) r.fits refl (meaning_each rs none h.1)
    where
      go : (t s : Bool) → eqb r.code code ≡ t → P (meaning code rs) → P (cond t (cond s r.frame Bad) (meaning code rs))
      go true true e g = h.0 (eqb-true r.code code e)
      go true false e g = none
      go false s e g = g

-- a frame of fixed size names no marks
no_marks : (line : List ℕ) (code : ℕ) → code ≡ get_or (bytes_of line) 0 0 → (code ≡ 160 → ⊥) → marks_carried (frame_in (bytes_of line)) ≡ []
unfolding frame_in rows Each ◌sized◌means◌ marks_carried
no_marks line code is ne =
    rw (← is)
    (meaning_each (λ f. marks_carried f ≡ []) code (rows (bytes_of line)) refl
    ((λ e. refl), ((λ e. absurd (ne (sym e))), ((λ e. refl), ((λ e. refl), ((λ e. refl), ((λ e. refl), tt)))))))

-- an insert names at most as many as its bytes hold
some_marks_lem : (line : List ℕ) → length (marks_carried (frame_in (bytes_of line))) ≤ (length line / 2 - 6) / 2
unfolding frame_in rows Each ◌sized◌means◌ marks_carried marks_from
some_marks_lem line =
    meaning_each (λ f. length (marks_carried f) ≤ (length line / 2 - 6) / 2) (get_or (bytes_of line) 0 0) (rows (bytes_of line)) (omega arith)
    ((λ e. omega arith), ((λ e. omega (arith, bytes_length line, length_list_of ((length (bytes_of line) - 6) / 2) (λ i. number_at (bytes_of line) (6 + 2 * i)))), ((λ e. omega arith), ((λ e. omega arith), ((λ e. omega arith), ((λ e. omega arith), tt))))))

-- what a read leaves, by the frame
module _ (line o : List ℕ) where
  bad_frame : bad_line line ≡ true → frame_of line ≡ Bad
  unfolding frame_of
  bad_frame e = rw e

  good_frame : bad_line line ≡ false → frame_of line ≡ frame_in (bytes_of line)
  unfolding frame_of
  good_frame e = rw e

  pub read_bad : bad_line line ≡ true → Reading (frame_of line) o Frame'.Bad o
  unfolding carried marks_carried
  read_bad e = rw (bad_frame e) (record { frame = refl; marks = refl })

  pub read_none : bad_line line ≡ false → frame_in (bytes_of line) ≡ Bad → Reading (frame_of line) o Frame'.Bad o
  unfolding carried marks_carried
  read_none e f = rw (good_frame e, f) (record { frame = refl; marks = refl })

  -- a frame of fixed size names no marks
  pub read_fixed : (code : ℕ) (r : Code.Frame) → code ≡ get_or (bytes_of line) 0 0 → bad_line line ≡ false → (code ≡ 160 → ⊥)
      → ((get_or (bytes_of line) 0 0 ≡ 160 → ⊥) → r ≡ carried (frame_in (bytes_of line))) → Reading (frame_of line) o r o
  read_fixed code r is e ne f =
      rw (good_frame e) (record { frame = f (λ g. ne (is ∙ g)); marks = rw (no_marks line code is ne) })

  pub read_insert : (day a b n : ℕ) (o' : List ℕ) → bad_line line ≡ false
      → frame_in (bytes_of line) ≡ Change (number_at (bytes_of line) 1) (Insert (number_at (bytes_of line) 3) (body_of (get_or (bytes_of line) 5 0) (marks_from (bytes_of line))))
      → day ≡ number_at (bytes_of line) 1 → a ≡ number_at (bytes_of line) 3 → b ≡ get_or (bytes_of line) 5 0 → Marked (marks_from (bytes_of line)) o n o'
      → Reading (frame_of line) o (Frame'.Insert day (record { 0 = a }) b n) o'
  unfolding carried marks_carried
  read_insert day a b n o' e f ed ea eb m =
      rw (good_frame e, f, ed, ea, eb) (record { frame = rw m.count; marks = m.words })

-- "more than 64 digits" is bad, so an insert names 13 marks at most
pub marks_few : (line : List ℕ) → length (marks_carried (frame_of line)) ≤ 13
unfolding frame_of marks_carried
marks_few line = go (dec_lt 64 (length line)) (bad_line line) refl
  where
    go : Dec (64 < length line) → (t : Bool) → bad_line line ≡ t → length (marks_carried (cond t Bad (frame_in (bytes_of line)))) ≤ 13
    go (yes h) true e = omega arith
    go (yes h) false e = absurd (clash (sym (bad_long line h)) e)
    go (no f) true e = omega arith
    go (no f) false e = omega (arith, some_marks_lem line)
