-- One record: where it ends, and the insertion that it is.
use mathlib.Core.Path.{◌≡◌, refl, sym, ap, ◌∙◌}
use mathlib.Core.List.{List, [], ◌∷◌}
use Prim.Native.Nat.{ℕ, suc, ◌+◌, ◌-◌, ◌<◌, ◌≤◌, min}
use native.Mathlib.Decide.{dec_lt}
use native.Mathlib.Numerals.{add-one}
use native.Mathlib.Omega.{arith}
use lib.ListN.{length, get_or, take, drop, length-take, length-drop}
use lib.Seq.{take_all, drop-cons, drop-drop}
use Rattle.words.specs.Words.{part_of}
use Rattle.words.proofs.Fits.{part_fits}
use Rattle.shapes.specs.Shapes.{shape}
use Rattle.map.specs.Cells.{licensed_body}
use Rattle.map.specs.History.{Insert}
use Rattle.map.specs.declared.Refusal.TheVariants.{CountWrong}
use Rattle.map.specs.declared.Refusal.{Refusal}
use Rattle.std.specs.Prelude.{Result, ⊤, Err}
use Rattle.mesh.specs.Edited.{Edited}
use Rattle.build.specs.Recorded.{width, between, Recorded}

module _ (records : List ℕ) (at : ℕ) where
  -- the end by the type's count of marks
  pub end_last : (t n : ℕ) → t ≡ get_or records (at + 1) 0 → n ≡ (shape t).marks → length records < at + (3 + n)
      → length records ≡ min (at + width records at) (length records)
  unfolding width
  end_last t n e f h = rw (← e, ← f) (omega arith)

  pub end_inside : (t n end : ℕ) → t ≡ get_or records (at + 1) 0 → n ≡ (shape t).marks → end ≤ length records → end ≡ at + (3 + n)
      → end ≡ min (at + width records at) (length records)
  unfolding width
  end_inside t n end e f h q = rw (← e, ← f) (omega arith)

  -- the words of a record with a number, a type and a licence
  pub three_words : at + 3 ≤ length records
      → drop at records ≡ get_or records at 0 ∷ get_or records (at + 1) 0 ∷ get_or records (at + 2) 0 ∷ drop (at + 3) records
  three_words h =
      let e : at + 3 ≡ at + 1 + 1 + 1 = omega arith in
      let f : at + 2 ≡ at + 1 + 1 = omega arith in
      rw (e, f, add-one (at + 1 + 1), add-one (at + 1), add-one at)
      (drop-cons records at 0 (omega arith)
      ∙ ap (λ (l : List ℕ). get_or records at 0 ∷ l)
      (drop-cons records _ 0 (omega arith) ∙ ap (λ (l : List ℕ). get_or records (suc at) 0 ∷ l) (drop-cons records _ 0 (omega arith))))

  module _ (end : ℕ) (ends : end ≡ min (at + width records at) (length records)) where
    -- a record goes on by three words at least
    pub end_more : at < length records → at < end
    unfolding width
    end_more h = omega arith

    pub end_short : at < length records → end < at + 3 → length records < at + 3
    unfolding width
    end_short h l = omega arith

    module _ (long : at + 3 ≤ end) where
      marks_between : part_of records (at + 3) (end - 3 - at) ≡ take (end - 3 - at) (drop (at + 3) records)
      unfolding width
      marks_between = part_fits records (at + 3) (end - 3 - at) (omega arith)

      -- its marks are those of the type, or as many as are left
      pub marks_taken : part_of records (at + 3) (end - 3 - at) ≡ take (shape (get_or records (at + 1) 0)).marks (drop (at + 3) records)
      unfolding width
      marks_taken = marks_between ∙ go (dec_lt (length records) (at + (3 + (shape (get_or records (at + 1) 0)).marks)))
        where
          go : Dec (length records < at + (3 + (shape (get_or records (at + 1) 0)).marks))
              → take (end - 3 - at) (drop (at + 3) records) ≡ take (shape (get_or records (at + 1) 0)).marks (drop (at + 3) records)
          go (yes h) =
              take_all (end - 3 - at) (drop (at + 3) records) (omega (arith, length-drop (at + 3) records))
              ∙ sym (take_all (shape (get_or records (at + 1) 0)).marks (drop (at + 3) records) (omega (arith, length-drop (at + 3) records)))
          go (no f) =
              let e : end - 3 - at ≡ (shape (get_or records (at + 1) 0)).marks = omega arith in
              rw e

      -- where the count is right, the next record begins behind them
      pub next_words : length (part_of records (at + 3) (end - 3 - at)) ≡ (shape (get_or records (at + 1) 0)).marks
          → drop (shape (get_or records (at + 1) 0)).marks (drop (at + 3) records) ≡ drop end records
      unfolding width
      next_words h =
          let e : at + 3 + (shape (get_or records (at + 1) 0)).marks ≡ end =
          omega (arith, rw marks_between at h, length-take (end - 3 - at) (drop (at + 3) records), length-drop (at + 3) records) in
          drop-drop _ (at + 3) records ∙ ap (λ (k : ℕ). drop k records) e

-- the record between two places, inserted or too short
module _ (w records : List ℕ) (at end : ℕ) where
  pub record_short : end < at + 3 → Recorded w records at end (Err CountWrong) w
  record_short h = record { short = λ l. (refl, refl); whole = λ l. absurd (omega arith) }

  pub record_made : (c t i licence j k n : ℕ) (marks : List ℕ) → at + 3 ≤ end → c ≡ get_or records at 0 → t ≡ get_or records i 0 → i ≡ at + 1
      → licence ≡ get_or records j 0 → j ≡ at + 2 → marks ≡ part_of records k n → k ≡ at + 3 → n ≡ end - 3 - at
      → (r : Result ⊤ Refusal) (w' : List ℕ) → Edited w (Insert c (licensed_body t licence marks)) r w' → Recorded w records at end r w'
  unfolding between
  record_made c t i licence j k n marks long ec et ei el ej em ek en r w' edited =
      record { short = λ l. absurd (omega arith); whole = λ l. rw (← en, ← ek, ← em, ← ej, ← el, ← ei, ← et, ← ec) edited }
