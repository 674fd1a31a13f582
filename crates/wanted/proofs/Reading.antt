-- A wanted list is read record by record.
use mathlib.Core.Path.{◌≡◌, refl, sym, ap, ◌∙◌}
use mathlib.Core.Bool.{Bool, true, false, cond}
use mathlib.Core.List.{List, [], ◌∷◌}
use Prim.Native.Nat.{ℕ, zero, suc, ◌+◌, ◌-◌, ◌<◌, ◌≤◌, min}
use native.Mathlib.Decide.{dec_lt, ℕ_discrete}
use native.Mathlib.Omega.{arith}
use borrow.Author.Tests.{lt-ltb, le-ltb, ltb-false, eq-eqb, ne_eqb, eqb-false}
use lib.Dec.{eqb, ltb}
use lib.ListN.{length, get_or, take, drop, length-drop, drop_of_length-le}
use lib.Seq.{drop-drop}
use Rattle.shapes.specs.Shapes.{shape}
use Rattle.words.specs.Words.{part_of}
use Rattle.words.proofs.Fits.{part_fits}
use Rattle.map.specs.Cells.{licensed_body, Live}
use Rattle.map.specs.Answers.{Answer}
use Rattle.map.specs.Says.{number_of, given, refused, verdict_says}
use Rattle.map.specs.declared.Refusal.{Refusal}
use Rattle.map.specs.declared.Refusal.TheVariants.{TypeUnknown, CountWrong}
use Rattle.std.specs.Prelude.{Result, ⊤, Ok, Err}
use Rattle.map.proofs.Refusals.{number_some}
use Rattle.build.specs.Recorded.{width}
use Rattle.build.proofs.Records.{three_words}
use Rattle.wanted.specs.Wanted.{Wanted, ended, before, record_refusal, wanted_from, wanted_of}
use Rattle.wanted.specs.Records.{refused_with, refusal_at, wanted_cell, cell_at}

-- the refusals of a record that has its head
module _ (t left : ℕ) where
  pub type_unknown : (shape t).dimension ≡ 0 → record_refusal t left ≡ 6
  unfolding record_refusal
  type_unknown e = rw e

  module _ (known : (shape t).dimension ≡ 0 → ⊥) where
    pub marks_missing : left < (shape t).marks → record_refusal t left ≡ 7
    unfolding record_refusal
    marks_missing h = rw (ne_eqb (shape t).dimension 0 known, lt-ltb left (shape t).marks h)

    pub record_whole : (shape t).marks ≤ left → record_refusal t left ≡ 0
    unfolding record_refusal
    record_whole h = rw (ne_eqb (shape t).dimension 0 known, le-ltb left (shape t).marks h)

  -- a record that is not refused has a known type and its marks
  pub whole_record : record_refusal t left ≡ 0 → ((shape t).dimension ≡ 0 → ⊥) × ((shape t).marks ≤ left)
  whole_record e = go (ℕ_discrete (shape t).dimension 0) (dec_lt left (shape t).marks)
    where
      go : Dec ((shape t).dimension ≡ 0) → Dec (left < (shape t).marks) → ((shape t).dimension ≡ 0 → ⊥) × ((shape t).marks ≤ left)
      go (yes z) d = absurd (omega (arith, sym (type_unknown z) ∙ e))
      go (no f) (yes h) = absurd (omega (arith, sym (marks_missing f h) ∙ e))
      go (no f) (no g) = (f, omega arith)

-- reading on behind so many words
pub wanted_behind : (n : ℕ) (words : List ℕ) → wanted_from n words ≡ wanted_of (drop n words)
unfolding wanted_from wanted_of
wanted_behind zero words = refl
wanted_behind (suc n) [] = refl
wanted_behind (suc n) (x ∷ words) = wanted_behind n words

-- no word left
pub wanted_end : wanted_of [] ≡ ended 0
unfolding wanted_from wanted_of
wanted_end = refl

-- no number, no type or no licence
wanted_short : (words : List ℕ) → 1 ≤ length words → length words < 3 → wanted_of words ≡ ended 7
unfolding wanted_from wanted_of
wanted_short [] some h = absurd (omega arith)
wanted_short (c ∷ []) some h = refl
wanted_short (c ∷ t ∷ []) some h = refl
wanted_short (c ∷ t ∷ licence ∷ rest) some h = absurd (omega arith)

-- a record that is whole, and one that is refused
module _ (c t licence : ℕ) (rest : List ℕ) where
  pub wanted_next : record_refusal t (length rest) ≡ 0
      → wanted_of (c ∷ t ∷ licence ∷ rest) ≡ before (wanted_cell c t licence (take (shape t).marks rest)) (wanted_of (drop (shape t).marks rest))
  unfolding wanted_from wanted_of
  wanted_next e = rw (e, wanted_from) (ap (before (wanted_cell c t licence (take (shape t).marks rest))) (wanted_behind (shape t).marks rest))

  pub wanted_stop : (n : ℕ) → record_refusal t (length rest) ≡ n → (n ≡ 0 → ⊥) → wanted_of (c ∷ t ∷ licence ∷ rest) ≡ ended n
  unfolding wanted_from wanted_of
  wanted_stop n e f = rw (wanted_from, e, ne_eqb n 0 f)

-- the record at a place
module _ (words : List ℕ) (at : ℕ) where
  pub head_missing : length words < at + 3 → refusal_at words at ≡ 7
  unfolding refusal_at
  head_missing h = rw (lt-ltb (length words) (at + 3) h)

  module _ (long : at + 3 ≤ length words) where
    pub refusal_is : refusal_at words at ≡ record_refusal (get_or words (at + 1) 0) (length words - (at + 3))
    unfolding refusal_at
    refusal_is = rw (le-ltb (length words) (at + 3) long)

    left_is : length (drop (at + 3) words) ≡ length words - (at + 3)
    left_is = length-drop (at + 3) words

  -- refused
  pub refused_at : at < length words → (n : ℕ) → refusal_at words at ≡ n → (n ≡ 0 → ⊥) → wanted_of (drop at words) ≡ ended n
  refused_at more n e f = go (dec_lt (length words) (at + 3))
    where
      go : Dec (length words < at + 3) → wanted_of (drop at words) ≡ ended n
      go (yes h) =
          let z : n ≡ 7 = sym e ∙ head_missing h in
          rw z (wanted_short (drop at words) (omega (arith, length-drop at words)) (omega (arith, length-drop at words)))
      go (no g) =
          let long : at + 3 ≤ length words = omega arith in
          rw (three_words words at long)
          (wanted_stop (get_or words at 0) (get_or words (at + 1) 0) (get_or words (at + 2) 0) (drop (at + 3) words) n
          (ap (record_refusal (get_or words (at + 1) 0)) (left_is long) ∙ (sym (refusal_is long) ∙ e)) f)

  -- not refused: its words are all there
  module _ (ok : refusal_at words at ≡ 0) where
    pub whole_head : at + 3 ≤ length words
    whole_head = go (dec_lt (length words) (at + 3))
      where
        go : Dec (length words < at + 3) → at + 3 ≤ length words
        go (yes h) = absurd (omega (arith, sym (head_missing h) ∙ ok))
        go (no f) = omega arith

    whole : ((shape (get_or words (at + 1) 0)).dimension ≡ 0 → ⊥) × ((shape (get_or words (at + 1) 0)).marks ≤ length words - (at + 3))
    whole = whole_record (get_or words (at + 1) 0) (length words - (at + 3)) (sym (refusal_is whole_head) ∙ ok)

    pub whole_end : (end : ℕ) → end ≡ min (at + width words at) (length words) → end ≡ at + 3 + (shape (get_or words (at + 1) 0)).marks
    unfolding width
    whole_end end ends = omega (arith, whole.1, whole_head)

    -- its cell, and then the rest
    pub record_at : (end : ℕ) → end ≡ min (at + width words at) (length words) → wanted_of (drop at words) ≡ before (cell_at words at) (wanted_of (drop end words))
    unfolding cell_at
    record_at end ends =
        let fits : record_refusal (get_or words (at + 1) 0) (length (drop (at + 3) words)) ≡ 0 =
        ap (record_refusal (get_or words (at + 1) 0)) (left_is whole_head) ∙ (sym (refusal_is whole_head) ∙ ok) in
        let marks : take (shape (get_or words (at + 1) 0)).marks (drop (at + 3) words) ≡ part_of words (at + 3) (shape (get_or words (at + 1) 0)).marks =
        sym (part_fits words (at + 3) (shape (get_or words (at + 1) 0)).marks (omega (arith, whole.1, whole_head))) in
        let behind : drop (shape (get_or words (at + 1) 0)).marks (drop (at + 3) words) ≡ drop end words =
        drop-drop (shape (get_or words (at + 1) 0)).marks (at + 3) words ∙ ap (λ (k : ℕ). drop k words) (sym (whole_end end ends)) in
        ap wanted_of (three_words words at whole_head)
        ∙ (wanted_next (get_or words at 0) (get_or words (at + 1) 0) (get_or words (at + 2) 0) (drop (at + 3) words) fits ∙ rw (marks, behind))

-- a list that is not refused has no record that is
pub no_refusal : (words : List ℕ) (at : ℕ) → at < length words → (wanted_of (drop at words)).refusal ≡ 0 → refusal_at words at ≡ 0
no_refusal words at more e = go (ℕ_discrete (refusal_at words at) 0)
  where
    go : Dec (refusal_at words at ≡ 0) → refusal_at words at ≡ 0
    go (yes z) = z
    go (no f) = absurd (f (sym (ap (λ (x : Wanted). x.refusal) (refused_at words at more (refusal_at words at) refl f)) ∙ e))

-- the check of one record
module _ (words : List ℕ) (at : ℕ) where
  pub check_short : length words < at + 3 → verdict_says (Err CountWrong) ≡ refused_with (refusal_at words at)
  unfolding verdict_says refused
  check_short h = rw (head_missing words at h)

  module _ (long : at + 3 ≤ length words) (t : ℕ) (et : t ≡ get_or words (at + 1) 0) where
    pub check_type : (shape t).dimension ≡ 0 → verdict_says (Err TypeUnknown) ≡ refused_with (refusal_at words at)
    unfolding verdict_says refused
    check_type e = rw (refusal_is words at long, ← et, type_unknown t (length words - (at + 3)) e)

    module _ (known : (shape t).dimension ≡ 0 → ⊥) where
      pub check_marks : length words - (at + 3) < (shape t).marks → verdict_says (Err CountWrong) ≡ refused_with (refusal_at words at)
      unfolding verdict_says refused
      check_marks h = rw (refusal_is words at long, ← et, marks_missing t (length words - (at + 3)) known h)

      pub check_whole : (shape t).marks ≤ length words - (at + 3) → verdict_says (Ok tt) ≡ refused_with (refusal_at words at)
      unfolding verdict_says given
      check_whole h = rw (refusal_is words at long, ← et, record_whole t (length words - (at + 3)) known h)

-- the list so far
module _ (words : List ℕ) (at : ℕ) (so : (wanted_of words).refusal ≡ (wanted_of (drop at words)).refusal) where
  pub reading_end : length words ≤ at → verdict_says (Ok tt) ≡ refused_with (wanted_of words).refusal
  unfolding verdict_says given
  reading_end h = rw (so, drop_of_length-le words {i = at} h, wanted_end)

  module _ (more : at < length words) (v : Result ⊤ Refusal) (says : verdict_says v ≡ refused_with (refusal_at words at)) where
    pub reading_stop : (why : Refusal) → v ≡ Err why → verdict_says (Err why) ≡ refused_with (wanted_of words).refusal
    unfolding verdict_says refused
    reading_stop why e =
        let n : refusal_at words at ≡ number_of why = sym (ap (λ (a : Answer). a.refusal) (ap verdict_says (sym e) ∙ says)) in
        rw (so, refused_at words at more (number_of why) n (λ z. omega (arith, number_some why)))

    pub reading_on : v ≡ (Ok tt) → (end : ℕ) → end ≡ min (at + width words at) (length words)
        → (wanted_of words).refusal ≡ (wanted_of (drop end words)).refusal
    unfolding verdict_says given
    reading_on e end ends =
        let n : refusal_at words at ≡ 0 = sym (ap (λ (a : Answer). a.refusal) (ap verdict_says (sym e) ∙ says)) in
        so ∙ ap (λ (x : Wanted). x.refusal) (record_at words at n end ends)
