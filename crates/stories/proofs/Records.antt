-- What one record fixes, in any two well-formed memories: a cell's record its type, its licence and the words of its siblings (SiblingRecords.antt says
-- which they are), a mark's record its first anchors. And the head's live counts.
use mathlib.Core.Path.{◌≡◌, refl, sym, ap, ap₂, ◌∙◌}
use mathlib.Core.Bool.{Bool, true, false, cond, ◌||◌}
use mathlib.Core.List.{List, [], ◌∷◌}
use Prim.Native.Nat.{ℕ, ◌+◌, ◌<◌, ◌≤◌}
use native.Mathlib.Decide.{dec_lt}
use native.Mathlib.Omega.{arith}
use borrow.Author.Tests.{lt-leb, lt-ltb}
use lib.Dec.{ltb}
use lib.ListN.{get_or, length, take}
use Rattle.lists.specs.Lists.{any}
use Rattle.lists.proofs.Bools.{clash, or_left, or_right}
use Rattle.shapes.specs.Sizes.{most_facets, most_code}
use Rattle.store.specs.Layout.{part_words, mark_words, mark_at, near_at}
use Rattle.store.specs.Fields.{Count, Anchor, mark_place, Place, InNear, InFar, Code, Licence, Sib, cell_place}
use Rattle.store.specs.Slots.{InHead, InCell, place_at, address, read}
use Rattle.map.specs.Cells.{Map, cells_of}
use Rattle.map.specs.Stars.{anchors}
use Rattle.map.specs.Answers.{Check, Answer, ◌when◌, answer, star_checks, first_anchor_answer}
use Rattle.picture.specs.State.{next, state_of}
use Rattle.picture.specs.Picture.{Wf}
use Rattle.picture.proofs.Record.{count_read}
use Rattle.checks.proofs.Rows.{code_of, licence_of}
use Rattle.ask.proofs.Words.{anchor_is}

-- two lists with the same first as number + 1 have the same first
next_one : (a b : List ℕ) → next a ≡ next b → take 1 a ≡ take 1 b
unfolding next
next_one [] [] e = refl
next_one [] (y ∷ b) e = absurd (omega (arith, e))
next_one (x ∷ a) [] e = absurd (omega (arith, e))
next_one (x ∷ a) (y ∷ b) e = let z : x ≡ y = omega (arith, e) in ap (λ (n : ℕ). n ∷ []) z

-- where a check fails the values do not matter
pub moot : (checks : List Check) (a b : List ℕ) → any (λ (x : Check). x.fails) checks ≡ true → answer checks a ≡ answer checks b
unfolding answer any
moot [] a b e = absurd (clash e refl)
moot (x ∷ checks) a b e = go x.fails e (moot checks a b)
  where
    no : Answer
    no = record { refusal = x.number; values = [] }

    go : (t : Bool) → t || any (λ (x : Check). x.fails) checks ≡ true
        → (any (λ (x : Check). x.fails) checks ≡ true → answer checks a ≡ answer checks b)
        → cond t no (answer checks a) ≡ cond t no (answer checks b)
    go true e f = refl
    go false e f = f e

-- which word of its part a place is
word_in : Place → ℕ
word_in (InNear k) = k
word_in (InFar k) = k

module _ {w w' : List ℕ} {m m' : Map} (wf : Wf w m) (wf' : Wf w' m') where
  -- one cell number, below both capacities, with the same 16 words in the first part of both records
  module _ (c : ℕ) (below : c < m.caps.cells) (below' : c < m'.caps.cells)
      (same : (k : ℕ) → k < part_words → get_or w (near_at m.caps.marks c + k) 0 ≡ get_or w' (near_at m'.caps.marks c + k) 0) where
    -- the cell is of one type in both
    pub code_fixed : (m.at c).code ≡ (m'.at c).code
    unfolding read address place_at cell_place word_in
    code_fixed =
        sym (code_of m.caps m refl w wf c below)
        ∙ (same (word_in (cell_place Code)) (omega arith) ∙ code_of m'.caps m' refl w' wf' c below')

    -- and has one licence
    pub licence_fixed : (m.at c).licence ≡ (m'.at c).licence
    unfolding read address place_at cell_place word_in
    licence_fixed =
        sym (licence_of m.caps m refl w wf c below)
        ∙ (same (word_in (cell_place Licence)) (omega arith) ∙ licence_of m'.caps m' refl w' wf' c below')

    -- and each of its facets has the same word in both
    pub word_fixed : (f : ℕ) → f < most_facets → read w m.caps (InCell c (Sib f)) ≡ read w' m'.caps (InCell c (Sib f))
    unfolding read address place_at cell_place word_in
    word_fixed f few = same (word_in (cell_place (Sib f))) (omega arith)

  -- one mark number, below both capacities, with the same 8 words in both records
  module _ (v : ℕ) (below : v < m.caps.marks) (below' : v < m'.caps.marks)
      (same : (k : ℕ) → k < mark_words → get_or w (mark_at v + k) 0 ≡ get_or w' (mark_at v + k) 0) where
    -- the mark has the same first anchor in both, or none in both, in each dimension
    pub first_anchor_fixed : (d : ℕ) → 1 ≤ d → d ≤ 3 → take 1 (anchors m d v) ≡ take 1 (anchors m' d v)
    unfolding read address mark_place
    first_anchor_fixed d low high =
        next_one (anchors m d v) (anchors m' d v)
        (sym (anchor_is w m.caps m refl wf d v low high below)
        ∙ (same (mark_place (Anchor d)) (omega arith) ∙ anchor_is w' m'.caps m' refl wf' d v low high below'))

    -- the checks of a mark and a dimension come out the same
    dimension_fixed : (d : ℕ) → star_checks m d v ≡ star_checks m' d v
    unfolding star_checks
    dimension_fixed d = rw (lt-leb m.caps.marks v below, lt-leb m'.caps.marks v below')

    -- a dimension that is not 1 to 3 fails one
    dimension_fails : (d : ℕ) → ltb d 1 || ltb 3 d ≡ true → any (λ (x : Check). x.fails) (star_checks m d v) ≡ true
    unfolding star_checks ◌when◌ any
    dimension_fails d e = or_left _ _ e

    -- so the first anchor query answers the same for every dimension
    pub first_anchor_answer_fixed : (d : ℕ) → first_anchor_answer m d v ≡ first_anchor_answer m' d v
    unfolding first_anchor_answer
    first_anchor_answer_fixed d = go (dec_lt d 1) (dec_lt 3 d)
      where
        beyond : ltb d 1 || ltb 3 d ≡ true → first_anchor_answer m d v ≡ first_anchor_answer m' d v
        beyond e =
            moot (star_checks m d v) _ _ (dimension_fails d e)
            ∙ ap (λ (checks : List Check). answer checks (take 1 (anchors m' d v))) (dimension_fixed d)

        go : Dec (d < 1) → Dec (3 < d) → first_anchor_answer m d v ≡ first_anchor_answer m' d v
        go (yes a) b = beyond (or_left _ _ (lt-ltb d 1 a))
        go (no a) (yes b) = beyond (or_right (ltb d 1) _ (lt-ltb 3 d b))
        go (no a) (no b) = ap₂ answer (dimension_fixed d) (first_anchor_fixed d (omega arith) (omega arith))

-- the live count of each type in the head is the length of the defined list
pub count_listed : {w : List ℕ} {m : Map} → Wf w m → (t : ℕ) → 1 ≤ t → t ≤ most_code → read w m.caps (InHead (Count t)) ≡ length (cells_of m t)
unfolding state_of
count_listed {w} {m} wf t low high = count_read w m.caps (state_of m) wf.picture t low high
