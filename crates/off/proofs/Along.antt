-- The code's way along a text: from place to place, and from word to word.
use mathlib.Core.Path.{◌≡◌, sym, ap, ◌∙◌}
use mathlib.Core.Bool.{true, false}
use mathlib.Core.List.{List, [], ◌∷◌}
use Rattle.std.specs.Prelude.{Some, None}
use mathlib.Core.Logic.{⊎_elim}
use Prim.Native.Nat.{ℕ, ◌+◌, ◌-◌, ◌<◌, ◌≤◌, max}
use native.Mathlib.Nat.{not-suc-le-zero}
use native.Mathlib.Decide.{dec_le}
use native.Mathlib.Numerals.{add-one}
use native.Mathlib.Omega.{arith}
use lib.ListN.{length, get_or, take, drop, drop_of_length-le, length-take, length-drop}
use lib.Seq.{drop-cons, drop-drop, get_or-drop}
use Rattle.lists.proofs.Bools.{either}
use Rattle.off.specs.Words.{parts, word_at, words_from}
use Rattle.off.specs.Scan.{gap, run}
use Rattle.off.specs.Forms.{next_of}
use Rattle.off.proofs.Words.{words_run, words_skip, words_none, run_stop, run_on, run_none, gap_stop, gap_on, gap_none}

rest : (l : List ℕ) (i : ℕ) → i < length l → drop i l ≡ get_or l i 0 ∷ drop (i + 1) l
rest l i h = rw (add-one i) (drop-cons l i 0 h)

module _ (l : List ℕ) (i : ℕ) (h : i < length l) where
  pub gap_halt : parts (get_or l i 0) ≡ false → i ≡ i + gap (drop i l)
  gap_halt e = rw (rest l i h, gap_stop (get_or l i 0) (drop (i + 1) l) e) (omega arith)

  pub gap_go : parts (get_or l i 0) ≡ true → i + gap (drop i l) ≡ i + 1 + gap (drop (i + 1) l)
  gap_go e = rw (rest l i h, gap_on (get_or l i 0) (drop (i + 1) l) e) (omega arith)

  pub run_halt : parts (get_or l i 0) ≡ true → i ≡ i + run (drop i l)
  run_halt e = rw (rest l i h, run_stop (get_or l i 0) (drop (i + 1) l) e) (omega arith)

  pub run_go : parts (get_or l i 0) ≡ false → i + run (drop i l) ≡ i + 1 + run (drop (i + 1) l)
  run_go e = rw (rest l i h, run_on (get_or l i 0) (drop (i + 1) l) e) (omega arith)

pub gap_end : (l : List ℕ) (i : ℕ) → length l ≤ i → i ≡ i + gap (drop i l)
gap_end l i h = rw (drop_of_length-le l {i = i} h, gap_none) (omega arith)

pub run_end : (l : List ℕ) (i : ℕ) → length l ≤ i → i ≡ i + run (drop i l)
run_end l i h = rw (drop_of_length-le l {i = i} h, run_none) (omega arith)

-- a text gone along to its end
module _ (l : List ℕ) (at i r : ℕ) (h : length l ≤ i) (most : at ≤ length l → i ≤ length l) (e : r ≡ max at (length l)) where
  pub gap_past : at + gap (drop at l) ≡ i + gap (drop i l) → r ≡ at + gap (drop at l)
  gap_past inv = go (dec_le at (length l))
    where
      go : Dec (at ≤ length l) → r ≡ at + gap (drop at l)
      go (yes few) = let last = most few in let same : r ≡ i = omega arith in same ∙ (gap_end l i h ∙ sym inv)
      go (no n) = let same : r ≡ at = omega arith in same ∙ gap_end l at (omega arith)

  pub run_past : at + run (drop at l) ≡ i + run (drop i l) → r ≡ at + run (drop at l)
  run_past inv = go (dec_le at (length l))
    where
      go : Dec (at ≤ length l) → r ≡ at + run (drop at l)
      go (yes few) = let last = most few in let same : r ≡ i = omega arith in same ∙ (run_end l i h ∙ sym inv)
      go (no n) = let same : r ≡ at = omega arith in same ∙ run_end l at (omega arith)

-- behind what parts words stands a byte that does not
gap_most : (l : List ℕ) → gap l < length l → parts (get_or l (gap l) 0) ≡ false
gap_most [] h = absurd (not-suc-le-zero h)
gap_most (b ∷ l) h = ⊎_elim (λ p. go p (gap_most l)) stop (either (parts b))
  where
    go : parts b ≡ true → (gap l < length l → parts (get_or l (gap l) 0) ≡ false) → parts (get_or (b ∷ l) (gap (b ∷ l)) 0) ≡ false
    go p again = rw (gap_on b l p) (again (omega (arith, gap_on b l p)))

    stop : parts b ≡ false → parts (get_or (b ∷ l) (gap (b ∷ l)) 0) ≡ false
    stop p = rw (gap_stop b l p) p

run_most : (l : List ℕ) → run l ≤ length l
run_most [] = omega (arith, run_none)
run_most (b ∷ l) = ⊎_elim (λ p. omega (arith, run_stop b l p)) (λ p. omega (arith, run_on b l p, run_most l)) (either (parts b))

-- the first word of a text that begins with one
words_first : (l : List ℕ) (at : ℕ) → 0 < run l → words_from at l ≡ word_at at (take (run l) l) ∷ words_from (at + run l) (drop (run l) l)
words_first [] at h = absurd (not-suc-le-zero {n = 0} (omega (arith, run_none)))
words_first (b ∷ l) at h = ⊎_elim (λ p. absurd (not-suc-le-zero {n = 0} (omega (arith, run_stop b l p)))) (λ p. rw (run_on b l p) (words_run b l at p)) (either (parts b))

module _ (l : List ℕ) (at f : ℕ) (e : f ≡ at + gap (drop at l)) where
  words_from_lem : words_from at (drop at l) ≡ words_from f (drop f l)
  words_from_lem = rw e (words_skip (drop at l) at ∙ ap (words_from (at + gap (drop at l))) (drop-drop (gap (drop at l)) at l))

  pub next_none : length l ≤ f → None ≡ next_of (words_from at (drop at l))
  unfolding next_of
  next_none h = rw (words_from_lem, drop_of_length-le l {i = f} h, words_none f)

  begins : f < length l → parts (get_or l f 0) ≡ false
  begins h =
      let there : gap (drop at l) < length (drop at l) = omega (arith, length-drop at l) in
      let same : get_or l f 0 ≡ get_or (drop at l) (gap (drop at l)) 0 = rw e (sym (get_or-drop at l (gap (drop at l)) 0)) in
      rw same (gap_most (drop at l) there)

  module _ (h : f < length l) (g : ℕ) (s : g ≡ f + run (drop f l)) where
    some_bytes : 0 < run (drop f l)
    some_bytes = rw (rest l f h, run_on (get_or l f 0) (drop (f + 1) l) (begins h)) (omega arith)

    pub word_ends : (f < g) × (g ≤ length l)
    word_ends = (omega (arith, some_bytes), omega (arith, run_most (drop f l), length-drop f l))

    -- the next word, and the words behind it
    pub words_next : words_from at (drop at l) ≡ word_at f (take (g - f) (drop f l)) ∷ words_from g (drop g l)
    words_next =
        let size : g - f ≡ run (drop f l) = omega arith in
        let behind : drop (run (drop f l)) (drop f l) ≡ drop g l = drop-drop (run (drop f l)) f l ∙ ap (λ (k : ℕ). drop k l) (sym s) in
        words_from_lem ∙ (words_first (drop f l) f some_bytes ∙ rw (size, behind, ← s))

    pub next_some : Some (record { first = f; behind = record { at = g } }) ≡ next_of (words_from at (drop at l))
    unfolding next_of
    next_some =
        let size : length (take (g - f) (drop f l)) ≡ g - f = omega (arith, length-take (g - f) (drop f l), length-drop f l, word_ends) in
        let place : f + (g - f) ≡ g = omega (arith, word_ends) in
        rw (words_next, size, place)
