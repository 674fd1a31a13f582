-- A facet's marks copied, corner by corner.
use mathlib.Core.Path.{◌≡◌, sym, ◌∙◌}
use mathlib.Core.List.{List}
use Prim.Native.Nat.{ℕ, ◌+◌, ◌≤◌, min}
use native.Mathlib.Numerals.{add-one}
use native.Mathlib.Omega.{arith}
use denote.Ref.{Bor}
use lib.ListN.{length, get_or}
use Rattle.lists.specs.Lists.{list_of}
use Rattle.lists.specs.Filled.{Filled, Copied}
use Rattle.lists.proofs.Fill.{filled_take, length_list_of}
use Rattle.words.specs.Words.{part_of}
use Rattle.words.proofs.Fits.{part_fits}
use Rattle.shapes.specs.Table.{entry}
use Rattle.numbers.specs.declared.Caps.{Caps}
use Rattle.facet.specs.Facet.{MarksAt, marks_in, set_mark, set_in}
use Rattle.shapes.specs.Sizes.{most_corners}

-- the part that was filled
pub copied_part : (l o o' : List ℕ) (r : ℕ) → Copied l o r o' → length l ≤ length o → part_of o' 0 r ≡ l
copied_part l o o' r f h =
    rw f.count
    (part_fits o' 0 (length l) (omega (arith, f.filled.size)) ∙ filled_take l o o' f.filled h)

module _ (rows : List (List (List ℕ))) (t f : ℕ) (marks : List ℕ) where
  pub set_here : (k p x : ℕ) → p ≡ entry rows t f (k + 1) → x ≡ get_or marks p 0 → x ≡ set_mark rows t f marks k
  unfolding set_mark
  set_here k p x g h = rw (← add-one k, ← g) h

  pub set_copied : (o o' : List ℕ) (n k e : ℕ) → n ≡ min most_corners e → e ≡ entry rows t f 0 → Filled (list_of k (set_mark rows t f marks)) o o' → k ≤ n → n ≤ k
      → Copied (set_in rows t f marks) o n o'
  unfolding set_in
  set_copied o o' n k e size count fill a b =
      rw (← count, ← size) (record { count = sym (length_list_of n (set_mark rows t f marks)); filled = rw same at fill })
    where
      same : k ≡ n
      same = omega arith

  -- a facet has at most four corners, so it fits where there is room for four
  pub set_part : (o o' : List ℕ) (r : ℕ) → Copied (set_in rows t f marks) o r o' → length o ≡ most_corners → part_of o' 0 r ≡ set_in rows t f marks
  unfolding set_in
  set_part o o' r g e =
      copied_part (set_in rows t f marks) o o' r g (omega (arith, length_list_of (min most_corners (entry rows t f 0)) (set_mark rows t f marks)))

-- the marks of a cell, as they are handed back
pub marks_words : (w : Bor (List ℕ)) (caps : Caps) (c : ℕ) (r : Bor (List ℕ)) → MarksAt w caps c r → r.now ≡ marks_in w.now caps c
unfolding marks_in
marks_words w caps c r m = m.part.words
