-- Lists of words: a part of them, and what it is that only some places change.
use Rattle.std.specs.Prelude.{◌≡◌, cond, List, [], ℕ, ◌+◌, ◌*◌, leb, length, get_or, take, drop}
use Rattle.std.specs.Borrow.{Bor}

-- the n words from a place on; none where they do not all lie in m
unfoldable pub part_of : List ℕ → ℕ → ℕ → List ℕ
part_of m at n = cond (leb (at + n) (length m)) (take n (drop at m)) []

-- r begins where the word of m at a place is stored: in the same block, four bytes a word
abbrev pub BeginsAt : Bor (List ℕ) → ℕ → Bor (List ℕ) → Type 0
BeginsAt m at r = r.ref_ptr ≡ (m.ref_ptr.0, at * 4 + m.ref_ptr.1)

-- the very part of m that stores those n words
pub record Part (m : Bor (List ℕ)) (at n : ℕ) (r : Bor (List ℕ)) : Type 0 where
  pub words : r.now ≡ part_of m.now at n
  pub begins : BeginsAt m (cond (leb (at + n) (length m.now)) at 0) r

-- m' is as long as m, and each word outside the places P is the same
pub record Only (P : ℕ → Type 0) (m m' : List ℕ) : Type 0 where
  pub size : length m' ≡ length m
  pub same : (at : ℕ) → (P at → ⊥) → get_or m' at 0 ≡ get_or m at 0
