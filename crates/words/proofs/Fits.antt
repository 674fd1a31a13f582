-- What a part is, by whether it fits.
use mathlib.Core.Path.{◌≡◌, sym, ap, ◌∙◌}
use mathlib.Core.List.{List, []}
use Prim.Native.Nat.{ℕ, ◌+◌, ◌-◌, ◌<◌, ◌≤◌}
use native.Mathlib.Omega.{arith}
use borrow.Author.Tests.{le-leb, lt-leb}
use lib.ListN.{length, get_or, take, drop, length-drop}
use lib.Seq.{ext_get_or, get_or-take, get_or-drop, length-take-le}
use denote.Ref.{Bor}
use Rattle.words.specs.Words.{part_of, BeginsAt, Part}

pub part_fits : (m : List ℕ) (at n : ℕ) → at + n ≤ length m → part_of m at n ≡ take n (drop at m)
unfolding part_of
part_fits m at n h = simp (le-leb (at + n) (length m) h)

pub part_none : (m : List ℕ) (at n : ℕ) → length m < at + n → part_of m at n ≡ []
unfolding part_of
part_none m at n h = simp (lt-leb (at + n) (length m) h)

-- as the code cuts it: nothing from the front, where the words do not all lie in m
pub part_empty : (m r : Bor (List ℕ)) (at n : ℕ) → r.now ≡ [] → BeginsAt m 0 r → length m.now < at + n → Part m at n r
part_empty m r at n e f h = record {
  words = e ∙ sym (part_none m.now at n h);
  begins = simp (lt-leb (at + n) (length m.now) h) f;
}

-- and else from one place up to another
pub part_whole : (m r : Bor (List ℕ)) (at n : ℕ) → r.now ≡ take (at + n - at) (drop at m.now) → BeginsAt m at r → at + n ≤ length m.now → Part m at n r
part_whole m r at n e f h =
    let size : at + n - at ≡ n = omega arith in
    record {
      words = rw size at e ∙ sym (part_fits m.now at n h);
      begins = simp (le-leb (at + n) (length m.now) h) f;
    }

-- a part that fits has its length, and its words are those of memory
pub part_length : (m : List ℕ) (at n : ℕ) → at + n ≤ length m → length (part_of m at n) ≡ n
part_length m at n h = ap length (part_fits m at n h) ∙ length-take-le n (drop at m) (omega (arith, length-drop at m))

pub part_word : (m : List ℕ) (at n k : ℕ) → at + n ≤ length m → k < n → get_or (part_of m at n) k 0 ≡ get_or m (at + k) 0
part_word m at n k h less =
    ap (λ (l : List ℕ). get_or l k 0) (part_fits m at n h) ∙ (get_or-take n (drop at m) k 0 less ∙ get_or-drop at m k 0)

-- the words of a list, one after another, are the list
pub part_is : (m : List ℕ) (at : ℕ) (l : List ℕ) → at + length l ≤ length m → ((k : ℕ) → k < length l → get_or m (at + k) 0 ≡ get_or l k 0)
    → part_of m at (length l) ≡ l
part_is m at l h words =
    ext_get_or 0 (part_of m at (length l)) l (part_length m at (length l) h)
    (λ k less.
    let low : k < length l = omega (arith, part_length m at (length l) h) in
    part_word m at (length l) k h low ∙ words k low)
