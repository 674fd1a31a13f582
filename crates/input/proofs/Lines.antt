-- The line so far, in 65 bytes.
use mathlib.Core.Path.{◌≡◌, refl, sym, ap, ◌∙◌}
use mathlib.Core.Bool.{Bool, true, false, cond}
use mathlib.Core.List.{List, [], ◌∷◌, ◌++◌}
use Prim.Native.Nat.{ℕ, ◌+◌, ◌-◌, ◌<◌, ◌≤◌}
use native.Mathlib.Decide.{dec_lt}
use native.Mathlib.Numerals.{add-one}
use native.Mathlib.Omega.{arith}
use borrow.Author.Tests.{le-ltb, lt-ltb}
use lib.Dec.{leb}
use lib.ListN.{length, set, take, drop, length-set, length-take, length-append}
use lib.Seq.{take_all, take-append-le, take-suc-set}
use Rattle.words.specs.Words.{Only, part_of}
use Rattle.words.proofs.Frame.{only_none, only_put}
use Rattle.words.proofs.Fits.{part_fits, part_none}
use Rattle.frames.specs.Frames.{frame_of}
use Rattle.frames.proofs.Told.{frame_kept}
use Rattle.input.specs.Standing.{Lined}
use Rattle.input.specs.Fed.{has_place, KeptByte}

-- as the code cuts it
pub part_turned : (l : List ℕ) (from to : ℕ) → to < from → [] ≡ part_of l from (to - from)
unfolding part_of
part_turned l from to h = let e : to - from ≡ 0 = omega arith in rw e (go (leb (from + 0) (length l)))
  where
    go : (b : Bool) → [] ≡ cond b (take 0 (drop from l)) []
    go true = refl
    go false = refl

pub part_short : (l : List ℕ) (from to : ℕ) → from ≤ to → length l < to → [] ≡ part_of l from (to - from)
part_short l from to h less = sym (part_none l from (to - from) (omega arith))

pub part_cut : (l : List ℕ) (from to : ℕ) → from ≤ to → to ≤ length l → take (to - from) (drop from l) ≡ part_of l from (to - from)
part_cut l from to h less = sym (part_fits l from (to - from) (omega arith))

-- a new line
pub line_none : (line : List ℕ) (n : ℕ) → 65 ≤ length line → n ≡ 0 → Lined line n []
line_none line n h z = record { fits = h; count = z; bytes = rw z }

-- what is kept tells the frame
pub line_frame : (line : List ℕ) (n : ℕ) (l : List ℕ) → Lined line n l → frame_of (part_of line 0 n) ≡ frame_of l
line_frame line n l s =
    ap frame_of (part_fits line 0 n (omega (arith, s.count, s.fits, length-take 65 l)) ∙ s.bytes) ∙ frame_kept l

module _ (line : List ℕ) (n b : ℕ) where
  pub kept_full : 65 ≤ n → KeptByte line n b n line
  unfolding has_place
  kept_full h = record {
    count = rw (le-ltb n 65 h);
    bytes = rw (le-ltb n 65 h);
    more = λ l s.
        let same : take 65 (l ++ (b ∷ [])) ≡ take 65 l = take-append-le 65 l (b ∷ []) (omega (arith, s.count, length-take 65 l)) in
        record { fits = s.fits; count = s.count ∙ ap length (sym same); bytes = s.bytes ∙ sym same };
  }

  -- a line too short to hold 65 bytes stands for none
  pub kept_out : n < 65 → length line ≤ n → KeptByte line n b n line
  unfolding has_place
  kept_out h less = record {
    count = rw (lt-ltb n 65 h, le-ltb n (length line) less);
    bytes = rw (lt-ltb n 65 h, le-ltb n (length line) less);
    more = λ l s. absurd (omega (arith, s.fits));
  }

  pub kept_more : (r : ℕ) → r ≡ n + 1 → n < 65 → n < length line → KeptByte line n b r (set line n b)
  unfolding has_place
  kept_more r e h less = record {
    count = rw (lt-ltb n 65 h, lt-ltb n (length line) less) e;
    bytes = rw (lt-ltb n 65 h, lt-ltb n (length line) less);
    more = λ l s.
        let short : length l ≡ n = omega (arith, s.count, length-take 65 l) in
        let size : length (l ++ (b ∷ [])) ≡ n + 1 = length-append l (b ∷ []) ∙ omega (arith, short) in
        let whole : take 65 l ≡ l = take_all 65 l (omega (arith, short)) in
        let all : take 65 (l ++ (b ∷ [])) ≡ l ++ (b ∷ []) = take_all 65 (l ++ (b ∷ [])) (omega (arith, size)) in
        record {
          fits = omega (arith, s.fits, length-set line n b);
          count = e ∙ (sym size ∙ ap length (sym all));
          bytes =
              rw (e, add-one n)
              (take-suc-set line n b less ∙ (ap (λ (x : List ℕ). x ++ (b ∷ [])) (s.bytes ∙ whole) ∙ sym all));
        };
  }

  -- a byte that is kept changes one place, and the count by one at most
  pub kept_place : {r : ℕ} {line' : List ℕ} → KeptByte line n b r line' → (r ≤ n + 1) × Only (λ i. (i < 65) × (i ≡ n)) line line'
  unfolding has_place
  kept_place {r} {line'} k = go (dec_lt n 65) (dec_lt n (length line))
    where
      go : Dec (n < 65) → Dec (n < length line) → (r ≤ n + 1) × Only (λ i. (i < 65) × (i ≡ n)) line line'
      go (yes h) (yes less) =
          let e : r ≡ n + 1 = rw (lt-ltb n 65 h, lt-ltb n (length line) less) at k.count in
          let is : line' ≡ set line n b = rw (lt-ltb n 65 h, lt-ltb n (length line) less) at k.bytes in
          (omega (arith, e), rw is (only_put line n b (h, refl)))
      go (yes h) (no f) =
          let e : r ≡ n = rw (lt-ltb n 65 h, le-ltb n (length line) (omega arith)) at k.count in
          let is : line' ≡ line = rw (lt-ltb n 65 h, le-ltb n (length line) (omega arith)) at k.bytes in
          (omega (arith, e), rw is only_none)
      go (no f) d =
          let e : r ≡ n = rw (le-ltb n 65 (omega arith)) at k.count in
          let is : line' ≡ line = rw (le-ltb n 65 (omega arith)) at k.bytes in
          (omega (arith, e), rw is only_none)
