-- Bytes appended one after another.
use mathlib.Core.Path.{◌≡◌, refl, sym, ap, ◌∙◌}
use mathlib.Core.List.{List, [], ◌∷◌, ◌++◌}
use Prim.Native.Nat.{ℕ, zero, suc, ◌+◌, ◌<◌, ◌≤◌}
use native.Mathlib.Nat.{zero-add, suc-add}
use native.Mathlib.Decide.{dec_lt}
use native.Mathlib.Omega.{arith}
use borrow.Author.Tests.{lt-ltb, le-ltb}
use lib.ListN.{length, set, take, drop, length-set, length-append}
use lib.Seq.{sets, set_out, length-sets, sets-eq}
use Rattle.frames.specs.Forms.{place_after, Appended}

pub sets_out : (l : List ℕ) (o : List ℕ) (at : ℕ) → length o ≤ at → sets o at l ≡ o
sets_out [] o at h = refl
sets_out (x ∷ xs) o at h =
    sets_out xs (set o at x) (suc at) (omega (arith, length-set o at x)) ∙ set_out o at x h

place_none : (room at : ℕ) → place_after room at 0 ≡ at
unfolding place_after
place_none room at = refl

-- a place further on, or the same where the room is full
place_on : (room at n : ℕ) → at < room → place_after room at (suc n) ≡ place_after room (suc at) n
unfolding place_after
place_on room at n h = rw (lt-ltb at room h)

place_full : (room at n : ℕ) → room ≤ at → place_after room at n ≡ at
unfolding place_after
place_full room at zero h = refl
place_full room at (suc n) h = rw (le-ltb at room h)

pub place_more : (room at n m : ℕ) → place_after room (place_after room at n) m ≡ place_after room at (n + m)
place_more room at zero m = ap (λ (k : ℕ). place_after room k m) (place_none room at) ∙ ap (place_after room at) (sym (zero-add m))
place_more room at (suc n) m = go (dec_lt at room) (place_more room (suc at) n m)
  where
    go : Dec (at < room) → place_after room (place_after room (suc at) n) m ≡ place_after room (suc at) (n + m)
        → place_after room (place_after room at (suc n)) m ≡ place_after room at (suc n + m)
    go (yes h) e = rw (place_on room at n h, suc-add n m, place_on room at (n + m) h) e
    go (no f) e =
        let h : room ≤ at = omega arith in
        rw (place_full room at (suc n) h, place_full room at m h, place_full room at (suc n + m) h)

pub place_fits : (room at n : ℕ) → at + n ≤ room → place_after room at n ≡ at + n
place_fits room at zero h = place_none room at ∙ omega arith
place_fits room at (suc n) h = place_on room at n (omega arith) ∙ (place_fits room (suc at) n (omega arith) ∙ omega arith)

-- one list after another is both
sets_more : (a b o : List ℕ) (at : ℕ) → sets (sets o at a) (place_after (length o) at (length a)) b ≡ sets o at (a ++ b)
sets_more [] b o at = ap (λ (k : ℕ). sets o k b) (place_none (length o) at)
sets_more (x ∷ xs) b o at = go (dec_lt at (length o)) (sets_more xs b (set o at x) (suc at))
  where
    go : Dec (at < length o)
        → sets (sets (set o at x) (suc at) xs) (place_after (length (set o at x)) (suc at) (length xs)) b ≡ sets (set o at x) (suc at) (xs ++ b)
        → sets (sets (set o at x) (suc at) xs) (place_after (length o) at (suc (length xs))) b ≡ sets (set o at x) (suc at) (xs ++ b)
    go (yes h) e = rw (place_on (length o) at (length xs) h) (rw (length-set o at x) at e)
    go (no f) e =
        let h : length o ≤ at = omega arith in
        rw (place_full (length o) at (suc (length xs)) h, set_out o at x h, sets_out xs o (suc at) (omega arith), sets_out b o at h, sets_out (xs ++ b) o (suc at) (omega arith))

pub append_none : (o : List ℕ) (at : ℕ) → Appended [] o at at o
append_none o at = record { bytes = refl; place = sym (place_none (length o) at) }

pub append_one : (o : List ℕ) (at b : ℕ) → at < length o → Appended (b ∷ []) o at (at + 1) (set o at b)
append_one o at b h = record { bytes = refl; place = sym (place_fits (length o) at 1 (omega arith)) }

pub append_full : (o : List ℕ) (at b : ℕ) → length o ≤ at → Appended (b ∷ []) o at at o
append_full o at b h = record { bytes = sym (set_out o at b h); place = sym (place_full (length o) at 1 h) }

pub append_more : (a b : List ℕ) {o o' o'' : List ℕ} {at p q : ℕ} → Appended a o at p o' → Appended b o' p q o'' → Appended (a ++ b) o at q o''
append_more a b {o} {o'} {o''} {at} {p} {q} f g = record {
  bytes = g.bytes ∙ (rw (f.bytes, f.place) (sets_more a b o at));
  place = g.place ∙ rw (f.bytes, length-sets o at a, f.place, length-append a b) (place_more (length o) at (length a) (length b));
}

pub append_same : {a b : List ℕ} {o o' : List ℕ} {at r : ℕ} → a ≡ b → Appended a o at r o' → Appended b o at r o'
append_same e f = rw e at f

-- where the room suffices: the first places as they were, then the bytes, and the rest as it was
pub append_fits : (l : List ℕ) {o o' : List ℕ} {at r : ℕ} → Appended l o at r o' → at + length l ≤ length o
    → (r ≡ at + length l) × (o' ≡ take at o ++ l ++ drop (at + length l) o)
append_fits l {o} {o'} {at} {r} f h = (f.place ∙ place_fits (length o) at (length l) h, f.bytes ∙ sets-eq l o at h)

-- the length stays
pub append_length : (l : List ℕ) {o o' : List ℕ} {at r : ℕ} → Appended l o at r o' → length o' ≡ length o
append_length l {o} {o'} {at} {r} f = ap length f.bytes ∙ length-sets o at l
