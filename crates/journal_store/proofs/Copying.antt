-- Words copied one by one, and entries moved.
use mathlib.Core.Path.{◌≡◌, refl, sym, ap, ◌∙◌, subst}
use mathlib.Core.Bool.{cond}
use mathlib.Core.List.{List, ◌++◌}
use mathlib.Core.Logic.{◌⊎◌, ⊎_elim}
use Prim.Native.Nat.{ℕ, ◌+◌, ◌-◌, ◌*◌, ◌<◌, ◌≤◌, min}
use native.Mathlib.Decide.{dec_lt}
use native.Mathlib.Nat.{eq-or-lt_of_le}
use native.Mathlib.Omega.{arith}
use borrow.Author.Tests.{lt-ltb, le-ltb}
use lib.Dec.{ltb}
use lib.ListN.{length, get_or, set, take, drop, replicate, length-replicate, get_or-append, get_or-eq_default}
use lib.Seq.{get_or-append-add, length-take-le}
use borrow.Rule.Slice.PartMut.{put_mid}
use Rattle.std.proofs.lemmas.List.{places}
use Rattle.words.specs.Words.{part_of, Only}
use Rattle.words.proofs.Fits.{part_length, part_word}
use Rattle.words.proofs.Frame.{read_same, read_other, only_none, only_then, only_put, only_wider}
use Rattle.journal_store.specs.Entries.{head_words, entry_words}
use Rattle.journal_store.specs.Writes.{From, Copied, Moved}

pub copied_start : (l w : List ℕ) (at i : ℕ) → i ≡ 0 → Copied l at i w w
copied_start l w at i z = record { only = only_none; words = λ k h m. absurd (omega arith) }

-- one word more
module _ (l w w' w'' : List ℕ) (at i p v : ℕ) where
  pub copied_more : Copied l at i w w' → w'' ≡ set w' p v → p ≡ at + i → v ≡ get_or l i 0 → Copied l at (i + 1) w w''
  copied_more c e ep ev = rw (e, ep, ev) (record {
    only = only_then (only_wider (λ k h. (h.0, omega arith)) c.only) (only_put w' (at + i) (get_or l i 0) (omega arith, omega arith));
    words = λ k h m. go k m (eq-or-lt_of_le {n = k} {m = i} (omega arith));
  })
    where
      go : (k : ℕ) → at + k < length w → (k ≡ i) ⊎ (k < i) → get_or (set w' (at + i) (get_or l i 0)) (at + k) 0 ≡ get_or l k 0
      go k m = ⊎_elim (λ z. rw z (read_same w' (at + i) (get_or l i 0) (omega (arith, c.only.size))))
          (λ less. read_other w' (at + i) (get_or l i 0) (at + k) (λ q. omega arith) ∙ c.words k less m)

-- all of them, or memory ends
module _ (l w w' : List ℕ) (at i n : ℕ) (c : Copied l at i w w') (few : i ≤ n) where
  pub copied_all : n ≤ i → Copied l at n w w'
  copied_all h = let same : i ≡ n = omega arith in rw same at c

  pub copied_short : (p : ℕ) → p ≡ at + i → length w' ≤ p → Copied l at n w w'
  copied_short p e h = record {
    only = only_wider (λ k q. (q.0, omega arith)) c.only;
    words = λ k less m. c.words k (omega (arith, c.only.size)) m;
  }

-- a list behind another
pub copied_then : (a b w w' w'' : List ℕ) (at next n k all : ℕ) → Copied a at n w w' → Copied b next k w' w'' → next ≡ at + n → length a ≡ n → all ≡ n + k
    → Copied (a ++ b) at all w w''
copied_then a b w w' w'' at next n k all c d en size ea = record {
  only = only_then (only_wider (λ i q. (q.0, omega arith)) c.only) (only_wider (λ i q. (omega arith, omega arith)) d.only);
  words = λ i less m. go i less m (dec_lt i n);
}
  where
    go : (i : ℕ) → i < all → at + i < length w → Dec (i < n) → get_or w'' (at + i) 0 ≡ get_or (a ++ b) i 0
    go i less m (yes h) =
        d.only.same (at + i) (λ q. omega arith) ∙ (c.words i h m ∙ sym (get_or-append a b 0 i (omega arith)))
    go i less m (no f) =
        let e : next + (i - n) ≡ at + i = omega arith in
        let z : length a + (i - n) ≡ i = omega arith in
        subst (λ (x : ℕ). get_or w'' x 0 ≡ get_or b (i - n) 0) e (d.words (i - n) (omega arith) (omega (arith, c.only.size)))
        ∙ subst (λ (x : ℕ). get_or b (i - n) 0 ≡ get_or (a ++ b) x 0) z (sym (get_or-append-add a b (i - n) 0))

-- a list written over a part, as long as the part
pub copied_part : (w ys : List ℕ) (at k n : ℕ) → at + n ≤ length w → length ys ≡ n → k ≡ n → Copied ys at n w (put_mid at k w ys)
copied_part w ys at k n fits size e = record {
  only = record { size = grind (arith, places); same = λ x ne. outside x ne (dec_lt x at) (dec_lt x (at + n)) };
  words = λ i less m. grind (arith, places);
}
  where
    outside : (x : ℕ) → (From at n x → ⊥) → Dec (x < at) → Dec (x < at + n) → get_or (put_mid at k w ys) x 0 ≡ get_or w x 0
    outside x ne (yes h) d = grind (arith, places)
    outside x ne (no f) (yes l) = absurd (ne (omega arith, l))
    outside x ne (no f) (no g) = grind (arith, places)

-- the words of a list, and 0 behind them, up to the end of memory
module _ (l w w' zs : List ℕ) (at n p c : ℕ) where
  pub copied_filled : at ≤ length w → p ≡ min n (length w - at) → c ≡ min p (length l) → Copied l at c w w'
      → zs ≡ replicate (length (take (at + p - (at + c)) (drop (at + c) w'))) 0
      → Copied l at n w (put_mid (at + c) (at + p - (at + c)) w' zs)
  copied_filled inside ep ec front ez = record {
    only = only_wider (λ k q. (q.0, omega arith)) both.only;
    words = λ i less m. both.words i (omega arith) m ∙ like i (omega arith) (dec_lt i c);
  }
    where
      head : Copied (take c l) at c w w'
      head = record { only = front.only; words = λ i less m. front.words i less m ∙ grind (arith, places) }

      rest : length (take (at + p - (at + c)) (drop (at + c) w')) ≡ p - c
      rest = grind (arith, places, front.only.size)

      zeros : zs ≡ replicate (p - c) 0
      zeros = ez ∙ ap (λ (k : ℕ). replicate k 0) rest

      padded : length zs ≡ p - c
      padded = rw zeros (length-replicate (p - c) 0)

      both : Copied (take c l ++ zs) at p w (put_mid (at + c) (at + p - (at + c)) w' zs)
      both =
          copied_then (take c l) zs w w' (put_mid (at + c) (at + p - (at + c)) w' zs) at (at + c) c (p - c) p head
          (copied_part w' zs (at + c) (at + p - (at + c)) (p - c) (omega (arith, front.only.size)) padded (omega arith))
          refl (length-take-le c l (omega arith)) (omega arith)

      like : (i : ℕ) → i < p → Dec (i < c) → get_or (take c l ++ zs) i 0 ≡ get_or l i 0
      like i less (yes h) = grind (arith, places)
      like i less (no f) = rw zeros (grind (arith, places, get_or-eq_default l 0 {n = i}))

-- the words moved so far
pub record Moving (n k i : ℕ) (w w' : List ℕ) : Type 0 where
  pub only : Only (From head_words i) w w'
  pub words : head_words + entry_words * n ≤ length w → (h : ℕ) → h < i
      → get_or w' (head_words + h) 0 ≡ cond (ltb (h + entry_words * k) (entry_words * n)) (get_or w (head_words + h + entry_words * k) 0) 0

pub moving_start : (n k i : ℕ) (w : List ℕ) → i ≡ 0 → Moving n k i w w
moving_start n k i w z = record { only = only_none; words = λ m h less. absurd (omega arith) }

pub moving_end : (n k i : ℕ) (w w' : List ℕ) → Moving n k i w w' → i ≡ entry_words * n → Moved n k w w'
moving_end n k i w w' m e = record { only = rw e at m.only; words = λ q h less. m.words q h (omega arith) }

-- a word of the first ones, 0 behind them
pub among : (w : List ℕ) (x end : ℕ) → end ≤ length w → get_or (part_of w 0 end) x 0 ≡ cond (ltb x end) (get_or w x 0) 0
among w x end h = go (dec_lt x end)
  where
    go : Dec (x < end) → get_or (part_of w 0 end) x 0 ≡ cond (ltb x end) (get_or w x 0) 0
    go (yes l) =
        let e : 0 + x ≡ x = omega arith in
        rw (lt-ltb x end l) (part_word w 0 end x (omega arith) l ∙ ap (λ (i : ℕ). get_or w i 0) e)
    go (no f) =
        rw (le-ltb x end (omega arith)) (get_or-eq_default (part_of w 0 end) 0 {n = x} (omega (arith, part_length w 0 end (omega arith))))

-- one word more
module _ (n k i p v all at : ℕ) (w w' w'' first : List ℕ) (m : Moving n k i w w') (few : i < entry_words * n) where
  pub moving_more : all ≡ head_words + entry_words * n → first ≡ part_of w' 0 all → at ≡ head_words + i + entry_words * k → v ≡ get_or first at 0
      → p ≡ head_words + i → w'' ≡ set w' p v → Moving n k (i + 1) w w''
  moving_more ea ef et ev ep e = rw (e, ep) (record {
    only = only_then (only_wider (λ h q. (q.0, omega arith)) m.only) (only_put w' (head_words + i) v (omega arith, omega arith));
    words = λ q h less. go q h (eq-or-lt_of_le {n = h} {m = i} (omega arith));
  })
    where
      value : head_words + entry_words * n ≤ length w → v ≡ cond (ltb (i + entry_words * k) (entry_words * n)) (get_or w (head_words + i + entry_words * k) 0) 0
      value q = ev ∙ (ap (λ (l : List ℕ). get_or l at 0) ef ∙ (among w' at all (omega (arith, m.only.size)) ∙ test (dec_lt at all)))
        where
          test : Dec (at < all) → cond (ltb at all) (get_or w' at 0) 0 ≡ cond (ltb (i + entry_words * k) (entry_words * n)) (get_or w (head_words + i + entry_words * k) 0) 0
          test (yes l) =
              rw (lt-ltb at all l, lt-ltb (i + entry_words * k) (entry_words * n) (omega arith))
              (m.only.same at (λ z. omega arith) ∙ ap (λ (x : ℕ). get_or w x 0) et)
          test (no f) = rw (le-ltb at all (omega arith), le-ltb (i + entry_words * k) (entry_words * n) (omega arith))

      go : head_words + entry_words * n ≤ length w → (h : ℕ) → (h ≡ i) ⊎ (h < i)
          → get_or (set w' (head_words + i) v) (head_words + h) 0 ≡ cond (ltb (h + entry_words * k) (entry_words * n)) (get_or w (head_words + h + entry_words * k) 0) 0
      go q h = ⊎_elim (λ z. rw z (read_same w' (head_words + i) v (omega (arith, m.only.size)) ∙ value q))
          (λ less. read_other w' (head_words + i) v (head_words + h) (λ z. omega arith) ∙ m.words q h less)

-- a word that was copied, by its place
pub copied_word : {l w w' : List ℕ} {at n : ℕ} → Copied l at n w w' → (i p : ℕ) → p ≡ at + i → i < n → p < length w → get_or w' p 0 ≡ get_or l i 0
copied_word {l} {w} {w'} c i p e h m = subst (λ (x : ℕ). get_or w' x 0 ≡ get_or l i 0) (sym e) (c.words i h (omega arith))
