-- Journals that were written: with no entry, with one entry more, with the first entries gone; and two of one history.
use mathlib.Core.Path.{◌≡◌, refl, sym, ap, ◌∙◌, subst}
use mathlib.Core.List.{List, [], ◌∷◌, ◌++◌}
use Prim.Native.Nat.{ℕ, zero, suc, ◌+◌, ◌-◌, ◌*◌, ◌/◌, ◌%◌, ◌<◌, ◌≤◌}
use native.Mathlib.Decide.{ℕ_discrete, dec_lt}
use native.Mathlib.Omega.{arith}
use borrow.Author.Tests.{lt-ltb, le-ltb}
use lib.ListN.{length, get_or, take, drop, length-append, length-drop}
use lib.Seq.{ext_get_or, get_or-take, length-take-le}
use Rattle.words.specs.Words.{Only}
use Rattle.words.proofs.Frame.{only_then, only_wider}
use Rattle.numbers.specs.declared.Caps.{Caps}
use Rattle.journal_store.specs.Days.{Dated}
use Rattle.journal_store.specs.Entries.{head_words, entry_words, places_of, used_of, entry_at, head_of, words_of, words_at}
use Rattle.journal_store.specs.Journals.{entries_in, fold_in, Pictured}
use Rattle.journal_store.specs.Writes.{From, Copied, Moved}
use Rattle.journal_store.proofs.Copying.{copied_word}
use Rattle.journal_store.proofs.Reading.{places_fit, place_fits, words_none, head_entries, head_fold}

-- a word of the head, and one of an entry, after a head was written
module _ (caps : Caps) (entries last ever fold : ℕ) (j j' : List ℕ) (c : Copied (head_of caps entries last ever fold) 0 head_words j j') where
  pub head_word_lem : (i : ℕ) → i < head_words → head_words ≤ length j → get_or j' i 0 ≡ get_or (head_of caps entries last ever fold) i 0
  head_word_lem i h long = copied_word c i i (omega arith) h (omega arith)

  pub head_same : (i : ℕ) → head_words ≤ i → get_or j' i 0 ≡ get_or j i 0
  head_same i h = c.only.same i (λ q. omega arith)

-- only words that a journal uses
pub used_head : (words : ℕ) (w w' : List ℕ) → Only (From 0 head_words) w w' → Only (λ i. i < used_of words) w w'
unfolding used_of
used_head words w w' o = only_wider (λ i q. omega arith) o

-- no entry
module _ (j j₁ j' : List ℕ) (caps : Caps) (used : ℕ) (eu : used ≡ used_of (length j)) (clear : Copied [] 0 used j j₁)
    (c : Copied (head_of caps 0 0 0 0) 0 head_words j₁ j') where
  pub begun_only : Only (λ i. i < used_of (length j)) j j'
  begun_only = only_then (only_wider (λ i q. omega arith) clear.only) (used_head (length j) j₁ j' c.only)

  pub begun_pictured : head_words ≤ length j → Pictured j' caps [] 0 0 0
  unfolding words_at used_of
  begun_pictured long = record {
    long = omega (arith, begun_only.size);
    fits = omega arith;
    head = λ i h. head_word_lem caps 0 0 0 0 j₁ j' c i h (omega (arith, clear.only.size));
    entry = λ k f less h.
        let size : length j' ≡ length j = begun_only.size in
        let few : k < places_of (length j) = rw size at less in
        head_same caps 0 0 0 0 j₁ j' c (entry_at k + f) (omega arith)
        ∙ copied_word clear (entry_at k + f) (entry_at k + f) (omega arith) (omega arith) (omega (arith, place_fits (length j) k long few));
  }

-- the words of the entry at the end, and of each other
pub words_end : (es : List Dated) (e : Dated) (k : ℕ) → k ≡ length es → words_at (es ++ (e ∷ [])) k ≡ words_of e
unfolding words_at
words_end [] e k z = rw z
words_end (x ∷ es) e zero z = absurd (omega arith)
words_end (x ∷ es) e (suc k) z = words_end es e k (omega arith)

pub words_other : (es : List Dated) (e : Dated) (k : ℕ) → (k ≡ length es → ⊥) → words_at (es ++ (e ∷ [])) k ≡ words_at es k
unfolding words_at
words_other [] e zero f = absurd (f refl)
words_other [] e (suc k) f = refl
words_other (x ∷ es) e zero f = refl
words_other (x ∷ es) e (suc k) f = words_other es e k (λ z. f (omega arith))

-- one more entry
module _ (j j₁ j' words : List ℕ) (caps : Caps) (n more day ever fold : ℕ) (en : n ≡ entries_in j) (em : more ≡ n + 1) (ef : fold ≡ fold_in j)
    (room : n < places_of (length j)) (entry : Copied words (entry_at n) entry_words j j₁) (c : Copied (head_of caps more day ever fold) 0 head_words j₁ j') where
  pub append_only : Only (λ i. i < used_of (length j)) j j'
  unfolding used_of
  append_only = only_then (only_wider (λ i q. omega arith) entry.only) (used_head (length j) j₁ j' c.only)

  pub append_pictured : (es : List Dated) (last ever₀ fold₀ : ℕ) (e : Dated) → words_of e ≡ words → Pictured j caps es last ever₀ fold₀
      → Pictured j' caps (es ++ (e ∷ [])) day ever fold₀
  append_pictured es last ever₀ fold₀ e we p = record {
    long = omega (arith, p.long);
    fits = rw (size, length-append es (e ∷ []), ← here) (omega arith);
    head = λ i h.
        head_word_lem caps more day ever fold j₁ j' c i h (omega (arith, entry.only.size, p.long))
        ∙ ap (λ (x : ℕ). get_or (head_of caps x day ever fold) i 0) count
        ∙ ap (λ (x : ℕ). get_or (head_of caps (length (es ++ (e ∷ []))) day ever x) i 0) (ef ∙ head_fold j caps es last ever₀ fold₀ p);
    entry = λ k f less h.
        head_same caps more day ever fold j₁ j' c (entry_at k + f) (omega arith) ∙ go k f (rw size at less) h (ℕ_discrete k n);
  }
    where
      size : length j' ≡ length j
      size = append_only.size

      here : n ≡ length es
      here = en ∙ head_entries j caps es last ever₀ fold₀ p

      count : more ≡ length (es ++ (e ∷ []))
      count = em ∙ (ap (λ (x : ℕ). x + 1) here ∙ sym (length-append es (e ∷ [])))

      go : (k f : ℕ) → k < places_of (length j) → f < entry_words → Dec (k ≡ n) → get_or j₁ (entry_at k + f) 0 ≡ get_or (words_at (es ++ (e ∷ [])) k) f 0
      go k f less h (yes z) =
          copied_word entry f (entry_at k + f) (rw z) h (omega (arith, place_fits (length j) k p.long less))
          ∙ sym (ap (λ (l : List ℕ). get_or l f 0) (words_end es e k (z ∙ here) ∙ we))
      go k f less h (no z) =
          entry.only.same (entry_at k + f) (λ q. z (omega arith))
          ∙ (p.entry k f less h ∙ sym (ap (λ (l : List ℕ). get_or l f 0) (words_other es e k (λ q. z (q ∙ sym here)))))

-- the words behind the first k entries
words_behind : (es : List Dated) (k q p : ℕ) → p ≡ k + q → words_at (drop k es) q ≡ words_at es p
unfolding words_at
words_behind es zero q p e = let z : q ≡ p = omega arith in rw z
words_behind [] (suc k) q p e = refl
words_behind (x ∷ es) (suc k) q zero e = absurd (omega arith)
words_behind (x ∷ es) (suc k) q (suc p) e = words_behind es k q p (omega arith)

-- the first entries gone
module _ (j j₁ j' : List ℕ) (caps : Caps) (n k left last ever fold : ℕ) (few : k ≤ n) (el : left ≡ n - k) (fits : n ≤ places_of (length j)) (moved : Moved n k j j₁)
    (c : Copied (head_of caps left last ever fold) 0 head_words j₁ j') where
  pub moved_only : Only (λ i. i < used_of (length j)) j j'
  unfolding used_of
  moved_only = only_then (only_wider (λ i q. omega arith) moved.only) (used_head (length j) j₁ j' c.only)

  pub moved_pictured : (es : List Dated) (last₀ ever₀ fold₀ : ℕ) → n ≡ length es → Pictured j caps es last₀ ever₀ fold₀ → Pictured j' caps (drop k es) last ever fold
  unfolding used_of
  moved_pictured es last₀ ever₀ fold₀ here p = record {
    long = omega (arith, p.long);
    fits = rw (size, length-drop k es) (omega arith);
    head = λ i h.
        head_word_lem caps left last ever fold j₁ j' c i h (omega (arith, moved.only.size, p.long))
        ∙ ap (λ (x : ℕ). get_or (head_of caps x last ever fold) i 0) (el ∙ (ap (λ (x : ℕ). x - k) here ∙ sym (length-drop k es)));
    entry = λ q f less h.
        head_same caps left last ever fold j₁ j' c (entry_at q + f) (omega arith)
        ∙ (go q f (rw size at less) h (dec_lt q n) (dec_lt (k + q) n) ∙ sym (ap (λ (l : List ℕ). get_or l f 0) (words_behind es k q (k + q) refl)));
  }
    where
      size : length j' ≡ length j
      size = moved_only.size

      long : head_words + entry_words * n ≤ length j
      long = omega (arith, places_fit (length j) p.long)

      none : (q f : ℕ) → n ≤ q → get_or (words_at es q) f 0 ≡ 0
      none q f h = ap (λ (l : List ℕ). get_or l f 0) (words_none es q (omega arith))

      go : (q f : ℕ) → q < places_of (length j) → f < entry_words → Dec (q < n) → Dec (k + q < n) → get_or j₁ (entry_at q + f) 0 ≡ get_or (words_at es (k + q)) f 0
      go q f less h (yes l) (yes m) =
          let a : entry_at q + f ≡ head_words + (entry_words * q + f) = omega arith in
          let b : head_words + (entry_words * q + f) + entry_words * k ≡ entry_at (k + q) + f = omega arith in
          ap (λ (x : ℕ). get_or j₁ x 0) a
          ∙ (moved.words long (entry_words * q + f) (omega arith)
          ∙ (rw (lt-ltb (entry_words * q + f + entry_words * k) (entry_words * n) (omega arith))
          (ap (λ (x : ℕ). get_or j x 0) b ∙ p.entry (k + q) f (omega arith) h)))
      go q f less h (yes l) (no m) =
          let a : entry_at q + f ≡ head_words + (entry_words * q + f) = omega arith in
          ap (λ (x : ℕ). get_or j₁ x 0) a
          ∙ (moved.words long (entry_words * q + f) (omega arith)
          ∙ (rw (le-ltb (entry_words * q + f + entry_words * k) (entry_words * n) (omega arith)) (sym (none (k + q) f (omega arith)))))
      go q f less h (no l) m =
          moved.only.same (entry_at q + f) (λ z. omega arith)
          ∙ (p.entry q f less h ∙ (none q f (omega arith) ∙ sym (none (k + q) f (omega arith))))

-- two journals of one length and one history have the same words, but for those behind the last edit that fits
pub pictured_one : (a b : List ℕ) (caps : Caps) (es : List Dated) (last ever fold : ℕ) → length a ≡ length b → Pictured a caps es last ever fold
    → Pictured b caps es last ever fold → take (used_of (length a)) a ≡ take (used_of (length b)) b
unfolding used_of
pictured_one a b caps es last ever fold size p q =
    ext_get_or 0 (take (used_of (length a)) a) (take (used_of (length b)) b)
    (length-take-le (used_of (length a)) a (places_fit (length a) p.long) ∙ (ap used_of size ∙ sym (length-take-le (used_of (length b)) b (places_fit (length b) q.long))))
    (λ i h.
    let less : i < used_of (length a) = omega (arith, length-take-le (used_of (length a)) a (places_fit (length a) p.long)) in
    get_or-take (used_of (length a)) a i 0 less ∙ (word i less (dec_lt i head_words) ∙ sym (get_or-take (used_of (length b)) b i 0 (rw (sym size) less))))
  where
    word : (i : ℕ) → i < used_of (length a) → Dec (i < head_words) → get_or a i 0 ≡ get_or b i 0
    word i less (yes h) = p.head i h ∙ sym (q.head i h)
    word i less (no f) =
        let k = (i - head_words) / 16 in
        let r = (i - head_words) % 16 in
        let e : entry_at k + r ≡ i = omega arith in
        let few : k < places_of (length a) = omega arith in
        let small : r < entry_words = omega arith in
        subst (λ (x : ℕ). get_or a x 0 ≡ get_or b x 0) e (p.entry k r few small ∙ sym (q.entry k r (rw (sym size) few) small))
