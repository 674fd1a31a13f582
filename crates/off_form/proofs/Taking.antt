-- The word at a cursor, and what it says.
use mathlib.Core.Path.{◌≡◌, refl, sym, ap, ◌∙◌}
use mathlib.Core.Bool.{true, false}
use mathlib.Core.List.{List, [], ◌∷◌}
use Rattle.std.specs.Prelude.{Option, Some, None, Ok, Err}
use Rattle.std.proofs.lemmas.Option.{none-some}
use Prim.Native.Nat.{ℕ, ◌+◌, ◌-◌, ◌<◌, ◌≤◌}
use native.Mathlib.Decide.{dec_lt}
use native.Mathlib.Omega.{arith}
use lib.ListN.{length, take, drop}
use Rattle.lists.specs.Lists.{same}
use Rattle.off.specs.Words.{Word, word_at, words_from}
use Rattle.off.specs.Numbers.{Says, Is, Breaks, title, title_of}
use Rattle.off.specs.Reading.{Got, Stop, one}
use Rattle.off.specs.Scan.{gap, run}
use Rattle.off.specs.Forms.{next_of, said}
use Rattle.off.specs.declared.Span.{Span}
use Rattle.off.proofs.Values.{said_none, said_some}
use Rattle.off.proofs.Along.{next_none, next_some, word_ends, words_next}
use Rattle.off_form.specs.Took.{left, took, went, went_says}

-- the next word stands between two places
pub record Here (text : List ℕ) (at f g : ℕ) : Type 0 where
  pub some : f < g
  pub inside : g ≤ length text
  pub words : left text at ≡ word_at f (take (g - f) (drop f text)) ∷ left text g

no_words : (l : List Word) → next_of l ≡ None → l ≡ []
unfolding next_of
no_words [] e = refl
no_words (w ∷ ws) e = absurd (none-some _ (sym e))

module _ (text : List ℕ) (at : ℕ) (next : Option Span) (e : next ≡ next_of (words_from at (drop at text))) where
  pub here_none : next ≡ None → left text at ≡ []
  unfolding left
  here_none h = no_words (words_from at (drop at text)) (sym e ∙ h)

  here_at : (first behind : ℕ) → first ≡ at + gap (drop at text) → behind ≡ first + run (drop first text) → (s : Span)
      → next ≡ Some s → Here text at s.first s.behind.at
  unfolding left
  here_at first behind ef eb s h = go (dec_lt first (length text))
    where
      go : Dec (first < length text) → Here text at s.first s.behind.at
      go (yes l) =
          let q : Some s ≡ Some (record { first = first; behind = record { at = behind } }) = sym h ∙ (e ∙ sym (next_some text at first ef l behind eb)) in
          let same : s ≡ record { first = first; behind = record { at = behind } } = cc in
          let place : s.first ≡ first = ap (λ (k : Span). k.first) same in
          let stop : s.behind.at ≡ behind = ap (λ (k : Span). k.behind.at) same in
          let ends = word_ends text at first ef l behind eb in
          rw (place, stop) (record { some = ends.0; inside = ends.1; words = words_next text at first ef l behind eb })
      go (no l) = absurd (none-some s ((next_none text at first ef (omega arith)) ∙ (sym e ∙ h)))

  pub here_word : (s : Span) → next ≡ Some s → Here text at s.first s.behind.at
  here_word s h = here_at _ _ refl refl s h

-- what one word says, whatever it is read as
module _ {A : Type 0} (f : List ℕ → Says A) (text : List ℕ) (at : ℕ) where
  pub one_none : left text at ≡ [] → one f (length text) (left text at) ≡ Stop (length text)
  unfolding one
  one_none e = rw e

  module _ (p g : ℕ) (h : Here text at p g) where
    pub one_breaks : f (take (g - p) (drop p text)) ≡ Breaks → one f (length text) (left text at) ≡ Stop p
    unfolding one
    one_breaks e = rw (h.words, e, one)

    pub one_says : (a : A) → f (take (g - p) (drop p text)) ≡ Is a → one f (length text) (left text at) ≡ Got a (left text g)
    unfolding one
    one_says a e = rw (h.words, e, one)

-- a word at a cursor, read as f reads it
module _ {A : Type 0} (f : List ℕ → Says A) (text : List ℕ) (at : ℕ) (next : Option Span) (e : next ≡ next_of (words_from at (drop at text))) where
  pub took_none : next ≡ None → took {A = A} text (Err (record { place = length text })) ≡ one f (length text) (left text at)
  unfolding took
  took_none h = sym (one_none f text at (here_none text at next e h))

  module _ (s : Span) (h : next ≡ Some s) (value : Option A) (q : value ≡ said (f (take (s.behind.at - s.first) (drop s.first text)))) where
    pub took_breaks : value ≡ None → took {A = A} text (Err (record { place = s.first })) ≡ one f (length text) (left text at)
    unfolding took
    took_breaks b = sym (one_breaks f text at s.first s.behind.at (here_word text at next e s h) (said_none _ (sym b ∙ q)))

    pub took_is : (a : A) → value ≡ Some a → took text (Ok (a, s.behind)) ≡ one f (length text) (left text at)
    unfolding took
    took_is a b = sym (one_says f text at s.first s.behind.at (here_word text at next e s h) a (said_some _ a (sym b ∙ q)))

module _ (text : List ℕ) (at : ℕ) (next : Option Span) (e : next ≡ next_of (words_from at (drop at text))) where
  pub title_none : next ≡ None → went_says text (Err (record { place = length text })) ≡ went (one title_of (length text) (left text at))
  unfolding went_says went
  title_none h = rw (one_none title_of text at (here_none text at next e h))

  module _ (s : Span) (h : next ≡ Some s) where
    pub title_stops : same (take (s.behind.at - s.first) (drop s.first text)) title ≡ false
        → went_says text (Err (record { place = s.first })) ≡ went (one title_of (length text) (left text at))
    unfolding went_says went title_of
    title_stops b = rw (one_breaks title_of text at s.first s.behind.at (here_word text at next e s h) (rw b))

    pub title_on : same (take (s.behind.at - s.first) (drop s.first text)) title ≡ true
        → went_says text (Ok s.behind) ≡ went (one title_of (length text) (left text at))
    unfolding went_says went title_of
    title_on b =
        rw (one_says title_of text at s.first s.behind.at (here_word text at next e s h) (take (s.behind.at - s.first) (drop s.first text)) (rw b))
