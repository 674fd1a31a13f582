-- The words of a text, read from the left: what parts them is passed over, and a word goes as far as its bytes go.
use mathlib.Core.Path.{◌≡◌, refl, sym, ◌∙◌}
use mathlib.Core.Bool.{Bool, true, false, cond}
use mathlib.Core.List.{List, [], ◌∷◌}
use mathlib.Core.Logic.{⊎_elim}
use Prim.Native.Nat.{ℕ, suc, ◌+◌, ◌<◌, ◌≤◌}
use native.Mathlib.Omega.{arith}
use borrow.Author.Tests.{eq-eqb, ne_eqb}
use lib.Dec.{eqb}
use lib.ListN.{take, drop}
use Rattle.lists.proofs.Bools.{either}
use Rattle.off.specs.Words.{parts, Word, word_at, begun, words_from}
use Rattle.off.specs.Scan.{gap, run}

-- the place of the first word, or d where there is none
unfoldable first_place : ℕ → List Word → ℕ
first_place d [] = d
first_place d (w ∷ ws) = w.place

begun_start : (at b : ℕ) (ws : List Word) → first_place at (begun at b ws) ≡ at
unfolding first_place begun
begun_start at b [] = refl
begun_start at b (w ∷ ws) = go (eqb w.place (suc at))
  where
    go : (t : Bool) → first_place at (cond t (word_at at (b ∷ w.bytes) ∷ ws) (word_at at (b ∷ []) ∷ w ∷ ws)) ≡ at
    go true = refl
    go false = refl

-- no word stands before its text
words_start : (l : List ℕ) (at : ℕ) → at ≤ first_place at (words_from at l)
unfolding first_place words_from
words_start [] at = omega arith
words_start (b ∷ rest) at = go (parts b) (words_from (suc at) rest) (words_start rest (suc at))
  where
    go : (t : Bool) (ws : List Word) → suc at ≤ first_place (suc at) ws → at ≤ first_place at (cond t ws (begun at b ws))
    go true [] h = omega arith
    go true (w ∷ ws) h = omega arith
    go false ws h = omega (arith, begun_start at b ws)

begun_alone : (at b : ℕ) (ws : List Word) → suc at < first_place (suc (suc at)) ws → begun at b ws ≡ word_at at (b ∷ []) ∷ ws
unfolding first_place begun
begun_alone at b [] h = refl
begun_alone at b (w ∷ ws) h = rw (ne_eqb w.place (suc at) (λ (e : w.place ≡ suc at). omega arith))

begun_on : (at b : ℕ) (w : List ℕ) (ws : List Word) → begun at b (word_at (suc at) w ∷ ws) ≡ word_at at (b ∷ w) ∷ ws
unfolding begun
begun_on at b w ws = rw (eq-eqb (suc at) (suc at) refl)

-- one byte
pub words_gap : (b : ℕ) (l : List ℕ) (at : ℕ) → parts b ≡ true → words_from at (b ∷ l) ≡ words_from (suc at) l
unfolding words_from
words_gap b l at e = rw e

words_byte : (b : ℕ) (l : List ℕ) (at : ℕ) → parts b ≡ false → words_from at (b ∷ l) ≡ begun at b (words_from (suc at) l)
unfolding words_from
words_byte b l at e = rw e

pub words_none : (at : ℕ) → words_from at [] ≡ []
unfolding words_from
words_none at = refl

pub run_stop : (b : ℕ) (l : List ℕ) → parts b ≡ true → run (b ∷ l) ≡ 0
unfolding run
run_stop b l e = rw e

pub run_on : (b : ℕ) (l : List ℕ) → parts b ≡ false → run (b ∷ l) ≡ suc (run l)
unfolding run
run_on b l e = rw e

pub run_none : run [] ≡ 0
unfolding run
run_none = refl

pub gap_stop : (b : ℕ) (l : List ℕ) → parts b ≡ false → gap (b ∷ l) ≡ 0
unfolding gap
gap_stop b l e = rw e

pub gap_on : (b : ℕ) (l : List ℕ) → parts b ≡ true → gap (b ∷ l) ≡ suc (gap l)
unfolding gap
gap_on b l e = rw e

pub gap_none : gap [] ≡ 0
unfolding gap
gap_none = refl

words_last : (b at : ℕ)
    → begun at b (words_from (suc at) []) ≡ word_at at (b ∷ take (run []) []) ∷ words_from (at + suc (run [])) (drop (run []) [])
unfolding begun words_from run
words_last b at = refl

-- the first word of a text that begins with one
pub words_run : (b : ℕ) (l : List ℕ) (at : ℕ) → parts b ≡ false
    → words_from at (b ∷ l) ≡ word_at at (b ∷ take (run l) l) ∷ words_from (at + suc (run l)) (drop (run l) l)
words_run b [] at e = words_byte b [] at e ∙ words_last b at
words_run b (c ∷ l) at e =
    words_byte b (c ∷ l) at e ∙ ⊎_elim stops (λ p. goes p (words_run c l (suc at) p)) (either (parts c))
  where
    stops : parts c ≡ true
        → begun at b (words_from (suc at) (c ∷ l)) ≡ word_at at (b ∷ take (run (c ∷ l)) (c ∷ l)) ∷ words_from (at + suc (run (c ∷ l))) (drop (run (c ∷ l)) (c ∷ l))
    stops p =
        let there : suc at < first_place (suc (suc at)) (words_from (suc (suc at)) l) = omega (arith, words_start l (suc (suc at))) in
        let one : at + 1 ≡ suc at = omega arith in
        rw (run_stop c l p, one, words_gap c l (suc at) p) (begun_alone at b (words_from (suc (suc at)) l) there)

    goes : parts c ≡ false → words_from (suc at) (c ∷ l) ≡ word_at (suc at) (c ∷ take (run l) l) ∷ words_from (suc at + suc (run l)) (drop (run l) l)
        → begun at b (words_from (suc at) (c ∷ l)) ≡ word_at at (b ∷ take (run (c ∷ l)) (c ∷ l)) ∷ words_from (at + suc (run (c ∷ l))) (drop (run (c ∷ l)) (c ∷ l))
    goes p again =
        let place : at + suc (suc (run l)) ≡ suc at + suc (run l) = omega arith in
        rw (run_on c l p, again, place) (begun_on at b (c ∷ take (run l) l) (words_from (suc at + suc (run l)) (drop (run l) l)))

-- what stands before the first word is passed over
pub words_skip : (l : List ℕ) (at : ℕ) → words_from at l ≡ words_from (at + gap l) (drop (gap l) l)
words_skip [] at = rw (gap_none) (words_none at ∙ sym (words_none (at + 0)))
words_skip (b ∷ l) at = ⊎_elim (λ p. on p (words_skip l (suc at))) stop (either (parts b))
  where
    on : parts b ≡ true → words_from (suc at) l ≡ words_from (suc at + gap l) (drop (gap l) l) → words_from at (b ∷ l) ≡ words_from (at + gap (b ∷ l)) (drop (gap (b ∷ l)) (b ∷ l))
    on p again =
        let place : at + suc (gap l) ≡ suc at + gap l = omega arith in
        words_gap b l at p ∙ (again ∙ rw (gap_on b l p, place))

    stop : parts b ≡ false → words_from at (b ∷ l) ≡ words_from (at + gap (b ∷ l)) (drop (gap (b ∷ l)) (b ∷ l))
    stop p = let place : at + 0 ≡ at = omega arith in rw (gap_stop b l p, place)
