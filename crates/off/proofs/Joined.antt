-- Words joined by what parts them are read back as those words.
use mathlib.Core.Path.{◌≡◌, refl, ap, ◌∙◌}
use mathlib.Core.Bool.{Bool, true, false, not, ◌&&◌}
use mathlib.Core.List.{List, [], ◌∷◌, ◌++◌, append_assoc}
use Prim.Native.Nat.{ℕ, suc, ◌+◌}
use native.Mathlib.Nat.{not-suc-le-zero}
use borrow.Author.Tests.{ltb-true}
use lib.Dec.{ltb}
use lib.ListN.{length}
use lib.Seq.{take_at, drop_at}
use Rattle.lists.specs.Lists.{all}
use Rattle.lists.proofs.Bools.{and_left, and_right, not_false_true}
use Rattle.off.specs.Words.{parts, Word, word_at, words_from}
use Rattle.off.specs.Scan.{run}
use Rattle.off.specs.Writing.{behind, line}
use Rattle.off.proofs.Words.{words_run, words_gap, run_stop, run_on}

-- a byte that parts no words
unfoldable pub plain : ℕ → Bool
plain b = not (parts b)

-- a word that can stand in a text: some bytes, none of which parts words
unfoldable pub fine : List ℕ → Bool
fine w = ltb 0 (length w) && all plain w

-- the bytes of words, whatever their places
unfoldable pub spelled : List Word → List (List ℕ)
spelled [] = []
spelled (w ∷ ws) = w.bytes ∷ spelled ws

-- the words of a text, wherever it stands
abbrev pub Spells : List ℕ → List (List ℕ) → Type 0
Spells l ws = (at : ℕ) → spelled (words_from at l) ≡ ws

run_joined : (w : List ℕ) (p : ℕ) (rest : List ℕ) → all plain w ≡ true → parts p ≡ true → run (w ++ (p ∷ rest)) ≡ length w
unfolding all plain
run_joined [] p rest a e = run_stop p rest e
run_joined (b ∷ w) p rest a e =
    run_on b (w ++ (p ∷ rest)) (not_false_true (parts b) (and_left _ _ a)) ∙ ap suc (run_joined w p rest (and_right (not (parts b)) _ a) e)

-- a word and the byte behind it
pub words_joined : (w : List ℕ) (p : ℕ) (rest : List ℕ) (at : ℕ) → fine w ≡ true → parts p ≡ true
    → words_from at (w ++ (p ∷ rest)) ≡ word_at at w ∷ words_from (suc (at + length w)) rest
unfolding fine all plain
words_joined [] p rest at a e = absurd (not-suc-le-zero (ltb-true 0 0 (and_left (ltb 0 0) true a)))
words_joined (b ∷ w) p rest at a e =
    let bytes : not (parts b) && all plain w ≡ true = and_right (ltb 0 (suc (length w))) _ a in
    let first : parts b ≡ false = not_false_true (parts b) (and_left (not (parts b)) (all plain w) bytes) in
    let size : run (w ++ (p ∷ rest)) ≡ length w = run_joined w p rest (and_right (not (parts b)) (all plain w) bytes) e in
    words_run b (w ++ (p ∷ rest)) at first
    ∙ rw (size, take_at w (p ∷ rest) (length w) refl, drop_at w (p ∷ rest) (length w) refl, words_gap p rest (at + suc (length w)) e)

pub spells_none : Spells [] []
unfolding spelled words_from
spells_none at = refl

pub spells_word : (w : List ℕ) (p : ℕ) (rest : List ℕ) (ws : List (List ℕ)) → fine w ≡ true → parts p ≡ true → Spells rest ws
    → Spells (w ++ (p ∷ rest)) (w ∷ ws)
unfolding spelled
spells_word w p rest ws a e s at = rw (words_joined w p rest at a e, s (suc (at + length w)))

space_parts : parts 32 ≡ true
unfolding parts
space_parts = refl

end_parts : parts 10 ≡ true
unfolding parts
end_parts = refl

-- a line's words, and those of the text behind it
pub spells_line : (w : List ℕ) (us : List (List ℕ)) (rest : List ℕ) (vs : List (List ℕ)) → fine w ≡ true → all fine us ≡ true → Spells rest vs
    → Spells (line w us ++ rest) (w ∷ (us ++ vs))
unfolding line behind all
spells_line w [] rest vs a b s = rw (append_assoc w (10 ∷ []) rest) (spells_word w 10 rest vs a end_parts s)
spells_line w (u ∷ us) rest vs a b s =
    rw (append_assoc w (32 ∷ (u ++ behind us)) rest)
    (spells_word w 32 ((u ++ behind us) ++ rest) (u ∷ (us ++ vs)) a space_parts (spells_line u us rest vs (and_left (fine u) (all fine us) b) (and_right (fine u) (all fine us) b) s))
