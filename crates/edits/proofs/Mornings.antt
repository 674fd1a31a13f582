-- Lists of edits: one alone, two one after another, how many edits there are.
use mathlib.Core.Path.{◌≡◌, refl, sym, ap, ◌∙◌}
use mathlib.Core.Bool.{Bool, true, false, cond}
use mathlib.Core.List.{List, [], ◌∷◌, ◌++◌}
use Prim.Native.Nat.{ℕ, zero, suc, ◌+◌, ◌-◌, ◌*◌, ◌≤◌}
use native.Mathlib.Decide.{ℕ_discrete}
use native.Mathlib.Omega.{arith}
use borrow.Author.Tests.{ne_eqb}
use lib.Dec.{eqb}
use lib.ListN.{length, take, drop, length-take, drop_of_length-le}
use lib.Seq.{take_all, take-append-le}
use Rattle.shapes.specs.Shapes.{shape}
use Rattle.store.specs.Open.{is_mesh}
use Rattle.map.specs.Cells.{licensed_body, Map}
use Rattle.map.specs.History.{Edit, Insert, Remove, edit_answer, changed, edited}
use Rattle.laws.proofs.Edits.{may_insert}
use Rattle.map.specs.Morning.{Is, Not, insert_turn, remove_turn, turn, Reading, before, read_from, Morning, one_more, in_turn, morning}
use Rattle.edits.specs.InTurn as T
use Rattle.edits.specs.InTurn.{made_of, InTurn, ListEdited}
use Rattle.map.specs.declared.Stopped.{Stopped}
use Rattle.std.specs.Prelude.{Result}
use Rattle.edits.proofs.Turns.{read_none, read_on, read_edit}
use Rattle.edits.proofs.Wellformed.{turn_made, turn_refused}
use Rattle.edits.proofs.Runs.{made_more}

-- the edits of a reading, from a map on
abbrev reading : Map → Reading → Morning
reading m x = in_turn m x.edits x.last

-- an edit alone: made or not, its answer, and the map that it leaves
abbrev pub alone : Map → Edit → Morning
alone m e = record { made = cond (eqb (edit_answer m e).refusal 0) 1 0; refusal = (edit_answer m e).refusal; map = edited m e }

pub turn_alone : (m : Map) (e : Edit) → in_turn m (e ∷ []) 0 ≡ alone m e
unfolding in_turn edited
turn_alone m e = go (ℕ_discrete (edit_answer m e).refusal 0)
  where
    go : Dec ((edit_answer m e).refusal ≡ 0) → in_turn m (e ∷ []) 0 ≡ alone m e
    go (yes q) = turn_made m e [] 0 q ∙ (rw q)
    go (no f) = turn_refused m e [] 0 (edit_answer m e).refusal refl f ∙ (rw (ne_eqb (edit_answer m e).refusal 0 f))

-- a list of one insertion, and of one removal
pub one_insert : (m : Map) (c t licence : ℕ) (marks : List ℕ) → length marks ≡ (shape t).marks
    → morning m (1 ∷ c ∷ t ∷ licence ∷ marks) ≡ alone m (Insert c (licensed_body t licence marks))
unfolding morning read_from turn insert_turn
one_insert m c t licence marks size =
    let all : take (shape t).marks marks ≡ marks = take_all (shape t).marks marks (omega arith) in
    let none : drop (3 + (shape t).marks) (c ∷ t ∷ licence ∷ marks) ≡ [] = drop_of_length-le (c ∷ t ∷ licence ∷ marks) {i = 3 + (shape t).marks} (omega arith) in
    let reads : read_from 0 (1 ∷ c ∷ t ∷ licence ∷ marks) ≡ before (Insert c (licensed_body t licence marks)) (read_from 0 []) =
    read_edit 1 (c ∷ t ∷ licence ∷ marks) (Insert c (licensed_body t licence (take (shape t).marks marks))) (3 + (shape t).marks) refl ∙ (rw (none, all)) in
    ap (reading m) reads ∙ turn_alone m (Insert c (licensed_body t licence marks))

pub one_remove : (m : Map) (c : ℕ) → morning m (2 ∷ c ∷ []) ≡ alone m (Remove c)
unfolding morning read_from turn remove_turn
one_remove m c = turn_alone m (Remove c)

-- at a turn: no edit, whatever follows; or an edit, which takes a word at least, and where it is accepted is the same with more words behind
data AtTurn (kind : ℕ) (words : List ℕ) : Type 0 where
  not : (n : ℕ) → (n ≡ 0 → ⊥) → turn kind words ≡ Not n → AtTurn kind words
  is : (e : Edit) (n : ℕ) → turn kind words ≡ Is e n → 1 ≤ n → 1 ≤ length words
      → ((m : Map) → (edit_answer m e).refusal ≡ 0 → (more : List ℕ) → (turn kind (words ++ more) ≡ Is e n) × (n ≤ length words)) → AtTurn kind words

insert_at : (words : List ℕ) → AtTurn 1 words
unfolding turn insert_turn
insert_at [] = not 7 (λ z. omega arith) refl
insert_at (c ∷ []) = not 7 (λ z. omega arith) refl
insert_at (c ∷ t ∷ []) = not 7 (λ z. omega arith) refl
insert_at (c ∷ t ∷ licence ∷ rest) =
    is (Insert c (licensed_body t licence (take (shape t).marks rest))) (3 + (shape t).marks) refl (omega arith) (omega arith) (λ m ok more.
    let long : (shape t).marks ≤ length rest = omega (arith, (may_insert m c (licensed_body t licence (take (shape t).marks rest)) ok).count, length-take (shape t).marks rest) in
    (rw (take-append-le (shape t).marks rest more long), omega arith))

remove_at : (words : List ℕ) → AtTurn 2 words
unfolding turn remove_turn
remove_at [] = not 7 (λ z. omega arith) refl
remove_at (c ∷ rest) = is (Remove c) 1 refl (omega arith) (omega arith) (λ m ok more. (refl, omega arith))

at_turn : (kind : ℕ) (words : List ℕ) → AtTurn kind words
unfolding turn
at_turn kind words = go (ℕ_discrete kind 1) (ℕ_discrete kind 2)
  where
    go : Dec (kind ≡ 1) → Dec (kind ≡ 2) → AtTurn kind words
    go (yes e) d = rw e (insert_at words)
    go (no f) (yes e) = rw e (remove_at words)
    go (no f) (no g) = not 6 (λ z. omega arith) (rw (ne_eqb kind 1 f, ne_eqb kind 2 g))

-- an edit takes two words at least
read_half : (n : ℕ) (words : List ℕ) → 2 * length (read_from n words).edits ≤ length words - n
unfolding read_from
read_half n [] = omega arith
read_half (suc n) (x ∷ words) = let h = read_half n words in omega arith
read_half zero (kind ∷ words) = go (λ n. read_half n words) (at_turn kind words)
  where
    go : ((n : ℕ) → 2 * length (read_from n words).edits ≤ length words - n) → AtTurn kind words → 2 * length (read_from 0 (kind ∷ words)).edits ≤ length (kind ∷ words) - 0
    go h (not n some e) = rw (e, read_from) (omega arith)
    go h (is e n q long some same) = rw (q, read_from) (omega (arith, h n))

in_turn_few : {w w' : List ℕ} {es : List Edit} {last : ℕ} {r : Result ℕ Stopped} → InTurn w es last r w' → made_of r ≤ length es
in_turn_few T.all = omega arith
in_turn_few (T.none why) = omega arith
in_turn_few (T.refused why did) = omega arith
in_turn_few (T.made {r = r} did rest) = let h = in_turn_few rest in omega (arith, made_more r)

-- so the number made is at most half the words, on any memory
pub edits_half : {w list w' : List ℕ} {r : Result ℕ Stopped} → ListEdited w list r w' → 2 * made_of r ≤ length list
edits_half {w} {list} {r = r} did = go (is_mesh w) refl
  where
    go : (b : Bool) → is_mesh w ≡ b → 2 * made_of r ≤ length list
    go true e = omega (arith, in_turn_few (did.turns e), read_half 0 list)
    go false e = rw (did.refused e).0 (omega arith)

-- a morning after one that made so many edits
abbrev pub after : ℕ → Morning → Morning
after n x = record { made = n + x.made; refusal = x.refusal; map = x.map }

after_one : (n : ℕ) (x : Morning) → after (suc n) x ≡ one_more (after n x)
after_one n x = let e : suc n + x.made ≡ suc (n + x.made) = omega arith in rw e

pub append_from : (a : List ℕ) (n : ℕ) (m : Map) (b : List ℕ) → n ≤ length a → (reading m (read_from n a)).refusal ≡ 0
    → reading m (read_from n (a ++ b)) ≡ after (reading m (read_from n a)).made (morning (reading m (read_from n a)).map b)
unfolding read_from in_turn morning
append_from [] zero m b h ok = let e : 0 + (morning m b).made ≡ (morning m b).made = omega arith in rw e
append_from [] (suc n) m b h ok = absurd (omega arith)
append_from (x ∷ a) (suc n) m b h ok = append_from a n m b (omega arith) ok
append_from (kind ∷ a) zero m b h ok = go (λ n m less q. append_from a n m b less q) (at_turn kind a)
  where
    go : ((n : ℕ) (m : Map) → n ≤ length a → (reading m (read_from n a)).refusal ≡ 0
        → reading m (read_from n (a ++ b)) ≡ after (reading m (read_from n a)).made (morning (reading m (read_from n a)).map b))
        → AtTurn kind a
        → reading m (read_from 0 (kind ∷ (a ++ b))) ≡ after (reading m (read_from 0 (kind ∷ a))).made (morning (reading m (read_from 0 (kind ∷ a))).map b)
    go rest (not n some e) = absurd (some (sym (ap (λ (x : Reading). (reading m x).refusal) (read_none kind a n e)) ∙ ok))
    go rest (is e n q long some same) = made (ℕ_discrete (edit_answer m e).refusal 0)
      where
        here : reading m (read_from 0 (kind ∷ a)) ≡ in_turn m (e ∷ (read_from n a).edits) (read_from n a).last
        here = ap (reading m) (read_on kind a e n q)

        made : Dec ((edit_answer m e).refusal ≡ 0)
            → reading m (read_from 0 (kind ∷ (a ++ b))) ≡ after (reading m (read_from 0 (kind ∷ a))).made (morning (reading m (read_from 0 (kind ∷ a))).map b)
        made (yes yes') =
            let s = same m yes' b in
            let first : reading m (read_from 0 (kind ∷ a)) ≡ one_more (reading (changed m e) (read_from n a)) = here ∙ turn_made m e (read_from n a).edits (read_from n a).last yes' in
            ap (reading m) (read_on kind (a ++ b) e n s.0)
            ∙ (turn_made m e (read_from n (a ++ b)).edits (read_from n (a ++ b)).last yes'
            ∙ (ap one_more (rest n (changed m e) s.1 (sym (ap (λ (x : Morning). x.refusal) first) ∙ ok))
            ∙ (sym (after_one (reading (changed m e) (read_from n a)).made (morning (reading (changed m e) (read_from n a)).map b))
            ∙ sym (ap (λ (x : Morning). after x.made (morning x.map b)) first))))
        made (no f) =
            absurd (f (sym (ap (λ (x : Morning). x.refusal) (here ∙ turn_refused m e (read_from n a).edits (read_from n a).last (edit_answer m e).refusal refl f)) ∙ ok))
