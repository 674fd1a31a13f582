-- The edits of a list so far: how many were made, and what is left of the list.
use mathlib.Core.Path.{◌≡◌, refl, sym, ap, ◌∙◌, subst}
use mathlib.Core.List.{List, [], ◌∷◌}
use Prim.Native.Nat.{ℕ, suc, ◌+◌, ◌-◌, ◌<◌, ◌≤◌}
use native.Mathlib.Numerals.{add-one}
use native.Mathlib.Omega.{arith}
use lib.ListN.{length, get_or, take, drop, length-drop, drop_of_length-le}
use lib.Seq.{drop-cons, drop-drop, take_all}
use Rattle.words.specs.Words.{part_of}
use Rattle.words.proofs.Fits.{part_fits}
use Rattle.map.specs.declared.Refusal.{Refusal}
use Rattle.map.specs.Morning.{Reading, before, read_from}
use Rattle.edits.specs.InTurn as T
use Rattle.edits.specs.InTurn.{Turned, one_more, InTurn}
use Rattle.map.specs.Says.{StoppedAt}
use Rattle.map.specs.declared.Stopped.{Stopped}
use Rattle.std.specs.Prelude.{Result, Ok, Err}
use Rattle.edits.proofs.Turns.{read_none, read_edit}

-- the edits of a reading, made in turn
abbrev Read : List ℕ → Reading → Result ℕ Stopped → List ℕ → Type 0
Read w x r w' = InTurn w x.edits x.last r w'

-- an answer after so many that were made
unfoldable pub later : ℕ → Result ℕ Stopped → Result ℕ Stopped
later k (Ok n) = Ok (k + n)
later k (Err e) = StoppedAt (k + e.made) e.why

later_one : (k : ℕ) (r : Result ℕ Stopped) → later k (one_more r) ≡ later (k + 1) r
unfolding later
later_one k (Ok n) = ap Ok (let e : k + suc n ≡ k + 1 + n = omega arith in e)
later_one k (Err e) = ap (λ (i : ℕ). StoppedAt i e.why) (let q : k + suc e.made ≡ k + 1 + e.made = omega arith in q)

later_none : (r : Result ℕ Stopped) → later 0 r ≡ r
unfolding later
later_none (Ok n) = ap Ok (let e : 0 + n ≡ n = omega arith in e)
later_none (Err e) = ap (λ (i : ℕ). StoppedAt i e.why) (let q : 0 + e.made ≡ e.made = omega arith in q)

-- so many edits, up to a place of the list: whatever the rest answers and leaves, the whole list does with these before it
pub record Going (w₀ list : List ℕ) (at made : ℕ) (w : List ℕ) : Type 0 where
  pub few : made ≤ at
  pub back : (r : Result ℕ Stopped) (w' : List ℕ) → Read w (read_from 0 (drop at list)) r w' → Read w₀ (read_from 0 list) (later made r) w'

pub going_start : (w list : List ℕ) (at made : ℕ) → at ≡ 0 → made ≡ 0 → Going w list at made w
going_start w list at made z n = rw (z, n) (record { few = omega arith; back = λ r w' x. rw (later_none r) x })

module _ (w₀ list : List ℕ) (at made : ℕ) (w : List ℕ) (g : Going w₀ list at made w) where
  -- no words left
  pub going_done : length list ≤ at → Read w₀ (read_from 0 list) (Ok made) w
  unfolding read_from later
  going_done h =
      let e : made + 0 ≡ made = omega arith in
      rw e at (g.back (Ok 0) w (rw (drop_of_length-le list {i = at} h) T.all))

  module _ (more : at < length list) (kind at' n : ℕ) (words : List ℕ) (first : kind ≡ get_or list at 0) (next : at' ≡ at + 1) (size : n ≡ length list - at')
      (rest : words ≡ part_of list at' n) where
    words_left : words ≡ drop at' list
    words_left = rest ∙ (part_fits list at' n (omega arith) ∙ take_all n (drop at' list) (omega (arith, length-drop at' list)))

    pub few_left : length words ≡ length list - at'
    few_left = ap length words_left ∙ length-drop at' list

    here : drop at list ≡ kind ∷ words
    here = rw (first, words_left, next, add-one at) (drop-cons list at 0 more)

    stopped : (w' : List ℕ) (why : Refusal) → Read w (read_from 0 (drop at list)) (StoppedAt 0 why) w' → Read w₀ (read_from 0 list) (StoppedAt made why) w'
    unfolding later
    stopped w' why x =
        let e : made + 0 ≡ made = omega arith in
        rw e at (g.back (StoppedAt 0 why) w' x)

    -- refused, or no edit: the list ends here
    pub going_refused : (t : Result ℕ Refusal) (w' : List ℕ) → Turned w kind words t w' → (why : Refusal) → t ≡ Err why
        → Read w₀ (read_from 0 list) (StoppedAt made why) w'
    going_refused t w' (T.none why e) why' q =
        let same : why' ≡ why = cc in
        rw same (stopped w why (rw (here, read_none kind words _ e) (T.none why)))
    going_refused t w' (T.refused why e did) why' q =
        let same : why' ≡ why = cc in
        rw same (stopped w' why (rw (here, read_edit kind words _ _ e) (T.refused why did)))
    going_refused t w' (T.made k e less behind did) why' q = absurd (let z : ◌≡◌ {A = ℕ} 0 1 = cc in omega arith)

    pub going_less : (t : Result ℕ Refusal) (w' : List ℕ) → Turned w kind words t w' → (k : ℕ) → t ≡ Ok k → k ≤ length words
    going_less t w' (T.none why e) k q = absurd (let z : ◌≡◌ {A = ℕ} 0 1 = cc in omega arith)
    going_less t w' (T.refused why e did) k q = absurd (let z : ◌≡◌ {A = ℕ} 0 1 = cc in omega arith)
    going_less t w' (T.made i e less behind did) k q = let same : k ≡ i = cc in rw same less

    -- made: the next one
    pub going_next : (t : Result ℕ Refusal) (w' : List ℕ) → Turned w kind words t w' → (k : ℕ) → t ≡ Ok k → (at'' made'' : ℕ) → at'' ≡ at' + k → made'' ≡ made + 1
        → Going w₀ list at'' made'' w'
    going_next t w' (T.none why e) k q at'' made'' ea em = absurd (let z : ◌≡◌ {A = ℕ} 0 1 = cc in omega arith)
    going_next t w' (T.refused why e did) k q at'' made'' ea em = absurd (let z : ◌≡◌ {A = ℕ} 0 1 = cc in omega arith)
    going_next t w' (T.made i e less behind did) k q at'' made'' ea em = record {
      few = omega (arith, g.few);
      back = λ r w'' x.
          subst (λ (s : Result ℕ Stopped). Read w₀ (read_from 0 list) s w'') (later_one made r ∙ ap (λ (j : ℕ). later j r) (sym em))
          (g.back (one_more r) w'' (rw (here, read_edit kind words _ _ e, ← behind, ← left) (T.made did x)));
    }
      where
        left : drop at'' list ≡ drop i words
        left =
            let same : k ≡ i = cc in
            rw (ea, same, words_left) (sym (drop-drop i at' list))
