-- A wanted list that can be built afresh: it is read whole, and its cells are tidy.
use mathlib.Core.Path.{◌≡◌, refl, sym, ap, ◌∙◌}
use mathlib.Core.Bool.{Bool, true, false, cond, not, ◌&&◌, ◌||◌}
use mathlib.Core.List.{List, [], ◌∷◌, ◌++◌, append-nil, map}
use mathlib.Core.Logic.{◌⊎◌, inl, inr, ⊎_elim}
use Prim.Native.Nat.{ℕ, zero, suc, ◌+◌, ◌<◌, ◌≤◌}
use native.Mathlib.Omega.{arith}
use borrow.Author.Tests.{eq-eqb, eqb-true}
use lib.Dec.{eqb}
use lib.ListN.{length, take, drop, length-take, length-drop}
use Rattle.lists.specs.Lists.{has, all, every, repeats}
use Rattle.lists.proofs.Bools.{clash, either, not_true_false, not_of_false, and_left, and_right, and_both, or_cases, or_left, or_right}
use Rattle.lists.proofs.Every.{at_every}
use Rattle.numbers.specs.declared.Caps.{Caps}
use Rattle.shapes.specs.Shapes.{shape}
use Rattle.map.specs.Cells.{Body, licensed_body, Live, Map, no_cell, body_in, map_of, live}
use Rattle.map.specs.Afresh.{Shuffled, same, swapped, then, numbers, Distinct}
use Rattle.map.specs.History.{empty, Edit, Insert, edit_answer, put, changed, edited, build, build_from}
use Rattle.laws.proofs.Edits.{edited_changed, may_insert, coded, typed_coded, sound_empty, sound_changed}
use Rattle.laws.proofs.Orders.{shuffled_self}
use Rattle.laws.proofs.Solids.{two_empty, two_changed}
use Rattle.laws.proofs.Rebuild.{insertion, inserts, AllAccepted, done, next, AllLive, Tidy, tidy_shuffled}
use Rattle.wanted.specs.Wanted.{record_refusal, wanted_of, stands, as_wanted}
use Rattle.wanted.proofs.Reading.{record_whole, wanted_end, wanted_next}
use Rattle.plan_stories.proofs.Passing.{Each, none, more, coded_stands, not_listed, listed_body}

-- a build that is accepted reads the list whole and inserts its cells
build_reads : (n place : ℕ) (m : Map) (words : List ℕ) → length words ≤ n → (build_from n place m words).refusal ≡ 0
    → ((wanted_of words).refusal ≡ 0) × AllAccepted m (inserts (wanted_of words).cells)
unfolding build_from
build_reads zero place m [] l e = rw wanted_end (refl, done)
build_reads zero place m (c ∷ words) l e = absurd (omega arith)
build_reads (suc n) place m [] l e = rw wanted_end (refl, done)
build_reads (suc n) place m (c ∷ []) l e = absurd (omega (arith, e))
build_reads (suc n) place m (c ∷ t ∷ []) l e = absurd (omega (arith, e))
build_reads (suc n) place m (c ∷ t ∷ licence ∷ rest) l e =
    go (λ k less q. build_reads n (suc place) k (drop (shape t).marks rest) less q) (either (eqb (edit_answer m edit).refusal 0))
  where
    edit : Edit
    edit = Insert c (licensed_body t licence (take (shape t).marks rest))

    go : ((k : Map) → length (drop (shape t).marks rest) ≤ n → (build_from n (suc place) k (drop (shape t).marks rest)).refusal ≡ 0
        → ((wanted_of (drop (shape t).marks rest)).refusal ≡ 0) × AllAccepted k (inserts (wanted_of (drop (shape t).marks rest)).cells))
        → (eqb (edit_answer m edit).refusal 0 ≡ true) ⊎ (eqb (edit_answer m edit).refusal 0 ≡ false)
        → ((wanted_of (c ∷ t ∷ licence ∷ rest)).refusal ≡ 0) × AllAccepted m (inserts (wanted_of (c ∷ t ∷ licence ∷ rest)).cells)
    go on (inl good) =
        let ok : (edit_answer m edit).refusal ≡ 0 = eqb-true _ 0 good in
        let may = may_insert m c (licensed_body t licence (take (shape t).marks rest)) ok in
        let whole : record_refusal t (length rest) ≡ 0 =
        record_whole t (length rest) (λ z. omega (arith, may.typed)) (omega (arith, may.count, length-take (shape t).marks rest)) in
        let more = on (changed m edit) (omega (arith, length-drop (shape t).marks rest)) (rw (good, build_from) at e) in
        rw (wanted_next c t licence rest whole)
        (more.0, next {es = inserts (wanted_of (drop (shape t).marks rest)).cells} ok (rw (edited_changed m edit ok) more.1))
    go on (inr bad) = absurd (clash (eq-eqb _ 0 (rw (bad, build_from) at e)) bad)

-- under the number of a listed cell stands a live one
listed_live : (caps : Caps) (xs : List Live) → AllLive xs → (k : ℕ) → has k (numbers xs) ≡ true → live (map_of caps xs) k ≡ true
unfolding map_of body_in has all live
listed_live caps [] l k h = absurd (clash h refl)
listed_live caps (x ∷ xs) l k h = go (listed_live caps xs (and_right (coded x.body) _ l) k) (eqb x.number k) h
  where
    go : (has k (numbers xs) ≡ true → coded (body_in xs k) ≡ true) → (b : Bool) → b || has k (numbers xs) ≡ true
        → coded (cond b x.body (body_in xs k)) ≡ true
    go on true h = and_left _ _ l
    go on false h = on h

module _ (caps : Caps) where
  tidy_none : Tidy caps []
  unfolding map_of body_in empty repeats all
  tidy_none = record { sound = sound_empty caps; two = two_empty caps; distinct = refl; live = refl }

  -- a cell that is accepted may stand before the others
  tidy_more : (x : Live) (xs : List Live) → Tidy caps xs → (edit_answer (map_of caps xs) (insertion x)).refusal ≡ 0 → Tidy caps (x ∷ xs)
  unfolding map_of body_in changed put repeats all
  tidy_more x xs t ok =
      let may = may_insert (map_of caps xs) x.number x.body ok in
      let out : has x.number (numbers xs) ≡ false = not_true_false _ (λ h. clash (listed_live caps xs t.live x.number h) may.free) in
      record {
        sound = sound_changed (map_of caps xs) t.sound (insertion x) ok;
        two = two_changed (map_of caps xs) t.sound t.two (insertion x) ok;
        distinct = rw (out, t.distinct);
        live = and_both (coded x.body) _ (typed_coded x.body.code may.typed) t.live;
      }

  shuffled_back : (x : Live) (a b : List Live) → Shuffled (x ∷ (a ++ b)) (a ++ (x ∷ b))
  shuffled_back x [] b = shuffled_self (x ∷ b)
  shuffled_back x (y ∷ a) b = then swapped (same (shuffled_back x a b))

  -- cells that are each accepted in turn are tidy
  tidy_all : (xs ys : List Live) → Tidy caps ys → AllAccepted (map_of caps ys) (inserts xs) → Tidy caps (ys ++ xs)
  unfolding map_of body_in changed put
  tidy_all [] ys t a = rw append-nil t
  tidy_all (x ∷ xs) ys t (next ok rest) =
      let step : edited (map_of caps ys) (insertion x) ≡ map_of caps (x ∷ ys) = edited_changed (map_of caps ys) (insertion x) ok in
      tidy_shuffled caps (x ∷ (ys ++ xs)) (ys ++ (x ∷ xs)) (shuffled_back x ys xs) (tidy_all xs (x ∷ ys) (tidy_more x ys t ok) (rw step at rest))

  -- "Whenever the wanted list can be built afresh": it is read whole, and its cells are tidy
  pub build_tidy : (words : List ℕ) → (build caps words).refusal ≡ 0 → ((wanted_of words).refusal ≡ 0) × Tidy caps (wanted_of words).cells
  unfolding build empty
  build_tidy words e =
      let r = build_reads (length words) 0 (empty caps) words (omega arith) e in
      (r.0, tidy_all (wanted_of words).cells [] tidy_none r.1)

-- all of a list pass where each does
each_all : {p : Live → Bool} {xs : List Live} → Each (λ x. p x ≡ true) xs → all p xs ≡ true
unfolding all
each_all none = refl
each_all {p} (more {x} h rest) = and_both (p x) _ h (each_all rest)

each_stands : (m : Map) {xs : List Live} → Each (λ x. (m.at x.number ≡ x.body) × (coded x.body ≡ true)) xs → Each (λ x. stands m x ≡ true) xs
each_stands m none = none
each_stands m (more {x} p rest) = more (coded_stands m x p.1 p.0) (each_stands m rest)

-- the map of tidy cells has just those
pub tidy_wanted : (caps : Caps) (cells : List Live) → Tidy caps cells → as_wanted (map_of caps cells) cells ≡ true
unfolding as_wanted map_of live no_cell
tidy_wanted caps cells t =
    and_both (all (stands (map_of caps cells)) cells) _
    (each_all (each_stands (map_of caps cells) (listed_body (body_in cells) cells t.distinct (λ k h. refl) t.live)))
    (and_both (not (repeats (numbers cells))) _ (not_of_false _ t.distinct) (at_every _ caps.cells there))
  where
    there : (k : ℕ) → k < caps.cells → not (live (map_of caps cells) k) || has k (numbers cells) ≡ true
    there k l = go (has k (numbers cells)) refl
      where
        go : (b : Bool) → has k (numbers cells) ≡ b → not (live (map_of caps cells) k) || b ≡ true
        go true e = or_right (not (live (map_of caps cells) k)) _ refl
        go false e = let dead : not (live (map_of caps cells) k) ≡ true = rw (not_listed cells k e) in or_left _ false dead
