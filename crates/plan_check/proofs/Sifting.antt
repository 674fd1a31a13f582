-- The records gone through one by one: each cell stands, and none was there before.
use mathlib.Core.Path.{◌≡◌, refl, sym, ap, ◌∙◌, subst}
use mathlib.Core.Bool.{Bool, true, false, not, ◌&&◌, ◌||◌, and-false}
use mathlib.Core.List.{List, [], ◌∷◌, ◌++◌, append-nil}
use mathlib.Core.Logic.{◌⊎◌, inl, inr}
use Prim.Native.Nat.{ℕ, ◌+◌, ◌<◌, ◌≤◌, min}
use native.Mathlib.Omega.{arith}
use borrow.Author.Tests.{ltb-true}
use lib.Dec.{eqb, ltb}
use lib.ListN.{length, get_or, set, drop, length-set, drop_of_length-le}
use Rattle.lists.specs.Lists.{has, all, repeats}
use Rattle.lists.proofs.Bools.{clash, either, and_left, and_both}
use Rattle.numbers.specs.declared.Caps.{Caps}
use Rattle.map.specs.Cells.{Live}
use Rattle.map.specs.Afresh.{Shuffled, then, numbers, Distinct}
use Rattle.laws.proofs.Orders.{shuffled_self, shuffled_front, distinct_parts, shuffled_has, shuffled_distinct, shuffled_all}
use Rattle.build.specs.Recorded.{width}
use Rattle.cell_set.specs.CellSet.{in_set}
use Rattle.cell_set.proofs.Sets.{put_in}
use Rattle.wanted.specs.Wanted.{Wanted, ended, before, wanted_of}
use Rattle.wanted.specs.Records.{cell_at, stands_in}
use Rattle.wanted.proofs.Exact.{shuffled_back}
use Rattle.wanted.proofs.Reading.{wanted_end, no_refusal, record_at}
use Rattle.plan_check.specs.Steps.{stand_once, Sifted}

-- a number of a list is one of the list with more behind it
has_front : (v : ℕ) (a b : List Live) → has v (numbers a) ≡ true → has v (numbers (a ++ b)) ≡ true
unfolding has
has_front v [] b e = absurd (clash e refl)
has_front v (x ∷ a) b e = go (eqb x.number v) e (has_front v a b)
  where
    go : (t : Bool) → t || has v (numbers a) ≡ true → (has v (numbers a) ≡ true → has v (numbers (a ++ b)) ≡ true) → t || has v (numbers (a ++ b)) ≡ true
    go true e f = refl
    go false e f = f e

-- a test of both is false where one is
not_both : (a b : Bool) → b ≡ true → a && not b ≡ false
not_both true b e = rw e
not_both false b e = refl

-- what was gone through up to a place
pub record Sofar (w : List ℕ) (caps : Caps) (records : List ℕ) (at : ℕ) (seen : List ℕ) : Type 0 where
  pub done : List Live
  pub rest : (wanted_of (drop at records)).refusal ≡ 0
  pub order : Shuffled (wanted_of records).cells (done ++ (wanted_of (drop at records)).cells)
  pub stand : all (stands_in w caps) done ≡ true
  pub once : Distinct done
  pub inside : (k : ℕ) → in_set seen k ≡ has k (numbers done)

pub record Sifting (w : List ℕ) (caps : Caps) (records seen : List ℕ) (at : ℕ) (now : List ℕ) : Type 0 where
  pub size : length now ≡ length seen
  pub going : (wanted_of records).refusal ≡ 0 → caps.cells ≤ length seen → ((k : ℕ) → in_set seen k ≡ false) → Sofar w caps records at now

pub sift_start : (w : List ℕ) (caps : Caps) (records seen : List ℕ) (at : ℕ) → at ≡ 0 → Sifting w caps records seen at seen
unfolding all repeats has
sift_start w caps records seen at z = rw z (record {
  size = refl;
  going = λ ok room empty. record {
    done = [];
    rest = ok;
    order = shuffled_self _;
    stand = refl;
    once = refl;
    inside = empty;
  };
})

module _ (w : List ℕ) (caps : Caps) (records seen : List ℕ) (at : ℕ) (now : List ℕ) (g : Sifting w caps records seen at now) where
  -- all of them
  pub sift_end : length records ≤ at → Sifted w caps records seen true now
  unfolding stand_once
  sift_end h = record { size = g.size; once = λ ok room empty. go (g.going ok room empty) }
    where
      go : Sofar w caps records at now
          → (true ≡ stand_once w caps (wanted_of records).cells) × (true ≡ true → (k : ℕ) → in_set now k ≡ has k (numbers (wanted_of records).cells))
      go s =
          let last : wanted_of (drop at records) ≡ ended 0 = ap wanted_of (drop_of_length-le records {i = at} h) ∙ wanted_end in
          let order : Shuffled (wanted_of records).cells s.done = rw (last, append-nil) at s.order in
          let once : Distinct (wanted_of records).cells = shuffled_distinct (shuffled_back order) s.once in
          (rw (shuffled_all (stands_in w caps) order, s.stand, once), λ e k. s.inside k ∙ sym (shuffled_has order k))

  module _ (more : at < length records) where
    module _ (ok : (wanted_of records).refusal ≡ 0) (room : caps.cells ≤ length seen) (empty : (k : ℕ) → in_set seen k ≡ false)
        (end : ℕ) (ends : end ≡ min (at + width records at) (length records)) where
      s : Sofar w caps records at now
      s = g.going ok room empty

      here : wanted_of (drop at records) ≡ before (cell_at records at) (wanted_of (drop end records))
      here = record_at records at (no_refusal records at more s.rest) end ends

      -- the next cell may come first
      front : Shuffled (wanted_of records).cells (cell_at records at ∷ (s.done ++ (wanted_of (drop end records)).cells))
      front =
          then (subst (λ (x : Wanted). Shuffled (wanted_of records).cells (s.done ++ x.cells)) here s.order)
          (shuffled_front (cell_at records at) s.done (wanted_of (drop end records)).cells)

      stands_not : stands_in w caps (cell_at records at) ≡ false → stand_once w caps (wanted_of records).cells ≡ false
      unfolding stand_once all
      stands_not e = rw (shuffled_all (stands_in w caps) front, e)

      seen_before : in_set now (cell_at records at).number ≡ true → stand_once w caps (wanted_of records).cells ≡ false
      unfolding stand_once
      seen_before e = not_both (all (stands_in w caps) (wanted_of records).cells) (repeats (numbers (wanted_of records).cells)) (go (either _))
        where
          in_done : has (cell_at records at).number (numbers (s.done ++ (wanted_of (drop end records)).cells)) ≡ true
          in_done = has_front (cell_at records at).number s.done (wanted_of (drop end records)).cells (sym (s.inside (cell_at records at).number) ∙ e)

          go : (repeats (numbers (wanted_of records).cells) ≡ true) ⊎ (repeats (numbers (wanted_of records).cells) ≡ false)
              → repeats (numbers (wanted_of records).cells) ≡ true
          go (inl t) = t
          go (inr f) =
              absurd (clash in_done (distinct_parts (cell_at records at) (s.done ++ (wanted_of (drop end records)).cells) (shuffled_distinct front f)).0)

    -- it does not stand, and the list is not as it should be
    pub sift_not : (r : Bool) → r ≡ stands_in w caps (cell_at records at) → r ≡ false → Sifted w caps records seen false now
    sift_not r er e = record {
      size = g.size;
      once = λ ok room empty. (sym (stands_not ok room empty _ refl (sym er ∙ e)), λ z. absurd (clash z refl));
    }

    -- the set of the cells up to here
    module _ (c : ℕ) (ec : c ≡ get_or records at 0) where
      number : (cell_at records at).number ≡ c
      unfolding cell_at
      number = sym ec

      -- it was there before
      pub sift_twice : (r : Bool) → r ≡ in_set now c → r ≡ true → Sifted w caps records seen false now
      sift_twice r er e = record {
        size = g.size;
        once = λ ok room empty. (sym (seen_before ok room empty _ refl (ap (in_set now) number ∙ (sym er ∙ e))), λ z. absurd (clash z refl));
      }

      -- it stands and is new
      module _ (q : Bool) (eq : q ≡ stands_in w caps (cell_at records at)) (stood : q ≡ true) (r : Bool) (er : r ≡ in_set now c) (fresh : r ≡ false) where
        stands : stands_in w caps (cell_at records at) ≡ true
        stands = sym eq ∙ stood

        below : c < caps.cells
        unfolding stands_in
        below = rw number at (ltb-true (cell_at records at).number caps.cells (and_left _ _ stands))

        pub sift_next : (end : ℕ) → end ≡ min (at + width records at) (length records) → (next : List ℕ) → next ≡ set now c 1
            → Sifting w caps records seen end next
        unfolding all repeats has
        sift_next end ends next e = rw e (record {
          size = length-set now c 1 ∙ g.size;
          going = λ ok room empty. go ok room empty (s ok room empty end ends) (here ok room empty end ends) (front ok room empty end ends);
        })
          where
            go : (wanted_of records).refusal ≡ 0 → caps.cells ≤ length seen → ((k : ℕ) → in_set seen k ≡ false) → (t : Sofar w caps records at now)
                → wanted_of (drop at records) ≡ before (cell_at records at) (wanted_of (drop end records))
                → Shuffled (wanted_of records).cells (cell_at records at ∷ (t.done ++ (wanted_of (drop end records)).cells))
                → Sofar w caps records end (set now c 1)
            go ok room empty t at_here first = record {
              done = cell_at records at ∷ t.done;
              rest = sym (ap (λ (x : Wanted). x.refusal) at_here) ∙ t.rest;
              order = first;
              stand = and_both _ _ stands t.stand;
              once = rw (number, sym (t.inside c) ∙ (sym er ∙ fresh)) t.once;
              inside = λ k. put_in now c (omega (arith, below, g.size)) k ∙ rw (number, t.inside k);
            }
