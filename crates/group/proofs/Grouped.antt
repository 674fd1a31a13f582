-- On a list that is a star, places have one label exactly if their cells are in one group.
use mathlib.Core.Path.{◌≡◌, refl, sym, ap, ◌∙◌}
use mathlib.Core.Bool.{Bool, true}
use mathlib.Core.List.{List}
use Prim.Native.Nat.{ℕ, ◌<◌, ◌≤◌}
use native.Mathlib.Decide.{dec_lt, ℕ_discrete}
use native.Mathlib.Omega.{arith}
use lib.ListN.{length, get_or, drop, get_or-append}
use Rattle.lists.specs.Lists.{has}
use Rattle.lists.specs.Filled.{Copied}
use Rattle.lists.proofs.Members.{has_at, at_has}
use Rattle.map.specs.Cells.{Map}
use Rattle.map.specs.Groups.{Joined, here, onward}
use Rattle.map.specs.Stars.{star, linked, group}
use Rattle.laws.proofs.Groups.{group_joined, joined_first, joined_then, joined_back}
use Rattle.laws.proofs.OneGroup.{joined_group}
use Rattle.laws.proofs.Anchors.{linked_back, star_ascends, group_of_star}
use Rattle.group.specs.Labels.{Relates, Labelled}

-- the first n cells are the star
pub record Starred (m : Map) (d v : ℕ) (cells : List ℕ) (n : ℕ) : Type 0 where
  pub inside : (j : ℕ) → j < n → has (get_or cells j 0) (star m d v) ≡ true
  pub there : (c : ℕ) → has c (star m d v) ≡ true → (j : ℕ) × (j < n) × (get_or cells j 0 ≡ c)
  pub up : (i j : ℕ) → i < j → j < n → get_or cells i 0 < get_or cells j 0

pub starred : (m : Map) (d v : ℕ) (zeros cells : List ℕ) (n : ℕ) → Copied (star m d v) zeros n cells → n ≤ length zeros → Starred m d v cells n
starred m d v zeros cells n f room = record {
  inside = λ j h. rw (cell j h) (at_has (star m d v) j (omega (arith, f.count)));
  there = λ c e. let r = has_at c (star m d v) e in (r.0, short r, cell r.0 (short r) ∙ r.2);
  up = λ i j a b. rw (cell i (omega arith), cell j b) (star_ascends m d v i j a (omega (arith, f.count)));
}
  where
    cell : (j : ℕ) → j < n → get_or cells j 0 ≡ get_or (star m d v) j 0
    cell j h =
        ap (λ (l : List ℕ). get_or l j 0) (f.filled.wrote (omega (arith, f.count)))
        ∙ get_or-append (star m d v) (drop (length (star m d v)) zeros) 0 j (omega (arith, f.count))

    short : {c : ℕ} (r : (k : ℕ) × (k < length (star m d v)) × (get_or (star m d v) k 0 ≡ c)) → r.0 < n
    short r = omega (arith, r.1, f.count)

-- and the labels tell the groups
pub record Grouped (m : Map) (d v : ℕ) (cells : List ℕ) (n : ℕ) (lab : List ℕ) : Type 0 where
  pub one : (i j : ℕ) → i < n → j < n → get_or lab i 0 ≡ get_or lab j 0 → has (get_or cells j 0) (group m d v (get_or cells i 0)) ≡ true
  pub same : (i j : ℕ) → i < n → j < n → has (get_or cells j 0) (group m d v (get_or cells i 0)) ≡ true → get_or lab i 0 ≡ get_or lab j 0

module _ (m : Map) (d v : ℕ) (cells : List ℕ) (n : ℕ) (st : Starred m d v cells n) where
  -- one cell stands at one place
  pub place_one : (i j : ℕ) → i < n → j < n → get_or cells i 0 ≡ get_or cells j 0 → i ≡ j
  place_one i j hi hj e = go (dec_lt i j) (dec_lt j i)
    where
      go : Dec (i < j) → Dec (j < i) → i ≡ j
      go (yes l) g = absurd (omega (arith, st.up i j l hj, e))
      go (no f) (yes l) = absurd (omega (arith, st.up j i l hi, e))
      go (no f) (no g) = omega arith

  module _ (link : ℕ → ℕ → Bool) (l lab : List ℕ) (room : n ≤ length l) (labs : Labelled link n l lab)
      (links : (i j : ℕ) → i < n → j < n → (i ≡ j → ⊥) → link i j ≡ linked m v (get_or cells i 0) (get_or cells j 0)) where
    one_group : ℕ → ℕ → Bool
    one_group p q = has (get_or cells q 0) (group m d v (get_or cells p 0))

    -- the group of a place has the places that are linked to it, and its own
    linked_group : (p q : ℕ) → p < n → q < n → link p q ≡ true → one_group p q ≡ true
    unfolding one_group group
    linked_group p q hp hq e = go (ℕ_discrete p q)
      where
        go : Dec (p ≡ q) → has (get_or cells q 0) (group m d v (get_or cells p 0)) ≡ true
        go (yes z) = rw (← z) (group_of_star m d v (get_or cells p 0) (st.inside p hp))
        go (no f) = joined_group (linked m v) (star m d v) _ _ (onward (st.inside p hp) (sym (links p q hp hq f) ∙ e) (here (st.inside q hq)))

    relates : Relates link n one_group
    unfolding one_group group
    relates = record {
      back = λ p q e. joined_group (linked m v) (star m d v) _ _ (joined_back (linked m v) (star m d v) (linked_back m v) _ _ (group_joined (linked m v) (star m d v) _ _ e));
      onward = λ p q r e f.
          joined_group (linked m v) (star m d v) _ _
          (joined_then (linked m v) (star m d v) (group_joined (linked m v) (star m d v) _ _ e) (group_joined (linked m v) (star m d v) _ _ f));
      links = linked_group;
    }

    -- linked cells have one label
    step : (i k : ℕ) → i < n → k < n → linked m v (get_or cells i 0) (get_or cells k 0) ≡ true → get_or lab i 0 ≡ get_or lab k 0
    step i k hi hk e = go (dec_lt k i) (dec_lt i k)
      where
        go : Dec (k < i) → Dec (i < k) → get_or lab i 0 ≡ get_or lab k 0
        go (yes a) b = labs.linked room i k a hi (links i k hi hk (λ z. omega arith) ∙ e)
        go (no f) (yes b) = sym (labs.linked room k i b hk (links k i hk hi (λ z. omega arith) ∙ linked_back m v _ _ e))
        go (no f) (no g) = let z : i ≡ k = omega arith in rw z

    along : {a b : ℕ} → Joined (linked m v) (star m d v) a b → (i j : ℕ) → i < n → j < n → get_or cells i 0 ≡ a → get_or cells j 0 ≡ b → get_or lab i 0 ≡ get_or lab j 0
    along (here h) i j hi hj e f = let z : i ≡ j = place_one i j hi hj (e ∙ sym f) in rw z
    along (onward {a = a} {b = b} h k r) i j hi hj e f =
        let q = st.there b (joined_first (linked m v) (star m d v) r) in
        step i q.0 hi q.1 (rw (e, q.2) k) ∙ along r q.0 j q.1 hj q.2 f

    pub grouped : Grouped m d v cells n lab
    unfolding one_group group
    grouped = record {
      one = λ i j hi hj e. labs.within room one_group relates (λ p hp. group_of_star m d v (get_or cells p 0) (st.inside p hp)) i j hi hj e;
      same = λ i j hi hj e. along (group_joined (linked m v) (star m d v) _ _ e) i j hi hj refl refl;
    }
