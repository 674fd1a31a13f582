-- On the picture of a settled state the sibling words lead from a facet of a cell to the cells that share it, and to no other.
use mathlib.Core.Path.{◌≡◌, sym, ap, ◌∙◌}
use mathlib.Core.Bool.{true, ◌&&◌}
use mathlib.Core.List.{List, [], map}
use Prim.Native.Nat.{ℕ, zero, suc, ◌+◌, ◌*◌, ◌/◌, ◌%◌, ◌<◌, ◌≤◌}
use native.Mathlib.Decide.{ℕ_discrete}
use native.Mathlib.Omega.{arith}
use borrow.Author.Tests.{ltb-true}
use lib.Dec.{ltb}
use lib.ListN.{length, get_or, length-map, get_or-map}
use Rattle.lists.specs.Lists.{has, same_set, steps}
use Rattle.lists.proofs.Bools.{clash, same_test, and_left, and_right, and_both}
use Rattle.lists.proofs.Select.{select_in, select_out}
use Rattle.lists.proofs.Order.{select_ascends}
use Rattle.lists.proofs.Keep.{keep_size}
use Rattle.numbers.specs.Half.{cut, half_of}
use Rattle.shapes.specs.Shapes.{shape, facet_count}
use Rattle.shapes.proofs.Facts.{facts}
use Rattle.numbers.specs.declared.Caps.{Caps}
use Rattle.store.specs.Slots.{code_in}
use Rattle.map.specs.Cells.{Map, holds, facets_at}
use Rattle.map.specs.Siblings.{is_half, Half, marks_of, siblings, walk}
use Rattle.map.specs.Sound.{Sound}
use Rattle.map.specs.Stars.{holders, linked}
use Rattle.laws.proofs.Anchors.{half_facet, linked_facets, facets_linked}
use Rattle.laws.proofs.Cycles.{walk_has, walk_not_before}
use Rattle.laws.proofs.Sharers.{sharers_has, has_sharers, siblings_live}
use Rattle.laws.proofs.Bijection.{walk_meets}
use Rattle.laws.proofs.Halves.{half_live}
use Rattle.picture.specs.State.{State, map_with}
use Rattle.picture.specs.Picture.{Pic}
use Rattle.picture.specs.Ready.{Settled}
use Rattle.shapes.specs.Table.{table}
use Rattle.facet.specs.Facet.{match_at, facet_in}
use Rattle.facet.proofs.Read.{facet_read}
use Rattle.sibling.specs.Halves.{halves_of}
use Rattle.sibling.proofs.Along.{along}
use Rattle.laws.proofs.Facets.{facets_count}
use Rattle.picture.proofs.Record.{code_read}
use Rattle.group.specs.Labels.{sib_at, meets_in, met_in, joins_in, linked_in}
use Rattle.border.proofs.Words.{sib_is}
use Rattle.group.proofs.Meeting.{below_found, below_out, meets_none, meets_back, meets_here, meets_more, meets_start}
use Rattle.numbers.specs.Sizes.{most_around}
use Rattle.shapes.specs.Sizes.{no_facet}

-- a half-facet has a mark
marks_some : (m : Map) (h : ℕ) → Half m h → 0 < length (marks_of m h)
unfolding marks_of is_half facets_at
marks_some m h x =
    let mark : ℕ → ℕ = λ place. get_or (m.at (h / 8)).marks place 0 in
    let ps : List ℕ = get_or (shape (m.at (h / 8)).code).facets (h % 8) [] in
    let there : h % 8 < length (shape (m.at (h / 8)).code).facets = omega (arith, ltb-true (h % 8) (length (facets_at m (h / 8))) x.facet, facets_count m (h / 8)) in
    let mapped : marks_of m h ≡ map mark ps = get_or-map (map mark) (shape (m.at (h / 8)).code).facets (h % 8) [] in
    rw (mapped, length-map) ((facts (m.at (h / 8)).code).some (h % 8) there)

-- at most 128 half-facets have one set of marks: each is of a cell that holds the first mark
halves_size : (match : ℕ → ℕ) (cells : List ℕ) → length (halves_of match cells) ≤ length cells
unfolding halves_of
halves_size match cells = rw length-map (keep_size (λ c. ltb (match c) no_facet) cells)

siblings_few : (m : Map) → Sound m → (h : ℕ) → Half m h → length (siblings m h) ≤ most_around
unfolding siblings holders
siblings_few m o h x =
    let set : List ℕ = marks_of m h in
    let v : ℕ = get_or set 0 0 in
    let e : siblings m h ≡ halves_of (match_at m set) (holders m v) =
    along m o set (holders m v) (marks_some m h x)
    (λ c k. (select_out (holds m v) m.caps.cells c k).0)
    (λ c l k. select_in (holds m v) m.caps.cells c l k)
    (select_ascends (holds m v) m.caps.cells) in
    omega (arith, ap length e, halves_size (match_at m set) (holders m v), o.few v)

module _ (w : List ℕ) (caps : Caps) (s : State) (p : Pic w caps s) (t : Settled caps s) where
  abbrev m : Map
  m = map_with caps s

  -- from a half-facet
  module _ (start b : ℕ) (x : Half (map_with caps s) start) where
    step_is : (k : ℕ) → sib_at w caps (walk m k start) ≡ walk m (suc k) start
    unfolding walk steps
    step_is k = sib_is w caps s p t (walk m k start) (siblings_live m start (walk m k start) (walk_has m start x k))

    -- what is met is a step of the walk
    met_walk : (k i : ℕ) → meets_in w caps start b k (walk m i start) ≡ true → (j : ℕ) × (walk m j start / 8 ≡ b)
    met_walk zero i e = absurd (clash e (meets_none w caps start b (walk m i start)))
    met_walk (suc k) i e = go (met_walk k (suc i)) (ℕ_discrete (walk m i start) start) (ℕ_discrete (walk m i start / 8) b)
      where
        go : (meets_in w caps start b k (walk m (suc i) start) ≡ true → (j : ℕ) × (walk m j start / 8 ≡ b)) → Dec (walk m i start ≡ start)
            → Dec (walk m i start / 8 ≡ b) → (j : ℕ) × (walk m j start / 8 ≡ b)
        go later (yes z) g = absurd (clash e (meets_back w caps start b k (walk m i start) z))
        go later (no f) (yes z) = (i, z)
        go later (no f) (no g) =
            later (sym (meets_more w caps start b k (walk m i start) f g ∙ ap (meets_in w caps start b k) (step_is i)) ∙ e)

    -- and each step before the return is met
    walk_met : (k i n : ℕ) → 0 < i → i ≤ n → n < i + k → n < length (siblings m start) → walk m n start / 8 ≡ b
        → meets_in w caps start b k (walk m i start) ≡ true
    walk_met zero i n some low high size e = absurd (omega arith)
    walk_met (suc k) i n some low high size e =
        go (λ more. walk_met k (suc i) n (omega arith) more (omega arith) size e) (ℕ_discrete (walk m i start / 8) b) (ℕ_discrete i n)
      where
        apart : walk m i start ≡ start → ⊥
        apart = walk_not_before m start x i some (omega arith)

        go : (suc i ≤ n → meets_in w caps start b k (walk m (suc i) start) ≡ true) → Dec (walk m i start / 8 ≡ b) → Dec (i ≡ n)
            → meets_in w caps start b (suc k) (walk m i start) ≡ true
        go later (yes z) g = meets_here w caps start b k (walk m i start) apart z
        go later (no f) (yes z) = absurd (f (ap (λ (j : ℕ). walk m j start / 8) z ∙ e))
        go later (no f) (no g) =
            meets_more w caps start b k (walk m i start) apart f ∙ (ap (meets_in w caps start b k) (step_is i) ∙ later (omega arith))

    first_step : sib_at w caps start ≡ walk m 1 start
    unfolding walk steps
    first_step = sib_is w caps s p t start x

    pub met_there : met_in w caps start b ≡ true → (h : ℕ) × (h / 8 ≡ b) × Half m h × (same_set (marks_of m start) (marks_of m h) ≡ true)
    unfolding siblings
    met_there e =
        let r = met_walk most_around 1 (meets_start w caps start b (walk m 1 start) (sym first_step) ∙ e) in
        let y = sharers_has m (marks_of m start) (walk m r.0 start) (walk_has m start x r.0) in
        (walk m r.0 start, r.1, y.0, y.1)

    pub there_met : (start / 8 ≡ b → ⊥) → (h : ℕ) → h / 8 ≡ b → Half m h → same_set (marks_of m start) (marks_of m h) ≡ true → met_in w caps start b ≡ true
    unfolding siblings walk steps
    there_met apart h cell y e =
        let r = walk_meets m start x h (has_sharers m (marks_of m start) h y e) in
        let few = siblings_few m t.ready.sound start x in
        let end : walk m r.0 start / 8 ≡ b = ap (λ (k : ℕ). k / 8) r.2 ∙ cell in
        sym (meets_start w caps start b (walk m 1 start) (sym first_step))
        ∙ walk_met most_around 1 r.0 (omega arith) (moved r.0 end) (omega (arith, r.1, few)) r.1 end
      where
        moved : (n : ℕ) → walk m n start / 8 ≡ b → 1 ≤ n
        moved zero q = absurd (apart q)
        moved (suc n) q = omega arith

  module _ (rows : List (List (List ℕ))) (types : rows ≡ table) (v a b : ℕ) (ha : a < caps.cells) where
    count_is : facet_count (code_in w caps a) ≡ length (facets_at m a)
    unfolding facet_count map_with
    count_is = rw (code_read w caps s p a ha) (sym (facets_count (map_with caps s) a))

    start_is : (f : ℕ) → f < length (facets_at m a) → half_of (cut a) (f % 8) ≡ 8 * a + f
    unfolding half_of
    start_is f l = omega (arith, ha, p.cells, (half_facet m a f l).3)

    facet_is : (f : ℕ) → facet_in w caps rows a f ≡ get_or (facets_at m a) f []
    unfolding map_with
    facet_is f = ap (λ (r : List (List (List ℕ))). facet_in w caps r a f) types ∙ facet_read w caps s p a ha (t.ready.sound.fitting a) f

    pub linked_read : (a ≡ b → ⊥) → linked_in w caps rows v a b ≡ linked m v a b
    unfolding linked_in joins_in is_half marks_of
    linked_read apart = same_test _ _ there back
      where
        there : linked_in w caps rows v a b ≡ true → linked m v a b ≡ true
        there e =
            let r = below_out (facet_count (code_in w caps a)) (λ f. joins_in w caps rows v a f b) e in
            let joins : met_in w caps (half_of (cut a) (r.0 % 8)) b && has v (facet_in w caps rows a r.0) ≡ true = r.2 in
            let less : r.0 < length (facets_at m a) = omega (arith, r.1, count_is) in
            let half = half_facet m a r.0 less in
            let x = half_live m t.ready.sound (8 * a + r.0) half.1 in
            let q = met_there (8 * a + r.0) b x (rw (start_is r.0 less) at (and_left (met_in w caps (half_of (cut a) (r.0 % 8)) b) _ joins)) in
            let place : q.0 % 8 < length (facets_at m (q.0 / 8)) = ltb-true _ _ q.2.facet in
            let same : same_set (get_or (facets_at m a) r.0 []) (get_or (facets_at m (q.0 / 8)) (q.0 % 8) []) ≡ true = rw half.2 at q.3 in
            let held : has v (get_or (facets_at m a) r.0 []) ≡ true = rw (facet_is r.0) at (and_right (met_in w caps (half_of (cut a) (r.0 % 8)) b) _ joins) in
            rw q.1 at (facets_linked m v a (q.0 / 8) r.0 (q.0 % 8) less held place same)

        back : linked m v a b ≡ true → linked_in w caps rows v a b ≡ true
        back e =
            let r = linked_facets m v a b e in
            let q = r.3 in
            let one = half_facet m a r.0 r.1 in
            let other = half_facet m b q.0 q.1 in
            let x = half_live m t.ready.sound (8 * a + r.0) one.1 in
            let y = half_live m t.ready.sound (8 * b + q.0) other.1 in
            let met : met_in w caps (8 * a + r.0) b ≡ true =
            there_met (8 * a + r.0) b x (λ z. apart (sym one.0 ∙ z)) (8 * b + q.0) other.0 y (rw (one.2, other.2) q.2) in
            below_found _ _ r.0 (omega (arith, r.1, count_is))
            (and_both (met_in w caps (half_of (cut a) (r.0 % 8)) b) (has v (facet_in w caps rows a r.0)) (rw (start_is r.0 r.1) met) (rw (facet_is r.0) r.2))
