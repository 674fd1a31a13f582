-- The plan for wanted cells that can be built: each edit is accepted in turn, and the map that it leaves is that of the wanted cells.
use mathlib.Core.Path.{◌≡◌, refl, sym, ap, ◌∙◌, fun_ext}
use mathlib.Core.Bool.{Bool, true, false, cond, not, ◌&&◌, ◌||◌}
use mathlib.Core.List.{List, [], ◌∷◌, ◌++◌, map}
use mathlib.Core.Logic.{◌⊎◌, inl, inr, ⊎_elim}
use Prim.Native.Nat.{ℕ, ◌<◌}
use borrow.Author.Tests.{eq-eqb, ne_eqb, eqb-true}
use lib.Dec.{eqb}
use Rattle.lists.specs.Lists.{has, any, all, select, repeats}
use Rattle.lists.proofs.Bools.{clash, either, not_true_false, and_left, and_right, and_both, or_cases, or_left, or_right, not_of_false, not_false_true}
use Rattle.lists.proofs.Counts.{neither}
use Rattle.lists.proofs.Order.{select_ascends, asc_once}
use Rattle.lists.proofs.Select.{select_in, select_out}
use Rattle.numbers.specs.declared.Caps.{Caps}
use Rattle.map.specs.Cells.{Body, Live, Map, no_cell, body_in, map_of, live}
use Rattle.map.specs.Afresh.{numbers, Distinct}
use Rattle.map.specs.History.{Edit, Insert, Remove, edit_answer, put, changed, edited, history}
use Rattle.map.specs.Sound.{Sound, TwoSolids}
use Rattle.laws.proofs.Edits.{edited_changed, insert_may, remove_may, coded}
use Rattle.laws.proofs.Orders.{distinct_parts}
use Rattle.laws.proofs.Solids.{part}
use Rattle.laws.proofs.Rebuild.{part_takes, insertion, inserts, AllAccepted, done, next, AllLive, Tidy}
use Rattle.wanted.specs.Wanted.{stands}
use Rattle.wanted.proofs.Standing.{stands_is, is_stands}
use Rattle.planner.specs.Plan.{wanted_as, unwanted, others, missing, plan_of}

-- two lists of edits, one after the other
accepted_then : (m : Map) (a b : List Edit) → AllAccepted m a → AllAccepted (history m a) b → AllAccepted m (a ++ b)
unfolding history
accepted_then m [] b done y = y
accepted_then m (e ∷ a) b (next ok rest) y = next ok (accepted_then (edited m e) a b rest y)

history_then : (m : Map) (a b : List Edit) → history m (a ++ b) ≡ history (history m a) b
unfolding history
history_then m [] b = refl
history_then m (e ∷ a) b = history_then (edited m e) a b

-- the removals of some cells
abbrev removes : List ℕ → List Edit
removes l = map (λ (c : ℕ). Remove c) l

-- the map without them
abbrev without : Map → List ℕ → Map
without m l = part m (λ k. cond (has k l) no_cell (m.at k))

removed_twice : (a b : Bool) (x : Body) → cond b no_cell (cond a no_cell x) ≡ cond (a || b) no_cell x
removed_twice true true x = refl
removed_twice true false x = refl
removed_twice false b x = refl

-- a number that is in a list is another than one that is not
other_number : (c k : ℕ) (l : List ℕ) → has c l ≡ false → has k l ≡ true → c ≡ k → ⊥
other_number c k l out here e = clash (rw e here) out

-- live cells, each named once, are removed one after another
removed : (l : List ℕ) (m : Map) → repeats l ≡ false → ((k : ℕ) → has k l ≡ true → (k < m.caps.cells) × (live m k ≡ true))
    → AllAccepted m (removes l) × (history m (removes l) ≡ without m l)
unfolding history changed put has repeats live
removed [] m once each = (done, refl)
removed (x ∷ xs) m once each =
    let here = each x (or_left _ _ (eq-eqb x x refl)) in
    let apart = neither (has x xs) (repeats xs) once in
    let ok : (edit_answer m (Remove x)).refusal ≡ 0 = remove_may m x (record { number = here.0; live = here.1 }) in
    let step : edited m (Remove x) ≡ put m x no_cell = edited_changed m (Remove x) ok in
    let rest = removed xs (put m x no_cell) apart.1 (λ k h. let old = each k (or_right (eqb x k) _ h) in
    (old.0, rw (ne_eqb x k (other_number x k xs apart.0 h)) old.1)) in (
      next {es = removes xs} ok (rw step rest.0),
      ap (λ (k : Map). history k (removes xs)) step
          ∙ (rest.1 ∙ ap (λ (at : ℕ → Body). part m at) (fun_ext (λ k. removed_twice (eqb x k) (has k xs) (m.at k)))),
    )

-- what holds of each cell of a list
pub data Each (P : Live → Type 0) : List Live → Type 0 where
  none : Each P []
  more : {x : Live} {xs : List Live} → P x → Each P xs → Each P (x ∷ xs)

-- holds under each of its numbers
each_number : (P : ℕ → Type 0) {xs : List Live} → Each (λ x. P x.number) xs → (k : ℕ) → has k (numbers xs) ≡ true → P k
unfolding has
each_number P none k h = absurd (clash h refl)
each_number P (more {x} {xs} p rest) k h =
    ⊎_elim (λ e. rw (eqb-true x.number k e) at p) (λ e. each_number P rest k e) (or_cases (eqb x.number k) (has k (numbers xs)) h)

-- cells of a sound map with two solids at most, inserted into a part of it that lacks them
module _ (m : Map) (s : Sound m) (t : TwoSolids m) where
  abbrev with : List Live → (ℕ → Body) → ℕ → Body
  with xs at k = cond (has k (numbers xs)) (m.at k) (at k)

  inserted : (xs : List Live) (at : ℕ → Body) → ((k : ℕ) → (at k ≡ no_cell) ⊎ (at k ≡ m.at k)) → Distinct xs
      → Each (λ x. (m.at x.number ≡ x.body) × (coded x.body ≡ true)) xs → ((k : ℕ) → has k (numbers xs) ≡ true → at k ≡ no_cell)
      → AllAccepted (part m at) (inserts xs) × (history (part m at) (inserts xs) ≡ part m (with xs at))
  unfolding history changed put has
  inserted [] at inner d each free = (done, refl)
  inserted (x ∷ xs) at inner d (more (here, l) each) free =
      let c : ℕ = x.number in
      let apart = distinct_parts x xs d in
      let ok : (edit_answer (part m at) (insertion x)).refusal ≡ 0 =
      insert_may (part m at) c x.body (part_takes m at inner c x.body s t here l (free c (or_left _ _ (eq-eqb c c refl)))) in
      let at₁ : ℕ → Body = λ k. cond (eqb c k) x.body (at k) in
      let step : edited (part m at) (insertion x) ≡ part m at₁ = edited_changed (part m at) (insertion x) ok in
      let rest = inserted xs at₁ (λ k. within k (eqb c k) refl) apart.1 each
      (λ k h. rw (ne_eqb c k (other_number c k (numbers xs) apart.0 h)) (free k (or_right (eqb c k) _ h))) in (
        next {es = inserts xs} ok (rw step rest.0),
        ap (λ (k : Map). history k (inserts xs)) step ∙ (rest.1 ∙ ap (λ (a : ℕ → Body). part m a) (fun_ext (λ k. both k (eqb c k) refl (has k (numbers xs))))),
      )
    where
      here_at : (k : ℕ) → eqb x.number k ≡ true → x.body ≡ m.at k
      here_at k e = sym here ∙ ap m.at (eqb-true x.number k e)

      within : (k : ℕ) (b : Bool) → eqb x.number k ≡ b → (cond b x.body (at k) ≡ no_cell) ⊎ (cond b x.body (at k) ≡ m.at k)
      within k true e = inr (here_at k e)
      within k false e = inner k

      both : (k : ℕ) (b : Bool) → eqb x.number k ≡ b → (h : Bool) → cond h (m.at k) (cond b x.body (at k)) ≡ cond (b || h) (m.at k) (at k)
      both k true e true = refl
      both k true e false = here_at k e
      both k false e h = refl

-- under a number that is not in the list stands no cell
pub not_listed : (xs : List Live) (k : ℕ) → has k (numbers xs) ≡ false → body_in xs k ≡ no_cell
unfolding body_in has
not_listed [] k e = refl
not_listed (x ∷ xs) k e = let r = neither (eqb x.number k) (has k (numbers xs)) e in rw r.0 (not_listed xs k r.1)

-- under the number of each cell of a list stands that cell
pub listed_body : (at : ℕ → Body) (xs : List Live) → Distinct xs → ((k : ℕ) → has k (numbers xs) ≡ true → at k ≡ body_in xs k) → AllLive xs
    → Each (λ x. (at x.number ≡ x.body) × (coded x.body ≡ true)) xs
unfolding body_in has all
listed_body at [] d same l = none
listed_body at (x ∷ xs) d same l =
    let c : ℕ = x.number in
    let apart = distinct_parts x xs d in
    more (rw (eq-eqb c c refl) at (same c (or_left _ _ (eq-eqb c c refl))), and_left _ _ l)
    (listed_body at xs apart.1 (λ k h. rw (ne_eqb c k (other_number c k (numbers xs) apart.0 h)) at (same k (or_right (eqb c k) _ h)))
    (and_right (coded x.body) _ l))

-- a cell with a type stands where the map has its body
pub coded_stands : (m : Map) (x : Live) → coded x.body ≡ true → m.at x.number ≡ x.body → stands m x ≡ true
unfolding live
coded_stands m x l e = let alive : live m x.number ≡ true = rw e l in is_stands m x alive e

module _ (m : Map) where
  -- what is wanted as it stands is a wanted number
  wanted_number : (xs : List Live) (k : ℕ) → wanted_as m xs k ≡ true → has k (numbers xs) ≡ true
  unfolding wanted_as any has
  wanted_number [] k e = e
  wanted_number (x ∷ xs) k e =
      ⊎_elim (λ h. or_left (eqb x.number k) _ (and_left (eqb x.number k) (stands m x) h)) (λ h. or_right (eqb x.number k) _ (wanted_number xs k h))
      (or_cases (eqb x.number k && stands m x) (wanted_as m xs k) e)

  -- and stands in the map as in the list
  wanted_body : (xs : List Live) → Distinct xs → (k : ℕ) → wanted_as m xs k ≡ true → m.at k ≡ body_in xs k
  unfolding wanted_as any body_in
  wanted_body [] d k e = absurd (clash e refl)
  wanted_body (x ∷ xs) d k e =
      ⊎_elim first (λ h. later h (wanted_body xs (distinct_parts x xs d).1 k h)) (or_cases (eqb x.number k && stands m x) (wanted_as m xs k) e)
    where
      first : eqb x.number k && stands m x ≡ true → m.at k ≡ cond (eqb x.number k) x.body (body_in xs k)
      first h =
          let q : eqb x.number k ≡ true = and_left _ _ h in
          rw q (ap m.at (sym (eqb-true x.number k q)) ∙ (stands_is m x (and_right (eqb x.number k) _ h)).1)

      later : wanted_as m xs k ≡ true → m.at k ≡ body_in xs k → m.at k ≡ cond (eqb x.number k) x.body (body_in xs k)
      later h same = rw (ne_eqb x.number k (other_number x.number k (numbers xs) (distinct_parts x xs d).0 (wanted_number xs k h))) same

  -- a wanted number is missing, or its cell is wanted as it stands
  missing_or : (xs : List Live) (k : ℕ) → has k (numbers xs) ≡ true → has k (numbers (missing m xs)) ≡ false → wanted_as m xs k ≡ true
  unfolding missing others wanted_as any has
  missing_or [] k h e = h
  missing_or (x ∷ xs) k h e = go (missing_or xs k) (stands m x) refl e
    where
      go : (has k (numbers xs) ≡ true → has k (numbers (missing m xs)) ≡ false → wanted_as m xs k ≡ true)
          → (b : Bool) → stands m x ≡ b → has k (numbers (cond b (missing m xs) (x ∷ missing m xs))) ≡ false
          → (eqb x.number k && stands m x) || wanted_as m xs k ≡ true
      go on true q e =
          ⊎_elim (λ here. or_left _ (wanted_as m xs k) (and_both (eqb x.number k) _ here q))
          (λ more. or_right (eqb x.number k && stands m x) _ (on more e)) (or_cases (eqb x.number k) (has k (numbers xs)) h)
      go on false q e =
          let r = neither (eqb x.number k) (has k (numbers (missing m xs))) e in
          or_right (eqb x.number k && stands m x) _
          (on (⊎_elim (λ here. absurd (clash here r.0)) (λ more. more) (or_cases (eqb x.number k) (has k (numbers xs)) h)) r.1)

  -- the missing are wanted
  missing_number : (xs : List Live) (k : ℕ) → has k (numbers (missing m xs)) ≡ true → has k (numbers xs) ≡ true
  unfolding missing others has
  missing_number [] k h = h
  missing_number (x ∷ xs) k h = go (missing_number xs k) (stands m x) h
    where
      go : (has k (numbers (missing m xs)) ≡ true → has k (numbers xs) ≡ true)
          → (b : Bool) → has k (numbers (cond b (missing m xs) (x ∷ missing m xs))) ≡ true → eqb x.number k || has k (numbers xs) ≡ true
      go on true h = or_right (eqb x.number k) _ (on h)
      go on false h =
          ⊎_elim (λ here. or_left _ (has k (numbers xs)) here) (λ more. or_right (eqb x.number k) _ (on more))
          (or_cases (eqb x.number k) (has k (numbers (missing m xs))) h)

  -- none of them twice
  missing_distinct : (xs : List Live) → Distinct xs → Distinct (missing m xs)
  unfolding missing others repeats
  missing_distinct [] d = d
  missing_distinct (x ∷ xs) d = go (missing_distinct xs (distinct_parts x xs d).1) (stands m x)
    where
      go : Distinct (missing m xs) → (b : Bool) → Distinct (cond b (missing m xs) (x ∷ missing m xs))
      go on true = on
      go on false =
          let out : has x.number (numbers (missing m xs)) ≡ false = not_true_false _ (λ h. clash (missing_number xs _ h) (distinct_parts x xs d).0) in
          rw (out, on)

  -- what holds of each wanted cell holds of each missing one, and that does not stand
  missing_each : {P : Live → Type 0} (xs : List Live) → Each P xs → Each (λ x. P x × (stands m x ≡ false)) (missing m xs)
  unfolding missing others
  missing_each [] none = none
  missing_each {P} (x ∷ xs) (more p rest) = go (missing_each xs rest) (stands m x) refl
    where
      go : Each (λ x. P x × (stands m x ≡ false)) (missing m xs)
          → (b : Bool) → stands m x ≡ b → Each (λ x. P x × (stands m x ≡ false)) (cond b (missing m xs) (x ∷ missing m xs))
      go on true e = on
      go on false e = more (p, e) on

each_map : {P Q : Live → Type 0} {xs : List Live} → ((x : Live) → P x → Q x) → Each P xs → Each Q xs
each_map f none = none
each_map f (more {x} p rest) = more (f x p) (each_map f rest)

-- today's map, and wanted cells that can be built under its capacities and edition
module _ (m : Map) (s : Sound m) (cells : List Live) (t : Tidy m.caps cells) where
  abbrev goal : Map
  goal = map_of m.caps cells

  -- after the removals
  abbrev left : ℕ → Body
  left k = cond (has k (unwanted m cells)) no_cell (m.at k)

  -- a cell that is wanted as it stands is left
  left_kept : (k : ℕ) → wanted_as m cells k ≡ true → left k ≡ m.at k
  unfolding unwanted
  left_kept k e =
      rw (not_true_false (has k (unwanted m cells))
      (λ h. clash e (not_false_true _ (and_right (live m k) _ (select_out _ m.caps.cells k h).1))))

  -- and no other
  left_gone : (k : ℕ) → wanted_as m cells k ≡ false → left k ≡ no_cell
  unfolding unwanted
  left_gone k e = ⊎_elim gone dead (either (live m k))
    where
      gone : live m k ≡ true → left k ≡ no_cell
      gone l = rw (select_in (λ c. live m c && not (wanted_as m cells c)) m.caps.cells k (s.below k l) (and_both _ _ l (not_of_false _ e)))

      dead : live m k ≡ false → left k ≡ no_cell
      dead l = rw (s.dead k l) (same (has k (unwanted m cells)))
        where
          same : (b : Bool) → cond b no_cell no_cell ≡ no_cell
          same true = refl
          same false = refl

  left_inner : (k : ℕ) → (left k ≡ no_cell) ⊎ (left k ≡ goal.at k)
  unfolding map_of
  left_inner k =
      ⊎_elim (λ e. inr (left_kept k e ∙ wanted_body m cells t.distinct k e)) (λ e. inl (left_gone k e)) (either (wanted_as m cells k))

  -- each missing cell is one of the goal
  missing_goal : Each (λ x. ((goal.at x.number ≡ x.body) × (coded x.body ≡ true)) × (stands m x ≡ false)) (missing m cells)
  unfolding map_of
  missing_goal = missing_each m cells (listed_body (body_in cells) cells t.distinct (λ k h. refl) t.live)

  -- its number is free
  missing_free : (k : ℕ) → has k (numbers (missing m cells)) ≡ true → left k ≡ no_cell
  unfolding map_of
  missing_free =
      each_number (λ k. left k ≡ no_cell)
      (each_map (λ x p. left_gone x.number (not_true_false _
      (λ e. clash (coded_stands m x p.0.1 (wanted_body m cells t.distinct x.number e ∙ p.0.0)) p.1))) missing_goal)

  -- the removals
  gone : AllAccepted m (removes (unwanted m cells)) × (history m (removes (unwanted m cells)) ≡ part goal left)
  unfolding unwanted map_of
  gone =
      removed (unwanted m cells) m (asc_once _ (select_ascends _ m.caps.cells))
      (λ k h. let r = select_out _ m.caps.cells k h in (r.0, and_left _ _ r.1))

  -- then the insertions
  come : AllAccepted (part goal left) (inserts (missing m cells))
      × (history (part goal left) (inserts (missing m cells)) ≡ part goal (with goal t.sound t.two (missing m cells) left))
  come =
      inserted goal t.sound t.two (missing m cells) left left_inner (missing_distinct m cells t.distinct)
      (each_map (λ x p. p.0) missing_goal) missing_free

  -- every cell is the goal's
  all_there : (k : ℕ) → with goal t.sound t.two (missing m cells) left k ≡ goal.at k
  unfolding map_of
  all_there k = go (has k (numbers (missing m cells))) refl
    where
      stays : has k (numbers (missing m cells)) ≡ false → left k ≡ body_in cells k
      stays e = ⊎_elim
          (λ (w : wanted_as m cells k ≡ true). left_kept k w ∙ wanted_body m cells t.distinct k w)
          (λ (w : wanted_as m cells k ≡ false). left_gone k w
          ∙ sym (not_listed cells k (not_true_false _ (λ h. clash (missing_or m cells k h e) w))))
          (either (wanted_as m cells k))

      go : (b : Bool) → has k (numbers (missing m cells)) ≡ b → cond b (body_in cells k) (left k) ≡ body_in cells k
      go true e = refl
      go false e = stays e

  -- every edit of the plan is accepted in turn
  pub plan_accepted : AllAccepted m (plan_of m cells)
  unfolding plan_of
  plan_accepted =
      accepted_then m (removes (unwanted m cells)) (inserts (missing m cells)) gone.0 (rw gone.1 come.0)

  -- and the map afterwards is that of the wanted cells
  pub plan_leaves : history m (plan_of m cells) ≡ goal
  unfolding plan_of
  plan_leaves =
      history_then m (removes (unwanted m cells)) (inserts (missing m cells))
      ∙ (ap (λ (k : Map). history k (inserts (missing m cells))) gone.1
      ∙ (come.1 ∙ ap (λ (at : ℕ → Body). part goal at) (fun_ext all_there)))
