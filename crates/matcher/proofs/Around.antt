-- The three stars of a mark have the licences of all cells around it; listed on a mesh.
use mathlib.Core.Path.{◌≡◌, refl, sym, ap, ◌∙◌, subst}
use mathlib.Core.Bool.{Bool, true, false, ◌&&◌, ◌||◌}
use mathlib.Core.List.{List, [], ◌∷◌, ◌++◌, map}
use mathlib.Core.Logic.{◌⊎◌, inl, inr, ⊎_elim}
use Prim.Native.Nat.{ℕ, ◌+◌, ◌<◌, ◌≤◌}
use native.Mathlib.Decide.{dec_lt}
use native.Mathlib.Omega.{arith}
use lib.ListN.{get_or, length, drop}
use Rattle.lists.specs.Lists.{has, list_of}
use Rattle.lists.specs.Filled.{Copied}
use Rattle.lists.proofs.Alike.{map_at}
use Rattle.lists.proofs.Bools.{and_left, and_right, and_both, or_cases, or_left, or_right}
use Rattle.lists.proofs.Fill.{length_list_of}
use Rattle.lists.proofs.Keep.{map_has}
use Rattle.lists.proofs.Mapped.{copied_list}
use Rattle.lists.proofs.Members.{at_has, has_append}
use Rattle.lists.proofs.Select.{select_in, select_out}
use Rattle.words.specs.Words.{Only}
use Rattle.numbers.specs.declared.Caps.{Caps}
use Rattle.std.specs.Prelude.{Result, Ok, Err}
use Rattle.store.specs.Open.{opened}
use Rattle.map.specs.Cells.{Map, live, dimension_at, holds}
use Rattle.map.specs.Stars.{star}
use Rattle.map.specs.Sound.{Sound}
use Rattle.map.specs.Answers.{star_checks}
use Rattle.map.specs.declared.Refusal.{Refusal}
use Rattle.map.specs.declared.Refusal.TheVariants.{OutputShort}
use Rattle.laws.proofs.Anchors.{star_has, has_star}
use Rattle.laws.proofs.Edits.{typed_coded}
use Rattle.picture.specs.Picture.{Wf}
use Rattle.edit.proofs.Aside.{dimension_most}
use Rattle.checks.specs.Checked.{Checked}
use Rattle.checks.specs.Opening.{Opens}
use Rattle.checks.proofs.Passed.{star_numbered, star_passed}
use Rattle.listing.specs.Listing.{Listing}
use Rattle.listing.proofs.Listed.{first_only, listing_refused, listing_short, listing_wrote}
use Rattle.matcher.specs.Licences.{ascending, cells_around, licences_around}
use Rattle.matcher.specs.Gathered.{licence_in, gathered, Gathered}
use Rattle.matcher.proofs.Order.{order_same, order_few}

-- the cells around a mark: live, and they hold it
pub around_has : (m : Map) (v c : ℕ) → has c (cells_around m v) ≡ true → (c < m.caps.cells) × (live m c ≡ true) × (holds m v c ≡ true)
unfolding cells_around
around_has m v c h =
    let r = select_out (λ c. live m c && holds m v c) m.caps.cells c h in
    (r.0, and_left (live m c) (holds m v c) r.1, and_right (live m c) (holds m v c) r.1)

pub has_around : (m : Map) → Sound m → (v c : ℕ) → live m c ≡ true → holds m v c ≡ true → has c (cells_around m v) ≡ true
unfolding cells_around
has_around m o v c alive h = select_in (λ c. live m c && holds m v c) m.caps.cells c (o.below c alive) (and_both (live m c) (holds m v c) alive h)

-- in one of three lists
module _ (x : ℕ) (a b c : List ℕ) where
  has_three : has x ((a ++ b) ++ c) ≡ true → (has x a ≡ true) ⊎ ((has x b ≡ true) ⊎ (has x c ≡ true))
  has_three h =
      ⊎_elim
      (λ (q : has x (a ++ b) ≡ true).
      ⊎_elim (λ (z : has x a ≡ true). inl z) (λ (z : has x b ≡ true). inr (inl z)) (or_cases (has x a) (has x b) (sym (has_append x a b) ∙ q)))
      (λ (q : has x c ≡ true). inr (inr q)) (or_cases (has x (a ++ b)) (has x c) (sym (has_append x (a ++ b) c) ∙ h))

  three_third : has x c ≡ true → has x ((a ++ b) ++ c) ≡ true
  three_third h = has_append x (a ++ b) c ∙ or_right (has x (a ++ b)) (has x c) h

  three_two : has x (a ++ b) ≡ true → has x ((a ++ b) ++ c) ≡ true
  three_two h = has_append x (a ++ b) c ∙ or_left (has x (a ++ b)) (has x c) h

  three_first : has x a ≡ true → has x ((a ++ b) ++ c) ≡ true
  three_first h = three_two (has_append x a b ∙ or_left (has x a) (has x b) h)

  three_second : has x b ≡ true → has x ((a ++ b) ++ c) ≡ true
  three_second h = three_two (has_append x a b ∙ or_right (has x a) (has x b) h)

module _ (m : Map) (o : Sound m) (v : ℕ) where
  -- a cell of a star is around the mark
  star_around : (d : ℕ) → 1 ≤ d → (x : ℕ) → has x (map (licence_in m) (star m d v)) ≡ true → has x (map (licence_in m) (cells_around m v)) ≡ true
  unfolding live dimension_at
  star_around d some x h =
      let r = map_at (licence_in m) (star m d v) x h in
      let c : ℕ = get_or (star m d v) r.0 0 in
      let s = star_has m d v c (at_has (star m d v) r.0 r.1) in
      subst (λ (z : ℕ). has z (map (licence_in m) (cells_around m v)) ≡ true) r.2
      (map_has (licence_in m) (cells_around m v) c (has_around m o v c (typed_coded (m.at c).code (omega (arith, s.1))) s.2))

  gathered_around : (x : ℕ) → has x (gathered m v) ≡ true → has x (map (licence_in m) (cells_around m v)) ≡ true
  unfolding gathered
  gathered_around x h =
      ⊎_elim (λ (q : has x (map (licence_in m) (star m 1 v)) ≡ true). star_around 1 (omega arith) x q)
      (λ (p : (has x (map (licence_in m) (star m 2 v)) ≡ true) ⊎ (has x (map (licence_in m) (star m 3 v)) ≡ true)).
      ⊎_elim (λ (q : has x (map (licence_in m) (star m 2 v)) ≡ true). star_around 2 (omega arith) x q)
      (λ (q : has x (map (licence_in m) (star m 3 v)) ≡ true). star_around 3 (omega arith) x q) p)
      (has_three x (map (licence_in m) (star m 1 v)) (map (licence_in m) (star m 2 v)) (map (licence_in m) (star m 3 v)) h)

  -- a cell around the mark is of one of three dimensions
  in_star : (c d x : ℕ) → dimension_at m c ≡ d → c < m.caps.cells → holds m v c ≡ true → licence_in m c ≡ x → has x (map (licence_in m) (star m d v)) ≡ true
  in_star c d x e less h is =
      subst (λ (z : ℕ). has z (map (licence_in m) (star m d v)) ≡ true) is (map_has (licence_in m) (star m d v) c (has_star m d v c less e h))

  one_gathered : (c x : ℕ) → 0 < dimension_at m c → dimension_at m c ≤ 3 → c < m.caps.cells → holds m v c ≡ true → licence_in m c ≡ x
      → Dec (dimension_at m c < 2) → Dec (dimension_at m c < 3) → has x (gathered m v) ≡ true
  unfolding gathered
  one_gathered c x some most less h is (yes a) b =
      three_first x (map (licence_in m) (star m 1 v)) (map (licence_in m) (star m 2 v)) (map (licence_in m) (star m 3 v)) (in_star c 1 x (omega arith) less h is)
  one_gathered c x some most less h is (no a) (yes b) =
      three_second x (map (licence_in m) (star m 1 v)) (map (licence_in m) (star m 2 v)) (map (licence_in m) (star m 3 v)) (in_star c 2 x (omega arith) less h is)
  one_gathered c x some most less h is (no a) (no b) =
      three_third x (map (licence_in m) (star m 1 v)) (map (licence_in m) (star m 2 v)) (map (licence_in m) (star m 3 v)) (in_star c 3 x (omega arith) less h is)

  around_most : (c : ℕ) → 0 < dimension_at m c → dimension_at m c ≤ 3
  unfolding dimension_at
  around_most c some = dimension_most (m.at c).code some

  around_gathered : (x : ℕ) → has x (map (licence_in m) (cells_around m v)) ≡ true → has x (gathered m v) ≡ true
  around_gathered x h =
      let r = map_at (licence_in m) (cells_around m v) x h in
      let c : ℕ = get_or (cells_around m v) r.0 0 in
      let s = around_has m v c (at_has (cells_around m v) r.0 r.1) in
      let some : 0 < dimension_at m c = o.typed c s.1 in
      one_gathered c x some (around_most c some) s.0 s.2 r.2 (dec_lt (dimension_at m c) 2) (dec_lt (dimension_at m c) 3)

  pub around_same : ascending (gathered m v) ≡ licences_around m v
  unfolding licences_around
  around_same = order_same (gathered m v) (map (licence_in m) (cells_around m v)) gathered_around around_gathered

-- listed on a mesh
module _ (w : List ℕ) (v : ℕ) (o : List ℕ) (opening : Result Caps Refusal) (is : Opens w (λ m. star_checks m 1 v) opening) where
  pub around_refused : (why : Refusal) → opening ≡ Err why
      → Listing w (λ m. star_checks m 1 v) (λ m. licences_around m v) o (Err why) o
  around_refused why q = listing_refused w (λ m. star_checks m 1 v) (λ m. licences_around m v) o opening is why q

  module _ (caps : Caps) (q : opening ≡ Ok caps) (zeros all : List ℕ) (n : ℕ) (long : length zeros ≡ 384) (g : Gathered w v zeros n all) where
    mesh : Ok caps ≡ opened w
    mesh = (is.opens caps q).0

    passed : Checked w caps (λ m. star_checks m 1 v) (Ok tt)
    passed = (is.opens caps q).1

    numbers : (m : Map) → m.caps ≡ caps → Wf w m → ascending (list_of n (λ i. get_or all i 0)) ≡ licences_around m v
    numbers m e wf =
        ap ascending (copied_list (gathered m v) zeros all n (omega (arith, g.few)) (g.list m wf (star_passed w caps (Ok tt) refl m e wf 1 v passed).2))
        ∙ around_same m wf.sound v

    pub around_fits : (blank apart : List ℕ) (total : ℕ) → Copied (ascending (list_of n (λ i. get_or all i 0))) blank total apart → total ≤ n
    around_fits blank apart total c =
        omega (arith, c.count, order_few (list_of n (λ i. get_or all i 0)), length_list_of n (λ i. get_or all i 0))

    module _ (blank apart : List ℕ) (total : ℕ) (c : Copied (ascending (list_of n (λ i. get_or all i 0))) blank total apart) where
      pub around_short : length o < total → Listing w (λ m. star_checks m 1 v) (λ m. licences_around m v) o (Err OutputShort) o
      around_short h =
          listing_short w (λ m. star_checks m 1 v) (λ m. licences_around m v) o caps mesh (Ok tt) passed refl (λ m. star_numbered m 1 v) total h
          (λ m e wf. c.count ∙ ap length (numbers m e wf))

      pub around_wrote : total ≤ length o → (again : ℕ) (o' : List ℕ) → Copied (ascending (list_of n (λ i. get_or all i 0))) o again o'
          → Listing w (λ m. star_checks m 1 v) (λ m. licences_around m v) o (Ok total) o'
      around_wrote h again o' z =
          listing_wrote w (λ m. star_checks m 1 v) (λ m. licences_around m v) o caps mesh (Ok tt) passed refl (λ m. star_numbered m 1 v) total o' h
          (first_only (ascending (list_of n (λ i. get_or all i 0))) o o' total (omega (arith, c.count)) h (z.filled.wrote (omega (arith, c.count))))
          (λ m e wf. (
            c.count ∙ ap length (numbers m e wf),
            subst (λ (l : List ℕ). o' ≡ l ++ drop (length l) o) (numbers m e wf) (z.filled.wrote (omega (arith, c.count))),
          ))
