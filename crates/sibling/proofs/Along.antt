-- The half-facets with one set of marks are found along the chain of one of its marks.
use mathlib.Core.Path.{◌≡◌, sym, ◌∙◌}
use mathlib.Core.Bool.{true}
use mathlib.Core.List.{List, []}
use mathlib.Core.Logic.{⊎_elim}
use Prim.Native.Nat.{ℕ, ◌+◌, ◌*◌, ◌/◌, ◌%◌, ◌<◌}
use native.Mathlib.Omega.{arith}
use borrow.Author.Tests.{lt-ltb, ltb-true}
use lib.Dec.{ltb}
use lib.ListN.{length, get_or}
use Rattle.lists.specs.Lists.{has, same_set, select, keep}
use Rattle.lists.specs.Ascending.{Ascending}
use Rattle.lists.proofs.Bools.{same_test, not_true_false}
use Rattle.lists.proofs.Members.{at_has}
use Rattle.lists.proofs.Sets.{same_has, same_sym, same_trans}
use Rattle.lists.proofs.Select.{select_in, select_out}
use Rattle.lists.proofs.Order.{select_ascends, keep_ascends, first_select, asc_same}
use Rattle.lists.proofs.Keep.{keep_in, keep_out, first_either, map_has}
use Rattle.lists.proofs.Alike.{map_at}
use Rattle.numbers.specs.Half.{half_of}
use Rattle.numbers.proofs.Inverse.{half_whole}
use Rattle.numbers.specs.declared.Caps.{Caps}
use Rattle.map.specs.Cells.{Map, holds, facets_at}
use Rattle.map.specs.Siblings.{is_half, marks_of, sharers}
use Rattle.map.specs.Sound.{Sound}
use Rattle.laws.proofs.Sharers.{sharers_has, has_sharers, sharers_ascend}
use Rattle.laws.proofs.Anchors.{half_facet}
use Rattle.laws.proofs.Local.{half_inside}
use Rattle.picture.specs.State.{State, map_with}
use Rattle.picture.specs.Picture.{chain_of}
use Rattle.picture.specs.Ready.{Ready}
use Rattle.sibling.specs.Shared.{SetInside}
use Rattle.facet.specs.Facet.{match_at}
use Rattle.sibling.specs.Halves.{halves_of}
use Rattle.lists.proofs.Mapped.{map_ascends}
use Rattle.laws.proofs.Facets.{one_match}
use Rattle.shapes.specs.Sizes.{no_facet}

module _ (m : Map) (set : List ℕ) where
  -- a match is a facet of the cell with the set of marks
  pub match_is : (c : ℕ) → match_at m set c < no_facet
      → (match_at m set c < length (facets_at m c)) × (same_set set (get_or (facets_at m c) (match_at m set c) []) ≡ true)
  unfolding match_at
  match_is c h =
      ⊎_elim (λ e. absurd (omega arith)) (λ e. select_out (λ f. same_set set (get_or (facets_at m c) f [])) (length (facets_at m c)) _ e)
      (first_either no_facet (select (λ f. same_set set (get_or (facets_at m c) f [])) (length (facets_at m c))))

  -- and in a sound map the only one
  pub is_match : Sound m → (c f : ℕ) → f < length (facets_at m c) → same_set set (get_or (facets_at m c) f []) ≡ true → match_at m set c ≡ f
  unfolding match_at
  is_match o c f h e =
      first_select no_facet (λ f. same_set set (get_or (facets_at m c) f [])) (length (facets_at m c)) f h e
      (λ j l. not_true_false _ (λ q.
      let same : j ≡ f = one_match m o c j f (omega arith) h (same_trans _ set _ (same_sym set _ q) e) in
      omega arith))

-- the half-facets of ascending cells ascend
pub halves_ascend : (match : ℕ → ℕ) (cells : List ℕ) → Ascending cells → Ascending (halves_of match cells)
unfolding halves_of half_of
halves_ascend match cells a =
    map_ascends _ _ (keep_ascends (λ c. ltb (match c) no_facet) cells a)
    (λ x y h k l.
    let small : match x < no_facet = ltb-true _ _ (keep_out (λ c. ltb (match c) no_facet) cells x h).0 in
    omega arith)

-- cells of the map, among them all that hold the first mark of the set
module _ (m : Map) (o : Sound m) (set cells : List ℕ) (some : 0 < length set) (within : (c : ℕ) → has c cells ≡ true → c < m.caps.cells)
    (full : (c : ℕ) → c < m.caps.cells → holds m (get_or set 0 0) c ≡ true → has c cells ≡ true) where
  -- none is missing
  along_has : (h : ℕ) → has h (sharers m set) ≡ true → has h (halves_of (match_at m set) cells) ≡ true
  unfolding halves_of is_half marks_of
  along_has h e =
      let x = sharers_has m set h e in
      let c : ℕ = h / 8 in
      let match : match_at m set c ≡ h % 8 = is_match m set o c (h % 8) (ltb-true _ _ x.0.facet) x.1 in
      let mark : has (get_or set 0 0) (marks_of m h) ≡ true = sym (same_has set (marks_of m h) x.1 (get_or set 0 0)) ∙ at_has set 0 some in
      let below : c < m.caps.cells = omega (arith, x.0.below) in
      let there : has c cells ≡ true = full c below (half_inside m o.fitting h (get_or set 0 0) mark) in
      let kept : has c (keep (λ c. ltb (match_at m set c) no_facet) cells) ≡ true =
      keep_in (λ c. ltb (match_at m set c) no_facet) cells c (lt-ltb (match_at m set c) no_facet (omega arith)) there in
      let half : half_of c (match_at m set c) ≡ h = rw match (half_whole h) in
      rw half at (map_has (λ c. half_of c (match_at m set c)) _ c kept)

  -- and none is extra
  has_along : (h : ℕ) → has h (halves_of (match_at m set) cells) ≡ true → has h (sharers m set) ≡ true
  unfolding halves_of half_of
  has_along h e =
      let kept : List ℕ = keep (λ c. ltb (match_at m set c) no_facet) cells in
      let r = map_at (λ c. half_of c (match_at m set c)) kept h e in
      let c : ℕ = get_or kept r.0 0 in
      let out = keep_out (λ c. ltb (match_at m set c) no_facet) cells c (at_has kept r.0 r.1) in
      let small : match_at m set c < no_facet = ltb-true _ _ out.0 in
      let x = match_is m set c small in
      let half = half_facet m c (match_at m set c) x.0 in
      let below : c < m.caps.cells = within c out.1 in
      rw r.2 at (has_sharers m set (8 * c + match_at m set c)
      (record { below = omega arith; facet = half.1 }) (rw half.2 x.1))

  pub along : Ascending cells → sharers m set ≡ halves_of (match_at m set) cells
  along a =
      asc_same _ _ (sharers_ascend m set) (halves_ascend (match_at m set) cells a) (λ h. same_test _ _ (along_has h) (has_along h))

-- so along the chain of the first mark
pub sharers_along : (caps : Caps) (rows : List (List (List ℕ))) (set : List ℕ) (s : State) → Ready caps s → SetInside caps rows set
    → sharers (map_with caps s) set ≡ halves_of (match_at (map_with caps s) set) (chain_of caps s (get_or set 0 0))
unfolding chain_of map_with
sharers_along caps rows set s r q =
    along (map_with caps s) r.sound set (select (s.chain v) caps.cells) q.some
    (λ c e. (select_out (s.chain v) caps.cells c e).0)
    (λ c l e. select_in (s.chain v) caps.cells c l (r.chains v c ∙ e))
    (select_ascends (s.chain v) caps.cells)
  where
    v : ℕ
    v = get_or set 0 0
