-- What the records and the lists read by them are, on the picture of a state.
use mathlib.Core.Path.{◌≡◌, refl, sym, ap, ◌∙◌}
use mathlib.Core.Bool.{Bool, true, false, not, ◌&&◌, ◌||◌}
use mathlib.Core.List.{List, []}
use Prim.Native.Nat.{ℕ, zero, suc, ◌+◌, ◌*◌, ◌/◌, ◌%◌, ◌<◌, ◌≤◌}
use native.Mathlib.Decide.{ℕ_discrete}
use native.Mathlib.Numerals.{add-one}
use native.Mathlib.Omega.{arith}
use borrow.Author.Tests.{eq-eqb, ne_eqb, eqb-true, le-leb, leb-true}
use lib.Dec.{eqb, leb}
use lib.ListN.{get_or, length, length-append}
use Rattle.lists.specs.Lists.{has, any, same_set, select, after, list_of}
use Rattle.lists.proofs.Bools.{clash, or_left, not_of_false, and_no, and_yes, either}
use Rattle.lists.proofs.Members.{at_has}
use Rattle.lists.proofs.Fill.{length_list_of}
use Rattle.lists.proofs.Select.{select_out, select_size}
use Rattle.lists.proofs.Alike.{any_same}
use Rattle.numbers.specs.Half.{cut, half_of}
use Rattle.numbers.specs.Editions.{second_edition}
use Rattle.numbers.proofs.Inverse.{half_uncut}
use Rattle.shapes.specs.Shapes.{no_shape, shapes, shape, facet_count}
use Rattle.shapes.specs.Table.{table}
use Rattle.shapes.proofs.Facts.{facts}
use Rattle.shapes.proofs.Types.{type_marks}
use Rattle.numbers.specs.declared.Caps.{Caps}
use Rattle.store.specs.Fields.{Count, Anchor}
use Rattle.store.specs.Slots.{InHead, InMark, read, code_in, corner_in, sibling_in, way_in}
use Rattle.map.specs.Cells.{Map, live, holds, dimension_at, facets_at}
use Rattle.map.specs.declared.Way.{Way}
use Rattle.map.specs.Siblings.{Half, sharers, siblings, sibling, marks_of}
use Rattle.map.specs.Ways.{way_number, way}
use Rattle.map.specs.Stars.{holders, anchors}
use Rattle.map.specs.Sound.{Sound}
use Rattle.laws.proofs.Anchors.{half_facet}
use Rattle.laws.proofs.Halves.{half_live}
use Rattle.laws.proofs.Cycles.{sibling_live}
use Rattle.laws.proofs.SiblingWays.{way_by}
use Rattle.picture.specs.State.{State, next, map_with}
use Rattle.picture.specs.Picture.{chain_of, Pic}
use Rattle.picture.specs.Ready.{Ready}
use Rattle.chain.specs.Chain.{Gathered}
use Rattle.facet.specs.Facet.{facet_in}
use Rattle.sibling.specs.Shared.{Shared}
use Rattle.sibling.specs.Ways.{facing_in}
use Rattle.sibling.proofs.Mended.{facing_read}
use Rattle.laws.proofs.Facets.{facets_count, facet_some, facet_inside}
use Rattle.picture.proofs.Record.{code_read, corner_read, sib_read, way_read, anchor_read}
use Rattle.facet.proofs.Read.{facet_read, marks_is}
use Rattle.star.specs.Listed.{Reads}
use Rattle.group.specs.Group.{Around}
use Rattle.lists.proofs.Mapped.{copied_list}
use Rattle.record_checks.specs.Upright.{Upright}
use Rattle.record_checks.proofs.Uprights.{upright_chain, upright_linked}
use Rattle.whole.specs.SecondHalf.{Sees, Readied, SettledBy, twin_in, twin_of, lone_of, few_in, sib_right, facet_right, anc_right, count_in, count_right}
use Rattle.numbers.specs.Sizes.{most_around}
use Rattle.shapes.specs.Sizes.{most_facets}

module _ (w : List ℕ) (caps : Caps) (s : State) (p : Pic w caps s) (u : Upright caps s) where
  -- a twin by the records is one by the map
  twin_is : (c k : ℕ) → c < caps.cells → k < caps.cells → twin_in w caps c k ≡ twin_of (map_with caps s) c k
  unfolding twin_in twin_of map_with
  twin_is c k hc hk = rw (marks_is w caps s p c hc (u.fitting c), marks_is w caps s p k hk (u.fitting k), code_read w caps s p c hc, code_read w caps s p k hk)

  -- a live cell has a first mark, one of the mesh
  first_inside : (c : ℕ) → ((s.at c).code ≡ 0 → ⊥) → get_or (s.at c).marks 0 0 < caps.marks
  unfolding live map_with dimension_at holds
  first_inside c f =
      let typed = u.typed c (ap not (ne_eqb (s.at c).code 0 f)) in
      let some : 0 < length (s.at c).marks = omega (arith, u.fitting c, type_marks (s.at c).code typed) in
      u.inside (get_or (s.at c).marks 0 0) c (at_has (s.at c).marks 0 some)

  -- what is gathered is the holders of the mark
  gathered_is : (v n : ℕ) (o o' : List ℕ) → Gathered w caps v o n o' → length o ≡ most_around → v < caps.marks
      → list_of n (λ i. get_or o' i 0) ≡ holders (map_with caps s) v
  gathered_is v n o o' g size h =
      let l = g.list s p (upright_linked caps s u) h in
      copied_list (chain_of caps s v) o o' n (omega (arith, g.few))
      (record {
        count = l.0;
        filled = record { size = g.size; wrote = λ room. rw (← l.0) (l.1 (omega (arith, l.0))) };
      }) ∙ upright_chain caps s u v

module _ (w : List ℕ) (caps : Caps) (c : ℕ) where
  -- the step that looks for another cell of the kind
  pub lone_none : (x : ℕ) → x ≡ code_in w caps c → x ≡ 0
      → Sees w caps (λ s. Upright caps s × (c < caps.cells)) (λ s. lone_of (map_with caps s) c) true
  unfolding lone_of map_with
  lone_none x e z = record {
    sees = λ s p k. sym (or_left (eqb (s.at c).code 0) _ (eq-eqb (s.at c).code 0 (sym (code_read w caps s p c k.1) ∙ (sym e ∙ z))));
  }

  holder_below : (s : State) (v j : ℕ) → has j (holders (map_with caps s) v) ≡ true → j < caps.cells
  unfolding holders map_with
  holder_below s v j t = (select_out (holds (map_with caps s) v) caps.cells j t).0

  lone_of_lem : (s : State) (v : ℕ) (r : Bool) → r ≡ any (twin_of (map_with caps s) c) (holders (map_with caps s) v) → v ≡ get_or (s.at c).marks 0 0
      → ((s.at c).code ≡ 0 → ⊥) → not r ≡ lone_of (map_with caps s) c
  unfolding lone_of map_with
  lone_of_lem s v r same first some = rw (ne_eqb (s.at c).code 0 some, ← first, same)

  pub lone_some : (x v n : ℕ) (o o' : List ℕ) (r : Bool) → x ≡ code_in w caps c → (x ≡ 0 → ⊥)
      → v ≡ corner_in w caps c 0 → Gathered w caps v o n o' → length o ≡ most_around
      → r ≡ any (twin_in w caps c) (list_of n (λ i. get_or o' i 0))
      → Sees w caps (λ s. Upright caps s × (c < caps.cells)) (λ s. lone_of (map_with caps s) c) (not r)
  unfolding lone_of
  lone_some x v n o o' r e f q g size b = record { sees = at }
    where
      at : (s : State) → Pic w caps s → Upright caps s × (c < caps.cells) → not r ≡ lone_of (map_with caps s) c
      at s p k =
          let code : (s.at c).code ≡ x = sym (code_read w caps s p c k.1) ∙ sym e in
          let first : v ≡ get_or (s.at c).marks 0 0 = q ∙ corner_read w caps s p c k.1 0 (omega arith) in
          let some : (s.at c).code ≡ 0 → ⊥ = λ z. f (sym code ∙ z) in
          let inside : v < caps.marks = rw first (first_inside w caps s p k.0 c some) in
          let same : r ≡ any (twin_of (map_with caps s) c) (holders (map_with caps s) v) =
          b ∙ (ap (any (twin_in w caps c)) (gathered_is w caps s p k.0 v n o o' g size inside)
          ∙ any_same (twin_in w caps c) (twin_of (map_with caps s) c) (holders (map_with caps s) v) (λ j t. twin_is w caps s p k.0 c j k.1 (holder_below s v j t))) in
          lone_of_lem s v r same first some

-- so many may share a facet: under edition 1, of what is no solid, or two at most
module _ (caps : Caps) (t n : ℕ) where
  pub few_first : (caps.edition ≡ second_edition → ⊥) → true ≡ few_in caps t n
  unfolding few_in
  few_first other = rw (ne_eqb caps.edition second_edition other)

  module _ (second : caps.edition ≡ second_edition) where
    pub few_flat : (d : ℕ) → d ≡ (shape t).dimension → (d ≡ 3 → ⊥) → true ≡ few_in caps t n
    unfolding few_in
    few_flat d dimension flat = rw (eq-eqb caps.edition second_edition second, ne_eqb (shape t).dimension 3 (λ e. flat (dimension ∙ e)))

    pub few_solid : (d : ℕ) → d ≡ (shape t).dimension → d ≡ 3 → leb n 2 ≡ few_in caps t n
    unfolding few_in
    few_solid d dimension solid = rw (eq-eqb caps.edition second_edition second, eq-eqb (shape t).dimension 3 (sym dimension ∙ solid))

  pub few_two : few_in caps t n ≡ true → caps.edition ≡ second_edition → (shape t).dimension ≡ 3 → n ≤ 2
  few_two e second solid = leb-true n 2 (few_solid second (shape t).dimension refl solid ∙ e)

  pub two_few : (caps.edition ≡ second_edition → (shape t).dimension ≡ 3 → n ≤ 2) → few_in caps t n ≡ true
  two_few few = go (ℕ_discrete caps.edition second_edition) (ℕ_discrete (shape t).dimension 3)
    where
      go : Dec (caps.edition ≡ second_edition) → Dec ((shape t).dimension ≡ 3) → few_in caps t n ≡ true
      go (no other) d = sym (few_first other)
      go (yes second) (no flat) = sym (few_flat second (shape t).dimension refl flat)
      go (yes second) (yes solid) = sym (few_solid second (shape t).dimension refl solid) ∙ le-leb n 2 (few second solid)

-- the step that holds a stored sibling against the sharers
module _ (w : List ℕ) (caps : Caps) (rows : List (List (List ℕ))) (c f : ℕ) where
  module _ (s : State) (p : Pic w caps s) (r : Ready caps s) (types : rows ≡ table) (h : c < caps.cells) (hf : f < facet_count (code_in w caps c)) where
    m : Map
    m = map_with caps s

    few : f < length (facets_at (map_with caps s) c)
    unfolding facet_count map_with
    few = omega (arith, facets_count (map_with caps s) c, ap (λ (t : ℕ). length (shape t).facets) (code_read w caps s p c h))

    small : f < most_facets
    unfolding facet_count
    small = omega (arith, (facts (code_in w caps c)).facets)

    facet_is : facet_in w caps rows c f ≡ get_or (facets_at (map_with caps s) c) f []
    unfolding map_with
    facet_is = rw types (facet_read w caps s p c h (r.sound.fitting c) f)

    set_is : facet_in w caps rows c f ≡ marks_of (map_with caps s) (half_of c f)
    unfolding half_of
    set_is = facet_is ∙ sym (half_facet (map_with caps s) c f few).2

    shared_is : (n : ℕ) (o o' : List ℕ) → Shared w caps rows (facet_in w caps rows c f) o n o' → length o ≡ most_around
        → list_of n (λ i. get_or o' i 0) ≡ siblings (map_with caps s) (half_of c f)
    unfolding siblings map_with
    shared_is n o o' shared size =
        copied_list (sharers (map_with caps s) (facet_in w caps rows c f)) o o' n (omega (arith, shared.few))
        (shared.list s p r
        (record {
          types = types;
          some = rw facet_is (facet_some (map_with caps s) c f few);
          mark = rw facet_is (facet_inside (map_with caps s) c f few r.sound);
        }))
        ∙ ap (sharers (map_with caps s)) set_is

    cell_is : half_of c f / 8 < caps.cells
    unfolding half_of
    cell_is = let cell : (8 * c + f) / 8 ≡ c = omega (arith, small) in omega (arith, cell)

    -- so many may share it, by the record and by the map
    few_is : (n t : ℕ) (o o' : List ℕ) → Shared w caps rows (facet_in w caps rows c f) o n o' → length o ≡ most_around → t ≡ code_in w caps c
        → few_in caps t n ≡ few_in caps (s.at c).code (length (siblings (map_with caps s) (half_of c f)))
    few_is n t o o' shared size word =
        rw (word ∙ code_read w caps s p c h, sym (length_list_of n (λ i. get_or o' i 0)) ∙ ap length (shared_is n o o' shared size))

    facet_low : half_of c f % 8 < most_facets
    unfolding half_of
    facet_low = let facet : (8 * c + f) % 8 ≡ f = omega (arith, small) in omega (arith, facet, small)

    live_is : Half (map_with caps s) (half_of c f)
    unfolding half_of
    live_is = half_live (map_with caps s) r.sound (8 * c + f) (half_facet (map_with caps s) c f few).1

    next_is : (n half next : ℕ) (o o' : List ℕ) → Shared w caps rows (facet_in w caps rows c f) o n o' → length o ≡ most_around
        → half ≡ half_of c f → next ≡ after half (list_of n (λ i. get_or o' i 0)) → next ≡ sibling (map_with caps s) (half_of c f)
    unfolding sibling
    next_is n half next o o' shared size half_is found =
        found ∙ (ap (λ (h : ℕ). after h (list_of n (λ i. get_or o' i 0))) half_is ∙ ap (after (half_of c f)) (shared_is n o o' shared size))

    -- which way the two run is the way
    ran_is : (next : ℕ) → next ≡ sibling (map_with caps s) (half_of c f) → facing_in w caps rows (half_of c f) next ≡ way (map_with caps s) (half_of c f)
    unfolding map_with
    ran_is next e =
        let beside : next / 8 < caps.cells = rw e (omega (arith, (sibling_live (map_with caps s) (half_of c f) live_is).below)) in
        rw types (facing_read w caps s p r.sound.fitting (half_of c f) next cell_is beside)
        ∙ way_by (map_with caps s) (half_of c f) live_is next e

  module _ (n t : ℕ) (b : Bool) (o o' : List ℕ) (shared : Shared w caps rows (facet_in w caps rows c f) o n o') (size : length o ≡ most_around)
      (code : t ≡ code_in w caps c) (may : b ≡ few_in caps t n) where
    abbrev Right : Bool → Type 0
    Right r = Sees w caps (λ s. (Readied caps rows s × (c < caps.cells)) × (f < facet_count (code_in w caps c))) (λ s. facet_right caps s c f) r

    few_at : (s : State) → Pic w caps s → (Readied caps rows s × (c < caps.cells)) × (f < facet_count (code_in w caps c))
        → b ≡ few_in caps (s.at c).code (length (siblings (map_with caps s) (half_of c f)))
    few_at s p k = may ∙ few_is s p k.0.0.ready k.0.0.types k.0.1 k.1 n t o o' shared size code

    pub sibling_many : b ≡ false → Right false
    unfolding facet_right
    sibling_many e = record { sees = λ s p k. and_no _ _ (sym (few_at s p k) ∙ e) }

    module _ (e : b ≡ true) (half next stored : ℕ) (uncut : half ≡ half_of (cut c) (f % 8)) (found : next ≡ after half (list_of n (λ i. get_or o' i 0)))
        (word : stored ≡ sibling_in w caps half) where
      half_is : (s : State) → Pic w caps s → c < caps.cells → f < facet_count (code_in w caps c) → half ≡ half_of c f
      unfolding facet_count
      half_is s p h hf = uncut ∙ half_uncut c f (omega (arith, p.cells)) (omega (arith, (facts (code_in w caps c)).facets))

      module _ (s : State) (p : Pic w caps s) (k : (Readied caps rows s × (c < caps.cells)) × (f < facet_count (code_in w caps c))) where
        kept : stored ≡ s.sib (half_of c f)
        kept =
            word
            ∙ (ap (sibling_in w caps) (half_is s p k.0.1 k.1)
            ∙ sib_read w caps s p (half_of c f) (cell_is s p k.0.0.ready k.0.0.types k.0.1 k.1) (facet_low s p k.0.0.ready k.0.0.types k.0.1 k.1))

        onward : next ≡ sibling (map_with caps s) (half_of c f)
        onward = next_is s p k.0.0.ready k.0.0.types k.0.1 k.1 n half next o o' shared size (half_is s p k.0.1 k.1) found

      -- another sibling is stored
      pub sibling_wrong : (stored ≡ next → ⊥) → Right false
      unfolding facet_right sib_right
      sibling_wrong other = record {
        sees = λ s p k.
            and_yes _ _ _ (sym (few_at s p k) ∙ e)
            (rw (ne_eqb (s.sib (half_of c f)) (sibling (map_with caps s) (half_of c f)) (λ z. other (kept s p k ∙ (z ∙ sym (onward s p k))))));
      }

      -- the sibling is: the ways are held against each other
      pub sibling_held : stored ≡ next → (x y : ℕ) (a b : Way) → a ≡ way_in w caps half → x ≡ way_number a → b ≡ facing_in w caps rows half next → y ≡ way_number b
          → Right (eqb x y)
      unfolding facet_right sib_right
      sibling_held same x y a b ea ex eb ey = record {
        sees = λ s p k.
            let right : eqb (s.sib (half_of c f)) (sibling (map_with caps s) (half_of c f)) ≡ true =
            eq-eqb _ _ (sym (kept s p k) ∙ (same ∙ onward s p k)) in
            let half : half ≡ half_of c f = half_is s p k.0.1 k.1 in
            let told : a ≡ s.way (half_of c f) =
            ea
            ∙ (ap (way_in w caps) half
            ∙ way_read w caps s p (half_of c f) (cell_is s p k.0.0.ready k.0.0.types k.0.1 k.1) (facet_low s p k.0.0.ready k.0.0.types k.0.1 k.1)) in
            let ran : b ≡ way (map_with caps s) (half_of c f) =
            eb
            ∙ (ap (λ (h : ℕ). facing_in w caps rows h next) half
            ∙ ran_is s p k.0.0.ready k.0.0.types k.0.1 k.1 next (onward s p k)) in
            and_yes _ _ _ (sym (few_at s p k) ∙ e) (rw (right, ex, ey, told, ran));
      }

-- the step that holds a stored first anchor against the first anchor
module _ (w : List ℕ) (caps : Caps) (rows : List (List (List ℕ))) (v d : ℕ) (less : d < 3) where
  pub anchor_held : (x y : ℕ) → x ≡ read w caps (InMark v (Anchor (d + 1))) → Reads w caps (Around caps rows v) (λ m. next (anchors m (d + 1) v)) y
      → Sees w caps (λ s. (SettledBy caps rows s × (v < caps.marks)) × (d < 3)) (λ s. anc_right caps s v d) (eqb x y)
  unfolding anc_right
  anchor_held x y e g = record { sees = at }
    where
      at : (s : State) → Pic w caps s → (SettledBy caps rows s × (v < caps.marks)) × (d < 3)
          → eqb x y ≡ eqb (s.anc (d + 1) v) (next (anchors (map_with caps s) (d + 1) v))
      at s p k =
          let stored : x ≡ s.anc (d + 1) v = e ∙ anchor_read w caps s p (d + 1) v k.0.1 (omega arith) (omega (arith, k.1)) in
          rw (stored, g.reads s p (record { settled = k.0.0.settled; types = k.0.0.types; mark = k.0.1 }))

-- the step that holds a stored count against a count of the cells
module _ (w : List ℕ) (caps : Caps) (t x y : ℕ) (e : x ≡ read w caps (InHead (Count (t + 1)))) (q : y ≡ count_in w caps (t + 1)) where
  pub count_yes : x ≡ y → count_right w caps t ≡ true
  unfolding count_right
  count_yes z = rw (← e, ← q) (eq-eqb x y z)

  pub count_no : (x ≡ y → ⊥) → count_right w caps t ≡ false
  unfolding count_right
  count_no f = rw (← e, ← q) (ne_eqb x y f)

-- a count of the cells of a type, cell by cell
module _ (w : List ℕ) (caps : Caps) (t : ℕ) where
  abbrev pub Counted : ℕ → ℕ → Type 0
  Counted c n = n ≡ length (select (λ k. eqb (code_in w caps k) t) c)

  pub counted_start : Counted 0 0
  unfolding select
  counted_start = refl

  pub counted_few : (c n : ℕ) → Counted c n → n ≤ c
  counted_few c n e = omega (arith, e, select_size (λ k. eqb (code_in w caps k) t) c)

  pub counted_more : (c n n' x : ℕ) → Counted c n → x ≡ code_in w caps c → x ≡ t → n' ≡ n + 1 → Counted (c + 1) n'
  unfolding select
  counted_more c n n' x e q z next =
      let here : eqb (code_in w caps c) t ≡ true = eq-eqb _ _ (sym q ∙ z) in
      rw (add-one c, here, length-append) (omega (arith, e, next))

  pub counted_same : (c n n' x : ℕ) → Counted c n → x ≡ code_in w caps c → (x ≡ t → ⊥) → n' ≡ n → Counted (c + 1) n'
  unfolding select
  counted_same c n n' x e q f next =
      let here : eqb (code_in w caps c) t ≡ false = ne_eqb _ _ (λ z. f (q ∙ z)) in
      rw (add-one c, here) (next ∙ e)

  pub counted_end : (c n : ℕ) → Counted c n → c ≤ caps.cells → caps.cells ≤ c → n ≡ count_in w caps t
  unfolding count_in
  counted_end c n e a b = let z : c ≡ caps.cells = omega arith in rw z at e
