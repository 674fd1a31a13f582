-- Two lists held to each other place by place: a rotation of the one, or of the one reversed, is the other.
use mathlib.Core.Path.{◌≡◌, refl, sym, ap, ◌∙◌}
use mathlib.Core.Bool.{Bool, true, false, cond, ◌&&◌}
use mathlib.Core.List.{List, [], ◌∷◌, ◌++◌, reverse}
use Prim.Native.Nat.{ℕ, ◌+◌, ◌-◌, ◌/◌, ◌%◌, ◌<◌, ◌≤◌}
use native.Mathlib.Decide.{dec_lt}
use native.Mathlib.Omega.{arith}
use borrow.Author.Tests.{lt-ltb, le-ltb, eq-eqb, ne_eqb, eqb-true}
use lib.Dec.{eqb}
use lib.ListN.{length, get_or, take, drop, length-append, length-drop, length-reverse, get_or-append, drop_of_length-le}
use lib.Seq.{ext_get_or, length-take-le, take_all, get_or-append-add, get_or-drop, get_or-take}
use Rattle.lists.specs.Lists.{same, every, list_of}
use Rattle.lists.proofs.Bools.{not_true_false, same_test}
use Rattle.lists.proofs.Every.{every_at, at_every, every_start, every_more, every_stop, every_end}
use Rattle.std.specs.List.{list_any, range_with_len}
use Rattle.lists.proofs.Tested.{any_listed, range_listed}
use Rattle.numbers.specs.declared.Caps.{Caps}
use Rattle.shapes.specs.Table.{entry}
use Rattle.facet.specs.Facet.{set_mark, set_in, marks_in}
use Rattle.store.specs.Slots.{code_in}
use Rattle.map.specs.declared.Way.{Way}
use Rattle.map.specs.declared.Way.TheVariants.{Lone, Same, Opposite, Neither}
use Rattle.map.specs.Ways.{turned, rotation, runs, direction}
use Rattle.laws.proofs.Ways.{same_is, is_same, turned_none, reverse_at}
use Rattle.sibling.specs.Ways.{turned_place, end_place, heading, facing_in}

module _ (size n k : ℕ) where
  pub place_past : size ≤ n → k ≡ turned_place size n k
  unfolding turned_place
  place_past h = let none : size - n ≡ 0 = omega arith in rw (none, le-ltb k 0 (omega arith)) (omega arith)

  pub place_on : k < size - n → n + k ≡ turned_place size n k
  unfolding turned_place
  place_on h = rw (lt-ltb k (size - n) h)

  pub place_over : size - n ≤ k → k - (size - n) ≡ turned_place size n k
  unfolding turned_place
  place_over h = rw (le-ltb k (size - n) h)

  pub place_below : k < size → turned_place size n k < size
  place_below h = go (dec_lt k (size - n))
    where
      go : Dec (k < size - n) → turned_place size n k < size
      go (yes l) = rw (← place_on l) (omega arith)
      go (no f) = rw (← place_over (omega arith)) (omega arith)

module _ (size : ℕ) (back : Bool) (k : ℕ) where
  pub end_fore : back ≡ false → k ≡ end_place size back k
  unfolding end_place
  end_fore e = rw e

  pub end_back : back ≡ true → size - 1 - k ≡ end_place size back k
  unfolding end_place
  end_back e = rw e

  pub end_past : back ≡ true → size ≤ k → 0 ≡ end_place size back k
  unfolding end_place
  end_past e h = rw e (omega arith)

module _ (l : List ℕ) (n k : ℕ) (low : k < length l) where
  -- a list begun at a place
  turned_at : get_or (turned l n) k 0 ≡ get_or l (turned_place (length l) n k) 0
  unfolding turned
  turned_at = go (dec_lt k (length l - n))
    where
      go : Dec (k < length l - n) → get_or (drop n l ++ take n l) k 0 ≡ get_or l (turned_place (length l) n k) 0
      go (yes h) =
          rw (← place_on (length l) n k h) (get_or-append (drop n l) (take n l) 0 k (omega (arith, length-drop n l)) ∙ get_or-drop n l k 0)
      go (no f) =
          let j : ℕ = k - (length l - n) in
          let at : k ≡ length (drop n l) + j = omega (arith, length-drop n l) in
          rw (← place_over (length l) n k (omega arith))
          (ap (λ (i : ℕ). get_or (drop n l ++ take n l) i 0) at
          ∙ (get_or-append-add (drop n l) (take n l) j 0 ∙ get_or-take n l j 0 (omega arith)))

module _ (b : List ℕ) (back : Bool) where
  heading_size : length (heading back b) ≡ length b
  unfolding heading
  heading_size = go back
    where
      go : (x : Bool) → length (cond x (reverse b) b) ≡ length b
      go true = length-reverse b
      go false = refl

  -- a list, or it reversed
  heading_at : (k : ℕ) → k < length b → get_or (heading back b) k 0 ≡ get_or b (end_place (length b) back k) 0
  unfolding heading end_place
  heading_at k h = go back
    where
      go : (x : Bool) → get_or (cond x (reverse b) b) k 0 ≡ get_or b (cond x (length b - 1 - k) k) 0
      go true = reverse_at b k h
      go false = refl

  module _ (n : ℕ) where
    turned_whole : length (turned (heading back b) n) ≡ length b
    unfolding turned
    turned_whole = go (dec_lt n (length (heading back b)))
      where
        l : List ℕ
        l = heading back b

        go : Dec (n < length l) → length (drop n l ++ take n l) ≡ length b
        go (yes h) = omega (arith, length-append (drop n l) (take n l), length-drop n l, length-take-le n l (omega arith), heading_size)
        go (no f) = rw (drop_of_length-le l {i = n} (omega arith), take_all n l (omega arith)) heading_size

    at_place : (k : ℕ) → k < length b → get_or (turned (heading back b) n) k 0 ≡ get_or b (end_place (length b) back (turned_place (length b) n k)) 0
    at_place k h =
        turned_at (heading back b) n k (omega (arith, heading_size))
        ∙ (ap (λ (s : ℕ). get_or (heading back b) (turned_place s n k) 0) heading_size
        ∙ heading_at (turned_place (length b) n k) (place_below (length b) n k h))

    -- a place of the two lists agrees
    abbrev pub agrees : List ℕ → ℕ → Bool
    agrees a k = eqb (get_or a k 0) (get_or b (end_place (length b) back (turned_place (length b) n k)) 0)

    pub same_places : (a : List ℕ) → length a ≡ length b → every (length a) (agrees a) ≡ same a (turned (heading back b) n)
    same_places a size =
        same_test _ _
        (λ e. is_same a (turned (heading back b) n)
        (ext_get_or 0 a (turned (heading back b) n) (size ∙ sym turned_whole)
        (λ k h. eqb-true _ _ (every_at (agrees a) (length a) e k h) ∙ sym (at_place k (omega arith)))))
        (λ e. at_every (agrees a) (length a)
        (λ k h. eq-eqb _ _ (ap (λ (l : List ℕ). get_or l k 0) (same_is a (turned (heading back b) n) e) ∙ at_place k (omega arith))))

    pub same_sizes : (a : List ℕ) → (length a ≡ length b → ⊥) → false ≡ same a (turned (heading back b) n)
    same_sizes a ne = sym (not_true_false _ (λ e. ne (ap length (same_is a (turned (heading back b) n) e) ∙ turned_whole)))

-- the places gone through one after another: the first k agree
pub record Agree (b : List ℕ) (back : Bool) (n : ℕ) (a : List ℕ) (k : ℕ) : Type 0 where
  pub size : length a ≡ length b
  pub places : every k (agrees b back n a) ≡ true

module _ (b : List ℕ) (back : Bool) (n : ℕ) (a : List ℕ) where
  pub agree_start : length a ≡ length b → Agree b back n a 0
  agree_start size = record { size = size; places = every_start (agrees b back n a) }

  module _ (k x y at place : ℕ) (was : Agree b back n a k) (here : x ≡ get_or a k 0) (there : y ≡ get_or b at 0) (ends : at ≡ end_place (length b) back place)
      (turns : place ≡ turned_place (length b) n k) where
    stands : y ≡ get_or b (end_place (length b) back (turned_place (length b) n k)) 0
    stands = there ∙ ap (λ (i : ℕ). get_or b i 0) (ends ∙ ap (end_place (length b) back) turns)

    pub agree_more : x ≡ y → Agree b back n a (k + 1)
    agree_more q = record { size = was.size; places = every_more (agrees b back n a) k was.places (eq-eqb _ _ (sym here ∙ (q ∙ stands))) }

    pub agree_stop : k < length a → (x ≡ y → ⊥) → false ≡ same a (turned (heading back b) n)
    agree_stop h ne =
        every_stop (agrees b back n a) (length a) k h (ne_eqb _ _ (λ z. ne (here ∙ (z ∙ sym stands)))) ∙ same_places b back n a was.size

  pub agree_end : (k : ℕ) → Agree b back n a k → k ≤ length a → length a ≤ k → true ≡ same a (turned (heading back b) n)
  agree_end k was h l = every_end (agrees b back n a) (length a) k was.places h l ∙ same_places b back n a was.size

-- the turns gone through one after another
pub turns : (b : List ℕ) (back : Bool) (a : List ℕ) → rotation a (heading back b) ≡ list_any (λ (k : ℕ). same a (turned (heading back b) k)) (range_with_len 0 (length b))
unfolding rotation
turns b back a =
    rw (heading_size b back, range_listed (length b))
    (any_listed (λ k. same a (turned (heading back b) k)) (range_with_len 0 (length b)))

module _ (p q : Bool) where
  pub run_same : p ≡ true → Same ≡ runs p q
  unfolding runs
  run_same e = rw e

  pub run_opposite : p ≡ false → q ≡ true → Opposite ≡ runs p q
  unfolding runs
  run_opposite e t = rw (e, t)

  pub run_neither : p ≡ false → q ≡ false → Neither ≡ runs p q
  unfolding runs
  run_neither e t = rw (e, t)

-- the direction of two lists that are two others
pub direction_sets : (f g : ℕ) (a b a' b' : List ℕ) (x : Way) → x ≡ direction f a g b → a ≡ a' → b ≡ b' → x ≡ direction f a' g b'
direction_sets f g a b a' b' x e p q = e ∙ (ap (λ (l : List ℕ). direction f l g b) p ∙ ap (λ (l : List ℕ). direction f a' g l) q)

-- the direction by the size of the facet
module _ (f g : ℕ) (a b : List ℕ) (x : Way) where
  pub bar_way : length a ≡ 1 → x ≡ runs (eqb f g) true → x ≡ direction f a g b
  unfolding direction runs
  bar_way size e = e ∙ rw size

  module _ (p q : Bool) (e : x ≡ runs p q) where
    pub edge_way : length a ≡ 2 → p ≡ same a (turned (heading false b) 0) → q ≡ same a (turned (heading true b) 0) → x ≡ direction f a g b
    unfolding direction heading
    edge_way size alike against = e ∙ rw (alike, against, turned_none b, turned_none (reverse b), size)

    pub face_way : (length a ≡ 1 → ⊥) → (length a ≡ 2 → ⊥) → p ≡ rotation a (heading false b) → q ≡ rotation a (heading true b)
        → x ≡ direction f a g b
    unfolding direction heading
    face_way one two alike against = e ∙ rw (alike, against, ne_eqb (length a) 1 one, ne_eqb (length a) 2 two)

-- two marks held to two
module _ (a b c d : ℕ) where
  pub pair_other : (a ≡ c → ⊥) → false ≡ same (a ∷ b ∷ []) (c ∷ d ∷ [])
  unfolding same
  pair_other ne = rw (ne_eqb a c ne)

  pub pair_first : a ≡ c → eqb b d ≡ same (a ∷ b ∷ []) (c ∷ d ∷ [])
  unfolding same
  pair_first e = rw (eq-eqb a c e) (go (eqb b d))
    where
      go : (x : Bool) → x ≡ x && true
      go true = refl
      go false = refl

  pub pair_way : (f g : ℕ) (l m : List ℕ) → l ≡ a ∷ b ∷ [] → m ≡ c ∷ d ∷ [] → (p q : Bool) (x : Way) → x ≡ runs p q
      → p ≡ same (a ∷ b ∷ []) (c ∷ d ∷ []) → q ≡ same (a ∷ b ∷ []) (d ∷ c ∷ []) → x ≡ direction f l g m
  unfolding direction
  pair_way f g l m el em p q x e alike against = e ∙ rw (el, em, alike, against)

-- a facet of two corners by its marks
pub edge_is : (rows : List (List (List ℕ))) (t f : ℕ) (marks : List ℕ) (k j a b : ℕ) → k ≡ entry rows t f 1 → a ≡ get_or marks k 0 → j ≡ entry rows t f 2
    → b ≡ get_or marks j 0 → entry rows t f 0 ≡ 2 → set_in rows t f marks ≡ a ∷ b ∷ []
unfolding set_in set_mark list_of
edge_is rows t f marks k j a b ek ea ej eb two = rw (two, ea, ek, eb, ej)

-- the way of two half-facets, as the code reads it
module _ (w : List ℕ) (caps : Caps) (rows : List (List (List ℕ))) (h x : ℕ) where
  pub facing_self : h ≡ x → Lone ≡ facing_in w caps rows h x
  unfolding facing_in
  facing_self e = rw (eq-eqb h x e)

  pub facing_other : (h ≡ x → ⊥) → (c d t u f g : ℕ) (a b : List ℕ) (r : Way) → c ≡ h / 8 → d ≡ x / 8 → t ≡ code_in w caps c → f ≡ h % 8
      → a ≡ marks_in w caps c → u ≡ code_in w caps d → g ≡ x % 8 → b ≡ marks_in w caps d → r ≡ direction f (set_in rows t f a) g (set_in rows u g b)
      → r ≡ facing_in w caps rows h x
  unfolding facing_in
  facing_other ne c d t u f g a b r ec ed et ef ea eu eg eb er = er ∙ rw (et, ea, eu, eb, ec, ed, ef, eg, ne_eqb h x ne)
