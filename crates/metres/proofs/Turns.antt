-- What a measure does when its corners are reversed, swapped or moved.
use mathlib.Core.Path.{◌≡◌, refl, ◌∙◌}
use mathlib.Core.Bool.{Bool, true}
use mathlib.Core.List.{List, [], ◌∷◌}
use Prim.Native.Nat.{ℕ, zero, suc, ◌+◌, ◌*◌, ◌<◌}
use native.Mathlib.Omega.{arith}
use lib.ListN.{get_or, length}
use lib.IntN.{ℤ, pos, neg_ℤ, ◌+ℤ◌, ◌-ℤ◌}
use Rattle.lists.specs.Lists.{all, same}
use Rattle.lists.proofs.Bools.{and_left, and_right}
use Rattle.metres.specs.Whole.{Metres, position_of, from_to, moved, edge, dot, cross, crossed, sixfold, tri_area, quad_area, tetra_volume}
use Rattle.metres.proofs.Products.{Term, Name, Plus, Times, Minus, Less, insert, merge, differ, joined, turned, spread, expanded, opposite, without, left, nothing, equal, value, equal_terms}

-- the coordinates of four positions, by name: three each
unfoldable named : Metres → Metres → Metres → Metres → ℕ → ℤ
named a b c d n = get_or (a.x ∷ a.y ∷ a.z ∷ b.x ∷ b.y ∷ b.z ∷ c.x ∷ c.y ∷ c.z ∷ d.x ∷ d.y ∷ d.z ∷ []) n (pos 0)

-- a coordinate of the edge from one corner to another
abbrev along : ℕ → ℕ → ℕ → Term
along k i j = Less (Name (3 * j + k)) (Name (3 * i + k))

-- two coordinates of two edges crossed
abbrev turn : ℕ → ℕ → ℕ → ℕ → ℕ → ℕ → Term
turn p q i j k l = Less (Times (along p i j) (along q k l)) (Times (along q i j) (along p k l))

abbrev volume : ℕ → ℕ → ℕ → ℕ → Term
volume i j k l =
    Plus (Plus (Times (along 0 i j) (turn 1 2 i k i l)) (Times (along 1 i j) (turn 2 0 i k i l))) (Times (along 2 i j) (turn 0 1 i k i l))

-- the terms, multiplied out
tri_equal : equal (turn 0 1 2 1 2 0) (Minus (turn 0 1 0 1 0 2)) ≡ true
unfolding equal nothing left without opposite expanded spread turned joined differ merge insert same
tri_equal = refl

quad_equal : equal (turn 0 1 3 1 2 0) (Minus (turn 0 1 0 2 1 3)) ≡ true
unfolding equal nothing left without opposite expanded spread turned joined differ merge insert same
quad_equal = refl

unfoldable swaps : List Term
swaps = volume 1 0 2 3 ∷ volume 2 1 0 3 ∷ volume 3 1 2 0 ∷ volume 0 2 1 3 ∷ volume 0 3 2 1 ∷ volume 0 1 3 2 ∷ []

swaps_equal : all (λ (t : Term). equal t (Minus (volume 0 1 2 3))) swaps ≡ true
unfolding all swaps equal nothing left without opposite expanded spread turned joined differ merge insert same
swaps_equal = refl

each : (p : Term → Bool) (l : List Term) → all p l ≡ true → (i : ℕ) → i < length l → p (get_or l i (Name 0)) ≡ true
unfolding all
each p [] e i h = absurd (omega arith)
each p (t ∷ ts) e zero h = and_left (p t) (all p ts) e
each p (t ∷ ts) e (suc i) h = each p ts (and_right (p t) (all p ts) e) i (omega arith)

-- ---- reversed and swapped

-- of four corners, two change places
pub record Swapped (size : ℕ → ℕ → ℕ → ℕ → ℤ) (a b c d : ℕ) : Type 0 where
  pub zero_one : size b a c d ≡ neg_ℤ (size a b c d)
  pub zero_two : size c b a d ≡ neg_ℤ (size a b c d)
  pub zero_three : size d b c a ≡ neg_ℤ (size a b c d)
  pub one_two : size a c b d ≡ neg_ℤ (size a b c d)
  pub one_three : size a d c b ≡ neg_ℤ (size a b c d)
  pub two_three : size a b d c ≡ neg_ℤ (size a b c d)

module _ (positions : List ℤ) (a b c d : ℕ) where
  unfoldable coordinate_of : ℕ → ℤ
  coordinate_of = named (position_of positions a) (position_of positions b) (position_of positions c) (position_of positions d)

  -- a triangle or a quad the other way round has the area with the other sign
  pub tri_turns : tri_area positions c b a ≡ neg_ℤ (tri_area positions a b c)
  unfolding tri_area crossed cross from_to coordinate_of named
  tri_turns = equal_terms coordinate_of (turn 0 1 2 1 2 0) (Minus (turn 0 1 0 1 0 2)) tri_equal

  pub quad_turns : quad_area positions d c b a ≡ neg_ℤ (quad_area positions a b c d)
  unfolding quad_area crossed cross from_to coordinate_of named
  quad_turns = equal_terms coordinate_of (turn 0 1 3 1 2 0) (Minus (turn 0 1 0 2 1 3)) quad_equal

  -- and so has a tetrahedron's volume when two of its corners change places
  pub tetra_turns : Swapped (tetra_volume positions) a b c d
  unfolding tetra_volume sixfold dot cross from_to coordinate_of named swaps
  tetra_turns = record {
    zero_one = swapped 0 (omega arith);
    zero_two = swapped 1 (omega arith);
    zero_three = swapped 2 (omega arith);
    one_two = swapped 3 (omega arith);
    one_three = swapped 4 (omega arith);
    two_three = swapped 5 (omega arith);
  }
    where
      swapped : (i : ℕ) → i < 6 → value coordinate_of (get_or swaps i (Name 0)) ≡ value coordinate_of (Minus (volume 0 1 2 3))
      swapped i h = equal_terms coordinate_of (get_or swaps i (Name 0)) (Minus (volume 0 1 2 3)) (each (λ (t : Term). equal t (Minus (volume 0 1 2 3))) swaps swaps_equal i h)

-- ---- moved

away : (x y t : ℤ) → (y +ℤ t) -ℤ (x +ℤ t) ≡ y -ℤ x
unfolding equal nothing left without opposite expanded spread turned joined differ merge insert same
away x y t = equal_terms (λ (n : ℕ). get_or (x ∷ y ∷ t ∷ []) n (pos 0)) (Less (Plus (Name 1) (Name 2)) (Plus (Name 0) (Name 2))) (Less (Name 1) (Name 0)) refl

-- an edge between two marks that are moved by one vector is the edge that it was
pub edge_moved : (t : Metres) (p q : List ℤ) (a b : ℕ) → position_of q a ≡ moved t (position_of p a) → position_of q b ≡ moved t (position_of p b) → edge q a b ≡ edge p a b
unfolding from_to moved
edge_moved t p q a b h k =
    (λ i. from_to (h i) (k i))
    ∙ (λ i. record {
      x = away (position_of p a).x (position_of p b).x t.x i;
      y = away (position_of p a).y (position_of p b).y t.y i;
      z = away (position_of p a).z (position_of p b).z t.z i;
    })
