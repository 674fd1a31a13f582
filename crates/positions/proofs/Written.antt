-- Points written one behind the other, three floats each.
use mathlib.Core.Path.{◌≡◌, refl, sym, ap, ◌∙◌}
use mathlib.Core.List.{List, [], ◌∷◌, ◌++◌, map, append_assoc, map-append}
use Prim.Native.Nat.{ℕ, suc, ◌+◌, ◌*◌, ◌<◌, ◌≤◌}
use mathlib.Core.Logic.{◌⊎◌, inl, inr}
use native.Mathlib.Nat.{le_trans}
use native.Mathlib.Numerals.{add-one}
use native.Mathlib.Omega.{arith}
use lib.ListN.{length, get_or, set, drop, length-set, length-append, length-map}
use lib.Seq.{drop-cons, set_at, set_out}
use lib.IntN.{ℤ}
use lib.Ieee.{Float, nan}
use Rattle.lists.specs.Lists.{list_of}
use Rattle.lists.proofs.Fill.{length_list_of}
use Rattle.shapes.specs.Sizes.{most_marks}
use Rattle.metres.specs.Whole.{position_of}
use Rattle.metres.specs.Points.{point_of}
use Rattle.metres.specs.declared.Point.{Point}
use Rattle.positions.specs.Measures.{coordinates, points_of, origins}
use Rattle.positions.specs.Pointed.{Wrote}

-- one more, at the place behind the last
wrote_one : {A : Type 0} (d : A) (l o o' : List A) (n : ℕ) (x : A) → Wrote l o o' → n ≡ length l → Wrote (l ++ (x ∷ [])) o (set o' n x)
wrote_one d l o o' n x f e = record {
  size = length-set o' n x ∙ f.size;
  wrote = λ h.
      let size : length (l ++ (x ∷ [])) ≡ length l + 1 = length-append l (x ∷ []) in
      let less : length l < length o = omega arith in
      let was : o' ≡ l ++ (get_or o (length l) d ∷ drop (suc (length l)) o) = rw (← drop-cons o (length l) d less) (f.wrote (omega arith)) in
      let behind : length (l ++ (x ∷ [])) ≡ suc (length l) = omega arith in
      rw (was, e, set_at l (get_or o (length l) d) (drop (suc (length l)) o) x (length l) refl, append_assoc, behind) refl;
}

-- three floats a mark
pub three_each : (positions : List ℤ) (l : List ℕ) → length (coordinates positions l) ≡ 3 * length l
unfolding coordinates
three_each positions [] = refl
three_each positions (v ∷ l) = omega (arith, three_each positions l)

coordinates_end : (positions : List ℤ) (l : List ℕ) (v : ℕ)
    → coordinates positions (l ++ (v ∷ []))
    ≡ coordinates positions l ++ ((point_of (position_of positions v)).x ∷ (point_of (position_of positions v)).y ∷ (point_of (position_of positions v)).z ∷ [])
unfolding coordinates
coordinates_end positions [] v = refl
coordinates_end positions (u ∷ l) v =
    ap (λ (r : List Float). (point_of (position_of positions u)).x ∷ (point_of (position_of positions u)).y ∷ (point_of (position_of positions u)).z ∷ r) (coordinates_end positions l v)

module _ (positions : List ℤ) (g : ℕ → ℕ) (o : List Float) where
  pub wrote_none : Wrote (coordinates positions (list_of 0 g)) o o
  unfolding coordinates list_of
  wrote_none = record { size = refl; wrote = λ _. refl }

  -- one point more
  pub wrote_point : (i : ℕ) (o₀ o₁ o₂ o₃ : List Float) (v : ℕ) (p : Point) → v ≡ g i → p ≡ point_of (position_of positions v)
      → Wrote (coordinates positions (list_of i g)) o o₀ → o₁ ≡ set o₀ (3 * i) p.x → o₂ ≡ set o₁ (3 * i + 1) p.y → o₃ ≡ set o₂ (3 * i + 2) p.z
      → Wrote (coordinates positions (list_of (i + 1) g)) o o₃
  unfolding list_of
  wrote_point i o₀ o₁ o₂ o₃ v p e q f ex ey ez =
      rw (add-one i, coordinates_end positions (list_of i g) (g i), ← e, ← q, ← joined)
      (rw (ez, ey, ex) (wrote_one nan (l ++ (p.x ∷ []) ++ (p.y ∷ [])) o (set (set o₀ (3 * i) p.x) (3 * i + 1) p.y) (3 * i + 2) p.z
      (wrote_one nan (l ++ (p.x ∷ [])) o (set o₀ (3 * i) p.x) (3 * i + 1) p.y
      (wrote_one nan l o o₀ (3 * i) p.x f size) size₁) size₂))
    where
      l : List Float
      l = coordinates positions (list_of i g)

      size : 3 * i ≡ length l
      size = omega (arith, three_each positions (list_of i g), length_list_of i g)

      size₁ : 3 * i + 1 ≡ length (l ++ (p.x ∷ []))
      size₁ = omega (arith, size, length-append l (p.x ∷ []))

      size₂ : 3 * i + 2 ≡ length ((l ++ (p.x ∷ [])) ++ (p.y ∷ []))
      size₂ = omega (arith, size₁, length-append (l ++ (p.x ∷ [])) (p.y ∷ []))

      joined : ((l ++ (p.x ∷ [])) ++ (p.y ∷ [])) ++ (p.z ∷ []) ≡ l ++ (p.x ∷ p.y ∷ p.z ∷ [])
      joined = rw (append_assoc, append_assoc) refl

  pub wrote_all : (i n : ℕ) (o' : List Float) → i ≤ n → n ≤ i → Wrote (coordinates positions (list_of i g)) o o' → Wrote (coordinates positions (list_of n g)) o o'
  wrote_all i n o' a b f = let e : i ≡ n = omega arith in rw e at f

-- the same of points by value
module _ (positions : List ℤ) (g : ℕ → ℕ) (o : List Point) where
  pub point_none : Wrote (points_of positions (list_of 0 g)) o o
  unfolding points_of list_of
  point_none = record { size = refl; wrote = λ _. refl }

  pub point_more : (i : ℕ) (o' o'' : List Point) (v : ℕ) (p : Point) → v ≡ g i → p ≡ point_of (position_of positions v) → Wrote (points_of positions (list_of i g)) o o'
      → o'' ≡ set o' i p → Wrote (points_of positions (list_of (i + 1) g)) o o''
  unfolding points_of list_of
  point_more i o' o'' v p e q f w =
      rw (add-one i, map-append, ← e, ← q, w)
      (wrote_one p (map (λ (v : ℕ). point_of (position_of positions v)) (list_of i g)) o o' i p f (sym (length-map (list_of i g) (λ (v : ℕ). point_of (position_of positions v)) ∙ length_list_of i g)))

  pub point_all : (i n : ℕ) (o' : List Point) → i ≤ n → n ≤ i → Wrote (points_of positions (list_of i g)) o o' → Wrote (points_of positions (list_of n g)) o o'
  point_all i n o' a b f = let e : i ≡ n = omega arith in rw e at f

-- a point put in its place, or nothing beyond the last
pub put_or_not : {B C : Type 0} (o' o'' : List Point) (i : ℕ) (p : Point) → length o' ≤ most_marks → ((x : B) × (o'' ≡ set o' i p)) ⊎ ((x : C) × (o'' ≡ o')) → (C → most_marks ≤ i)
    → o'' ≡ set o' i p
put_or_not o' o'' i p few (inl q) out = q.1
put_or_not o' o'' i p few (inr q) out = q.1 ∙ sym (set_out o' i p (le_trans few (out q.0)))

pub origins_eight : (o : List Point) → o ≡ origins → length o ≤ most_marks
unfolding origins
origins_eight o e = rw e (omega arith)

pub origins_full : most_marks ≤ length origins
unfolding origins
origins_full = omega arith
