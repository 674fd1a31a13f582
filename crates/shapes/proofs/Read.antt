-- What the tables of the code hold is what specs/Shapes.antt says of a type.
use mathlib.Core.Path.{◌≡◌, sym, ap}
use mathlib.Core.List.{List, [], map}
use Prim.Native.Nat.{ℕ, zero, suc, ◌<◌, ◌≤◌}
use native.Mathlib.Decide.{ℕ_discrete}
use native.Mathlib.Omega.{arith}
use borrow.Author.Tests.{lt-ltb, le-ltb}
use lib.ListN.{get_or, get_or-map, get_or-eq_default}
use Rattle.shapes.specs.Shapes.{Shape, no_shape, shapes, shape}
use Rattle.shapes.specs.Table.{entry}
use Rattle.shapes.specs.Sizes.{most_facets, columns, codes, most_code}

-- a number of each type, as a list by code, is that number of the type
pub by_code : (f : Shape → ℕ) (t k : ℕ) → t ≡ k → get_or (map f shapes) k (f no_shape) ≡ f (shape t)
unfolding shape
by_code f t k e = rw e (get_or-map f shapes k no_shape)

-- a code outside the table is no shape
pub no_code : (t : ℕ) → codes ≤ t → shape t ≡ no_shape
unfolding shape shapes
no_code t h = get_or-eq_default shapes no_shape h

-- none of the codes from 1 to n
abbrev pub NoneTo : ℕ → ℕ → Type 0
NoneTo t zero = Unit
NoneTo t (suc n) = NoneTo t n × (t ≡ suc n → ⊥)

past : (t n : ℕ) → NoneTo t n → 1 ≤ t → n < t
past t zero none h = h
past t (suc n) none h = let below : n < t = past t n none.0 h in omega (arith, none.1)

-- a code that is none of the table's types is no shape
pub no_type : (f : Shape → ℕ) (t : ℕ) → NoneTo t most_code → f no_shape ≡ f (shape t)
unfolding shape shapes
no_type f t none = go (ℕ_discrete t 0)
  where
    go : Dec (t ≡ 0) → f no_shape ≡ f (shape t)
    go (yes z) = rw z
    go (no some) = sym (ap f (no_code t (past t most_code none (omega arith))))

module _ (rows : List (List (List ℕ))) (t f k : ℕ) where
  pub entry_in : t < codes → f < most_facets → k < columns → entry rows t f k ≡ get_or (get_or (get_or rows t []) f []) k 0
  unfolding entry
  entry_in a b c = simp (lt-ltb t codes a, lt-ltb f most_facets b, lt-ltb k columns c)

  pub entry_type : codes ≤ t → entry rows t f k ≡ 0
  unfolding entry
  entry_type a = simp (le-ltb t codes a)

  pub entry_facet : t < codes → most_facets ≤ f → entry rows t f k ≡ 0
  unfolding entry
  entry_facet a b = simp (lt-ltb t codes a, le-ltb f most_facets b)

  pub entry_column : t < codes → f < most_facets → columns ≤ k → entry rows t f k ≡ 0
  unfolding entry
  entry_column a b c = simp (lt-ltb t codes a, lt-ltb f most_facets b, le-ltb k columns c)
