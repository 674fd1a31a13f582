-- The padded table holds the facets: the count in column 0, the places behind it.
use mathlib.Core.Path.{◌≡◌, refl, sym, ap, ◌∙◌}
use mathlib.Core.Bool.{Bool, true}
use mathlib.Core.List.{[], ◌∷◌}
use Prim.Native.Nat.{ℕ, suc, ◌+◌, ◌<◌, ◌≤◌}
use native.Mathlib.Decide.{dec_lt}
use native.Mathlib.Omega.{arith}
use borrow.Author.Tests.{eqb-true}
use lib.Dec.{eqb}
use lib.ListN.{get_or, length, get_or-eq_default}
use Rattle.lists.proofs.Below.{all_below, below_at}
use Rattle.shapes.specs.Shapes.{Shape, no_shape, shapes, shape, places}
use Rattle.shapes.specs.Table.{padded, facet_row, type_row, table, entry}
use Rattle.shapes.proofs.Facts.{facts}
use Rattle.shapes.proofs.Read.{no_code, entry_type, entry_facet}
use Rattle.shapes.specs.Sizes.{most_facets, most_corners, columns, codes}

-- what column k should hold
expected : ℕ → ℕ → ℕ → ℕ
expected t f k = get_or (length (places t f) ∷ places t f) k 0

tested : ℕ → ℕ → ℕ → Bool
tested t f k = eqb (entry table t f k) (expected t f k)

table_tested : all_below codes (λ t. all_below most_facets (λ f. all_below columns (tested t f))) ≡ true
unfolding tested expected entry table type_row facet_row padded all_below shapes shape places no_shape
table_tested = refl

-- no facet outside the table
no_places : (t f : ℕ) → most_facets ≤ f → places t f ≡ []
unfolding places
no_places t f h = get_or-eq_default (shape t).facets [] (omega (arith, (facts t).facets))

no_type : (t f : ℕ) → codes ≤ t → places t f ≡ []
unfolding places no_shape
no_type t f h = ap (λ (s : Shape). get_or s.facets f []) (no_code t h)

nothing : (k : ℕ) → get_or (length {A = ℕ} [] ∷ []) k 0 ≡ 0
nothing Prim.Native.Nat.zero = refl
nothing (suc k) = refl

pub table_entry : (t f k : ℕ) → k < columns → entry table t f k ≡ get_or (length (places t f) ∷ places t f) k 0
unfolding expected tested
table_entry t f k hk = go (dec_lt t codes) (dec_lt f most_facets)
  where
    go : Dec (t < codes) → Dec (f < most_facets) → entry table t f k ≡ get_or (length (places t f) ∷ places t f) k 0
    go (yes ht) (yes hf) =
        eqb-true _ _
        (below_at columns (tested t f)
        (below_at most_facets (λ f. all_below columns (tested t f)) (below_at codes (λ t. all_below most_facets (λ f. all_below columns (tested t f))) table_tested t ht) f hf) k hk)
    go (yes ht) (no hf) = entry_facet table t f k ht (omega arith) ∙ rw (no_places t f (omega arith)) (sym (nothing k))
    go (no ht) d = entry_type table t f k (omega arith) ∙ rw (no_type t f (omega arith)) (sym (nothing k))

pub table_size : (t f : ℕ) → entry table t f 0 ≡ length (places t f)
table_size t f = table_entry t f 0 (omega arith)

pub table_place : (t f k : ℕ) → k < most_corners → entry table t f (suc k) ≡ get_or (places t f) k 0
table_place t f k h = table_entry t f (suc k) (omega arith)
