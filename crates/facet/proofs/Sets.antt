-- The set that the table gives is the set of the definitions.
use mathlib.Core.Path.{◌≡◌, sym, ap, ◌∙◌}
use mathlib.Core.Bool.{true}
use mathlib.Core.List.{List, [], map}
use Prim.Native.Nat.{ℕ, ◌<◌, ◌≤◌, min}
use native.Mathlib.Omega.{arith}
use lib.ListN.{get_or, length, get_or-map}
use Rattle.lists.specs.Lists.{has}
use Rattle.lists.proofs.Fill.{length_list_of}
use Rattle.lists.proofs.Members.{at_has}
use Rattle.lists.proofs.Mapped.{list_at, list_map}
use Rattle.shapes.specs.Shapes.{shape, facet_count, places}
use Rattle.shapes.specs.Table.{table, entry}
use Rattle.shapes.proofs.Facts.{facts}
use Rattle.shapes.proofs.Padded.{table_size, table_place}
use Rattle.map.specs.Cells.{sets_of}
use Rattle.facet.specs.Facet.{set_mark, set_in}
use Rattle.shapes.specs.Sizes.{most_corners}

module _ (t f : ℕ) (marks : List ℕ) where
  -- the set that the table gives is the set of the definitions
  pub set_is : set_in table t f marks ≡ get_or (sets_of t marks) f []
  unfolding set_in set_mark places
  set_is =
      rw size
      (list_map (places t f) (set_mark table t f marks) (λ place. get_or marks place 0)
      (λ k l. ap (λ (p : ℕ). get_or marks p 0) (table_place t f k (omega (arith, few))))
      ∙ sym (get_or-map (map (λ (place : ℕ). get_or marks place 0)) (shape t).facets f []))
    where
      few : length (places t f) ≤ most_corners
      few = (facts t).corners f

      size : min most_corners (entry table t f 0) ≡ length (places t f)
      size = omega (arith, table_size t f, few)

  -- it has a first mark, one of the marks
  pub set_first : f < facet_count t → length marks ≡ (shape t).marks → (0 < length (set_in table t f marks)) × (has (get_or (set_in table t f marks) 0 0) marks ≡ true)
  unfolding set_in set_mark places facet_count
  set_first h count = (
    omega (arith, length_list_of (min most_corners (entry table t f 0)) (set_mark table t f marks), table_size t f, (facts t).some f h),
    rw (list_at (min most_corners (entry table t f 0)) (set_mark table t f marks) 0 0 (omega (arith, table_size t f, (facts t).some f h)), table_place t f 0 (omega arith))
        (at_has marks (get_or (places t f) 0 0) (omega (arith, (facts t).inside f 0 ((facts t).some f h)))),
  )
