-- The facts of all facets: one test computed over the whole table, and one law that turns it into the facts of each type.
use mathlib.Core.Path.{◌≡◌, refl}
use mathlib.Core.Bool.{Bool, true, not, ◌||◌}
use mathlib.Core.List.{List, [], ◌∷◌}
use mathlib.Core.Logic.{⊎_elim}
use Prim.Native.Nat.{ℕ, ◌<◌}
use native.Mathlib.Omega.{arith}
use borrow.Author.Tests.{leb-true, ltb-true, eqb-true, not-true}
use lib.Dec.{leb, ltb, eqb}
use lib.ListN.{get_or, length}
use Rattle.lists.specs.Lists.{has, any, all, repeats, same_set}
use Rattle.lists.proofs.Bools.{clash, or_cases}
use Rattle.lists.proofs.Members.{all_at, all_get}
use Rattle.lists.proofs.Below.{all_below, below_at}
use Rattle.shapes.specs.Shapes.{Shape, no_shape, shapes, shape}
use Rattle.shapes.specs.Facts.{Facts, facet_at, dimension_of}
use Rattle.shapes.specs.Sizes.{most_facets, most_marks, most_corners}

-- a facet alone: few corners, each a place of the marks, distinct
facet_tests : ℕ → List ℕ → List Bool
facet_tests marks ps = leb (length ps) most_corners ∷ all (λ p. ltb p marks) ps ∷ not (repeats ps) ∷ []

-- the facets of a type together
sized : Shape → ℕ → Bool
sized s f = eqb (dimension_of (length (facet_at s f))) s.dimension

cornered : Shape → ℕ → Bool
cornered s p = any (has p) s.facets

apart : Shape → ℕ → ℕ → Bool
apart s f g = not (same_set (facet_at s f) (facet_at s g)) || eqb f g

facet_test : ℕ → List ℕ → Bool
facet_test marks ps = all (λ b. b) (facet_tests marks ps)

tests : Shape → List Bool
tests s =
    leb (length s.facets) most_facets
    ∷ leb s.marks most_marks
    ∷ all (facet_test s.marks) s.facets
    ∷ all_below (length s.facets) (sized s)
    ∷ all_below s.marks (cornered s)
    ∷ all_below (length s.facets) (λ f. all_below (length s.facets) (apart s f))
    ∷ all_below (length s.facets) (λ f. ltb 0 (length (facet_at s f)))
    ∷ []

test : Shape → Bool
test s = all (λ b. b) (tests s)

table_test : all test shapes ≡ true
unfolding test tests facet_test facet_tests sized cornered apart shapes no_shape all any has repeats same_set all_below dimension_of
table_test = refl

empty_test : test no_shape ≡ true
unfolding test tests facet_test facet_tests sized cornered apart no_shape all all_below
empty_test = refl

of_test : (s : Shape) → test s ≡ true → Facts s
unfolding test tests facet_test facet_tests sized cornered apart all repeats
of_test s e = record {
  facets = leb-true _ _ (passed 0 (omega arith));
  corners = λ f. leb-true _ _ (facet f 0 (omega arith));
  some = λ f h. ltb-true _ _ (below_at (length s.facets) (λ f. ltb 0 (length (facet_at s f))) (passed 6 (omega arith)) f h);
  marks = leb-true _ _ (passed 1 (omega arith));
  inside = λ f k h. ltb-true _ _ (all_at (λ p. ltb p s.marks) (facet_at s f) 0 k (facet f 1 (omega arith)) h);
  distinct = λ f. not-true _ (facet f 2 (omega arith));
  size = λ f h. eqb-true _ _ (below_at (length s.facets) (sized s) (passed 3 (omega arith)) f h);
  corner = λ p h. below_at s.marks (cornered s) (passed 4 (omega arith)) p h;
  differ = λ f g hf hg same.
      ⊎_elim (λ (n : not (same_set (facet_at s f) (facet_at s g)) ≡ true). absurd (clash same (not-true _ n)))
      (λ (q : eqb f g ≡ true). eqb-true f g q)
      (or_cases (not (same_set (facet_at s f) (facet_at s g))) (eqb f g)
      (below_at (length s.facets) (apart s f)
      (below_at (length s.facets) (λ f. all_below (length s.facets) (apart s f)) (passed 5 (omega arith)) f hf) g hg));
}
  where
    passed : (k : ℕ) → k < 7 → get_or (tests s) k true ≡ true
    passed k h = all_at (λ b. b) (tests s) true k e h

    facet : (f k : ℕ) → k < 3 → get_or (facet_tests s.marks (facet_at s f)) k true ≡ true
    facet f k h =
        all_at (λ b. b) (facet_tests s.marks (facet_at s f)) true k
        (all_get (facet_test s.marks) s.facets [] f (passed 2 (omega arith)) none) h
      where
        none : all (λ b. b) (facet_tests s.marks []) ≡ true
        none = refl

-- the facts hold of every code; of one outside the table because it has no facets
pub facts : (t : ℕ) → Facts (shape t)
unfolding shape
facts t = of_test (get_or shapes t no_shape) (all_get test shapes no_shape t table_test empty_test)
