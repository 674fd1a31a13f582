-- Whether a cell is met along the sibling words, step by step and facet by facet.
use mathlib.Core.Path.{◌≡◌, refl, sym, ap, ◌∙◌}
use mathlib.Core.Bool.{Bool, true, false, not, ◌&&◌}
use mathlib.Core.List.{List}
use mathlib.Core.Logic.{⊎_elim}
use Prim.Native.Nat.{ℕ, zero, suc, ◌+◌, ◌-◌, ◌/◌, ◌%◌, ◌<◌}
use native.Mathlib.Nat.{not-suc-le-zero, eq-or-lt_of_le}
use native.Mathlib.Omega.{arith}
use borrow.Author.Tests.{eq-eqb, ne_eqb}
use lib.ListN.{get_or}
use Rattle.lists.proofs.Bools.{clash, or_cases, or_left, or_right, not_false_true}
use Rattle.lists.specs.Lists.{has}
use Rattle.facet.specs.Facet.{facet_in}
use Rattle.numbers.specs.Half.{cut, half_of}
use Rattle.shapes.specs.Shapes.{facet_count}
use Rattle.numbers.specs.declared.Caps.{Caps}
use Rattle.store.specs.Slots.{code_in}
use Rattle.border.proofs.Words.{not_false}
use Rattle.group.specs.Labels.{any_below, sib_at, meets_in, met_in, joins_in, linked_in}
use Rattle.numbers.specs.Sizes.{most_around}

pub below_found : (n : ℕ) (p : ℕ → Bool) (k : ℕ) → k < n → p k ≡ true → any_below n p ≡ true
unfolding any_below
below_found zero p k h e = absurd (not-suc-le-zero h)
below_found (suc n) p k h e =
    ⊎_elim (λ (z : k ≡ n). or_left _ _ (ap p (sym z) ∙ e)) (λ (l : k < n). or_right (p n) _ (below_found n p k l e))
    (eq-or-lt_of_le {n = k} {m = n} (omega arith))

below_none : (n : ℕ) (p : ℕ → Bool) → ((k : ℕ) → k < n → p k ≡ false) → any_below n p ≡ false
unfolding any_below
below_none zero p f = refl
below_none (suc n) p f = rw (f n (omega arith)) (below_none n p (λ k h. f k (omega arith)))

pub below_out : (n : ℕ) (p : ℕ → Bool) → any_below n p ≡ true → (k : ℕ) × (k < n) × (p k ≡ true)
unfolding any_below
below_out zero p e = absurd (clash e refl)
below_out (suc n) p e =
    ⊎_elim (λ (h : p n ≡ true). (n, omega arith, h)) (λ (h : any_below n p ≡ true). let r = below_out n p h in (r.0, omega (arith, r.1), r.2))
    (or_cases (p n) (any_below n p) e)

-- step by step
module _ (w : List ℕ) (caps : Caps) (start b : ℕ) where
  pub meets_start : (h : ℕ) → h ≡ sib_at w caps start → meets_in w caps start b most_around h ≡ met_in w caps start b
  unfolding met_in
  meets_start h e = ap (meets_in w caps start b most_around) e

  pub meets_none : (h : ℕ) → meets_in w caps start b 0 h ≡ false
  unfolding meets_in
  meets_none h = refl

  pub meets_back : (k h : ℕ) → h ≡ start → meets_in w caps start b (suc k) h ≡ false
  unfolding meets_in
  meets_back k h e = rw (eq-eqb h start e)

  module _ (k h : ℕ) (apart : h ≡ start → ⊥) where
    pub meets_here : h / 8 ≡ b → meets_in w caps start b (suc k) h ≡ true
    unfolding meets_in
    meets_here e = rw (ne_eqb h start apart, eq-eqb (h / 8) b e)

    pub meets_more : (h / 8 ≡ b → ⊥) → meets_in w caps start b (suc k) h ≡ meets_in w caps start b k (sib_at w caps h)
    unfolding meets_in
    meets_more f = rw (ne_eqb h start apart, ne_eqb (h / 8) b f)

  -- as the code takes them
  module _ (left h : ℕ) (inv : meets_in w caps start b left h ≡ met_in w caps start b) where
    pub met_none : left ≡ 0 → false ≡ met_in w caps start b
    met_none e = sym (meets_none h) ∙ (ap (λ (k : ℕ). meets_in w caps start b k h) (sym e) ∙ inv)

    module _ (some : 0 < left) where
      here : meets_in w caps start b (suc (left - 1)) h ≡ met_in w caps start b
      here =
          let e : suc (left - 1) ≡ left = omega arith in
          ap (λ (k : ℕ). meets_in w caps start b k h) e ∙ inv

      pub met_back : h ≡ start → false ≡ met_in w caps start b
      met_back e = sym (meets_back (left - 1) h e) ∙ here

      pub met_here : (h ≡ start → ⊥) → h / 8 ≡ b → true ≡ met_in w caps start b
      met_here f e = sym (meets_here (left - 1) h f e) ∙ here

      pub met_more : (h ≡ start → ⊥) → (h / 8 ≡ b → ⊥) → (h' : ℕ) → h' ≡ sib_at w caps h → meets_in w caps start b (left - 1) h' ≡ met_in w caps start b
      met_more f g h' e = ap (meets_in w caps start b (left - 1)) e ∙ (sym (meets_more (left - 1) h f g) ∙ here)

-- from a facet of a cell
module _ (w : List ℕ) (caps : Caps) (rows : List (List (List ℕ))) (v a f b h : ℕ) (half : h ≡ half_of (cut a) (f % 8)) (met : Bool)
    (meets : met ≡ met_in w caps h b) where
  pub joins_not : not met ≡ true → false ≡ joins_in w caps rows v a f b
  unfolding joins_in
  joins_not e = rw (← half, ← meets, not_false_true met e)

  pub joins_mark : not met ≡ false → (r : Bool) → r ≡ has v (facet_in w caps rows a f) → r ≡ joins_in w caps rows v a f b
  unfolding joins_in
  joins_mark e r q = rw (← half, ← meets, not_false met e) q

-- facet by facet
module _ (w : List ℕ) (caps : Caps) (rows : List (List (List ℕ))) (v a b t n : ℕ) (code : t ≡ code_in w caps a) (count : n ≡ facet_count t) where
  facets : facet_count (code_in w caps a) ≡ n
  facets = sym (count ∙ ap facet_count code)

  pub linked_found : (f : ℕ) → joins_in w caps rows v a f b ≡ true → f < n → true ≡ linked_in w caps rows v a b
  unfolding linked_in
  linked_found f e h = rw facets (sym (below_found n _ f h e))

  pub linked_none : (f : ℕ) → ((k : ℕ) → k < f → joins_in w caps rows v a k b ≡ false) → f ≡ n → false ≡ linked_in w caps rows v a b
  unfolding linked_in
  linked_none f before e = rw facets (sym (below_none n _ (rw e at before)))
