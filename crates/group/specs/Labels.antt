-- Groups by labels: each place of a list of cells has a label, and two places have one label where links join them.
use Rattle.std.specs.Prelude.{◌≡◌, Bool, true, false, cond, not, ◌&&◌, ◌||◌, List, ℕ, zero, suc, ◌+◌, ◌/◌, ◌%◌, ◌<◌, ◌≤◌, eqb, get_or, length}
use Rattle.numbers.specs.Half.{cut, half_of}
use Rattle.shapes.specs.Shapes.{facet_count}
use Rattle.numbers.specs.declared.Caps.{Caps}
use Rattle.lists.specs.Lists.{has}
use Rattle.facet.specs.Facet.{facet_in}
use Rattle.store.specs.Slots.{code_in, sibling_in}
use Rattle.numbers.specs.Sizes.{most_around}

-- one of the numbers below n passes
unfoldable pub any_below : ℕ → (ℕ → Bool) → Bool
any_below zero p = false
any_below (suc n) p = p n || any_below n p

-- the stored sibling of a half-facet
abbrev pub sib_at : List ℕ → Caps → ℕ → ℕ
sib_at w caps h = sibling_in w caps h

-- from half-facet h on, in at most k steps by the words, cell b is met before half-facet start
unfoldable pub meets_in : List ℕ → Caps → ℕ → ℕ → ℕ → ℕ → Bool
meets_in w caps start b zero h = false
meets_in w caps start b (suc k) h = not (eqb h start) && (eqb (h / 8) b || meets_in w caps start b k (sib_at w caps h))

-- so on the way from half-facet start round to it
unfoldable pub met_in : List ℕ → Caps → ℕ → ℕ → Bool
met_in w caps start b = meets_in w caps start b most_around (sib_at w caps start)

-- cell b is met from a facet of cell a that holds v
unfoldable pub joins_in : List ℕ → Caps → List (List (List ℕ)) → ℕ → ℕ → ℕ → ℕ → Bool
joins_in w caps rows v a f b = met_in w caps (half_of (cut a) (f % 8)) b && has v (facet_in w caps rows a f)

-- so from one of its facets
unfoldable pub linked_in : List ℕ → Caps → List (List (List ℕ)) → ℕ → ℕ → ℕ → Bool
linked_in w caps rows v a b = any_below (facet_count (code_in w caps a)) (λ f. joins_in w caps rows v a f b)

-- so two places of a list of cells are linked
unfoldable pub link_in : List ℕ → Caps → List (List (List ℕ)) → ℕ → List ℕ → ℕ → ℕ → Bool
link_in w caps rows v cells i j = linked_in w caps rows v (get_or cells i 0) (get_or cells j 0)

-- each of the first n places has its own number as label
pub record Numbered (n : ℕ) (l l' : List ℕ) : Type 0 where
  pub size : length l' ≡ length l
  pub own : n ≤ length l → (p : ℕ) → p < n → get_or l' p 0 ≡ p

-- one label is replaced by another
unfoldable pub renamed : ℕ → ℕ → ℕ → ℕ
renamed old new x = cond (eqb x old) new x

pub record Relabelled (n old new : ℕ) (l l' : List ℕ) : Type 0 where
  pub size : length l' ≡ length l
  pub each : n ≤ length l → (p : ℕ) → p < n → get_or l' p 0 ≡ renamed old new (get_or l p 0)

-- a relation of places that links make
pub record Relates (link : ℕ → ℕ → Bool) (n : ℕ) (R : ℕ → ℕ → Bool) : Type 0 where
  pub back : (p q : ℕ) → R p q ≡ true → R q p ≡ true
  pub onward : (p q r : ℕ) → R p q ≡ true → R q r ≡ true → R p r ≡ true
  pub links : (p q : ℕ) → p < n → q < n → link p q ≡ true → R p q ≡ true

-- places with one label are related
abbrev pub LabelsWithin : ℕ → (ℕ → ℕ → Bool) → List ℕ → Type 0
LabelsWithin n R l = (p q : ℕ) → p < n → q < n → get_or l p 0 ≡ get_or l q 0 → R p q ≡ true

-- the pairs of place a with the places from lo to below hi
pub record Pairs (a lo hi p q : ℕ) : Type 0 where
  pub one : p ≡ a
  pub least : lo ≤ q
  pub most : q < hi

-- the pairs that P holds of are looked at
pub record Merged (link : ℕ → ℕ → Bool) (n : ℕ) (P : ℕ → ℕ → Type 0) (l l' : List ℕ) : Type 0 where
  pub size : length l' ≡ length l
  pub same : n ≤ length l → (p q : ℕ) → p < n → q < n → get_or l p 0 ≡ get_or l q 0 → get_or l' p 0 ≡ get_or l' q 0
  pub linked : n ≤ length l → (p q : ℕ) → P p q → q < p → p < n → link p q ≡ true → get_or l' p 0 ≡ get_or l' q 0
  pub within : n ≤ length l → (R : ℕ → ℕ → Bool) → Relates link n R → LabelsWithin n R l → LabelsWithin n R l'

-- what the labels say in the end
pub record Labelled (link : ℕ → ℕ → Bool) (n : ℕ) (l l' : List ℕ) : Type 0 where
  pub size : length l' ≡ length l
  pub linked : n ≤ length l → (a b : ℕ) → b < a → a < n → link a b ≡ true → get_or l' a 0 ≡ get_or l' b 0
  pub within : n ≤ length l → (R : ℕ → ℕ → Bool) → Relates link n R → ((p : ℕ) → p < n → R p p ≡ true) → LabelsWithin n R l'
