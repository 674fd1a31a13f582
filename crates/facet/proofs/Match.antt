-- The first facet with a set of marks.
use mathlib.Core.Path.{◌≡◌, sym}
use mathlib.Core.Bool.{Bool, true, false}
use mathlib.Core.List.{List, ◌∷◌}
use Prim.Native.Nat.{ℕ, ◌<◌}
use Rattle.lists.specs.Lists.{has, all, same_set, select, first}
use Rattle.lists.proofs.Order.{first_select}
use Rattle.lists.proofs.Counts.{select_empty}
use Rattle.shapes.specs.Shapes.{facet_count}
use Rattle.numbers.specs.declared.Caps.{Caps}
use Rattle.store.specs.Slots.{code_in}
use Rattle.facet.specs.Facet.{marks_in, set_in, match_in}
use Rattle.facet.proofs.Held.{not_spanned}
use Rattle.shapes.specs.Sizes.{no_facet}

module _ (rows : List (List (List ℕ))) (t : ℕ) (marks set : List ℕ) where
  abbrev matched : ℕ → Bool
  matched f = same_set set (set_in rows t f marks)

  -- none where the set has a number that is none of the marks
  pub match_other : all (λ x. has x (0 ∷ marks)) set ≡ false → no_facet ≡ first no_facet (select matched (facet_count t))
  unfolding first
  match_other e = rw (select_empty matched (facet_count t) (λ f h. not_spanned rows t f marks set e))

  module _ (n : ℕ) (count : n ≡ facet_count t) (f : ℕ) (before : (k : ℕ) → k < f → matched k ≡ false) where
    pub match_found : matched f ≡ true → f < n → f ≡ first no_facet (select matched (facet_count t))
    match_found e h = rw (← count) (sym (first_select no_facet matched n f h e before))

    pub match_none : f ≡ n → no_facet ≡ first no_facet (select matched (facet_count t))
    unfolding first
    match_none e = rw (← count, select_empty matched n (rw e at before))

-- as the record of a cell gives its type and marks
pub match_here : (w : List ℕ) (caps : Caps) (rows : List (List (List ℕ))) (c : ℕ) (set marks : List ℕ) (t r : ℕ) → t ≡ code_in w caps c → marks ≡ marks_in w caps c
    → r ≡ first no_facet (select (λ f. same_set set (set_in rows t f marks)) (facet_count t)) → r ≡ match_in w caps rows c set
unfolding match_in
match_here w caps rows c set marks t r code held e = rw (← code, ← held) e
