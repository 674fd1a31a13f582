-- Where the live cells are 0, 1, 2 and so on up to the capacity, as after a read, the renumbered map is the map with licence 0 everywhere; it is the
-- map itself where no cell has a licence.
use mathlib.Core.Path.{◌≡◌, refl, sym, ap, ◌∙◌, fun_ext}
use mathlib.Core.Bool.{Bool, true, cond}
use mathlib.Core.List.{[], ◌∷◌, ◌++◌}
use mathlib.Core.Logic.{⊎_elim}
use Prim.Native.Nat.{ℕ, zero, suc, ◌<◌}
use native.Mathlib.Decide.{dec_lt}
use native.Mathlib.Nat.{eq-or-lt_of_le}
use native.Mathlib.Omega.{arith}
use lib.ListN.{length, get_or, length-append, get_or-append}
use lib.Seq.{get_or_at}
use Rattle.lists.specs.Lists.{select}
use Rattle.lists.proofs.Bools.{not_true_false}
use Rattle.numbers.specs.Editions.{first_edition}
use Rattle.numbers.specs.Sizes.{caps_under}
use Rattle.numbers.specs.declared.Caps.{Caps}
use Rattle.map.specs.Cells.{Body, licensed_body, Map, no_cell, live}
use Rattle.map.specs.Sound.{Sound}
use Rattle.surface_stories.specs.Renumbered.{unlicensed, renumbered}
use Rattle.surface_stories.proofs.Numbered.{old, cells_count, old_behind, behind_none, at_old}

-- all numbers pass
all_count : (p : ℕ → Bool) (n : ℕ) → ((k : ℕ) → k < n → p k ≡ true) → length (select p n) ≡ n
unfolding select
all_count p zero t = refl
all_count p (suc n) t =
    ap (λ (b : Bool). length (cond b (select p n ++ (n ∷ [])) (select p n))) (t n (omega arith))
    ∙ (length-append (select p n) (n ∷ []) ∙ omega (arith, all_count p n (λ k h. t k (omega arith))))

all_places : (p : ℕ → Bool) (n : ℕ) → ((k : ℕ) → k < n → p k ≡ true) → (k d : ℕ) → k < n → get_or (select p n) k d ≡ k
unfolding select
all_places p zero t k d h = absurd (omega arith)
all_places p (suc n) t k d h =
    let size = all_count p n (λ j i. t j (omega arith)) in
    ap (λ (b : Bool). get_or (cond b (select p n ++ (n ∷ [])) (select p n)) k d) (t n (omega arith))
    ∙ ⊎_elim
    (λ (e : k ≡ n). get_or_at (select p n) n [] d k (size ∙ sym e) ∙ sym e)
    (λ (l : k < n). get_or-append (select p n) (n ∷ []) d k (omega (arith, size)) ∙ all_places p n (λ j i. t j (omega arith)) k d l)
    (eq-or-lt_of_le {n = k} {m = n} (omega arith))

abbrev map_with : Caps → (ℕ → Body) → Map
map_with caps at = record { caps = caps; at = at }

caps_parts : (m : Map) → (renumbered m).caps ≡ caps_under first_edition m.caps.marks (renumbered m).caps.cells
unfolding renumbered
caps_parts m = refl

-- under a number that is not below the capacity stands no cell
behind_cells : (m : Map) → Sound m → (k : ℕ) → (k < m.caps.cells → ⊥) → m.at k ≡ no_cell
behind_cells m s k f = s.dead k (not_true_false (live m k) (λ e. f (s.below k e)))

-- the same cells with licence 0
pub renumbered_unlicensed : (m : Map) → Sound m → m.caps.edition ≡ first_edition → ((k : ℕ) → k < m.caps.cells → live m k ≡ true)
    → renumbered m ≡ map_with m.caps (λ k. unlicensed (m.at k))
renumbered_unlicensed m s first all = ap (λ (c : Caps). map_with c (renumbered m).at) caps ∙ ap (map_with m.caps) (fun_ext at)
  where
    count : (renumbered m).caps.cells ≡ m.caps.cells
    count = cells_count m ∙ all_count (live m) m.caps.cells all

    caps : (renumbered m).caps ≡ m.caps
    caps =
        caps_parts m ∙ (ap (λ (n : ℕ). caps_under first_edition m.caps.marks n) count
        ∙ ap (λ (e : ℕ). caps_under e m.caps.marks m.caps.cells) (sym first))

    at : (k : ℕ) → (renumbered m).at k ≡ unlicensed (m.at k)
    at k = at_old m s k ∙ ap unlicensed (go (dec_lt k m.caps.cells))
      where
        go : Dec (k < m.caps.cells) → m.at (old m k) ≡ m.at k
        go (yes h) = ap m.at (all_places (live m) m.caps.cells all k m.caps.cells h)
        go (no f) =
            ap m.at (old_behind m k (omega (arith, all_count (live m) m.caps.cells all)))
            ∙ (behind_none m s ∙ sym (behind_cells m s k f))

no_licence : (x : Body) → x.licence ≡ 0 → unlicensed x ≡ x
no_licence x e = ap (λ (n : ℕ). licensed_body x.code n x.marks) (sym e)

-- and the map itself where no cell has a licence
pub renumbered_same : (m : Map) → Sound m → m.caps.edition ≡ first_edition → ((k : ℕ) → k < m.caps.cells → live m k ≡ true)
    → ((k : ℕ) → k < m.caps.cells → (m.at k).licence ≡ 0) → renumbered m ≡ m
unfolding no_cell
renumbered_same m s first all none =
    renumbered_unlicensed m s first all ∙ ap (map_with m.caps) (fun_ext (λ k. no_licence (m.at k) (at k (dec_lt k m.caps.cells))))
  where
    at : (k : ℕ) → Dec (k < m.caps.cells) → (m.at k).licence ≡ 0
    at k (yes h) = none k h
    at k (no f) = ap (λ (b : Body). b.licence) (behind_cells m s k f)
