-- The anchor of a place's group, as a place: 8 times the place of its cell and its facet.
use Rattle.std.specs.Prelude.{◌≡◌, Bool, true, false, cond, ◌&&◌, List, map, ℕ, ◌+◌, ◌/◌, ◌%◌, ◌<◌, eqb, ltb, get_or}
use Rattle.lists.specs.Lists.{has, select, first}
use Rattle.numbers.specs.Half.{cut, half_of}
use Rattle.numbers.specs.declared.Caps.{Caps}
use Rattle.facet.specs.Facet.{facet_in}
use Rattle.border.specs.Borders.{wanted_in}

-- the half-facet at a place is in the group of place i, is wanted and holds v
unfoldable pub chosen_in : List ℕ → Caps → List (List (List ℕ)) → ℕ → List ℕ → List ℕ → ℕ → Bool → ℕ → Bool
chosen_in w caps rows v cells lab i only x =
    eqb (get_or lab (x / 8) 0) (get_or lab i 0)
    && (wanted_in w caps (get_or cells (x / 8) 0) (x % 8) only && has v (facet_in w caps rows (get_or cells (x / 8) 0) (x % 8)))

-- the first such place; end where there is none
unfoldable pub seek_in : List ℕ → Caps → List (List (List ℕ)) → ℕ → List ℕ → List ℕ → ℕ → ℕ → Bool → ℕ
seek_in w caps rows v cells lab end i only = first end (select (chosen_in w caps rows v cells lab i only) end)

-- the first border, or the first of all
unfoldable pub place_in : List ℕ → Caps → List (List (List ℕ)) → ℕ → List ℕ → List ℕ → ℕ → ℕ → ℕ
place_in w caps rows v cells lab end i =
    cond (ltb (seek_in w caps rows v cells lab end i true) end) (seek_in w caps rows v cells lab end i true)
    (seek_in w caps rows v cells lab end i false)

-- what is kept for a label is the place of its group and 1; 0 for what is not known
pub record Remembered (place : ℕ → ℕ) (lab kept : List ℕ) : Type 0 where
  pub known : (i : ℕ) → 0 < get_or kept (get_or lab i 0) 0 → get_or kept (get_or lab i 0) 0 ≡ place i + 1

-- then the place is right, and so is what is kept afterwards
pub record Recalled (place : ℕ → ℕ) (lab : List ℕ) (i : ℕ) (kept : List ℕ) (x : ℕ) (kept' : List ℕ) : Type 0 where
  pub right : Remembered place lab kept → x ≡ place i
  pub still : Remembered place lab kept → Remembered place lab kept'

-- the anchors, each at the place of its own cell
unfoldable pub anchors_in : (ℕ → ℕ) → List ℕ → ℕ → List ℕ
anchors_in place cells n = map (λ i. half_of (cut (get_or cells i 0)) (place i % 8)) (select (λ i. eqb (place i / 8) i) n)
