-- The picture of a settled state whose first anchors and live counts are right, with nothing where no facet is, is the well-formed memory of
-- its map.
use mathlib.Core.Path.{◌≡◌, refl, subst, fun_ext}
use mathlib.Core.Bool.{Bool, true, false, cond}
use mathlib.Core.List.{List}
use Prim.Native.Nat.{ℕ, ◌+◌, ◌*◌, ◌<◌, ◌≤◌}
use lib.ListN.{length}
use Rattle.numbers.specs.declared.Caps.{Caps}
use Rattle.shapes.specs.Sizes.{most_facets, most_code}
use Rattle.map.specs.Cells.{cells_of}
use Rattle.map.specs.Siblings.{is_half, sibling}
use Rattle.map.specs.declared.Way.TheVariants.{Lone}
use Rattle.map.specs.Ways.{way_number, way}
use Rattle.map.specs.Sound.{TwoSolids}
use Rattle.map.specs.Stars.{anchors}
use Rattle.picture.specs.State.{State, next, map_with, state_of}
use Rattle.picture.specs.Picture.{Pic, Wf, sib_word}
use Rattle.picture.specs.Ready.{Settled}
use Rattle.picture.proofs.Alike.{retold, pic_retold, state_same}

module _ (w : List ℕ) (caps : Caps) (s : State) (p : Pic w caps s) (settled : Settled caps s) (two : TwoSolids (map_with caps s))
    (counts : (t : ℕ) → 1 ≤ t → t ≤ most_code → s.count t ≡ length (cells_of (map_with caps s) t))
    (ancs : (v d : ℕ) → v < caps.marks → 1 ≤ d → d ≤ 3 → s.anc d v ≡ next (anchors (map_with caps s) d v))
    (none : (c f : ℕ) → c < caps.cells → f < most_facets → is_half (map_with caps s) (8 * c + f) ≡ false → sib_word s (8 * c + f) ≡ 0) where
  sib_same : (c f : ℕ) → c < caps.cells → f < most_facets → sib_word s (8 * c + f) ≡ sib_word (state_of (map_with caps s)) (8 * c + f)
  unfolding state_of way_number
  sib_same c f h less = go (is_half (map_with caps s) (8 * c + f)) refl
    where
      go : (b : Bool) → is_half (map_with caps s) (8 * c + f) ≡ b
          → sib_word s (8 * c + f) ≡ 4 * cond b (sibling (map_with caps s) (8 * c + f)) 0 + way_number (cond b (way (map_with caps s) (8 * c + f)) Lone)
      go true e = rw (settled.siblings (8 * c + f) e, settled.ways (8 * c + f) e)
      go false e = none c f h less e

  -- the siblings, first anchors and counts of the map
  there : State
  there = retold s (state_of (map_with caps s)).sib (state_of (map_with caps s)).way (state_of (map_with caps s)).anc (state_of (map_with caps s)).count

  told : Pic w caps there
  unfolding state_of there
  told =
      pic_retold caps s (state_of (map_with caps s)).sib (state_of (map_with caps s)).way (state_of (map_with caps s)).anc (state_of (map_with caps s)).count
      (λ c f h. sib_same c f h.0 h.1) (λ d v h. ancs v d h.0 h.1.0 h.1.1) (λ t h. counts t h.0 h.1) w p

  -- and its chains
  fields : there ≡ state_of (map_with caps s)
  unfolding state_of map_with there
  fields = state_same there (state_of (map_with caps s)) refl (fun_ext (λ v. fun_ext (λ c. settled.ready.chains v c))) refl refl refl refl

  pub settled_wf : Wf w (map_with caps s)
  unfolding map_with
  settled_wf = record { sound = settled.ready.sound; two = two; picture = subst (Pic w caps) fields told }
