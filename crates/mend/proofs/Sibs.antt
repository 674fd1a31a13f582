-- Set by set the siblings are mended, until all are right.
use mathlib.Core.Path.{◌≡◌, refl, sym, ap, ◌∙◌}
use mathlib.Core.Bool.{Bool, true, false, cond, ◌&&◌, ◌||◌}
use mathlib.Core.List.{List, [], ◌∷◌}
use mathlib.Core.Logic.{⊎_elim}
use Prim.Native.Nat.{ℕ, ◌+◌, ◌*◌, ◌<◌}
use lib.ListN.{length}
use Rattle.lists.specs.Lists.{has, any, same_set, after}
use Rattle.lists.proofs.Bools.{clash, either, not_true_false, and_left, and_right, and_both, or_left, or_right}
use Rattle.lists.proofs.Sets.{same_sym}
use Rattle.numbers.specs.declared.Caps.{Caps}
use Rattle.map.specs.Cells.{Map}
use Rattle.map.specs.Siblings.{is_half, Half, marks_of, sharers, siblings, sibling}
use Rattle.map.specs.Ways.{way_number, way}
use Rattle.map.specs.Sound.{Sound}
use Rattle.laws.proofs.Sharers.{sharers_has, has_sharers, sharers_same}
use Rattle.laws.proofs.Halves.{half_live}
use Rattle.picture.specs.State.{State, map_with, state_of}
use Rattle.picture.specs.Picture.{sib_word}
use Rattle.sibling.specs.Shared.{mended}
use Rattle.mend.specs.Settle.{among, MaySettle}
use Rattle.mend.specs.Sibs.{Sibs}

module _ (caps : Caps) (s : State) where
  pub same_map : (s' : State) → s'.at ≡ s.at → map_with caps s' ≡ map_with caps s
  unfolding map_with
  same_map s' e = ap (λ (at : ℕ → _). record { caps = caps; at = at }) e

  -- the next in a set is the sibling, and the way is the sibling's
  after_right : (set : List ℕ) (h : ℕ) → has h (sharers (map_with caps s) set) ≡ true
      → 4 * after h (sharers (map_with caps s) set) + way_number (way (map_with caps s) h) ≡ sib_word (state_of (map_with caps s)) h
  unfolding state_of sibling siblings
  after_right set h e =
      let r = sharers_has (map_with caps s) set h e in
      rw r.0.facet
      (ap (λ (l : List ℕ). 4 * after h l + way_number (way (map_with caps s) h)) (sharers_same (map_with caps s) set (marks_of (map_with caps s) h) r.1))

  module _ (sound : Sound (map_with caps s)) where
    -- a half-facet that is not of this set is of none of the sets, if it is of none of the others
    left_out : (set : List ℕ) (sets : List (List ℕ)) (h : ℕ) → has h (sharers (map_with caps s) set) ≡ false
        → among (map_with caps s) sets h ≡ false → among (map_with caps s) (set ∷ sets) h ≡ false
    unfolding among any
    left_out set sets h none e = go (is_half m h) refl
      where
        m : Map
        m = map_with caps s

        other : is_half m h ≡ true → same_set (marks_of m h) set ≡ false
        other half =
            not_true_false (same_set (marks_of m h) set)
            (λ q. clash (has_sharers m set h (half_live m sound h half) (same_sym (marks_of m h) set q)) none)

        go : (b : Bool) → is_half m h ≡ b → b && (same_set (marks_of m h) set || any (same_set (marks_of m h)) sets) ≡ false
        go true half = rw (other half) (rw half at e)
        go false half = refl

    pub sibs_mend : (s' : State) (set : List ℕ) (sets : List (List ℕ)) → Sibs caps s s' (set ∷ sets) → Sibs caps s (mended caps set s') sets
    unfolding mended
    sibs_mend s' set sets p = record {
      at = p.at;
      chain = p.chain;
      anc = p.anc;
      count = p.count;
      right = λ h e. rw (same_map s' p.at) (go h e (has h (sharers (map_with caps s) set)) refl);
    }
      where
        go : (h : ℕ) → among (map_with caps s) sets h ≡ false → (b : Bool) → has h (sharers (map_with caps s) set) ≡ b
            → 4 * cond b (after h (sharers (map_with caps s) set)) (s'.sib h) + way_number (cond b (way (map_with caps s) h) (s'.way h))
            ≡ sib_word (state_of (map_with caps s)) h
        go h e true q = after_right set h q
        go h e false q = p.right h (left_out set sets h q e)
