-- Mark by mark the first anchors of the dimension are put, until all are right; then the state is settled.
use mathlib.Core.Path.{◌≡◌, refl, sym, ap, ap₂, ◌∙◌, subst, fun_ext}
use mathlib.Core.Bool.{Bool, true, false, cond, ◌&&◌, ◌||◌}
use mathlib.Core.List.{List, [], ◌∷◌}
use Prim.Native.Nat.{ℕ, zero, suc, ◌+◌, ◌*◌, ◌<◌, ◌≤◌}
use native.Mathlib.Decide.{ℕ_discrete}
use native.Mathlib.Omega.{arith}
use borrow.Author.Tests.{eq-eqb, ne_eqb, eqb-true}
use lib.Dec.{eqb}
use lib.ListN.{get_or}
use Rattle.lists.specs.Lists.{has, any}
use Rattle.lists.proofs.Alike.{and_false}
use Rattle.numbers.specs.declared.Caps.{Caps}
use Rattle.map.specs.Cells.{Map}
use Rattle.map.specs.Siblings.{is_half}
use Rattle.picture.specs.State.{State, map_with, state_of}
use Rattle.picture.specs.Picture.{Pic, sib_word}
use Rattle.picture.specs.Changes.{with_anc}
use Rattle.picture.specs.Ready.{Ready, Settled}
use Rattle.picture.proofs.Alike.{retold, pic_retold, state_same, same_sib, same_way}
use Rattle.mend.specs.Settle.{among, moved, settled}
use Rattle.mend.specs.Sibs.{Sibs}
use Rattle.mend.specs.Ancs.{Ancs, anchored}
use Rattle.mend.proofs.Sibs.{same_map}

module _ (caps : Caps) (s : State) where
  -- one mark less is left
  pub ancs_more : (s' : State) (d v : ℕ) (marks : List ℕ) → Ancs caps s s' d (v ∷ marks) → Ancs caps s (anchored caps s s' d v) d marks
  unfolding anchored with_anc moved has
  ancs_more s' d v marks p = record {
    at = p.at;
    chain = p.chain;
    sib = p.sib;
    way = p.way;
    count = p.count;
    right = λ e u a b h. go e u a b h (ℕ_discrete d e) (ℕ_discrete v u);
  }
    where
      go : (e u : ℕ) → 1 ≤ e → e ≤ 3 → eqb d e && has u marks ≡ false → Dec (d ≡ e) → Dec (v ≡ u)
          → cond (eqb d e && eqb v u) ((state_of (map_with caps s)).anc d v) (s'.anc e u) ≡ (state_of (map_with caps s)).anc e u
      go e u a b h (yes q) (yes r) = rw (eq-eqb d e q, eq-eqb v u r) (ap₂ (λ (x y : ℕ). (state_of (map_with caps s)).anc x y) q r)
      go e u a b h (yes q) (no f) = rw (eq-eqb d e q, ne_eqb v u f) (p.right e u a b (rw (ne_eqb v u f) h))
      go e u a b h (no f) r = rw (ne_eqb d e f) (p.right e u a b (rw (ne_eqb d e f)))

-- all siblings and all first anchors right: settled
pub settled_pic : (w : List ℕ) (caps : Caps) (s s' s'' : State) (d : ℕ) → Sibs caps s s' [] → Ancs caps s' s'' d [] → Pic w caps s'' → Pic w caps (settled caps s)
unfolding settled has among any moved
settled_pic w caps s s' s'' dim p q pic =
    subst (λ (x : State). Pic w caps x) fields
    (pic_retold caps s'' s''.sib s''.way (state_of (map_with caps s)).anc s''.count (λ c f h. refl) (λ d v h. ancs d v h.1.0 h.1.1) (λ t h. refl) w pic)
  where
    maps : map_with caps s' ≡ map_with caps s
    maps = same_map caps s s' p.at

    ancs : (d v : ℕ) → 1 ≤ d → d ≤ 3 → s''.anc d v ≡ (state_of (map_with caps s)).anc d v
    ancs d v a b = q.right d v a b (and_false (eqb dim d)) ∙ ap (λ (m : Map). (state_of m).anc d v) maps

    sibs : (h : ℕ) → sib_word s' h ≡ sib_word (state_of (map_with caps s)) h
    sibs h = p.right h (and_false (is_half (map_with caps s) h))

    fields : retold s'' s''.sib s''.way (state_of (map_with caps s)).anc s''.count ≡ settled caps s
    fields =
        state_same (retold s'' s''.sib s''.way (state_of (map_with caps s)).anc s''.count) (settled caps s) (q.at ∙ p.at) (q.chain ∙ p.chain)
        (q.sib ∙ fun_ext (λ h. same_sib s' (state_of (map_with caps s)) h (sibs h)))
        (q.way ∙ fun_ext (λ h. same_way s' (state_of (map_with caps s)) h (sibs h))) refl (q.count ∙ p.count)
