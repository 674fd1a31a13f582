-- Mark by mark the first anchors are put; and all is settled.
use mathlib.Core.Path.{◌≡◌, refl, sym, ap, ◌∙◌, subst}
use mathlib.Core.Bool.{Bool, true, false, cond}
use mathlib.Core.List.{List, [], ◌∷◌}
use Prim.Native.Nat.{ℕ, suc, ◌+◌, ◌<◌, ◌≤◌}
use native.Mathlib.Numerals.{add-one}
use native.Mathlib.Omega.{arith}
use lib.ListN.{get_or, length, drop, drop_of_length-le}
use lib.Seq.{drop-cons}
use Rattle.lists.specs.Lists.{any, has}
use Rattle.lists.proofs.Members.{at_has}
use Rattle.lists.proofs.Alike.{and_false}
use Rattle.words.proofs.Frame.{only_none, only_then}
use Rattle.shapes.specs.Shapes.{shape}
use Rattle.numbers.specs.declared.Caps.{Caps}
use Rattle.map.specs.Cells.{Map}
use Rattle.map.specs.declared.Way.{Way}
use Rattle.map.specs.Siblings.{is_half, sibling}
use Rattle.map.specs.Ways.{way}
use Rattle.map.specs.Stars.{anchors}
use Rattle.picture.specs.State.{State, next, map_with, state_of}
use Rattle.picture.specs.Picture.{Pic}
use Rattle.picture.specs.Changes.{with_anc}
use Rattle.picture.specs.Step.{Step}
use Rattle.picture.specs.Ready.{Ready, Settled}
use Rattle.picture.proofs.Alike.{same_sib, same_way}
use Rattle.star.specs.Listed.{Reads}
use Rattle.group.specs.Group.{Around}
use Rattle.mend.specs.Settle.{among, MaySettle, settled}
use Rattle.mend.specs.Sibs.{Sibs}
use Rattle.mend.specs.Mended.{Mends}
use Rattle.mend.specs.Ancs.{Ancs, anchored, MayPut, MayAnchor, Anchors}
use Rattle.mend.proofs.Sibs.{same_map}
use Rattle.mend.proofs.Ancs.{ancs_more, settled_pic}
use Rattle.mend.proofs.Mending.{ready_same}

none_left : (m : Map) (h : ℕ) → among m [] h ≡ false
unfolding among any
none_left m h = and_false (is_half m h)

live_sib : (m : Map) (h : ℕ) → is_half m h ≡ true → (state_of m).sib h ≡ sibling m h
unfolding state_of
live_sib m h e = rw e

live_way : (m : Map) (h : ℕ) → is_half m h ≡ true → (state_of m).way h ≡ way m h
unfolding state_of
live_way m h e = rw e

-- a word read and put
pub anchor_step : (caps : Caps) (rows : List (List (List ℕ))) (d v x : ℕ) (w w' : List ℕ)
    → Reads w caps (Around caps rows v) (λ m. next (anchors m d v)) x
    → Step caps w w' (λ s. (v < caps.marks) × (1 ≤ d) × (d ≤ 3)) (λ s. with_anc s d v x)
    → Step caps w w' (MayPut caps rows d v) (λ s. anchored caps s s d v)
unfolding anchored state_of
anchor_step caps rows d v x w w' p a = record {
  inside = a.inside;
  state = λ s pic k. rw (← p.reads s pic k.around) (a.state s pic (k.around.mark, k.dimension.0, k.dimension.1));
}

-- a state with the same cells, chains and siblings is settled too
settled_same : (caps : Caps) (s s' : State) → s'.at ≡ s.at → s'.chain ≡ s.chain → s'.sib ≡ s.sib → s'.way ≡ s.way → Settled caps s
    → Settled caps s'
settled_same caps s s' a b c y k = record {
  ready = ready_same caps s s' a b k.ready;
  siblings = λ h e.
      ap (λ (f : ℕ → ℕ). f h) c
      ∙ (k.siblings h (ap (λ (m : Map). is_half m h) (sym (same_map caps s s' a)) ∙ e) ∙ ap (λ (m : Map). sibling m h) (sym (same_map caps s s' a)));
  ways = λ h e.
      ap (λ (f : ℕ → Way). f h) y
      ∙ (k.ways h (ap (λ (m : Map). is_half m h) (sym (same_map caps s s' a)) ∙ e) ∙ ap (λ (m : Map). way m h) (sym (same_map caps s s' a)));
}

-- all siblings mended: settled
sibs_settled : (caps : Caps) (s s' : State) → Ready caps s → Sibs caps s s' [] → Settled caps s'
sibs_settled caps s s' r x = record {
  ready = ready_same caps s s' x.at x.chain r;
  siblings = λ h e.
      let maps = same_map caps s s' x.at in
      let half : is_half (map_with caps s) h ≡ true = ap (λ (m : Map). is_half m h) (sym maps) ∙ e in
      same_sib s' (state_of (map_with caps s)) h (x.right h (none_left (map_with caps s) h))
      ∙ (live_sib (map_with caps s) h half ∙ ap (λ (m : Map). sibling m h) (sym maps));
  ways = λ h e.
      let maps = same_map caps s s' x.at in
      let half : is_half (map_with caps s) h ≡ true = ap (λ (m : Map). is_half m h) (sym maps) ∙ e in
      same_way s' (state_of (map_with caps s)) h (x.right h (none_left (map_with caps s) h))
      ∙ (live_way (map_with caps s) h half ∙ ap (λ (m : Map). way m h) (sym maps));
}

module _ (caps : Caps) (rows : List (List (List ℕ))) (d : ℕ) (marks w : List ℕ) where
  pub anchors_start : Anchors caps rows d marks w w (drop 0 marks)
  anchors_start = record {
    inside = only_none;
    state = λ s p k. (s, p, record { at = refl; chain = refl; sib = refl; way = refl; count = refl; right = λ e v a b h. k.ancs e v a h });
  }

  pub anchors_more : (w' w'' : List ℕ) (i v : ℕ) → v ≡ get_or marks i 0 → Anchors caps rows d marks w w' (drop i marks) → i < length marks
      → Step caps w' w'' (MayPut caps rows d v) (λ s. anchored caps s s d v) → Anchors caps rows d marks w w'' (drop (i + 1) marks)
  unfolding anchored
  anchors_more w' w'' i v e p h q = record {
    inside = only_then p.inside q.inside;
    state = λ s pic k.
        let r = p.state s pic k in
        let left : drop i marks ≡ v ∷ drop (i + 1) marks = rw (add-one i, e) (drop-cons marks i 0 h) in
        let same : anchored caps r.0 r.0 d v ≡ anchored caps s r.0 d v = by_map s r.0 r.2.at in (
          anchored caps s r.0 d v,
          subst (λ (x : State). Pic w'' caps x) same (q.state r.0 r.1 (may_put s r.0 k r.2)),
          ancs_more caps s r.0 d v (drop (i + 1) marks) (rw left at r.2),
        );
  }
    where
      by_map : (s s' : State) → s'.at ≡ s.at → anchored caps s' s' d v ≡ anchored caps s s' d v
      by_map s s' a = ap (λ (m : Map). with_anc s' d v ((state_of m).anc d v)) (same_map caps s s' a)

      may_put : (s s' : State) {left : List ℕ} → MayAnchor caps rows d marks s → Ancs caps s s' d left → MayPut caps rows d v s'
      may_put s s' k x = record {
        around = record {
          settled = settled_same caps s s' x.at x.chain x.sib x.way k.settled;
          types = k.types;
          mark = k.inside v (rw e (at_has marks i h));
        };
        dimension = k.dimension;
      }

  pub anchors_done : (w' : List ℕ) (i : ℕ) → Anchors caps rows d marks w w' (drop i marks) → length marks ≤ i → Anchors caps rows d marks w w' []
  anchors_done w' i p h = rw (drop_of_length-le marks {i = i} h) at p

-- siblings and first anchors: settled
pub settle_step : (caps : Caps) (rows : List (List (List ℕ))) (t d : ℕ) (marks w w' w'' : List ℕ) → d ≡ (shape t).dimension
    → Mends caps rows t marks w w' [] → Anchors caps rows d marks w' w'' [] → Step caps w w'' (MaySettle caps rows t marks) (settled caps)
settle_step caps rows t d marks w w' w'' e p q = record {
  inside = only_then p.inside q.inside;
  state = λ s pic k.
      let r = p.state s pic k in
      let o = q.state r.0 r.1 (may s r.0 k r.2) in
      settled_pic w'' caps s r.0 o.0 d r.2 o.2 o.1;
}
  where
    may : (s s' : State) → MaySettle caps rows t marks s → Sibs caps s s' [] → MayAnchor caps rows d marks s'
    may s s' k x = record {
      settled = sibs_settled caps s s' k.ready x;
      types = k.types;
      dimension = rw e k.typed;
      inside = k.inside;
      ancs = λ u v a h.
          ap (λ (f : ℕ → ℕ → ℕ). f u v) x.anc
          ∙ (k.ancs u v a (rw (← e) h) ∙ ap (λ (m : Map). (state_of m).anc u v) (sym (same_map caps s s' x.at)));
    }
