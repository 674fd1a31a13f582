-- The three writes that put a cell into a chain or take it out: on any memory they stay in the room, and on a picture they leave the
-- picture of the changed state.
use mathlib.Core.Path.{◌≡◌, refl, sym, ap, ap₂, ◌∙◌}
use mathlib.Core.Bool.{Bool, true, false, cond, ◌&&◌}
use mathlib.Core.List.{List}
use Prim.Native.Nat.{ℕ, zero, suc, ◌+◌, ◌*◌, ◌-◌, ◌/◌, ◌%◌, ◌<◌, ◌≤◌}
use native.Mathlib.Omega.{arith}
use borrow.Author.Tests.{lt-ltb}
use lib.Dec.{ltb}
use lib.ListN.{set, length}
use Rattle.lists.specs.Lists.{place}
use Rattle.words.specs.Words.{Only}
use Rattle.words.proofs.Frame.{only_none, only_then}
use Rattle.numbers.specs.declared.Caps.{Caps}
use Rattle.numbers.specs.Half.{cut, half_of}
use Rattle.store.specs.Layout.{room}
use Rattle.store.specs.Fields.{First, Held, Link}
use Rattle.store.specs.Slots.{Slot, InMark, InCell, address, mark_open, cell_open, read, written}
use Rattle.store.proofs.Writes.{mark_inside, cell_inside, write_only}
use Rattle.picture.specs.State.{State}
use Rattle.picture.specs.Picture.{Pic, chain_of, ahead, link_to, link, link_word, corner, mark_word, cell_word, word_of}
use Rattle.picture.specs.Changes.{with_link}
use Rattle.picture.specs.Step.{Step}
use Rattle.picture.proofs.Shows.{shows_start, shows_put, shows_all}
use Rattle.chain.specs.declared.Spot.{Spot}
use Rattle.chain.specs.Chain.{Linked, MayLink}
use Rattle.chain.specs.Walk.{set_lead, last_below, Found}
use Rattle.chain.proofs.Nexts.{None, none_then, first_from_lem, from_later, last_low, last_gap}
use Rattle.chain.proofs.Places.{set_first, set_behind, corner_is, link_says, link_here, count_word, link_at}
use Rattle.chain.proofs.Links.{with_here, with_cell, chain_more, chain_less, linked_link}
use Rattle.chain.proofs.Differ.{Lead, head, behind, link_kept, lead_within, lead_word, lead_before, lead_with, frame}
use Rattle.shapes.specs.Sizes.{most_marks}

-- the word that leads on stays in the room, whatever the numbers
only_lead : (w : List ℕ) (caps : Caps) (before v x : ℕ) → Only (λ i. i < room caps.marks caps.cells) w (set_lead w caps before v x)
only_lead w caps zero v x = rw (set_first w caps 0 v x refl) (write_only w caps x (InMark v First))
only_lead w caps (suc i) v x = rw (set_behind w caps (suc i) v x i refl) (write_only w caps x (InCell (i / 8) (Link (i % 8))))

-- the word that leads on, the cell's own link, the count
abbrev pub relinked : List ℕ → Caps → ℕ → ℕ → ℕ → ℕ → ℕ → ℕ → ℕ → List ℕ
relinked w caps v k c before x y n = written (written (set_lead w caps before v x) caps (InCell c (Link k)) y) caps (InMark v Held) n

pub relinked_inside : (w : List ℕ) (caps : Caps) (v k c before x y n : ℕ)
    → Only (λ i. i < room caps.marks caps.cells) w (relinked w caps v k c before x y n)
relinked_inside w caps v k c before x y n =
    only_then (only_lead w caps before v x)
    (only_then (write_only (set_lead w caps before v x) caps y (InCell c (Link k)))
    (write_only (written (set_lead w caps before v x) caps (InCell c (Link k)) y) caps n (InMark v Held)))

-- the word that leads on is written at its slot
lead_set : (w : List ℕ) (caps : Caps) (s : State) → Linked caps s → (v : ℕ) → v < caps.marks → (lo : ℕ) (x : Slot) (y : ℕ)
    → Lead caps s v lo x → set_lead w caps (link_to s.at v lo) v y ≡ set w (address caps.marks caps.cells x) y
unfolding link_to mark_open cell_open
lead_set w caps s l v m lo x y (head e z) =
    rw (z, e) (set_first w caps 0 v y refl ∙ mark_inside w caps y v First m refl)
lead_set w caps s l v m lo x y (behind d j e h t k q z) =
    let i = 8 * d + place v (s.at d).marks in
    let says = link_says caps s l v d i t refl in
    let at : place v (s.at d).marks ≡ j = corner_is caps s l v d j k q in
    rw (z, e)
    (set_behind w caps (suc i) v y i refl
    ∙ (ap₂ (λ (a b : ℕ). written w caps (InCell a (Link b)) y) says.0 (says.1 ∙ at)
    ∙ cell_inside w caps y d (Link j) h (lt-ltb j most_marks (omega (arith, l.corners d)))))

module _
    (w : List ℕ) (caps : Caps) (s : State) (p : Pic w caps s) (l : Linked caps s) (v k c : ℕ) (on : Bool) (m : v < caps.marks)
    (h : c < caps.cells) (hk : k < length (s.at c).marks) (e : corner s c k ≡ v)
  where
    relinked_pic : (x y n : ℕ) → Linked caps (with_link s v c on) → link caps (with_link s v c on) v (last_below (s.chain v) c) ≡ x
        → link_word caps (with_link s v c on) c k ≡ y → length (chain_of caps (with_link s v c on) v) ≡ n
        → Pic (relinked w caps v k c (link_to s.at v (last_below (s.chain v) c)) x y n) caps (with_link s v c on)
    unfolding word_of mark_word cell_word mark_open cell_open
    relinked_pic x y n l' ex ey en = let r = lead_before caps s l v m c (omega arith) in go r.0 r.1
      where
        small : k < most_marks
        small = omega (arith, l.corners c)

        go : (a : Slot) → Lead caps s v (last_below (s.chain v) c) a
            → Pic (relinked w caps v k c (link_to s.at v (last_below (s.chain v) c)) x y n) caps (with_link s v c on)
        go a r =
            let leads : word_of caps (with_link s v c on) a ≡ x =
            lead_word caps (with_link s v c on) l' v m _ a (lead_with caps s l v m c on _ a (last_low (s.chain v) c) r) ∙ ex in
            rw (
              lead_set w caps s l v m (last_below (s.chain v) c) a x r,
              cell_inside (set w (address caps.marks caps.cells a) x) caps y c (Link k) h (lt-ltb k most_marks small),
              mark_inside (set (set w (address caps.marks caps.cells a) x) (address caps.marks caps.cells (InCell c (Link k))) y) caps n v Held m refl,
            )
            (shows_all
            (shows_put (InMark v Held) n (m, omega arith) en
            (shows_put (InCell c (Link k)) y (h, small) ey
            (shows_put a x (lead_within caps s l v m _ a r) leads
            (shows_start {Q = λ z. (z ≡ a → ⊥) × (z ≡ InCell c (Link k) → ⊥) × (z ≡ InMark v Held → ⊥)} p
            (λ z i q. frame caps s l v k c on m h hk e a r z i q.0 q.1 q.2)))))
            (λ z i f g n. (n, g, f)))

-- over a cell that is not in the chain the link leads on
link_skip : (caps : Caps) (s : State) (v c lo : ℕ) → lo ≤ c → s.chain v c ≡ false → None (s.chain v) lo c → link caps s v lo ≡ link caps s v (suc c)
unfolding link ahead chain_of
link_skip caps s v c lo h f n =
    ap (link_to s.at v)
    (from_later (s.chain v) caps.cells lo (suc c) (omega arith)
    (none_then (s.chain v) lo c (suc c) n (λ k a b. let z : k ≡ c = omega arith in rw z f)))

-- the link from the spot before c on, and c's own, with c in the chain and without it
module _ (caps : Caps) (s : State) (v c : ℕ) where
  gap : (on : Bool) → None ((with_link s v c on).chain v) (last_below (s.chain v) c) c
  gap on k a b = with_cell s v c on v k (λ e. omega arith) ∙ last_gap (s.chain v) c k a b

  behind_same : (on : Bool) → link caps (with_link s v c on) v (suc c) ≡ link caps s v (suc c)
  behind_same on = link_kept caps s v c on (suc c) (λ i n. omega arith)

  lead_in : c < caps.cells → link caps (with_link s v c true) v (last_below (s.chain v) c) ≡ link_to s.at v (suc c)
  unfolding link ahead chain_of with_link
  lead_in h =
      ap (link_to s.at v)
      (first_from_lem ((with_link s v c true).chain v) caps.cells (last_below (s.chain v) c) c
      (record { low = last_low (s.chain v) c; high = h; here = with_here s v c true; gap = gap true }))

  lead_out : link caps (with_link s v c false) v (last_below (s.chain v) c) ≡ link caps s v (suc c)
  lead_out =
      link_skip caps (with_link s v c false) v c (last_below (s.chain v) c) (last_low (s.chain v) c) (with_here s v c false) (gap false)
      ∙ behind_same false

  own_in : (k : ℕ) → k < length (s.at c).marks → corner s c k ≡ v → s.chain v c ≡ false → link_word caps (with_link s v c true) c k ≡ link caps s v c
  unfolding with_link corner
  own_in k h e f =
      link_here caps (with_link s v c true) v c k h e (with_here s v c true)
      ∙ (behind_same true ∙ sym (link_skip caps s v c c (omega arith) f (λ j a b. absurd (omega arith))))

  own_out : (k : ℕ) → corner s c k ≡ v → link_word caps (with_link s v c false) c k ≡ 0
  unfolding link_word with_link corner
  own_out k e = rw (e, with_here s v c false) (go (ltb k (length (s.at c).marks)))
    where
      go : (b : Bool) → cond (b && false) (link caps (with_link s v c false) v (suc c)) 0 ≡ 0
      go true = refl
      go false = refl

-- where no state allows the step, nothing has to be done
pub step_never : (caps : Caps) (w : List ℕ) (ok : State → Type 0) (f : State → State) → ((s : State) → Pic w caps s → ok s → ⊥) → Step caps w w ok f
step_never caps w ok f g = record { inside = only_none; state = λ s p m. absurd (g s p m) }

-- the three writes of the code, one after the other
module _ (w w₁ w₂ w₃ : List ℕ) (caps : Caps) (v k c n : ℕ) (r : Spot) (f : Found w caps v c r) (en : n ≡ read w caps (InMark v Held)) where
  -- c goes in: what led past it leads to it, and its own link is what led past it
  pub splice_step : (h : ℕ) → h ≡ half_of (cut c) (k % 8) → w₁ ≡ set_lead w caps r.before v (h + 1) → w₂ ≡ written w₁ caps (InCell c (Link k)) r.after
      → w₃ ≡ written w₂ caps (InMark v Held) (n + 1) → Step caps w w₃ (MayLink caps v k c true) (λ s. with_link s v c true)
  unfolding half_of link_to
  splice_step h eh e₁ e₂ e₃ = rw (e₃, e₂, e₁) (record {
    inside = relinked_inside w caps v k c r.before (h + 1) r.after (n + 1);
    state = λ s p m.
        let spot = f.spot s p m.linked m.mark (omega (arith, m.cell)) in
        let here : place v (s.at c).marks ≡ k = corner_is caps s m.linked v c k m.place m.corner in
        rw spot.0
        (relinked_pic w caps s p m.linked v k c true m.mark m.cell m.place m.corner (h + 1) r.after (n + 1)
        (linked_link caps v k c s true m)
        (lead_in caps s v c m.cell ∙ omega (arith, here, eh, m.place, m.linked.corners c, m.cell, p.cells))
        (own_in caps s v c k m.place m.corner m.was ∙ sym spot.1)
        (omega (arith, chain_more caps s v c m.cell m.was, count_word w caps s p v m.mark)));
  })

  -- c goes out: what led to it leads past it, and its own link is 0
  pub unsplice_step : (x : ℕ) → x ≡ read w caps (InCell c (Link k)) → w₁ ≡ set_lead w caps r.before v x → w₂ ≡ written w₁ caps (InCell c (Link k)) 0
      → w₃ ≡ written w₂ caps (InMark v Held) (n - 1) → Step caps w w₃ (MayLink caps v k c false) (λ s. with_link s v c false)
  unsplice_step x ex e₁ e₂ e₃ = rw (e₃, e₂, e₁) (record {
    inside = relinked_inside w caps v k c r.before x 0 (n - 1);
    state = λ s p m.
        let spot = f.spot s p m.linked m.mark (omega (arith, m.cell)) in
        rw spot.0
        (relinked_pic w caps s p m.linked v k c false m.mark m.cell m.place m.corner x 0 (n - 1)
        (linked_link caps v k c s false m)
        (lead_out caps s v c ∙ sym (ex ∙ link_at w caps s p m.linked v c k m.cell m.was m.place m.corner))
        (own_out caps s v c k m.corner)
        (omega (arith, chain_less caps s v c m.cell m.was, count_word w caps s p v m.mark)));
  })
