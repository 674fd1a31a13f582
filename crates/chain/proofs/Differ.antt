-- Which words differ between a state and the one with a cell in the chain of a mark, or out of it: the count of the mark, the cell's own
-- link at that corner, and the word that leads to the cell, or past it. No other.
use mathlib.Core.Path.{◌≡◌, refl, sym, ap, ap₂, ◌∙◌}
use mathlib.Core.Bool.{Bool, true, false, cond, ◌&&◌}
use mathlib.Core.List.{List}
use Prim.Native.Nat.{ℕ, zero, suc, ◌<◌, ◌≤◌}
use native.Mathlib.Decide.{ℕ_discrete}
use native.Mathlib.Omega.{arith}
use borrow.Author.Tests.{ltb-true}
use lib.Dec.{leb, ltb}
use lib.ListN.{length}
use Rattle.lists.specs.Lists.{keep}
use Rattle.lists.proofs.Members.{has_at}
use Rattle.numbers.specs.declared.Caps.{Caps}
use Rattle.store.specs.Fields.{First, Held, Anchor, MarkRest, Code, Licence, Near, Sib, Link, Far, CellRest}
use Rattle.store.specs.Slots.{Slot, InHead, InMark, InCell, Within}
use Rattle.picture.specs.State.{State, next}
use Rattle.picture.specs.Picture.{chain_of, ahead, link_to, link, corner, link_word, mark_word, cell_word, word_of}
use Rattle.picture.specs.Changes.{with_link}
use Rattle.chain.specs.Chain.{Linked}
use Rattle.chain.specs.Walk.{last_below}
use Rattle.chain.proofs.Nexts.{None, from_same, last_low, last_here, last_is}
use Rattle.chain.proofs.Places.{link_here, corner_once}
use Rattle.chain.proofs.Links.{with_mark, with_cell, chain_with}

module _ (caps : Caps) (s : State) (v c : ℕ) (on : Bool) where
  -- of another mark's chain nothing differs
  link_other : (u lo : ℕ) → (u ≡ v → ⊥) → link caps (with_link s v c on) u lo ≡ link caps s u lo
  unfolding link ahead with_link
  link_other u lo f = ap (λ (l : List ℕ). link_to s.at u (next (keep (leb lo) l))) (chain_with s v c on caps u f)

  -- from a place from which the search does not reach c, the link is as it was
  pub link_kept : (lo : ℕ) → (lo ≤ c → None (s.chain v) lo c → ⊥) → link caps (with_link s v c on) v lo ≡ link caps s v lo
  unfolding link ahead chain_of with_link
  link_kept lo f =
      ap (link_to s.at v)
      (from_same (s.chain v) ((with_link s v c on).chain v) caps.cells lo
      (λ k a n. with_cell s v c on v k (λ e. f (rw e at a) (rw e at n))))

-- the slot of the word that leads on from lo in the chain of v: the head, or the link behind the cell lo - 1
pub data Lead (caps : Caps) (s : State) (v lo : ℕ) (x : Slot) : Type 0 where
  head : lo ≡ 0 → x ≡ InMark v First → Lead caps s v lo x
  behind : (d j : ℕ) → lo ≡ suc d → d < caps.cells → s.chain v d ≡ true → j < length (s.at d).marks → corner s d j ≡ v → x ≡ InCell d (Link j)
      → Lead caps s v lo x

module _ (caps : Caps) (s : State) (l : Linked caps s) (v : ℕ) (m : v < caps.marks) where
  -- it is a word of the room, and is the link
  pub lead_within : (lo : ℕ) (x : Slot) → Lead caps s v lo x → Within caps.marks caps.cells x
  lead_within lo x (head e z) = rw z (m, omega arith)
  lead_within lo x (behind d j e h t k q z) = rw z (h, omega (arith, l.corners d))

  pub lead_word : (lo : ℕ) (x : Slot) → Lead caps s v lo x → word_of caps s x ≡ link caps s v lo
  unfolding word_of mark_word cell_word
  lead_word lo x (head e z) = rw (z, e)
  lead_word lo x (behind d j e h t k q z) = rw (z, e) (link_here caps s v d j k q t)

  -- each has one slot
  lead_one : (lo : ℕ) (x y : Slot) → Lead caps s v lo x → Lead caps s v lo y → x ≡ y
  lead_one lo x y (head e z) (head e' z') = z ∙ sym z'
  lead_one lo x y (head e z) (behind d j e' h t k q z') = absurd (omega arith)
  lead_one lo x y (behind d j e h t k q z) (head e' z') = absurd (omega arith)
  lead_one lo x y (behind d j e h t k q z) (behind d' j' e' h' t' k' q' z') =
      let dd : d' ≡ d = omega arith in
      let jj : j' ≡ j = corner_once caps s l v d j' j (rw dd at k') k (rw dd at q') q in
      z ∙ (rw (← dd, ← jj) (sym z'))

  -- and stands behind the last cell so far
  lead_last : (lo : ℕ) (x : Slot) → Lead caps s v lo x → last_below (s.chain v) lo ≡ lo
  unfolding last_below
  lead_last lo x (head e z) = rw e
  lead_last lo x (behind d j e h t k q z) = rw (e, t)

  -- there is one behind the last cell below c
  pub lead_before : (c : ℕ) → c ≤ caps.cells → (x : Slot) × Lead caps s v (last_below (s.chain v) c) x
  unfolding corner
  lead_before c h = go (last_below (s.chain v) c) refl (last_low (s.chain v) c)
    where
      go : (b : ℕ) → last_below (s.chain v) c ≡ b → b ≤ c → (x : Slot) × Lead caps s v b x
      go zero e b = (InMark v First, head refl refl)
      go (suc d) e b =
          let t : s.chain v d ≡ true = last_here (s.chain v) c d e in
          let r = has_at v (s.at d).marks (l.held v d t) in
          (InCell d (Link r.0), behind d r.0 refl (omega arith) t r.1 r.2 refl)

  -- a cell more or less in the chain, further on, leaves it where it is
  pub lead_with : (c : ℕ) (on : Bool) (lo : ℕ) (x : Slot) → lo ≤ c → Lead caps s v lo x → Lead caps (with_link s v c on) v lo x
  unfolding with_link corner
  lead_with c on lo x h (head e z) = head e z
  lead_with c on lo x h (behind d j e i t k q z) = behind d j e i (with_cell s v c on v d (λ r. omega arith) ∙ t) k q z

module _ (caps : Caps) (s : State) (v c : ℕ) (on : Bool) where
  -- a link word, by the two facts that it takes
  link_word_same : (d j : ℕ) → (j < length (s.at d).marks → (with_link s v c on).chain (corner s d j) d ≡ s.chain (corner s d j) d)
      → (j < length (s.at d).marks → s.chain (corner s d j) d ≡ true → link caps (with_link s v c on) (corner s d j) (suc d) ≡ link caps s (corner s d j) (suc d))
      → link_word caps (with_link s v c on) d j ≡ link_word caps s d j
  unfolding link_word with_link corner
  link_word_same d j f g = go (ltb j (length (s.at d).marks)) refl
    where
      on' : (t : Bool) → s.chain (corner s d j) d ≡ t → j < length (s.at d).marks
          → cond t (link caps (with_link s v c on) (corner s d j) (suc d)) 0 ≡ cond t (link caps s (corner s d j) (suc d)) 0
      on' true e h = g h e
      on' false e h = refl

      go : (b : Bool) → ltb j (length (s.at d).marks) ≡ b
          → cond (b && (with_link s v c on).chain (corner s d j) d) (link caps (with_link s v c on) (corner s d j) (suc d)) 0
          ≡ cond (b && s.chain (corner s d j) d) (link caps s (corner s d j) (suc d)) 0
      go true e = let h : j < length (s.at d).marks = ltb-true j (length (s.at d).marks) e in rw (f h) (on' (s.chain (corner s d j) d) refl h)
      go false e = refl

module _
    (caps : Caps) (s : State) (l : Linked caps s) (v k c : ℕ) (on : Bool) (m : v < caps.marks) (h : c < caps.cells)
    (hk : k < length (s.at c).marks) (e : corner s c k ≡ v) (x : Slot) (a : Lead caps s v (last_below (s.chain v) c) x)
  where
    -- no other slot leads to c or past it
    lead_kept : (lo : ℕ) (z : Slot) → Lead caps s v lo z → (z ≡ x → ⊥) → link caps (with_link s v c on) v lo ≡ link caps s v lo
    lead_kept lo z b f =
        link_kept caps s v c on lo
        (λ i n.
        let q : last_below (s.chain v) c ≡ lo = last_is (s.chain v) lo c i n ∙ lead_last caps s l v m lo z b in
        f (lead_one caps s l v m lo z x b (rw q at a)))

    -- so no other word differs
    pub frame : (z : Slot) → Within caps.marks caps.cells z → (z ≡ x → ⊥) → (z ≡ InCell c (Link k) → ⊥) → (z ≡ InMark v Held → ⊥)
        → word_of caps (with_link s v c on) z ≡ word_of caps s z
    unfolding word_of mark_word cell_word corner with_link
    frame (InHead i) r f g n = refl
    frame (InMark u First) r f g n = go (ℕ_discrete u v)
      where
        go : Dec (u ≡ v) → link caps (with_link s v c on) u 0 ≡ link caps s u 0
        go (no q) = link_other caps s v c on u 0 q
        go (yes q) = rw q (lead_kept 0 (InMark u First) (head refl (ap (λ (i : ℕ). InMark i First) q)) f)
    frame (InMark u Held) r f g n = go (ℕ_discrete u v)
      where
        go : Dec (u ≡ v) → length (chain_of caps (with_link s v c on) u) ≡ length (chain_of caps s u)
        go (no q) = ap length (chain_with s v c on caps u q)
        go (yes q) = absurd (n (ap (λ (i : ℕ). InMark i Held) q))
    frame (InMark u (Anchor d)) r f g n = refl
    frame (InMark u (MarkRest i)) r f g n = refl
    frame (InCell d Code) r f g n = refl
    frame (InCell d Licence) r f g n = refl
    frame (InCell d (Near i)) r f g n = refl
    frame (InCell d (Sib i)) r f g n = refl
    frame (InCell d (Far i)) r f g n = refl
    frame (InCell d (CellRest i)) r f g n = refl
    frame (InCell d (Link j)) r f g n =
        link_word_same caps s v c on d j (same (ℕ_discrete (corner s d j) v) (ℕ_discrete d c)) (kept (ℕ_discrete (corner s d j) v))
      where
        same : Dec (corner s d j ≡ v) → Dec (d ≡ c) → j < length (s.at d).marks → (with_link s v c on).chain (corner s d j) d ≡ s.chain (corner s d j) d
        same (no q) y hj = with_mark s v c on (corner s d j) d q
        same (yes q) (no y) hj = with_cell s v c on (corner s d j) d y
        same (yes q) (yes y) hj =
            let jk : j ≡ k = corner_once caps s l v c j k (rw y at hj) hk (rw y at q) e in
            absurd (g (ap₂ (λ (a b : ℕ). InCell a (Link b)) y jk))

        kept : Dec (corner s d j ≡ v) → j < length (s.at d).marks → s.chain (corner s d j) d ≡ true
            → link caps (with_link s v c on) (corner s d j) (suc d) ≡ link caps s (corner s d j) (suc d)
        kept (no q) hj t = link_other caps s v c on (corner s d j) (suc d) q
        kept (yes q) hj t =
            rw q (lead_kept (suc d) (InCell d (Link j)) (behind d j refl r.0 (rw q at t) hj q refl) f)
