-- No link of a mesh leads beyond the capacity.
use mathlib.Core.Path.{◌≡◌, refl, ◌∙◌}
use mathlib.Core.Bool.{Bool, true, false, cond, ◌&&◌}
use mathlib.Core.List.{List}
use Prim.Native.Nat.{ℕ, zero, suc, ◌*◌, ◌/◌, ◌%◌, ◌<◌, ◌≤◌}
use native.Mathlib.Omega.{arith}
use lib.Dec.{ltb}
use lib.ListN.{length}
use Rattle.lists.specs.Lists.{place}
use Rattle.numbers.specs.declared.Caps.{Caps}
use Rattle.shapes.specs.Sizes.{most_marks}
use Rattle.store.specs.Fields.{First, Link}
use Rattle.store.specs.Slots.{InMark, InCell, read}
use Rattle.map.specs.Cells.{Map}
use Rattle.picture.specs.State.{State, state_of}
use Rattle.picture.specs.Picture.{Wf, chain_of, ahead, link_to, link, corner, link_word, cell_word, word_of}
use Rattle.picture.proofs.Settles.{wf_pic, wf_settled}
use Rattle.chain.specs.Chain.{Linked, Inner, Inside}
use Rattle.chain.proofs.Nexts.{from_first}
use Rattle.chain.proofs.Places.{corner_there, head_word_lem}
use Rattle.chain.proofs.Readied.{ready_linked}

module _ (caps : Caps) (s : State) (l : Linked caps s) where
  link_low : (v lo : ℕ) → link caps s v lo ≤ 8 * caps.cells
  unfolding link ahead chain_of link_to
  link_low v lo = go (ahead caps s v lo) refl
    where
      go : (n : ℕ) → ahead caps s v lo ≡ n → link_to s.at v n ≤ 8 * caps.cells
      go zero e = omega arith
      go (suc c) e =
          let f = from_first (s.chain v) caps.cells lo c e in
          let small : place v (s.at c).marks < most_marks = omega (arith, (corner_there caps s l v c f.here).0, l.corners c) in
          omega (arith, f.high, small)

  word_low : (c k : ℕ) → link_word caps s c k ≤ 8 * caps.cells
  unfolding link_word
  word_low c k = go (ltb k (length (s.at c).marks) && s.chain (corner s c k) c)
    where
      go : (b : Bool) → cond b (link caps s (corner s c k) (suc c)) 0 ≤ 8 * caps.cells
      go true = link_low (corner s c k) (suc c)
      go false = omega arith

module _ (w : List ℕ) (caps : Caps) where
  pub inner_none : Inner w caps 0
  inner_none s p l = omega arith

  pub inner_first : (v x : ℕ) → v < caps.marks → x ≡ read w caps (InMark v First) → Inner w caps x
  inner_first v x h e s p l = rw (e ∙ head_word_lem w caps s p v h) (link_low caps s l v 0)

  pub inner_behind : (y i x : ℕ) → y ≡ suc i → x ≡ read w caps (InCell (i / 8) (Link (i % 8))) → Inner w caps y → Inner w caps x
  unfolding word_of cell_word
  inner_behind y i x f e inner s p l =
      let low : i / 8 < caps.cells = omega (arith, inner s p l) in
      rw (e ∙ p.words (InCell (i / 8) (Link (i % 8))) (low, omega arith)) (word_low caps s l (i / 8) (i % 8))

-- on well-formed memory no chain leads out
pub wf_inside : (w : List ℕ) (caps : Caps) (r : Bool) → Inside w caps r → (m : Map) → m.caps ≡ caps → Wf w m → r ≡ false
wf_inside w caps r i m e wf = i.inside (state_of m) (wf_pic w caps m e wf) (ready_linked caps (state_of m) (wf_settled w caps m e wf).ready)
