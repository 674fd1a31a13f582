-- The state that memory tells. Memory that is laid out is the picture of it.
use mathlib.Core.Path.{◌≡◌, refl, sym, ap, ◌∙◌}
use mathlib.Core.Bool.{true, false, cond}
use mathlib.Core.List.{List}
use Prim.Native.Nat.{ℕ, suc, ◌+◌, ◌*◌, ◌/◌, ◌%◌, ◌<◌, ◌≤◌}
use native.Mathlib.Decide.{dec_lt}
use native.Mathlib.Omega.{arith}
use borrow.Author.Tests.{lt-ltb, le-ltb}
use lib.Dec.{ltb}
use lib.ListN.{get_or, length}
use Rattle.lists.specs.Lists.{has, repeats}
use Rattle.lists.proofs.Members.{at_has}
use Rattle.numbers.specs.declared.Caps.{Caps}
use Rattle.store.specs.Fields.{Magic, MarkCap, CellCap, Edition, Count, HeadRest, First, Held, Anchor, MarkRest, Code, Licence, Near, Sib, Link, Far, CellRest}
use Rattle.store.specs.Slots.{Slot, InHead, InMark, InCell, address, Within, read, code_in, licence_in, sibling_in, way_in}
use Rattle.store.proofs.Ways.{word_packed}
use Rattle.store.specs.Open.{head_in}
use Rattle.store.proofs.Rests.{head_rest, mark_rest, cell_rest}
use Rattle.map.specs.Cells.{Body, licensed_body, no_cell}
use Rattle.picture.specs.State.{State}
use Rattle.picture.specs.Picture.{chain_of, link, corner, link_word, head_word, mark_word, sib_word, cell_word, word_of, Pic}
use Rattle.chain.proofs.Places.{link_here}
use Rattle.facet.specs.Facet.{marks_in}
use Rattle.record_checks.specs.Laid.{far_mark, meets, laid_in}
use Rattle.record_checks.proofs.Chains.{chain_few, head_right, count_right_lem, behind_right}
pub use Rattle.record_checks.proofs.Records.{Headed, behind_facets}
use Rattle.record_checks.proofs.Records.{head_passes, mark_rests_lem, mark_chain, chain_meets, cell_rests, marks_inside, marks_once, near_word, far_word, behind_links}
use Rattle.numbers.specs.Sizes.{most_around}
use Rattle.shapes.specs.Sizes.{most_facets, most_marks}
use Rattle.store.specs.Layout.{near_marks}

-- the cell that a record gives; none past the capacity
unfoldable pub body_seen : List ℕ → Caps → ℕ → Body
body_seen w caps c = cond (ltb c caps.cells) (licensed_body (code_in w caps c) (licence_in w caps c) (marks_in w caps c)) no_cell

-- the chain of a mark is that of its holders; siblings and their ways, first anchors and live counts are as they are stored
unfoldable pub seen : List ℕ → Caps → State
seen w caps = record {
  at = body_seen w caps;
  chain = λ v c. has v (body_seen w caps c).marks;
  sib = sibling_in w caps;
  way = way_in w caps;
  anc = λ d v. read w caps (InMark v (Anchor d));
  count = λ t. read w caps (InHead (Count t));
}

pub body_here : (w : List ℕ) (caps : Caps) (c : ℕ) → c < caps.cells → body_seen w caps c ≡ licensed_body (code_in w caps c) (licence_in w caps c) (marks_in w caps c)
unfolding body_seen
body_here w caps c h = rw (lt-ltb c caps.cells h)

pub body_past : (w : List ℕ) (caps : Caps) (c : ℕ) → caps.cells ≤ c → body_seen w caps c ≡ no_cell
unfolding body_seen
body_past w caps c h = rw (le-ltb c caps.cells h)

module _ (w : List ℕ) (caps : Caps) (hd : Headed w caps) (laid : laid_in w caps ≡ true) where
  marks_seen : (c : ℕ) → c < caps.cells → ((seen w caps).at c).marks ≡ marks_in w caps c
  unfolding seen
  marks_seen c h = ap (λ (b : Body). b.marks) (body_here w caps c h)

  -- no mark of a cell twice
  pub seen_once : (c : ℕ) → repeats ((seen w caps).at c).marks ≡ false
  unfolding seen no_cell repeats
  seen_once c = go (dec_lt c caps.cells)
    where
      go : Dec (c < caps.cells) → repeats (body_seen w caps c).marks ≡ false
      go (yes h) = rw (body_here w caps c h) (marks_once w caps hd laid c h)
      go (no h) = rw (body_past w caps c (omega arith))

  -- the chain of a mark
  module _ (v : ℕ) (h : v < caps.marks) where
    holders_meet : (c : ℕ) → c < caps.cells → (seen w caps).chain v c ≡ true → meets w caps c v ≡ true
    unfolding seen
    holders_meet c less t = chain_meets w caps hd laid c less v (ap (λ (b : Body). has v b.marks) (sym (body_here w caps c less)) ∙ t)

    chained : (c : ℕ) → (seen w caps).chain v c ≡ has v ((seen w caps).at c).marks
    unfolding seen
    chained c = refl

    head_seen : read w caps (InMark v First) ≡ link caps (seen w caps) v 0
    head_seen = head_right w caps v (seen w caps) marks_seen seen_once chained (mark_chain w caps hd laid v h) holders_meet

    count_seen : read w caps (InMark v Held) ≡ length (chain_of caps (seen w caps) v)
    count_seen = count_right_lem w caps v (seen w caps) marks_seen seen_once chained (mark_chain w caps hd laid v h) holders_meet

    pub few_seen : length (chain_of caps (seen w caps) v) ≤ most_around
    few_seen = omega (arith, count_seen, chain_few w caps v (mark_chain w caps hd laid v h))

    behind_seen : (c j : ℕ) → c < caps.cells → j < length ((seen w caps).at c).marks → get_or ((seen w caps).at c).marks j 0 ≡ v
        → read w caps (InCell c (Link j)) ≡ link caps (seen w caps) v (suc c)
    behind_seen = behind_right w caps v (seen w caps) marks_seen seen_once chained (mark_chain w caps hd laid v h) holders_meet

  -- the words of a cell, in the picture of the state
  module _ (c : ℕ) (h : c < caps.cells) where
    code_seen : read w caps (InCell c Code) ≡ ((seen w caps).at c).code
    unfolding seen
    code_seen = sym (ap (λ (b : Body). b.code) (body_here w caps c h))

    licence_seen : read w caps (InCell c Licence) ≡ ((seen w caps).at c).licence
    unfolding seen
    licence_seen = sym (ap (λ (b : Body). b.licence) (body_here w caps c h))

    near_seen : (k : ℕ) → k < near_marks → read w caps (InCell c (Near k)) ≡ corner (seen w caps) c k
    unfolding corner
    near_seen k less = near_word w caps hd laid c h k less ∙ ap (λ (l : List ℕ). get_or l k 0) (sym (marks_seen c h))

    far_seen : (k : ℕ) → k < most_marks → read w caps (InCell c (Far k)) ≡ cond (ltb near_marks (length ((seen w caps).at c).marks)) (corner (seen w caps) c k) 0
    unfolding corner far_mark
    far_seen k less = far_word w caps hd laid c h k less ∙ ap (λ (l : List ℕ). cond (ltb near_marks (length l)) (get_or l k 0) 0) (sym (marks_seen c h))

    sib_seen : (f : ℕ) → f < most_facets → read w caps (InCell c (Sib f)) ≡ sib_word (seen w caps) (8 * c + f)
    unfolding seen
    sib_seen f less =
        let a : (8 * c + f) / 8 ≡ c = omega arith in
        let b : (8 * c + f) % 8 ≡ f = omega arith in
        rw (a, b) (sym (word_packed (read w caps (InCell c (Sib f)))))

    link_seen : (k : ℕ) → k < most_marks → read w caps (InCell c (Link k)) ≡ link_word caps (seen w caps) c k
    unfolding corner link_word
    link_seen k less = go (dec_lt k (length ((seen w caps).at c).marks))
      where
        mark : ℕ
        mark = get_or ((seen w caps).at c).marks k 0

        go : Dec (k < length ((seen w caps).at c).marks) → read w caps (InCell c (Link k)) ≡ link_word caps (seen w caps) c k
        go (yes a) =
            let held : has mark ((seen w caps).at c).marks ≡ true = at_has ((seen w caps).at c).marks k a in
            let inside = marks_inside w caps hd laid c h mark (ap (has mark) (sym (marks_seen c h)) ∙ held) in
            behind_seen mark inside c k h a refl ∙ sym (link_here caps (seen w caps) mark c k a refl (chained mark inside c ∙ held))
        go (no a) =
            behind_links w caps hd laid c h k (omega (arith, ap length (marks_seen c h))) less
            ∙ rw (le-ltb k (length ((seen w caps).at c).marks) (omega arith))

  -- each slot's word
  slot_seen : (x : Slot) → Within caps.marks caps.cells x → read w caps x ≡ word_of caps (seen w caps) x
  unfolding word_of head_word mark_word cell_word seen head_in read address
  slot_seen (InHead Magic) h = hd.first
  slot_seen (InHead MarkCap) h = hd.marks
  slot_seen (InHead CellCap) h = hd.cells
  slot_seen (InHead Edition) h = hd.edition
  slot_seen (InHead (Count t)) h = refl
  slot_seen (InHead (HeadRest k)) h = head_rest w caps (head_passes w caps hd laid) k h
  slot_seen (InMark v First) h = head_seen v h.0
  slot_seen (InMark v Held) h = count_seen v h.0
  slot_seen (InMark v (Anchor d)) h = refl
  slot_seen (InMark v (MarkRest k)) h = mark_rest w caps v (mark_rests_lem w caps hd laid v h.0) k h.1
  slot_seen (InCell c Code) h = code_seen c h.0
  slot_seen (InCell c Licence) h = licence_seen c h.0
  slot_seen (InCell c (Near k)) h = near_seen c h.0 k h.1
  slot_seen (InCell c (Sib f)) h = sib_seen c h.0 f h.1
  slot_seen (InCell c (Link k)) h = link_seen c h.0 k h.1
  slot_seen (InCell c (Far k)) h = far_seen c h.0 k h.1
  slot_seen (InCell c (CellRest p)) h = cell_rest w caps c (cell_rests w caps hd laid c h.0) p h.1

  -- memory is the picture of the state that it tells
  pub seen_pic : Pic w caps (seen w caps)
  seen_pic = record { marks = hd.marks_few; cells = hd.cells_few; edition = hd.is_edition_lem; fits = hd.fits; words = slot_seen }
