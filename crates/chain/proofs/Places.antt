-- The words of a chain in a picture: the first link and the count of a mark, and the link at each corner of a cell.
use mathlib.Core.Path.{◌≡◌, sym, ◌∙◌}
use mathlib.Core.Bool.{true}
use mathlib.Core.List.{List}
use Prim.Native.Nat.{ℕ, suc, ◌-◌, ◌/◌, ◌%◌, ◌<◌}
use native.Mathlib.Omega.{arith}
use borrow.Author.Tests.{eq-eqb, ne_eqb, lt-ltb}
use lib.ListN.{length}
use Rattle.lists.specs.Lists.{place}
use Rattle.lists.proofs.Members.{once, place_at, place_is}
use Rattle.numbers.specs.declared.Caps.{Caps}
use Rattle.shapes.specs.Sizes.{most_marks}
use Rattle.store.specs.Fields.{First, Held, Link}
use Rattle.store.specs.Slots.{InMark, InCell, read, written}
use Rattle.picture.specs.State.{State}
use Rattle.picture.specs.Picture.{Pic, chain_of, link_to, link, corner, link_word, mark_word, cell_word, word_of}
use Rattle.chain.specs.Chain.{Linked}
use Rattle.chain.specs.Walk.{set_lead}

-- the word that leads on, written: of a mark, or at a corner
module _ (w : List ℕ) (caps : Caps) (before v x : ℕ) where
  pub set_first : before ≡ 0 → set_lead w caps before v x ≡ written w caps (InMark v First) x
  unfolding set_lead
  set_first e = simp (eq-eqb before 0 e)

  pub set_behind : (i : ℕ) → before ≡ suc i → set_lead w caps before v x ≡ written w caps (InCell (i / 8) (Link (i % 8))) x
  unfolding set_lead
  set_behind i e =
      let one : before - 1 ≡ i = omega arith in
      rw (ne_eqb before 0 (λ z. omega arith), one)

-- and what a link word is where the cell stands in the chain
pub link_here : (caps : Caps) (s : State) (v c j : ℕ) → j < length (s.at c).marks → corner s c j ≡ v → s.chain v c ≡ true
    → link_word caps s c j ≡ link caps s v (suc c)
unfolding link_word
link_here caps s v c j h e t = rw (e, lt-ltb j (length (s.at c).marks) h, t)

-- a mark stands at one corner of a cell
pub corner_once : (caps : Caps) (s : State) → Linked caps s → (v d j k : ℕ) → j < length (s.at d).marks → k < length (s.at d).marks
    → corner s d j ≡ v → corner s d k ≡ v → j ≡ k
unfolding corner
corner_once caps s l v d j k a b p q = once (s.at d).marks (l.distinct d) j k a b (p ∙ sym q)

-- where it stands
module _ (caps : Caps) (s : State) (l : Linked caps s) (v : ℕ) where
  pub corner_there : (c : ℕ) → s.chain v c ≡ true → (place v (s.at c).marks < length (s.at c).marks) × (corner s c (place v (s.at c).marks) ≡ v)
  unfolding corner
  corner_there c t = place_at v (s.at c).marks (l.held v c t)

  pub corner_is : (c j : ℕ) → j < length (s.at c).marks → corner s c j ≡ v → place v (s.at c).marks ≡ j
  unfolding corner
  corner_is c j h e = rw (← e) (place_is (s.at c).marks (l.distinct c) j h)

  -- a link to a cell of the chain says the cell and the corner
  pub link_says : (c i : ℕ) → s.chain v c ≡ true → suc i ≡ link_to s.at v (suc c) → (i / 8 ≡ c) × (i % 8 ≡ place v (s.at c).marks)
  unfolding link_to
  link_says c i t e =
      let small : place v (s.at c).marks < most_marks = omega (arith, (corner_there c t).0, l.corners c) in
      (omega (arith, e), omega (arith, e))

-- the words of a mark
module _ (w : List ℕ) (caps : Caps) (s : State) (p : Pic w caps s) (v : ℕ) (h : v < caps.marks) where
  pub head_word_lem : read w caps (InMark v First) ≡ link caps s v 0
  unfolding word_of mark_word
  head_word_lem = p.words (InMark v First) (h, omega arith)

  pub count_word : read w caps (InMark v Held) ≡ length (chain_of caps s v)
  unfolding word_of mark_word
  count_word = p.words (InMark v Held) (h, omega arith)

module _ (w : List ℕ) (caps : Caps) (s : State) (p : Pic w caps s) (l : Linked caps s) (v : ℕ) where
  -- the link behind a cell of the chain, at the corner that is the mark
  pub link_at : (c j : ℕ) → c < caps.cells → s.chain v c ≡ true → j < length (s.at c).marks → corner s c j ≡ v
      → read w caps (InCell c (Link j)) ≡ link caps s v (suc c)
  unfolding word_of cell_word
  link_at c j h t hj e = p.words (InCell c (Link j)) (h, omega (arith, l.corners c)) ∙ link_here caps s v c j hj e t

  -- and by the link that leads to the cell
  pub link_word_lem : (c i : ℕ) → c < caps.cells → s.chain v c ≡ true → suc i ≡ link_to s.at v (suc c)
      → read w caps (InCell (i / 8) (Link (i % 8))) ≡ link caps s v (suc c)
  link_word_lem c i h t e =
      let q = link_says caps s l v c i t e in
      let there = corner_there caps s l v c t in
      rw (q.0, q.1) (link_at c (place v (s.at c).marks) h t there.0 there.1)
