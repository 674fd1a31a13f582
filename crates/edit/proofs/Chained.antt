-- Mark by mark a cell goes into the chains of its marks, or out of them.
use mathlib.Core.Path.{◌≡◌, refl, sym, ap, ◌∙◌, subst, fun_ext}
use mathlib.Core.Bool.{Bool, true, false, cond, not, ◌&&◌, ◌||◌}
use mathlib.Core.List.{List, [], ◌∷◌}
use Prim.Native.Nat.{ℕ, suc, ◌+◌, ◌<◌, ◌≤◌}
use native.Mathlib.Numerals.{add-one}
use native.Mathlib.Decide.{dec_lt}
use native.Mathlib.Omega.{arith}
use borrow.Author.Tests.{eq-eqb, ne_eqb, eqb-true}
use lib.Dec.{eqb}
use lib.ListN.{get_or, length, take}
use lib.Seq.{take-suc, take_all, get_or-take, length-take-le}
use Rattle.lists.specs.Lists.{has}
use Rattle.lists.proofs.Bools.{clash, not_true_false}
use Rattle.lists.proofs.Members.{has_at, at_has, has_append, has_one, once}
use Rattle.lists.proofs.Select.{select_same}
use Rattle.lists.proofs.Counts.{select_fewer, select_more}
use Rattle.lists.proofs.Alike.{and_false}
use Rattle.words.proofs.Frame.{only_none, only_then}
use Rattle.shapes.specs.Sizes.{most_marks}
use Rattle.numbers.specs.Sizes.{most_around}
use Rattle.numbers.specs.declared.Caps.{Caps}
use Rattle.picture.specs.State.{State}
use Rattle.picture.specs.Picture.{chain_of, corner, Pic}
use Rattle.picture.specs.Changes.{with_link}
use Rattle.picture.specs.Step.{Step}
use Rattle.picture.proofs.Alike.{state_same}
use Rattle.chain.specs.Chain.{Linked, MayLink}
use Rattle.edit.specs.Edit.{with_links, MayLinks}

module _ (s : State) (c : ℕ) (on : Bool) where
  -- in the chains of no mark: the same state
  links_none : with_links s c [] on ≡ s
  unfolding with_links has
  links_none =
      state_same (with_links s c [] on) s refl (fun_ext (λ u. fun_ext (λ k. rw (and_false (eqb c k))))) refl refl refl refl

  one_more : (p q r : Bool) (x : Bool) → cond (p && q) on (cond (q && r) on x) ≡ cond (q && (r || p)) on x
  one_more true true true x = refl
  one_more true true false x = refl
  one_more true false r x = refl
  one_more false true true x = refl
  one_more false true false x = refl
  one_more false false r x = refl

  -- one mark more
  links_one : (marks : List ℕ) (k : ℕ) → k < length marks
      → with_link (with_links s c (take k marks) on) (get_or marks k 0) c on ≡ with_links s c (take (k + 1) marks) on
  unfolding with_link with_links
  links_one marks k l =
      state_same (with_link (with_links s c (take k marks) on) (get_or marks k 0) c on) (with_links s c (take (k + 1) marks) on) refl
      (fun_ext (λ u. fun_ext (λ j. same u j)))
      refl refl refl refl
    where
      more : (u : ℕ) → has u (take (k + 1) marks) ≡ has u (take k marks) || eqb (get_or marks k 0) u
      more u = rw (add-one k, take-suc marks k 0 l, has_append u (take k marks) (get_or marks k 0 ∷ []), has_one u (get_or marks k 0))

      same : (u j : ℕ) → (with_link (with_links s c (take k marks) on) (get_or marks k 0) c on).chain u j ≡ (with_links s c (take (k + 1) marks) on).chain u j
      same u j =
          one_more (eqb (get_or marks k 0) u) (eqb c j) (has u (take k marks)) (s.chain u j)
          ∙ ap (λ (b : Bool). cond (eqb c j && b) on (s.chain u j)) (sym (more u))

module _ (caps : Caps) (s : State) (c : ℕ) (part : List ℕ) (on : Bool) where
  -- in the chain of another mark every cell is as it was
  part_other : (u k : ℕ) → has u part ≡ false → (with_links s c part on).chain u k ≡ s.chain u k
  unfolding with_links
  part_other u k e = rw (e, and_false (eqb c k))

  -- in the chains of these marks every other cell
  part_cell : (u k : ℕ) → (c ≡ k → ⊥) → (with_links s c part on).chain u k ≡ s.chain u k
  unfolding with_links
  part_cell u k n = rw (ne_eqb c k n)

  part_here : (u : ℕ) → has u part ≡ true → (with_links s c part on).chain u c ≡ on
  unfolding with_links
  part_here u e = rw (eq-eqb c c refl, e)

  part_chain : (u : ℕ) → has u part ≡ false → chain_of caps (with_links s c part on) u ≡ chain_of caps s u
  unfolding chain_of
  part_chain u e = select_same ((with_links s c part on).chain u) (s.chain u) caps.cells (λ k h. part_other u k e)

  -- the chains stay linked where those of these marks do not grow too long
  part_linked : Linked caps s → ((u : ℕ) → has u part ≡ true → has u (s.at c).marks ≡ true)
      → ((u : ℕ) → has u part ≡ true → length (chain_of caps (with_links s c part on) u) ≤ most_around) → Linked caps (with_links s c part on)
  unfolding with_links
  part_linked l own few = record {
    held = λ u k t. held u k (eqb c k) refl (has u part) refl t;
    corners = l.corners;
    distinct = l.distinct;
    few = λ u. short u (has u part) refl;
  }
    where
      held : (u k : ℕ) (p : Bool) → eqb c k ≡ p → (q : Bool) → has u part ≡ q → cond (p && q) on (s.chain u k) ≡ true
          → has u (s.at k).marks ≡ true
      held u k true e true h t = rw (← eqb-true c k e) (own u h)
      held u k true e false h t = l.held u k t
      held u k false e q h t = l.held u k t

      short : (u : ℕ) (q : Bool) → has u part ≡ q → length (chain_of caps (with_links s c part on) u) ≤ most_around
      short u true h = few u h
      short u false h = rw (part_chain u h) (l.few u)

module _ (caps : Caps) (s : State) (c : ℕ) (part : List ℕ) (u : ℕ) where
  -- the chain of one of these marks is longer by the cell, or not longer
  part_more : c < caps.cells → has u part ≡ true → s.chain u c ≡ false
      → length (chain_of caps (with_links s c part true) u) ≡ suc (length (chain_of caps s u))
  unfolding chain_of
  part_more l e f =
      select_more (s.chain u) ((with_links s c part true).chain u) c caps.cells l f (part_here caps s c part true u e)
      (λ k n. sym (part_cell caps s c part true u k n))

  part_fewer : length (chain_of caps (with_links s c part false) u) ≤ length (chain_of caps s u)
  unfolding chain_of with_links
  part_fewer =
      select_fewer ((with_links s c part false).chain u) (s.chain u) caps.cells (λ k t. go (eqb c k && has u part) (s.chain u k) t)
    where
      go : (p x : Bool) → cond p false x ≡ true → x ≡ true
      go true x t = absurd (clash t refl)
      go false x t = t

  -- so it is not too long where it was not, and had room for the cell
  part_short : (on : Bool) → Linked caps s → c < caps.cells → has u part ≡ true → s.chain u c ≡ not on
      → (on ≡ true → length (chain_of caps s u) < most_around) → length (chain_of caps (with_links s c part on) u) ≤ most_around
  part_short true l h e f few = omega (arith, few refl, part_more h e f)
  part_short false l h e f few = omega (arith, l.few u, part_fewer)

-- a cell's marks
module _ (caps : Caps) (s : State) (c : ℕ) (marks : List ℕ) (l : Linked caps s) (e : (s.at c).marks ≡ marks) where
  -- the first k of them, and the next
  module _ (k : ℕ) (h : k < length marks) where
    first_at : (u : ℕ) → has u (take k marks) ≡ true → (j : ℕ) × (j < k) × (get_or marks j 0 ≡ u)
    first_at u t =
        let r = has_at u (take k marks) t in
        let less : r.0 < k = omega (arith, r.1, length-take-le k marks (omega arith)) in
        (r.0, less, sym (get_or-take k marks r.0 0 less) ∙ r.2)

    first_has : (u : ℕ) → has u (take k marks) ≡ true → has u marks ≡ true
    first_has u t = let r = first_at u t in rw r.2 at (at_has marks r.0 (omega (arith, r.1)))

    next_new : has (get_or marks k 0) (take k marks) ≡ false
    next_new = not_true_false (has (get_or marks k 0) (take k marks)) again
      where
        again : has (get_or marks k 0) (take k marks) ≡ true → ⊥
        again t =
            let r = first_at (get_or marks k 0) t in
            omega (arith, r.1, once marks (rw e at (l.distinct c)) r.0 k (omega (arith, r.1)) h r.2)

    next_corner : (on : Bool) → corner (with_links s c (take k marks) on) c k ≡ get_or marks k 0
    unfolding corner with_links
    next_corner on = rw e

    next_linked : (on : Bool) → ((u : ℕ) → has u (take k marks) ≡ true → length (chain_of caps (with_links s c (take k marks) on) u) ≤ most_around)
        → Linked caps (with_links s c (take k marks) on)
    next_linked on few = part_linked caps s c (take k marks) on l (λ u t. rw e (first_has u t)) few

module _ (caps : Caps) (c : ℕ) (marks : List ℕ) (on : Bool) (s : State) where
  -- the next mark's chain may take the cell, or give it up
  links_next : MayLinks caps c marks on s → (k : ℕ) → k < length marks
      → MayLink caps (get_or marks k 0) k c on (with_links s c (take k marks) on)
  unfolding with_links
  links_next m k h = record {
    linked = next_linked caps s c marks m.linked m.corners k h on short;
    mark = m.inside v here;
    cell = m.cell;
    place = rw m.corners h;
    corner = next_corner caps s c marks m.linked m.corners k h on;
    was = part_other caps s c (take k marks) on v c new ∙ m.was v here;
    few = λ e. rw (part_chain caps s c (take k marks) on v new) (m.few e v here);
  }
    where
      v : ℕ
      v = get_or marks k 0

      here : has v marks ≡ true
      here = at_has marks k h

      new : has v (take k marks) ≡ false
      new = next_new caps s c marks m.linked m.corners k h

      short : (u : ℕ) → has u (take k marks) ≡ true → length (chain_of caps (with_links s c (take k marks) on) u) ≤ most_around
      short u t =
          let mine = first_has caps s c marks m.linked m.corners k h u t in
          part_short caps s c (take k marks) u on m.linked m.cell t (m.was u mine) (λ e. m.few e u mine)

module _ (caps : Caps) (w : List ℕ) (c : ℕ) (marks : List ℕ) (on : Bool) where
  -- after k turns the cell is in the chains of the first k marks, or out of them
  abbrev pub Turns : List ℕ → ℕ → Type 0
  Turns w' k = Step caps w w' (MayLinks caps c marks on) (λ s. with_links s c (take k marks) on)

  pub turns_start : Turns w 0
  turns_start = record { inside = only_none; state = λ s p k. rw (links_none s c on) p }

  -- a turn: the corner j of the cell d, which is the mark v
  pub turns_more : (w' w'' : List ℕ) (k v j d : ℕ) → Turns w' k → v ≡ get_or marks k 0 → j ≡ k → d ≡ c
      → Step caps w' w'' (MayLink caps v j d on) (λ s. with_link s v d on) → k < length marks → Turns w'' (k + 1)
  turns_more w' w'' k v j d t e f g step l = record {
    inside = only_then t.inside step.inside;
    state = λ s p m.
        rw (← links_one s c on marks k l) ((rw (e, f, g) at step).state _ (t.state s p m) (links_next caps c marks on s m k l));
  }

  -- all marks: there are no more, or these are as many as a cell can have
  pub turns_end : (w' : List ℕ) (k : ℕ) → Turns w' k → (k < most_marks → length marks ≤ k)
      → Step caps w w' (MayLinks caps c marks on) (λ s. with_links s c marks on)
  turns_end w' k t all = record {
    inside = t.inside;
    state = λ s p m.
        subst (λ (l : List ℕ). Pic w' caps (with_links s c l on)) (take_all k marks (past s m (dec_lt k most_marks))) (t.state s p m);
  }
    where
      past : (s : State) → MayLinks caps c marks on s → Dec (k < most_marks) → length marks ≤ k
      past s m (yes l) = all l
      past s m (no f) = omega (arith, rw m.corners at (m.linked.corners c))
