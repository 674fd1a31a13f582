-- A cell put into the chain of a mark, or taken out: the chains then, and that they are still linked.
use mathlib.Core.Path.{◌≡◌, refl, sym, ◌∙◌}
use mathlib.Core.Bool.{Bool, true, false, cond, ◌&&◌}
use Prim.Native.Nat.{ℕ, suc, ◌<◌, ◌≤◌}
use native.Mathlib.Decide.{ℕ_discrete}
use native.Mathlib.Omega.{arith}
use borrow.Author.Tests.{eq-eqb, ne_eqb}
use lib.Dec.{eqb}
use lib.ListN.{length}
use Rattle.lists.specs.Lists.{has}
use Rattle.lists.proofs.Members.{at_has}
use Rattle.lists.proofs.Select.{select_same}
use Rattle.lists.proofs.Counts.{select_more}
use Rattle.numbers.specs.declared.Caps.{Caps}
use Rattle.picture.specs.State.{State}
use Rattle.picture.specs.Picture.{chain_of, corner}
use Rattle.picture.specs.Changes.{with_link}
use Rattle.chain.specs.Chain.{Linked, MayLink}
use Rattle.numbers.specs.Sizes.{most_around}

module _ (s : State) (v c : ℕ) (on : Bool) where
  -- the cell itself, another mark, another cell
  pub with_here : (with_link s v c on).chain v c ≡ on
  unfolding with_link
  with_here = simp (eq-eqb v v refl, eq-eqb c c refl)

  pub with_mark : (u d : ℕ) → (u ≡ v → ⊥) → (with_link s v c on).chain u d ≡ s.chain u d
  unfolding with_link
  with_mark u d f = simp (ne_eqb v u (λ e. f (sym e)))

  pub with_cell : (u d : ℕ) → (d ≡ c → ⊥) → (with_link s v c on).chain u d ≡ s.chain u d
  unfolding with_link
  with_cell u d f = go (eqb v u)
    where
      go : (b : Bool) → cond (b && eqb c d) on (s.chain u d) ≡ s.chain u d
      go true = simp (ne_eqb c d (λ e. f (sym e)))
      go false = refl

  -- the chain of every other mark is as it was
  pub chain_with : (caps : Caps) (u : ℕ) → (u ≡ v → ⊥) → chain_of caps (with_link s v c on) u ≡ chain_of caps s u
  unfolding chain_of
  chain_with caps u f = select_same ((with_link s v c on).chain u) (s.chain u) caps.cells (λ k h. with_mark u k f)

module _ (caps : Caps) (s : State) (v c : ℕ) (h : c < caps.cells) where
  -- one more cell, or one fewer
  pub chain_more : s.chain v c ≡ false → length (chain_of caps (with_link s v c true) v) ≡ suc (length (chain_of caps s v))
  unfolding chain_of
  chain_more e =
      select_more (s.chain v) ((with_link s v c true).chain v) c caps.cells h e (with_here s v c true)
      (λ k f. sym (with_cell s v c true v k (λ z. f (sym z))))

  pub chain_less : s.chain v c ≡ true → length (chain_of caps s v) ≡ suc (length (chain_of caps (with_link s v c false) v))
  unfolding chain_of
  chain_less e =
      select_more ((with_link s v c false).chain v) (s.chain v) c caps.cells h (with_here s v c false) e
      (λ k f. with_cell s v c false v k (λ z. f (sym z)))

module _ (caps : Caps) (s : State) (v k c : ℕ) (on : Bool) (l : Linked caps s) (e : corner s c k ≡ v) (h : k < length (s.at c).marks) where
  -- the chains stay linked where the chain of v does not grow too long
  linked_with : length (chain_of caps (with_link s v c on) v) ≤ most_around → Linked caps (with_link s v c on)
  unfolding with_link corner
  linked_with few = record {
    held = λ u d t. held u d t (ℕ_discrete u v) (ℕ_discrete d c);
    corners = l.corners;
    distinct = l.distinct;
    few = λ u. short u (ℕ_discrete u v);
  }
    where
      held : (u d : ℕ) → (with_link s v c on).chain u d ≡ true → Dec (u ≡ v) → Dec (d ≡ c) → has u (s.at d).marks ≡ true
      held u d t (yes a) (yes b) = rw (a, b, ← e) (at_has (s.at c).marks k h)
      held u d t (no f) b = l.held u d (sym (with_mark s v c on u d f) ∙ t)
      held u d t (yes a) (no f) = l.held u d (sym (with_cell s v c on u d f) ∙ t)

      short : (u : ℕ) → Dec (u ≡ v) → length (chain_of caps (with_link s v c on) u) ≤ most_around
      short u (yes a) = rw a few
      short u (no f) = rw (chain_with s v c on caps u f) (l.few u)

module _ (caps : Caps) (v k c : ℕ) (s : State) where
  pub linked_link : (on : Bool) → MayLink caps v k c on s → Linked caps (with_link s v c on)
  linked_link on m = linked_with caps s v k c on m.linked m.corner m.place (short on m)
    where
      short : (on : Bool) → MayLink caps v k c on s → length (chain_of caps (with_link s v c on) v) ≤ most_around
      short true m = omega (arith, m.few refl, chain_more caps s v c m.cell m.was)
      short false m = omega (arith, m.linked.few v, chain_less caps s v c m.cell m.was)
