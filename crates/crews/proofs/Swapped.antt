-- The two orders leave one map.
use mathlib.Core.Path.{◌≡◌, refl, sym, ap, ◌∙◌, fun_ext}
use mathlib.Core.Bool.{Bool, true, false, cond}
use Prim.Native.Nat.{ℕ}
use borrow.Author.Tests.{eqb-true, ne_eqb}
use lib.Dec.{eqb}
use Rattle.lists.proofs.Bools.{clash, not_true_false}
use Rattle.map.specs.Cells.{Body, Map, no_cell}
use Rattle.map.specs.Answers.{Answer}
use Rattle.map.specs.History.{Edit, Insert, Remove, cell_of, edit_answer, put, changed, edited}
use Rattle.map.specs.Sound.{Sound}
use Rattle.crews.specs.Crews.{TwoCrews}
use Rattle.crews.proofs.Answered.{answer_kept}

-- the crews are two either way round
pub crews_swap : {m : Map} {a b : Edit} → TwoCrews m a b → TwoCrews m b a
crews_swap crews = record {
  numbers = λ z. crews.numbers (sym z);
  marks = λ v h. not_true_false _ (λ t. clash h (crews.marks v t));
}

-- cells under different numbers, or none, are put in either order
put_swap : (m : Map) (c d : ℕ) (x y : Body) → (c ≡ d → ⊥) → put (put m c x) d y ≡ put (put m d y) c x
unfolding put
put_swap m c d x y n =
    ap (λ (at : ℕ → Body). record { caps = m.caps; at = at }) (fun_ext (λ k. go k (eqb c k) (eqb d k) refl refl))
  where
    go : (k : ℕ) (s t : Bool) → eqb c k ≡ s → eqb d k ≡ t → cond t y (cond s x (m.at k)) ≡ cond s x (cond t y (m.at k))
    go k true true p q = absurd (n (eqb-true c k p ∙ sym (eqb-true d k q)))
    go k true false p q = refl
    go k false true p q = refl
    go k false false p q = refl

-- the cell that an accepted edit leaves under its number
abbrev left : Edit → Body
left (Insert c x) = x
left (Remove c) = no_cell

changed_put : (m : Map) (e : Edit) → changed m e ≡ put m (cell_of e) (left e)
unfolding changed
changed_put m (Insert c x) = refl
changed_put m (Remove c) = refl

-- under another number an edit leaves what stands there
pub edited_other : (m : Map) (e : Edit) (k : ℕ) → (cell_of e ≡ k → ⊥) → (edited m e).at k ≡ m.at k
unfolding edited put
edited_other m e k n = go (eqb (edit_answer m e).refusal 0)
  where
    go : (t : Bool) → (cond t (changed m e) m).at k ≡ m.at k
    go true = ap (λ (n : Map). n.at k) (changed_put m e) ∙ rw (ne_eqb (cell_of e) k n)
    go false = refl

-- edits made are made in either order
changed_swap : (m : Map) (a b : Edit) → (cell_of a ≡ cell_of b → ⊥) → changed (changed m a) b ≡ changed (changed m b) a
changed_swap m a b n =
    changed_put (changed m a) b
    ∙ (ap (λ (k : Map). put k (cell_of b) (left b)) (changed_put m a)
    ∙ (put_swap m (cell_of a) (cell_of b) (left a) (left b) n
    ∙ (sym (ap (λ (k : Map). put k (cell_of a) (left a)) (changed_put m b)) ∙ sym (changed_put (changed m b) a))))

-- an edit after another, by the answer that it gets before it
edited_second : (m : Map) (a b : Edit) → edit_answer (edited m a) b ≡ edit_answer m b
    → edited (edited m a) b ≡ cond (eqb (edit_answer m b).refusal 0) (changed (edited m a) b) (edited m a)
unfolding edited
edited_second m a b e = ap (λ (r : Answer). cond (eqb r.refusal 0) (changed (edited m a) b) (edited m a)) e

-- "may be made in either order": accepted or refused, they leave one map
pub edited_swap : (m : Map) → Sound m → (a b : Edit) → TwoCrews m a b → edited (edited m a) b ≡ edited (edited m b) a
unfolding edited
edited_swap m s a b crews =
    edited_second m a b (answer_kept m s b a (crews_swap crews))
    ∙ (go (eqb (edit_answer m a).refusal 0) (eqb (edit_answer m b).refusal 0) ∙ sym (edited_second m b a (answer_kept m s a b crews)))
  where
    go : (s t : Bool) → cond t (changed (cond s (changed m a) m) b) (cond s (changed m a) m) ≡ cond s (changed (cond t (changed m b) m) a) (cond t (changed m b) m)
    go true true = changed_swap m a b crews.numbers
    go true false = refl
    go false true = refl
    go false false = refl
