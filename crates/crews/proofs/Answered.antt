-- An edit gets the same answer before and after any edit of another crew.
use mathlib.Core.Path.{◌≡◌, refl}
use mathlib.Core.Bool.{Bool, true, false, cond}
use borrow.Author.Tests.{eqb-true}
use lib.Dec.{eqb}
use Rattle.map.specs.Cells.{Map}
use Rattle.map.specs.History.{Edit, edit_answer, changed, edited}
use Rattle.map.specs.Sound.{Sound}
use Rattle.crews.specs.Crews.{TwoCrews}
use Rattle.crews.proofs.Kept.{changed_kept}

module _ (m : Map) (s : Sound m) where
  -- "each gets the same answer both times": before and after one that is accepted, or refused
  pub answer_kept : (a b : Edit) → TwoCrews m a b → edit_answer (edited m b) a ≡ edit_answer m a
  unfolding edited
  answer_kept a b crews = go (eqb (edit_answer m b).refusal 0) refl
    where
      go : (t : Bool) → eqb (edit_answer m b).refusal 0 ≡ t → edit_answer (cond t (changed m b) m) a ≡ edit_answer m a
      go true ok = changed_kept m s a b crews (eqb-true _ 0 ok)
      go false why = refl
