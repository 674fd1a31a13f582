-- An accepted edit changes nothing at a mark that its cell has not.
use mathlib.Core.Path.{◌≡◌}
use mathlib.Core.Bool.{false}
use Prim.Native.Nat.{ℕ}
use Rattle.lists.specs.Lists.{has}
use Rattle.map.specs.Cells.{Map}
use Rattle.map.specs.History.{Edit, Insert, Remove, cell_of, edit_body, edit_answer, changed}
use Rattle.map.specs.Sound.{Sound}
use Rattle.laws.proofs.Edits.{may_insert, may_remove}
use Rattle.laws.proofs.Local.{Free, more_insert, more_remove, more_free}

module _ (m : Map) (s : Sound m) where
  -- an accepted edit changes nothing at a mark that its cell has not
  pub free_changed : (e : Edit) → (edit_answer m e).refusal ≡ 0 → (v : ℕ) → has v (edit_body m e).marks ≡ false
      → Free m (changed m e) (cell_of e) v
  free_changed (Insert c x) a v e = more_free _ _ c _ (more_insert m s c x (may_insert m c x a)) v e
  free_changed (Remove c) a v e = let f = more_free _ _ c _ (more_remove m s c (may_remove m c a)) v e in (f.1, f.0)
