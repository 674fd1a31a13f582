-- A list of cells and the same list shuffled give every answer alike.
use mathlib.Core.Path.{◌≡◌, ap}
use mathlib.Core.List.{List}
use Rattle.numbers.specs.declared.Caps.{Caps}
use Rattle.map.specs.Cells.{Live, Map, map_of}
use Rattle.map.specs.Afresh.{Shuffled, Distinct}
use Rattle.laws.proofs.Orders.{order_free}

module _ (caps : Caps) (a b : List Live) where
  -- every answer is the same
  pub order_free_answer : {A : Type 0} (f : Map → A) → Shuffled a b → Distinct a → f (map_of caps a) ≡ f (map_of caps b)
  order_free_answer f s d = ap f (order_free caps a b s d)
