-- Nothing else fits: the promise of the whole check leaves one answer, and on well-formed memory that is yes.
use mathlib.Core.Path.{◌≡◌, refl, sym, ◌∙◌}
use mathlib.Core.Bool.{Bool, true, false}
use mathlib.Core.List.{List}
use Prim.Native.Nat.{ℕ}
use Rattle.map.specs.Cells.{Map}
use Rattle.picture.specs.Picture.{Wf}
use Rattle.whole.specs.Whole.{Whole}

-- the whole check says yes of memory that is well-formed for some map
pub whole_yes : {w : List ℕ} {m : Map} {r : Bool} → Wf w m → Whole w r → r ≡ true
whole_yes {r = true} wf x = refl
whole_yes {m = m} {r = false} wf x = absurd (x.no refl m wf)

pub whole_one : {w : List ℕ} {r s : Bool} → Whole w r → Whole w s → r ≡ s
whole_one {r = true} x y = sym (whole_yes (x.yes refl).1 y)
whole_one {r = false} {s = true} x y = absurd (x.no refl (y.yes refl).0 (y.yes refl).1)
whole_one {r = false} {s = false} x y = refl
