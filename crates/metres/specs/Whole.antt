-- Positions in whole metres, and the formulas of the measures, in whole numbers.
use Rattle.std.specs.Prelude.{List, ℕ, zero, suc, ◌+◌, ◌*◌, get_or, ℤ, pos, ◌+ℤ◌, ◌-ℤ◌, ◌*ℤ◌}

-- "three whole metres per mark": a position, or the way from one to another
pub record Metres : Type 0 where
  pub x : ℤ
  pub y : ℤ
  pub z : ℤ

-- the position of a mark
unfoldable pub position_of : List ℤ → ℕ → Metres
position_of positions v = record {
  x = get_or positions (3 * v) (pos 0);
  y = get_or positions (3 * v + 1) (pos 0);
  z = get_or positions (3 * v + 2) (pos 0);
}

unfoldable pub from_to : Metres → Metres → Metres
from_to a b = record { x = b.x -ℤ a.x; y = b.y -ℤ a.y; z = b.z -ℤ a.z }

-- a position moved
unfoldable pub moved : Metres → Metres → Metres
moved t a = record { x = a.x +ℤ t.x; y = a.y +ℤ t.y; z = a.z +ℤ t.z }

-- the edge from one mark to another
abbrev pub edge : List ℤ → ℕ → ℕ → Metres
edge positions a b = from_to (position_of positions a) (position_of positions b)

unfoldable pub dot : Metres → Metres → ℤ
dot u v = u.x *ℤ v.x +ℤ u.y *ℤ v.y +ℤ u.z *ℤ v.z

unfoldable pub cross : Metres → Metres → Metres
cross u v = record { x = u.y *ℤ v.z -ℤ u.z *ℤ v.y; y = u.z *ℤ v.x -ℤ u.x *ℤ v.z; z = u.x *ℤ v.y -ℤ u.y *ℤ v.x }

-- an edge with itself
unfoldable pub squared : Metres → ℤ
squared u = dot u u

-- two edges crossed, in x and y
unfoldable pub crossed : Metres → Metres → ℤ
crossed u v = (cross u v).z

-- an edge dotted with the cross product of two others
unfoldable pub sixfold : Metres → Metres → Metres → ℤ
sixfold u v w = dot u (cross v w)

-- "squared length of a bar"
unfoldable pub bar_length : List ℤ → ℕ → ℕ → ℤ
bar_length positions a b = squared (edge positions a b)

-- "doubled signed plan area of a triangle or quad (x and y: edges 0 to 1 and 0 to 2 crossed, in a quad 0 to 2 and 1 to 3)"
unfoldable pub tri_area : List ℤ → ℕ → ℕ → ℕ → ℤ
tri_area positions a b c = crossed (edge positions a b) (edge positions a c)

unfoldable pub quad_area : List ℤ → ℕ → ℕ → ℕ → ℕ → ℤ
quad_area positions a b c d = crossed (edge positions a c) (edge positions b d)

-- "sixfold signed volume of a tetrahedron (edge from corner 0 to 1, dotted with the cross product of those to 2 and to 3)"
unfoldable pub tetra_volume : List ℤ → ℕ → ℕ → ℕ → ℕ → ℤ
tetra_volume positions a b c d = sixfold (edge positions a b) (edge positions a c) (edge positions a d)

-- the sum of f 0, f 1, and so on, n of them
unfoldable pub sum_of : ℕ → (ℕ → ℤ) → ℤ
sum_of zero f = pos 0
sum_of (suc n) f = sum_of n f +ℤ f n
