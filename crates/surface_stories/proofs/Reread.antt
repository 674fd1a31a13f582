-- A surface that is written and read again leaves the same memory.
use mathlib.Core.Path.{◌≡◌}
use mathlib.Core.List.{List, []}
use Prim.Native.Nat.{ℕ}
use lib.ListN.{take}
use lib.IntN.{ℤ}
use Rattle.std.specs.Prelude.{Result, Ok}
use Rattle.surfaces.specs.ReadsOff.{surfaced_says, ReadsOff}
use Rattle.surfaces.specs.declared.NotRead.{NotRead}
use Rattle.surfaces_out.specs.WritesOff.{WritesOff}
use Rattle.surface_stories.proofs.Alone.{read_said}
use Rattle.surface_stories.proofs.Turned.{turned}

-- what was written is read with the same answer, and leaves the same memory word for word and the same positions
pub turned_same : (w : List ℕ) (positions : List ℤ) (text w' : List ℕ) (positions' : List ℤ) → ReadsOff w positions text (Ok tt) w' positions'
    → (o o' : List ℕ) (n : ℕ) → WritesOff w' positions' o (Ok n) o'
    → (r : Result (Unit {0}) NotRead) (w'' : List ℕ) (positions'' : List ℤ) → ReadsOff w positions (take n o') r w'' positions''
    → (surfaced_says r ≡ surfaced_says (Ok tt)) × (w'' ≡ w') × (positions'' ≡ positions')
turned_same w positions text w' positions' x o o' n q r w'' positions'' y =
    let t = turned w positions text w' positions' x o o' n q in
    read_said t.0 [] t.1 t.3 t.2 y x
