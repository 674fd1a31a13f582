-- What the steps of the check promise, on any memory.
use Rattle.std.specs.Prelude.{◌≡◌, Bool, true, false, not, ◌&&◌, ◌||◌, List, ℕ, ◌≤◌, eqb, length, Result, ⊤, Err}
use Rattle.lists.specs.Lists.{has, all, repeats}
use Rattle.numbers.specs.Room.{room}
use Rattle.numbers.specs.declared.Caps.{Caps}
use Rattle.store.specs.Slots.{code_in}
use Rattle.map.specs.Cells.{Live, Map}
use Rattle.map.specs.Afresh.{numbers}
use Rattle.map.specs.Morning.{morning}
use Rattle.map.specs.declared.Refusal.{Refusal}
use Rattle.picture.specs.Picture.{Wf}
use Rattle.cell_set.specs.CellSet.{in_set}
use Rattle.wanted.specs.Wanted.{wanted_of, as_wanted}
use Rattle.wanted.specs.Records.{stands_in}
use Rattle.wanted.specs.Plans.{plan_verdict}
use Rattle.plan_check.specs.declared.Flaw.TheVariants.{Refused}
use Rattle.plan_check.specs.declared.Flaw.{Flaw}
use Rattle.plan_check.specs.Checked.{planned_says}

-- each cell of a list stands in memory, and none is in it twice
unfoldable pub stand_once : List ℕ → Caps → List Live → Bool
stand_once w caps cells = all (stands_in w caps) cells && not (repeats (numbers cells))

-- the records gone through with a set that is empty at first and has room for each cell: at the end it has the wanted cells
pub record Sifted (w : List ℕ) (caps : Caps) (records seen : List ℕ) (r : Bool) (seen' : List ℕ) : Type 0 where
  pub size : length seen' ≡ length seen
  pub once : (wanted_of records).refusal ≡ 0 → caps.cells ≤ length seen → ((k : ℕ) → in_set seen k ≡ false)
      → (r ≡ stand_once w caps (wanted_of records).cells) × (r ≡ true → (k : ℕ) → in_set seen' k ≡ has k (numbers (wanted_of records).cells))

-- no cell stands in memory under this number, or it is in the set
unfoldable pub dead_or : List ℕ → Caps → List ℕ → ℕ → Bool
dead_or w caps seen c = eqb (code_in w caps c) 0 || in_set seen c

-- the live cells are the wanted ones, each once
pub record AsWanted (w : List ℕ) (caps : Caps) (records : List ℕ) (r : Bool) : Type 0 where
  pub says : (wanted_of records).refusal ≡ 0 → (m : Map) → m.caps ≡ caps → Wf w m → r ≡ as_wanted m (wanted_of records).cells

-- the plan tried in memory as long as the room, from the words of the mesh
pub record Tried (w : List ℕ) (caps : Caps) (mesh edits wanted : List ℕ) (r : Result ⊤ Flaw) (w' : List ℕ) : Type 0 where
  pub size : length w' ≡ length w
  pub decided : (why : Refusal) → r ≡ Err (Refused why) → ⊥
  pub answers : (wanted_of wanted).refusal ≡ 0 → (m : Map) → m.caps ≡ caps → Wf mesh m → length w ≡ room m.caps.marks m.caps.cells
      → (planned_says r ≡ plan_verdict m edits wanted) × Wf w' (morning m edits).map
