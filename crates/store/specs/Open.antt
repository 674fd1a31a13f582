-- What memory is, by its head.
use Rattle.std.specs.Prelude.{Bool, cond, ◌&&◌, List, ℕ, leb, eqb, get_or, set, length, Result, Ok, Err}
use Rattle.numbers.specs.declared.Caps.{Caps}
use Rattle.numbers.specs.Sizes.{most_capacity}
use Rattle.numbers.specs.Editions.{is_edition}
use Rattle.map.specs.declared.Refusal.TheVariants.{NotMesh}
use Rattle.map.specs.declared.Refusal.{Refusal}
use Rattle.store.specs.Layout.{room, magic}
use Rattle.store.specs.Fields.{HeadField, Magic, MarkCap, CellCap, Edition, head_place}

unfoldable pub head_in : List ℕ → HeadField → ℕ
head_in w f = get_or w (head_place f) 0

unfoldable pub caps_in : List ℕ → Caps
caps_in w = record { marks = head_in w MarkCap; cells = head_in w CellCap; edition = head_in w Edition }

-- the room of the capacities that the head gives
abbrev pub room_in : List ℕ → ℕ
room_in w = room (head_in w MarkCap) (head_in w CellCap)

-- the head gives capacities whose room fits: "14 is given whenever memory is under 16 words, or its head gives no capacities or gives
-- ones whose room does not fit"; an edition that there is not is none of a mesh
unfoldable pub is_mesh : List ℕ → Bool
is_mesh w =
    leb 16 (length w)
    && (eqb (head_in w Magic) magic
    && (leb (head_in w MarkCap) most_capacity && (leb (head_in w CellCap) most_capacity
    && (is_edition (head_in w Edition) && leb (room (head_in w MarkCap) (head_in w CellCap)) (length w)))))

unfoldable pub opened : List ℕ → Result Caps Refusal
opened w = cond (is_mesh w) (Ok (caps_in w)) (Err NotMesh)

-- the head of a mesh of these capacities and this edition, written
unfoldable pub headed : List ℕ → Caps → List ℕ
headed w caps = set (set (set (set w (head_place Magic) magic) (head_place MarkCap) caps.marks) (head_place CellCap) caps.cells) (head_place Edition) caps.edition
