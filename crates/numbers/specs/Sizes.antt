-- The outline's sizes.
use Rattle.std.specs.Prelude.{ℕ}
use Rattle.numbers.specs.declared.Caps.{Caps}
use Rattle.numbers.specs.Editions.{first_edition}

-- "Capacities: 0 to 65,535 marks and 0 to 65,535 cells."
abbrev pub most_capacity : ℕ
most_capacity = 65535

-- cells are numbered below this, whatever the capacity
abbrev pub past_cells : ℕ
past_cells = 65536

-- the capacities of so many marks and so many cells, under an edition
abbrev pub caps_under : ℕ → ℕ → ℕ → Caps
caps_under edition marks cells = record { marks = marks; cells = cells; edition = edition }

-- "01's forms .. mean edition 1."
abbrev pub capacities : ℕ → ℕ → Caps
capacities marks cells = caps_under first_edition marks cells

-- "A mark may stand in at most 128 live cells, all dimensions together."
abbrev pub most_around : ℕ
most_around = 128
