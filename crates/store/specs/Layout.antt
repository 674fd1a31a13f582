-- Where each record lies, by its number and the capacities alone.
use Rattle.std.specs.Prelude.{ℕ, ◌+◌, ◌*◌}
unfoldable pub use Rattle.numbers.specs.Room.{room}

-- the first word of a mesh
unfoldable pub magic : ℕ
magic = 1296780363

-- the words of the head, of a mark's record, of each part of a cell's
abbrev pub head_words : ℕ
head_words = 16

abbrev pub mark_words : ℕ
mark_words = 8

abbrev pub part_words : ℕ
part_words = 16

-- a cell of at most so many marks has them in its first part
abbrev pub near_marks : ℕ
near_marks = 4

-- half-facets are numbered below this, whatever the capacity
abbrev pub past_halves : ℕ
past_halves = 524288

-- a mark's record
unfoldable pub mark_at : ℕ → ℕ
mark_at v = head_words + mark_words * v

-- a cell's record: all first parts, then all second parts
unfoldable pub near_at : ℕ → ℕ → ℕ
near_at marks c = head_words + mark_words * marks + part_words * c

unfoldable pub far_at : ℕ → ℕ → ℕ → ℕ
far_at marks cells c = head_words + mark_words * marks + part_words * cells + part_words * c
