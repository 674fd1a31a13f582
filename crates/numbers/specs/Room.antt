-- "room = 16 + 8 × marks + 32 × cells"
use Rattle.std.specs.Prelude.{ℕ, ◌+◌, ◌*◌}

unfoldable pub room : ℕ → ℕ → ℕ
room marks cells = 16 + 8 * marks + 32 * cells
