-- The version of the library, as a program reads it.
use Rattle.std.specs.Prelude.{ℕ, ◌+◌, ◌*◌}

-- major, minor and patch, a byte each, the major foremost
unfoldable pub version_of : ℕ → ℕ → ℕ → ℕ
version_of major minor patch = (major * 256 + minor) * 256 + patch

-- 5.1.0
unfoldable pub version : ℕ
version = version_of 5 1 0
