-- The version of the library's functions, structs and numbers.
-- Assumes nothing.
use Rattle.std.specs.Prelude.{ℕ}

-- the version, which is SUMPHERON_VERSION of include/sumpheron.h; it counts up when a struct, a function or a number changes
abbrev pub version : ℕ
version = 5
