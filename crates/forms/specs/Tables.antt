-- Tables of numbers by row and column, and a test of every row of a table.
-- Assumes nothing.
use Rattle.std.specs.Prelude.{ℕ, Bool, List, [], map, get_or}
use Rattle.forms.specs.Choice.{all_of}

-- the entry in a row and a column, each counted from 0; 0 outside the table
abbrev pub entry : List (List ℕ) → ℕ → ℕ → ℕ
entry table row column = get_or (get_or table row []) column 0

-- the test holds of every row
unfoldable pub every : {A : Type 0} → (A → Bool) → List A → Bool
every right rows = all_of (map right rows)
