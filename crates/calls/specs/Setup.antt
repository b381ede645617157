-- What a setup makes of its list: a record for each four numbers, and the number of its answer (document 01, "What the book holds",
-- "Numbers given back").
-- Assumes nothing.
use Rattle.std.specs.Prelude.{ℕ, ◌*◌, not, List, [], ◌∷◌, eqb, length}
use Rattle.forms.specs.Checks.{first}
use Rattle.forms.specs.Checks.Check.{◌when◌}
use Rattle.rules.specs.Numbers.{fresh, setup_checks}
use Rattle.rules.specs.Totals.{no_totals}
use Rattle.rules.specs.declared.Setup.{Setup}
use Rattle.stock.specs.declared.Record.{Record}

-- a setup for each four numbers: tier, leverage, primary, close
unfoldable pub setups_of : List ℕ → List Setup
setups_of (tier ∷ leverage ∷ primary ∷ close ∷ rest) =
    record { tier = tier; leverage = leverage; primary = primary; close = close } ∷ setups_of rest
setups_of [] = []
setups_of (_ ∷ []) = []
setups_of (_ ∷ _ ∷ []) = []
setups_of (_ ∷ _ ∷ _ ∷ []) = []

-- the record of a stock that has been set up: it holds no trade, and every total is 0
abbrev pub record_of : ℕ → Setup → Record
record_of end u = record { stock = (fresh end u).stock; count = 0; totals = no_totals }

-- the number of a setup: 1 where the list's length is no multiple of four, else what the rules give
unfoldable pub setup_number : ℕ → ℕ → ℕ → ℕ → List ℕ → ℕ
setup_number stocks times prices end list = first (
    1 when not (eqb (length list) (4 * length (setups_of list))) ∷
    setup_checks stocks times prices end (setups_of list))
