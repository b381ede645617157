-- What an event makes of any totals, wrong ones too (document 02, R-4).
-- Assumes nothing.
use Rattle.std.specs.Prelude.{ℕ, Bool, not, [], ◌∷◌, eqb}
use Rattle.forms.specs.Choice.{if◌then◌otherwise◌, all_of, any_of}
use Rattle.rules.specs.Stock.{Paused, Late, clock_of}
use Rattle.rules.specs.Totals.{brought, wrong_totals}
use Rattle.rules.specs.declared.Stock.{Stock}
use Rattle.rules.specs.declared.Totals.{Totals}

-- what the rules make of them; totals that are wrong stay as they are
unfoldable pub bringing : ℕ → Stock → Stock → Totals → Totals
bringing price s s' t = if wrong_totals (clock_of s) t then t otherwise brought price s s' t

-- in a pause after an event, and in none before it
unfoldable pub pause_begins : ℕ → ℕ → Bool
pause_begins before after =
    all_of (any_of (eqb after Paused ∷ eqb after Late ∷ []) ∷ not (any_of (eqb before Paused ∷ eqb before Late ∷ [])) ∷ [])
