-- The verdict on a stock, of whose trades it uses only the figures (document 01, "Moments", "Numbers given back").
-- Assumes nothing.
use Rattle.std.specs.Prelude.{[], ◌∷◌}
use Rattle.forms.specs.Choice.{any_of}
use Rattle.rules.specs.Stock.{clock_of}
use Rattle.rules.specs.Moments.{next, past_at}
use Rattle.rules.specs.Numbers.{bad_stock}
use Rattle.rules.specs.declared.Figures.{Figures}
use Rattle.rules.specs.declared.Stock.{Stock}
use Rattle.judge.specs.declared.Verdict.{Verdict}

-- its earliest moment, and whether it is rubbish: it is bad by itself, or that moment is dated before the clock. With good trades this is all of
-- document 01's rubbish (the law `rubbish_is`)
abbrev pub verdict_of : Figures → Stock → Verdict
verdict_of f s = record { earliest = next f s; rubbish = any_of (bad_stock s ∷ past_at (clock_of s) (next f s) ∷ []) }
