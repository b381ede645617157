-- Bands that are computed where some are in force, as they are shown.
-- Assumes nothing.
use mathlib.Core.Bool.{true}
use mathlib.Core.Path.{◌≡◌, sym}
use Rattle.std.specs.Prelude.{Option, Some, None, is_some, IfSome}
use Rattle.forms.proofs.Choice.{if_false}
use Rattle.band.specs.declared.Bands.{Bands}
use Rattle.rules.specs.Quotes.{in_force, bands_in}
use Rattle.rules.specs.States.{no_quotes}
use Rattle.quotes.specs.Parts.{stock_by}
use Rattle.quotes.specs.Shown.{or_zeros}
use Rattle.quotes.specs.declared.Basis.{Basis}

pub as_shown : (b : Basis) (bands : Option Bands) → is_some bands ≡ in_force (stock_by b no_quotes)
    → IfSome bands (λ those. in_force (stock_by b no_quotes) ≡ true → those ≡ bands_in (stock_by b no_quotes)) → or_zeros bands ≡ bands_in (stock_by b no_quotes)
unfolding bands_in
as_shown b (Some those) e h = h (sym e)
as_shown b None e h = sym (if_false _ _ _ (sym e))
