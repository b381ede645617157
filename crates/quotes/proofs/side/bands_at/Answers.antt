use Prim.Native.Nat.{ℕ}
use mathlib.Core.Bool.{true}
use mathlib.Core.Path.{◌≡◌}
use Rattle.forms.proofs.Choice.{if_true}
use Rattle.band.specs.Band.{percent_of, factor_of, fit, bands_of}
use Rattle.band.specs.declared.Bands.{Bands}
use Rattle.rules.specs.Quotes.{in_force, k_time, bands_in}
use Rattle.rules.specs.States.{no_quotes}
use Rattle.quotes.specs.Parts.{stock_by}
use Rattle.quotes.specs.declared.Basis.{Basis}
use Rattle.quotes.proofs.side.bands_at.Goals as goal

those : (b : Basis) (percent time k : ℕ) (bands : Bands) → in_force (stock_by b no_quotes) ≡ true → percent ≡ percent_of b.tier b.close
    → time ≡ k_time (stock_by b no_quotes) → k ≡ factor_of b.leverage time b.end
    → bands ≡ bands_of (fit b.reference).sum (fit b.reference).count percent k → bands ≡ bands_in (stock_by b no_quotes)
unfolding bands_in
those b percent time k bands e ep et ek eb = simp (eb, ek, ep, et, e, if_true)

pub returns : goal.returns
returns c e = search those
