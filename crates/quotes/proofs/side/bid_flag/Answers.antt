use Prim.Native.Nat.{ℕ}
use mathlib.Core.Bool.{true, false}
use mathlib.Core.Path.{◌≡◌}
use Rattle.std.specs.Prelude.{Option, Some, None, is_some}
use Rattle.forms.proofs.Choice.{tests}
use Rattle.band.specs.declared.Bands.{Bands}
use Rattle.rules.specs.Quotes.{bid_flag}
use Rattle.quotes.specs.Shown.{or_zeros}
use Rattle.quotes.proofs.side.bid_flag.Goals as goal

by_bands : (in_force : Option Bands) (bands : Bands) (bid r : ℕ) → in_force ≡ Some bands → r ≡ bid_flag true bands bid
    → r ≡ bid_flag (is_some in_force) (or_zeros in_force) bid
by_bands in_force bands bid r e q = rw e q

by_none : (in_force : Option Bands) (bid r : ℕ) → in_force ≡ None → r ≡ bid_flag false (or_zeros None) bid
    → r ≡ bid_flag (is_some in_force) (or_zeros in_force) bid
by_none in_force bid r e q = rw e q

ruleset flags = (by_bands, by_none, tests)

pub returns-then-b-eq0 : goal.returns-then-b-eq0
unfolding bid_flag
returns-then-b-eq0 c = search tests

pub returns-in-Some : goal.returns-in-Some
unfolding bid_flag
returns-in-Some c = search flags depth 8

pub returns-in-Some-2 : goal.returns-in-Some-2
unfolding bid_flag
returns-in-Some-2 c = search flags depth 8

pub returns-in_default-2 : goal.returns-in_default-2
unfolding bid_flag
returns-in_default-2 c = search flags depth 8

pub returns-in_default : goal.returns-in_default
unfolding bid_flag
returns-in_default c = search flags depth 8
