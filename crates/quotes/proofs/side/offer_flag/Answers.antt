use Prim.Native.Nat.{ℕ}
use mathlib.Core.Bool.{true, false}
use mathlib.Core.Path.{◌≡◌}
use Rattle.std.specs.Prelude.{Option, Some, None, is_some}
use Rattle.forms.proofs.Choice.{tests}
use Rattle.band.specs.declared.Bands.{Bands}
use Rattle.rules.specs.Quotes.{offer_flag}
use Rattle.quotes.specs.Shown.{or_zeros}
use Rattle.quotes.proofs.side.offer_flag.Goals as goal

by_bands : (in_force : Option Bands) (bands : Bands) (offer r : ℕ) → in_force ≡ Some bands → r ≡ offer_flag true bands offer
    → r ≡ offer_flag (is_some in_force) (or_zeros in_force) offer
by_bands in_force bands offer r e q = rw e q

by_none : (in_force : Option Bands) (offer r : ℕ) → in_force ≡ None → r ≡ offer_flag false (or_zeros None) offer
    → r ≡ offer_flag (is_some in_force) (or_zeros in_force) offer
by_none in_force offer r e q = rw e q

ruleset flags = (by_bands, by_none, tests)

pub returns-then-o-eq0 : goal.returns-then-o-eq0
unfolding offer_flag
returns-then-o-eq0 c = search tests

pub returns-in-Some : goal.returns-in-Some
unfolding offer_flag
returns-in-Some c = search flags depth 8

pub returns-in-Some-2 : goal.returns-in-Some-2
unfolding offer_flag
returns-in-Some-2 c = search flags depth 8

pub returns-in_default-2 : goal.returns-in_default-2
unfolding offer_flag
returns-in_default-2 c = search flags depth 8

pub returns-in_default : goal.returns-in_default
unfolding offer_flag
returns-in_default c = search flags depth 8
