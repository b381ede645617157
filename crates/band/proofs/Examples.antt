-- The examples, by computation.
-- Assumes nothing.
use mathlib.Core.Bool.{true}
use mathlib.Core.Path.{◌≡◌, refl}
use Rattle.forms.specs.Choice.{if◌then◌otherwise◌, all_of, any_of}
use Rattle.forms.specs.Tables.{every}
use Rattle.band.specs.Band.{percent_of, factor_of, spread_of, cent, lower_of, upper_of, printed_of, distance, moves_of}
use Rattle.band.specs.Examples.{right, by_hand}

pub examples : every right by_hand ≡ true
unfolding if◌then◌otherwise◌ all_of any_of every right by_hand percent_of factor_of spread_of cent lower_of upper_of printed_of distance moves_of
examples = refl
