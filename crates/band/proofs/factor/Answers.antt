use native.Mathlib.Omega.{arith}
use Prim.Native.Nat.{◌-◌, ◌≤◌, ◌<◌}
use Rattle.band.specs.Band.{factor_of}
use Rattle.forms.proofs.Choice.{tests}
use Rattle.band.proofs.factor.Goals as goal

pub returns-then-leverage-gt3 : goal.returns-then-leverage-gt3
unfolding factor_of
returns-then-leverage-gt3 c = search tests

pub returns-then-time-lt-DOUBLED_UNTIL : goal.returns-then-time-lt-DOUBLED_UNTIL
unfolding factor_of
returns-then-time-lt-DOUBLED_UNTIL c = search tests depth 7

pub returns-then-end-time : goal.returns-then-end-time
unfolding factor_of
returns-then-end-time c =
    let a = c.args in
    let h : a.end - 1_500_000 ≤ a.time = omega arith in
    search tests depth 7

pub returns : goal.returns
unfolding factor_of
returns c =
    let a = c.args in
    let h : a.time < a.end - 1_500_000 = omega arith in
    search tests depth 7
