use Rattle.std.proofs.Common.{◌≡◌, ◌+◌, ◌*◌, ◌≤◌, take}
use mathlib.Core.List.{foldl}
use Rattle.window.proofs.pass.sum.Given as goal

abbrev pub invariant-loop-p : goal.invariant-loop-p
invariant-loop-p l =
    (l.low ≤ 65_535 * l.p-index) × (l.high ≤ 65_535 * l.p-index) × (65_536 * l.high + l.low ≡ foldl ◌+◌ 0 (take l.p-index l.prices))
