use Rattle.std.proofs.Common.{◌≡◌, ◌++◌, length, drop, replicate}
use Rattle.window.proofs.wipe.Given as goal

abbrev pub invariant-loop-x : goal.invariant-loop-x
invariant-loop-x l = (length l.x-items ≡ length l.initial.x-items) × (l.x-items ≡ replicate l.x-index 0 ++ drop l.x-index l.initial.x-items)
