use Rattle.std.proofs.Common.{◌≡◌, ◌++◌, take, drop, map}
use Rattle.calls.specs.Setup.{setups_of, record_of}
use Rattle.book.proofs.fresh.fill.Given as goal

abbrev pub invariant-loop-i : goal.invariant-loop-i
invariant-loop-i l = l.book ≡ take l.i (map (record_of l.end) (setups_of l.list)) ++ drop l.i l.initial.book
