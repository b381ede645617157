use mathlib.Core.List.{foldl}
use mathlib.Core.Path.{◌≡◌}
use lib.ListN.{length, drop}
use Rattle.std.specs.Prelude.{Some}
use Rattle.tape.specs.Scanning.{begun, turn}
use Rattle.tape.proofs.scan.over.Given as goal

abbrev pub invariant-loop-c : goal.invariant-loop-c
invariant-loop-c l =
    (length l.numbers ≡ 5) × (foldl turn (Some (record { scan = l.scan; numbers = l.numbers })) (drop l.c-index l.bytes) ≡ foldl turn (Some begun) l.bytes)
