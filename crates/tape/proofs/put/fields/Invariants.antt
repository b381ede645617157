use Prim.Native.Nat.{◌+◌}
use mathlib.Core.List.{map}
use mathlib.Core.Path.{◌≡◌}
use lib.ListN.{length, take}
use lib.Seq.{sets}
use Rattle.tape.specs.Lines.{parted}
use Rattle.tape.specs.Printing.{digits}
use Rattle.tape.proofs.put.fields.Given as goal

abbrev pub invariant-loop-n : goal.invariant-loop-n
invariant-loop-n l =
    (length l.out ≡ length l.initial.out) × (l.to ≡ l.at + length (parted (map digits (take l.n-index l.numbers)))) × (l.out ≡ sets l.initial.out l.at (parted (map digits (take l.n-index l.numbers))))
