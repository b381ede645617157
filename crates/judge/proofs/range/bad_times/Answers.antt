use native.Mathlib.Omega.{arith}
use Prim.Native.Nat.{◌+◌}
use mathlib.Core.Bool.{◌||◌}
use mathlib.Core.Path.{◌≡◌}
use lib.Dec.{ltb}
use Rattle.rules.specs.Numbers.{bad_times}
use Rattle.quotes.specs.Parts.{bare}
use Rattle.quotes.specs.declared.Kept.{Kept}
use Rattle.forms.proofs.Bools.{joined}
use Rattle.judge.proofs.range.bad_times.Goals as goal

bad_times_lem : (k : Kept)
    → (ltb (k.end + 300_000) k.course.clock || ltb (k.end + 300_000) k.reference.start
    || ltb (k.end + 300_000) k.course.entry || ltb (k.end + 300_000) k.course.pause) ≡ bad_times (bare k)
unfolding bad_times
bad_times_lem k = simp joined

pub overflow_cast-pause : goal.overflow_cast-pause
overflow_cast-pause c = omega (arith, c.struct_known-5-1.given)

pub returns : goal.returns
returns c = search bad_times_lem
