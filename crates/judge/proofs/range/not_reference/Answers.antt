use Prim.Native.Nat.{◌*◌, ◌%◌, ◌<◌}
use native.Mathlib.Nat.{mod-eq_of_lt}
use native.Mathlib.Omega.{arith}
use mathlib.Core.Bool.{◌||◌}
use mathlib.Core.Logic.{⊎_elim}
use mathlib.Core.Path.{◌≡◌}
use borrow.Author.Tests.{lt-ltb}
use lib.Dec.{ltb}
use Rattle.band.specs.declared.Mean.{Mean}
use Rattle.rules.specs.Numbers.{not_reference}
use Rattle.forms.proofs.Bools.{joined}
use Rattle.forms.proofs.Decides.{either_way, by_lt}
use Rattle.judge.proofs.range.not_reference.Goals as goal

-- over 512 the first test decides; up to 512 the remainder is the count
tested : (m : Mean) → ((ltb 512 m.count || ltb m.sum m.count) || ltb (999_999_999 * (m.count % 1_024)) m.sum) ≡ not_reference m
unfolding not_reference
tested m =
    ⊎_elim (λ over. rw (lt-ltb 512 m.count over) (simp joined))
    (λ few. let small : m.count < 1_024 = omega arith in rw (mod-eq_of_lt small) (simp joined))
    (either_way _ (by_lt 512 m.count))

pub returns : goal.returns
returns c = search tested
