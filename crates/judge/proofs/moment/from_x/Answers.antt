use native.Mathlib.Omega.{arith}
use Prim.Native.Nat.{◌+◌}
use mathlib.Core.Path.{◌≡◌}
use lib.Dec.{eqb}
use lib.ListN.{drop}
use Rattle.rules.specs.Moments.{mark_c, mark_p, mark_x, ◌at◌while◌, sooner, moment_table, earliest}
use Rattle.rules.specs.declared.Figures.{Figures}
use Rattle.rules.specs.declared.Moment.{Moment}
use Rattle.quotes.specs.Parts.{bare}
use Rattle.quotes.specs.declared.Kept.{Kept}
use Rattle.judge.proofs.moment.from_x.Goals as goal

middle_three : (f : Figures) (k : Kept) (v x y r : Moment)
    → v ≡ earliest (drop 6 (moment_table f (bare k)))
    → x ≡ sooner (mark_c at k.end + 300_000 while eqb k.course.state 4) v
    → y ≡ sooner (mark_p at k.course.pause + 600_000 while eqb k.course.state 3) x
    → r ≡ sooner (mark_x at k.course.entry + 15_000 while eqb k.course.state 2) y
    → r ≡ earliest (drop 3 (moment_table f (bare k)))
unfolding earliest moment_table
middle_three f k v x y r ev ex ey er = simp (er, ey, ex, ev)

pub overflow_add-pause : goal.overflow_add-pause
overflow_add-pause c = omega (arith, c.struct_known-2-1.given)

pub overflow_add-entry : goal.overflow_add-entry
overflow_add-entry c = omega (arith, c.struct_known-1.given)

pub returns : goal.returns
returns c = search middle_three
