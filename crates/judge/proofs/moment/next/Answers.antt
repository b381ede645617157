use Prim.Native.Nat.{ℕ, ◌-◌}
use mathlib.Core.Bool.{◌&&◌}
use mathlib.Core.Path.{◌≡◌}
use lib.Dec.{leb, ltb}
use lib.ListN.{drop}
use Rattle.rules.specs.Moments.{mark_w, mark_z, ◌at◌while◌, sooner, moment_table, earliest, next}
use Rattle.rules.specs.declared.Figures.{Figures}
use Rattle.rules.specs.declared.Moment.{Moment}
use Rattle.quotes.specs.Parts.{bare}
use Rattle.quotes.specs.declared.Kept.{Kept}
use Rattle.forms.proofs.Bools.{joined}
use Rattle.judge.proofs.moment.next.Goals as goal

first_three : (f : Figures) (k : Kept) (edge : ℕ) (v x y r : Moment)
    → edge ≡ k.end - 1_500_000
    → v ≡ earliest (drop 3 (moment_table f (bare k)))
    → x ≡ sooner (mark_w at edge while (leb k.course.state 4 && ltb k.course.clock edge)) v
    → y ≡ sooner (mark_w at 900_000 while (leb k.course.state 4 && ltb k.course.clock 900_000)) x
    → r ≡ sooner (mark_z at k.end while leb k.course.state 2) y
    → r ≡ next f (bare k)
unfolding next earliest moment_table
first_three f k edge v x y r ee ev ex ey er = simp (er, ey, ex, ev, ee, joined)

pub returns : goal.returns
returns c = search first_three
