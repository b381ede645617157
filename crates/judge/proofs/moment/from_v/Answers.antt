use borrow.Author.Rules.{rules}
use Prim.Native.Nat.{◌+◌}
use mathlib.Core.Bool.{not, ◌&&◌}
use mathlib.Core.Path.{◌≡◌}
use lib.Dec.{leb, eqb}
use lib.ListN.{drop}
use Rattle.rules.specs.Moments.{mark_h, mark_f, mark_v, ◌at◌while◌, no_moment, sooner, moment_table, earliest}
use Rattle.rules.specs.declared.Figures.{Figures}
use Rattle.rules.specs.declared.Moment.{Moment}
use Rattle.quotes.specs.Parts.{bare}
use Rattle.quotes.specs.declared.Kept.{Kept}
use Rattle.forms.proofs.Bools.{joined}
use Rattle.judge.proofs.moment.from_v.Goals as goal

last_three : (f : Figures) (k : Kept) (none x y r : Moment)
    → none ≡ no_moment
    → x ≡ sooner
    (mark_h at k.reference.start + 30_000
    while ((leb 1 k.course.state && leb k.course.state 4) && not (eqb k.reference.hold 0))) none
    → y ≡ sooner (mark_f at 300_000 while (eqb k.course.state 0 && not (eqb k.course.early 0))) x
    → r ≡ sooner (mark_v at f.oldest + 300_000 while (leb k.course.state 4 && not (eqb f.count 0))) y
    → r ≡ earliest (drop 6 (moment_table f (bare k)))
unfolding earliest moment_table
last_three f k none x y r e ex ey er = simp (er, ey, ex, e, joined)

pub returns : goal.returns
returns c = let none : c.default.result ≡ no_moment = search rules in search last_three
