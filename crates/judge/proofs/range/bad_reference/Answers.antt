use mathlib.Core.Bool.{Bool, ◌&&◌, ◌||◌}
use mathlib.Core.Path.{◌≡◌}
use lib.Dec.{leb, eqb}
use Rattle.rules.specs.Numbers.{not_reference, bad_reference}
use Rattle.quotes.specs.Parts.{bare}
use Rattle.quotes.specs.declared.Kept.{Kept}
use Rattle.forms.proofs.Bools.{joined}
use Rattle.judge.proofs.range.bad_reference.Goals as goal

bad_reference_lem : (k : Kept) (bad : Bool) → bad ≡ not_reference k.reference.price
    → (bad || ((eqb k.reference.price.count 0 && leb 1 k.course.state) && leb k.course.state 4)) ≡ bad_reference (bare k)
unfolding bad_reference
bad_reference_lem k bad e = simp (e, joined)

pub returns : goal.returns
returns c = search bad_reference_lem
