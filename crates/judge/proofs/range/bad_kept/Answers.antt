use Prim.Native.Nat.{ℕ, ◌-◌}
use mathlib.Core.Bool.{Bool, ◌&&◌, ◌||◌}
use mathlib.Core.Path.{◌≡◌}
use lib.Dec.{leb, ltb, eqb}
use Rattle.rules.specs.Numbers.{bad_end, bad_setup, bad_times, or_not_side, bad_quotes, bad_reference, bad_stock}
use Rattle.quotes.specs.Parts.{bare}
use Rattle.quotes.specs.declared.Kept.{Kept}
use Rattle.forms.specs.Choice.{if◌then◌otherwise◌}
use Rattle.forms.proofs.Bools.{joined}
use Rattle.judge.proofs.range.bad_kept.Goals as goal

bad_kept : (k : Kept) (setup end times reference : Bool) (edge : ℕ) → setup ≡ bad_setup k.setup → end ≡ bad_end k.end
    → times ≡ bad_times (bare k) → reference ≡ bad_reference (bare k) → edge ≡ k.end - 600_000
    → (ltb 5 k.course.state || setup || end || times || reference
    || (eqb k.course.state 3 && leb edge k.course.pause)) ≡ bad_stock (bare k)
unfolding bad_stock bad_quotes or_not_side if◌then◌otherwise◌
bad_kept k setup end times reference edge e1 e2 e3 e4 e5 = simp (e1, e2, e3, e4, e5, joined)

pub returns : goal.returns
returns c = search bad_kept
