-- The least distance of two limit pauses is reached, so no greater one holds.
-- Assumes nothing.
use Prim.Native.Nat.{ℕ}
use mathlib.Core.List.{[], ◌∷◌, map}
use mathlib.Core.Path.{refl, subst}
use native.Mathlib.Omega.{arith}
use Rattle.forms.specs.Choice.{if◌then◌otherwise◌, all_of, any_of}
use Rattle.forms.specs.Checks.{first}
use Rattle.rules.specs.Numbers.{not_price, bad_end, bad_setup, bad_shape, or_bad_setup, setup_checks, sets_up}
use Rattle.rules.specs.Book.{Accepted}
use Rattle.rules.specs.LimitPauses.{Apart}
use Rattle.rules.specs.Days.{on_0, listed, soonest_again, pauses_by, pauses_of}
use Rattle.rules.specs.Demands.{PausesApart, NoFarther}
use Rattle.rules.proofs.Examples.{pauses_counted}

accepted : Accepted 23_400_000 (listed 2 ∷ [])
unfolding if◌then◌otherwise◌ all_of any_of first bad_shape bad_end not_price bad_setup or_bad_setup setup_checks sets_up
accepted = refl

of_the_day : (d : ℕ) → PausesApart d → Apart d (pauses_of soonest_again)
unfolding pauses_by
of_the_day d always = always 23_400_000 (listed 2 ∷ []) accepted (map on_0 soonest_again.calls) 0 (omega arith)

pub no_farther : NoFarther
no_farther d always =
    let k : Apart d (15_000 ∷ 330_000 ∷ 945_000 ∷ []) = subst (Apart d) pauses_counted.0 (of_the_day d always) in
    omega (arith, k.0.0)
