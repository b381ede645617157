use mathlib.Core.Bool.{Bool, ◌&&◌, ◌||◌}
use mathlib.Core.Path.{◌≡◌}
use lib.Dec.{ltb, eqb}
use Rattle.rules.specs.Numbers.{not_price, bad_setup}
use Rattle.rules.specs.declared.Setup.{Setup}
use Rattle.forms.proofs.Bools.{joined}
use Rattle.judge.proofs.bad_setup.Goals as goal

bad_setup_lem : (u : Setup) (primary close : Bool) → primary ≡ ltb 15 u.primary → close ≡ not_price u.close
    → (eqb u.tier 0 || ltb 2 u.tier || eqb u.leverage 0 || ltb 3 u.leverage || (eqb u.tier 1 && ltb 1 u.leverage)
    || primary || close) ≡ bad_setup u
unfolding bad_setup
bad_setup_lem u primary close e f = simp (e, f, joined)

pub returns : goal.returns
returns c = search bad_setup_lem
