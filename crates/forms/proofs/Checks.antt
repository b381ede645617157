-- The laws by which `search` walks down a list of ordered checks, and what it is worth to have passed them.
-- Assumes nothing.
use Prim.Native.Nat.{ℕ, zero, suc}
use mathlib.Core.Bool.{Bool, true, false, not, ◌&&◌}
use mathlib.Core.List.{List, [], ◌∷◌}
use mathlib.Core.Path.{◌≡◌, refl, sym}
use borrow.Author.Tests.{eq-eqb}
use native.Mathlib.Omega.{arith}
use lib.Dec.{T, eqb}
use Rattle.forms.proofs.Choice.{ne_not, compared}
use Rattle.forms.specs.Choice.{if◌then◌otherwise◌}
use Rattle.forms.specs.Checks.{Check, first, Passed, refusing}
use Rattle.forms.specs.Checks.Check.{◌when◌}

-- ------------------------------------------------------------------ down a list

pub hit : (b : Bool) (n : ℕ) (cs : List Check) → b ≡ true → n ≡ first (n when b ∷ cs)
unfolding first if◌then◌otherwise◌
hit b n cs e = rw e

pub miss : (b : Bool) (n x : ℕ) (cs : List Check) → b ≡ false → x ≡ first cs → x ≡ first (n when b ∷ cs)
unfolding first if◌then◌otherwise◌
miss b n x cs e q = rw e q

pub no_check : 0 ≡ first []
unfolding first
no_check = refl

-- a number that is its own check
pub own : (n : ℕ) → n ≡ first (n when not (eqb n 0) ∷ [])
unfolding first if◌then◌otherwise◌
own zero = refl
own (suc n) = rw (ne_not (suc n) 0 (λ e. omega arith))

-- the returns of a row of refusals: `search firsts depth 20`
pub ruleset firsts = (hit, miss, no_check, own, compared)

-- ------------------------------------------------------------------ what a number tells of the checks

-- a check of another number did not apply, and the checks after it gave what was given
pub beyond : (given : ℕ) (b : Bool) (n : ℕ) (cs : List Check) → T (not (eqb n given)) → first (n when b ∷ cs) ≡ given
    → (b ≡ false) × (first cs ≡ given)
unfolding first if◌then◌otherwise◌
beyond given true n cs t e = absurd (rw (eq-eqb n given e) at t)
beyond given false n cs t e = (refl, e)

-- a number that is its own check
pub own_passed : (n : ℕ) (cs : List Check) → first (n when not (eqb n 0) ∷ cs) ≡ 0 → (n ≡ 0) × (first cs ≡ 0)
unfolding first if◌then◌otherwise◌
own_passed zero cs e = (refl, e)
own_passed (suc n) cs e =
    let q : suc n ≡ 0 = rw (ne_not (suc n) 0 (λ z. omega arith)) at e in
    absurd (omega arith)

-- the last check applied where its number was given
pub applied : (b : Bool) (n : ℕ) → T (not (eqb n 0)) → first (n when b ∷ []) ≡ n → b ≡ true
unfolding first if◌then◌otherwise◌
applied true n t e = refl
applied false n t e = absurd (rw (eq-eqb n 0 (sym e)) at t)

and_left : (a b : Bool) → T (a && b) → T a
and_left true b t = tt
and_left false b t = t

and_right : (a b : Bool) → T (a && b) → T b
and_right true b t = t
and_right false b t = absurd t

-- where no number is given, no check applies
pub passed : (cs : List Check) → T (refusing cs) → first cs ≡ 0 → Passed cs
passed [] t e = tt
passed (n when b ∷ cs) t e =
    let p = beyond 0 b n cs (and_left (not (eqb n 0)) (refusing cs) t) e in
    (p.0, passed cs (and_right (not (eqb n 0)) (refusing cs) t) p.1)

-- and where none applies, no number is given
pub all_passed : (cs : List Check) → Passed cs → first cs ≡ 0
unfolding first if◌then◌otherwise◌
all_passed [] p = refl
all_passed (n when b ∷ cs) p = rw p.0 (all_passed cs p.1)
