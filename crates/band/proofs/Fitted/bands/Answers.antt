use borrow.Author.Tests.{eqb-true, eqb-false}
use mathlib.Core.Path.{◌≡◌}
use native.Mathlib.Omega.{arith}
use native.Mathlib.Nat.{max-eq_left, max-eq_right}
use lib.Dec.{eqb}
use Prim.Native.Nat.{ℕ, ◌+◌, ◌-◌, ◌*◌, ◌/◌, max}
use Rattle.forms.specs.Choice.{if◌then◌otherwise◌}
use Rattle.forms.proofs.Choice.{if_arms}
use Rattle.band.specs.Band.{spread_of, cent, bands_of, lower_of, upper_of}
use Rattle.band.specs.declared.Bands.{Bands}
use Rattle.band.specs.declared.Mean.{Mean}
use Rattle.band.proofs.Laws.{bands_of_none}
use Rattle.band.proofs.Fitted.bands.Goals as goal

-- whole cents are none or one at least
some_cents : (x count : ℕ) → max (cent x count) 100 ≡ (if eqb (cent x count) 0 then 100 otherwise cent x count)
unfolding cent
some_cents x count =
    let q = (x + 5_000 * count) / (10_000 * count) in
    if_arms (λ u. max (q * 100) 100 ≡ u) (eqb (q * 100) 0)
    (λ e. max-eq_right (omega (arith, eqb-true (q * 100) 0 e)))
    (λ e. let some = eqb-false (q * 100) 0 e in max-eq_left (omega arith))

-- what the calls promise
drawn : (m : Mean) (p k a l u less most : ℕ) → a ≡ spread_of m.sum m.count p k → less ≡ 100 * m.sum - a → l ≡ cent less m.count
    → u ≡ cent (100 * m.sum + a) m.count → most ≡ max u 100 → ◌≡◌ {A = Bands} (record { lower = l; upper = most }) (bands_of m.sum m.count p k)
unfolding bands_of lower_of upper_of
drawn m p k a l u less most ea es el eu e = simp (e, el, es, eu, ea, some_cents)

pub returns-then-m-eq0 : goal.returns-then-m-eq0
returns-then-m-eq0 c = search bands_of_none

pub returns : goal.returns
returns c = search drawn
