use native.Mathlib.Omega.{arith}
use native.Mathlib.Nat.{div-eq_of_lt-le, div-add-mod', mod-lt}
use mathlib.Core.Path.{◌≡◌, sym}
use Prim.Native.Nat.{ℕ, ◌+◌, ◌-◌, ◌*◌, ◌/◌, ◌%◌, ◌≤◌, ◌<◌}
use Rattle.band.specs.Band.{printed_of}
use Rattle.band.proofs.Laws.{printed_of_none}
use Rattle.band.proofs.printed.Goals as goal

-- of one price
alone : (s c : ℕ) → c ≡ 1 → s ≡ printed_of s c
unfolding printed_of
alone s c e = rw e (sym (div-eq_of_lt-le 2 (omega arith) (omega arith)))

-- of no price
none : (s c : ℕ) → c ≡ 0 → 0 ≡ printed_of s c
none s c z = sym (printed_of_none s c z)

module _ (s c : ℕ) (z : c ≡ 0 → ⊥) where
  -- the quotient times the count, and the rest
  parts : (s / c * c + s % c ≡ s) × (s % c < c)
  parts = (div-add-mod' s c, mod-lt s (omega arith))

  -- the rest is at least half of the count
  up : c - s % c ≤ s % c → s / c + 1 ≡ printed_of s c
  unfolding printed_of
  up h = let k = parts in sym (div-eq_of_lt-le (2 * c) (omega arith) (omega arith))

  down : s % c < c - s % c → s / c ≡ printed_of s c
  unfolding printed_of
  down h = let k = parts in sym (div-eq_of_lt-le (2 * c) (omega arith) (omega arith))

pub returns-then-c-eq1 : goal.returns-then-c-eq1
returns-then-c-eq1 c = search alone

pub returns-then-c-eq0 : goal.returns-then-c-eq0
returns-then-c-eq0 c = search none

pub returns-then-rest-c : goal.returns-then-rest-c
returns-then-rest-c c = search down

pub returns : goal.returns
returns c = search up
