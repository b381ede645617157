use borrow.Author.Rules.{rules}
use native.Mathlib.Omega.{arith}
use Prim.Native.Nat.{ℕ, ◌≤◌}
use mathlib.Core.Bool.{false}
use mathlib.Core.List.{List, [], ◌∷◌, foldl}
use mathlib.Core.Path.{◌≡◌, refl}
use borrow.Author.Tests.{le-ltb}
use lib.Bits.{bit_or}
use Rattle.std.specs.List.{fold}
use Rattle.forms.specs.Choice.{if◌then◌otherwise◌}
use Rattle.forms.proofs.Bits.{or_left, or_right}
use Rattle.rules.specs.Numbers.{or_not_side}
use Rattle.judge.proofs.range.bits_of.Goals as goal

-- a side in range is not bad
fine : (side : ℕ) → side ≤ 999_999_999 → or_not_side false side ≡ false
unfolding or_not_side if◌then◌otherwise◌
fine side h = le-ltb 999_999_999 side h

-- the OR is at least each of its parts
all_fine : (sides : List ℕ) (bits : ℕ) → fold bit_or bits sides ≤ 999_999_999 → (bits ≤ 999_999_999) × (foldl or_not_side false sides ≡ false)
all_fine [] bits h = (h, refl)
all_fine (side ∷ sides) bits h =
    let rest = all_fine sides (bit_or bits side) h in
    (omega (arith, rest.0, or_left bits side), rw (fine side (omega (arith, rest.0, or_right bits side))) rest.1)

pub returns : goal.returns
returns c h =
    let bits : c.fold.result ≡ fold bit_or 0 c.args.sides = search rules in
    (all_fine c.args.sides 0 (rw bits at h)).1
