-- Ordered checks: they run in the order in which they stand, and the first that applies gives the number.
-- Assumes nothing.
use Rattle.std.specs.Prelude.{ℕ, Bool, true, false, not, ◌&&◌, List, [], ◌∷◌, ◌≡◌, eqb}
use Rattle.forms.specs.Choice.{if◌then◌otherwise◌}

-- a number, and the test for which it is given
infix 80 ◌when◌
pub data Check : Type 0 where
  ◌when◌ : ℕ → Bool → Check

-- the number of the first check that applies, 0 where none does
unfoldable pub first : List Check → ℕ
first [] = 0
first (n when b ∷ cs) = if b then n otherwise first cs

-- no check of the list applies
abbrev pub Passed : List Check → Type 0
Passed [] = Unit {0}
Passed (n when b ∷ cs) = (b ≡ false) × Passed cs

-- no check of the list gives 0 when it applies
abbrev pub refusing : List Check → Bool
refusing [] = true
refusing (n when b ∷ cs) = not (eqb n 0) && refusing cs
