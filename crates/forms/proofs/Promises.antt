-- A promise that equates its result with one value determines it; one that allows any number does not.
-- Assumes nothing.
use Prim.Native.Nat.{ℕ}
use mathlib.Core.Path.{◌≡◌, ◌∙◌, sym}
use native.Mathlib.Omega.{arith}
use Rattle.forms.specs.Promises.{Determines}

pub agree : {A : Type 0} (value : A) → Determines (λ r. r ≡ value)
agree value r s e f = e ∙ sym f

pub not_any : Determines (λ (n : ℕ). Unit {0}) → ⊥
not_any d = let e = d 0 1 tt tt in omega (arith, e)
