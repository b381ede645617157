use borrow.Author.Rules.{rules}
use native.Mathlib.Omega.{arith}
use mathlib.Core.Path.{◌≡◌}
use Prim.Native.Nat.{ℕ, ◌+◌, ◌*◌, ◌/◌}
use Rattle.band.specs.Band.{cent}
use Rattle.band.proofs.to_cent.Goals as goal

-- with one more half cent, every two are a cent
alone : (x count : ℕ) → count ≡ 1 → (x / 5_000 + 1) / 2 * 100 ≡ cent x count
unfolding cent
alone x count e = rw e (omega arith)

pub returns-then-count-eq1 : goal.returns-then-count-eq1
returns-then-count-eq1 c = search alone

pub returns : goal.returns
unfolding cent
returns c = search rules
