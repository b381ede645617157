use mathlib.Core.Path.{◌≡◌}
use native.Mathlib.Omega.{arith}
use Prim.Native.Nat.{ℕ, ◌+◌, ◌-◌, ◌*◌}
use lib.Dec.{leb}
use Rattle.std.specs.Int.{abs_diff}
use Rattle.band.specs.Band.{fit, distance, moves_of, moves_by}
use Rattle.band.specs.declared.Mean.{Mean}
use Rattle.band.proofs.moves.Goals as goal

-- what the functions promise
apart : (mean reference m n : Mean) (off : ℕ) → m ≡ fit mean → n ≡ fit reference → off ≡ abs_diff (n.sum * m.count) (m.sum * n.count)
    → leb (n.sum * m.count) (100 * off) ≡ moves_by mean reference
unfolding distance moves_of
apart mean reference m n off em en e =
    let d : off ≡ (m.sum * n.count - n.sum * m.count) + (n.sum * m.count - m.sum * n.count) = omega (arith, e) in
    rw (d, em, en)

pub returns : goal.returns
returns c = search apart
