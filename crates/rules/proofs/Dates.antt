-- Dates of one session that lie apart are few: a law on lists of dates, whatever they are dates of.
-- Assumes nothing.
use Prim.Native.Nat.{ℕ, zero, suc, ◌+◌, ◌*◌, ◌≤◌, ◌<◌}
use mathlib.Core.List.{List, [], ◌∷◌}
use mathlib.Core.Path.{◌≡◌, refl, ap}
use native.Mathlib.Omega.{arith}
use lib.ListN.{length}
use Rattle.rules.specs.Machine.{Every}
use Rattle.rules.specs.LimitPauses.{Apart, least_distance, pauses_bound}
use Rattle.rules.specs.Days.{evenly}
use Rattle.rules.specs.Demands.{DatesFew, NoFewer}

-- each of the dates after t takes up the distance
distances : (end t : ℕ) (ts : List ℕ) → Apart least_distance (t ∷ ts) → Every (λ s. s < end) (t ∷ ts) → t + least_distance * length ts < end
distances end t [] a b = omega (arith, b.0)
distances end t (s ∷ ts) a b = omega (arith, a.0.0, distances end s ts a.1 b.1)

pub dates_few : DatesFew pauses_bound
dates_few [] a b = omega arith
dates_few (t ∷ ts) a b = omega (arith, distances _ t ts a b)

-- ------------------------------------------------------------------ and no smaller number holds

from : (b t n : ℕ) → b ≤ t → Every (λ s. b ≤ s) (evenly least_distance t n)
unfolding evenly
from b t zero l = tt
from b t (suc n) l = (l, from b (t + least_distance) n (omega arith))

evenly_apart : (t n : ℕ) → Apart least_distance (evenly least_distance t n)
unfolding evenly
evenly_apart t zero = tt
evenly_apart t (suc n) = (from (t + least_distance) (t + least_distance) n (omega arith), evenly_apart (t + least_distance) n)

evenly_below : (end t n : ℕ) → t + least_distance * n < end + least_distance → Every (λ s. s < end) (evenly least_distance t n)
unfolding evenly
evenly_below end t zero l = tt
evenly_below end t (suc n) l = (omega arith, evenly_below end (t + least_distance) n (omega arith))

evenly_long : (t n : ℕ) → length (evenly least_distance t n) ≡ n
unfolding evenly
evenly_long t zero = refl
evenly_long t (suc n) = ap suc (evenly_long (t + least_distance) n)

pub no_fewer : NoFewer
no_fewer n most =
    let dates = evenly least_distance 0 pauses_bound in
    omega (arith, evenly_long 0 pauses_bound, most dates (evenly_apart 0 pauses_bound) (evenly_below _ 0 pauses_bound (omega arith)))
