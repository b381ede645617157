use native.Mathlib.Omega.{arith}
use Prim.Native.Nat.{ℕ, ◌≤◌}
use mathlib.Core.Bool.{Bool, false}
use mathlib.Core.List.{foldl}
use mathlib.Core.Path.{◌≡◌, sym}
use lib.Bits.{bit_or}
use Rattle.forms.proofs.Bits.{or_left, or_right}
use Rattle.rules.specs.Numbers.{or_not_side, bad_quotes}
use Rattle.rules.specs.declared.Quotes.{Quotes}
use Rattle.judge.proofs.range.bad_quotes.Goals as goal

by_bits : (q : Quotes) (b o : ℕ) → (b ≤ 999_999_999 → foldl or_not_side false q.bids ≡ false) → (o ≤ 999_999_999 → foldl or_not_side false q.offers ≡ false)
    → bit_or b o ≤ 999_999_999 → false ≡ bad_quotes q
unfolding bad_quotes
by_bits q b o bids offers h =
    let l : b ≤ 999_999_999 = omega (arith, or_left b o) in
    let r : o ≤ 999_999_999 = omega (arith, or_right b o) in
    sym (rw (bids l) (offers r))

bad_quotes_lem : (q : Quotes) (bad r : Bool) → bad ≡ foldl or_not_side false q.bids → r ≡ foldl or_not_side bad q.offers → r ≡ bad_quotes q
unfolding bad_quotes
bad_quotes_lem q bad r e f = rw (f, e)

pub returns-then-bits-le-HIGHEST_PRICE : goal.returns-then-bits-le-HIGHEST_PRICE
returns-then-bits-le-HIGHEST_PRICE c = search by_bits

pub returns : goal.returns
returns c = search bad_quotes_lem
