-- The nearest price is the best one: what the least distance does at a bid or an offer, in the words of the rules.
-- Assumes nothing.
use Prim.Native.Nat.{ℕ, ◌+◌, ◌-◌, ◌%◌, ◌≤◌, ◌<◌, min}
use mathlib.Core.Bool.{Bool, true, false, ◌||◌}
use mathlib.Core.List.{List, [], ◌∷◌, foldl}
use mathlib.Core.Path.{◌≡◌, refl}
use native.Mathlib.Nat.{sub_self}
use native.Mathlib.Omega.{arith}
use borrow.Author.Tests.{ltb-true, ltb-false, eqb-true, eqb-false}
use lib.Dec.{ltb, eqb}
use lib.ListN.{length}
use mir.Syntax.{w32}
use mir.Val.{Fits}
use Rattle.forms.specs.Choice.{if◌then◌otherwise◌}
use Rattle.forms.proofs.Bools.{joined}
use Rattle.forms.proofs.Choice.{if_arms}
use Rattle.rules.specs.Quotes.{higher, lesser, best_bid, best_offer}

-- numbers, and what tests told of them
ruleset told = (arith, ltb-true, ltb-false, eqb-true, eqb-false)

-- ------------------------------------------------------------------ prices of an iterator

-- the next price folded onto what there is so far
pub turn : (f : ℕ → ℕ → ℕ) (prices rest : List ℕ) (price a b w : ℕ) → prices ≡ price ∷ rest → b ≡ f a price → foldl f a prices ≡ w → foldl f b rest ≡ w
turn f prices rest price a b w e g q = rw g (rw e at q)

-- none is left
pub done : (f : ℕ → ℕ → ℕ) (prices : List ℕ) (a w : ℕ) → length prices ≡ 0 → foldl f a prices ≡ w → a ≡ w
done f [] a w e q = q
done f (price ∷ prices) a w e q = absurd (omega (arith, e))

-- ------------------------------------------------------------------ bids

-- before the first bid the distance is the cap, and the best bid is none
pub no_bid_yet : (on : Bool) (upper cap : ℕ) (bids : List ℕ) → foldl (higher on upper) (cap - cap) bids ≡ best_bid on upper bids
unfolding best_bid
no_bid_yet on upper cap bids = rw sub_self

pub higher_bid : (on : Bool) (upper cap gap bid r : ℕ) → cap ≡ (if on then min upper 4_294_967_295 otherwise 4_294_967_295) → Fits w32 bid
    → gap ≤ cap → r ≡ min gap ((cap + (4_294_967_296 - bid)) % 4_294_967_296) → cap - r ≡ higher on upper (cap - gap) bid
unfolding higher if◌then◌otherwise◌
higher_bid true upper cap gap bid r e k h q =
    simp joined (if_arms (λ x. cap - r ≡ x) (ltb upper bid) (λ t. omega told) (λ t. omega told))
higher_bid false upper cap gap bid r e k h q = simp joined (omega arith)

-- ------------------------------------------------------------------ offers

-- a choice by one of two tests, as two choices
if_or : {A : Type 0} (a b : Bool) (x y : A) → (if a || b then x otherwise y) ≡ (if a then x otherwise if b then x otherwise y)
unfolding if◌then◌otherwise◌
if_or true b x y = refl
if_or false b x y = refl

-- the price at a distance from the least that counts, which is 0 where the floor is the highest number
abbrev pub price_at : ℕ → ℕ → ℕ
price_at least gap = (least + gap) % 4_294_967_296

-- the greatest distance, which leads to 2^32, which is 0
abbrev pub farthest : ℕ → ℕ
farthest least = (4_294_967_296 - least) % 4_294_967_296

-- before the first offer the distance leads to 2^32, and the best offer is none
pub no_offer_yet : (on : Bool) (lower least gap : ℕ) (offers : List ℕ) → price_at least gap ≡ 0
    → foldl (lesser on lower) (price_at least gap) offers ≡ best_offer on lower offers
unfolding best_offer
no_offer_yet on lower least gap offers none = rw none

module _ (floor least gap offer r : ℕ) (f : Fits w32 floor) (n : least ≡ (floor + 1) % 4_294_967_296) (k : Fits w32 offer) (h : gap ≤ farthest least)
    (q : r ≡ min gap ((offer + (4_294_967_296 - least)) % 4_294_967_296)) where
  abbrev best : ℕ
  best = price_at least gap

  abbrev Is : ℕ → Type 0
  Is price = price_at least r ≡ price

  left : offer ≤ floor → Is best
  left l = omega arith

  taken : floor < offer → Is (if eqb best 0 then offer otherwise min best offer)
  taken l = if_arms Is (eqb best 0) (λ t. omega told) (λ t. omega told)

  pub lesser_offer : (on : Bool) (lower : ℕ) → floor ≡ (if on then min (lower - 1) 4_294_967_295 otherwise 0)
      → price_at least r ≡ lesser on lower (price_at least gap) offer
  unfolding lesser if◌then◌otherwise◌
  lesser_offer true lower e =
      simp (joined, if_or)
      (if_arms Is (eqb offer 0) (λ t. left (omega told))
      (λ t. if_arms Is (ltb offer lower) (λ u. left (omega told)) (λ u. taken (omega told))))
  lesser_offer false lower e =
      simp joined (if_arms Is (eqb offer 0) (λ t. left (omega told)) (λ t. taken (omega told)))
