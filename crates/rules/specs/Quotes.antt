-- Bands in force, the best quotes and their flags (document 01, "Quotes and flags").
-- Assumes nothing.
use Rattle.std.specs.Prelude.{ℕ, max, min, Bool, false, ltb, eqb}
use mathlib.Core.List.{List, [], ◌∷◌, foldl}
use Rattle.forms.specs.Choice.{if◌then◌otherwise◌, all_of, any_of}
use Rattle.band.specs.Band.{percent_of, factor_of, bands_of}
use Rattle.band.specs.declared.Bands.{Bands}
use Rattle.rules.specs.Stock.{Trading, Limit, is, clock_of}
use Rattle.rules.specs.declared.Stock.{Stock}
use Rattle.rules.specs.declared.Best.{Best}

-- ------------------------------------------------------------------ "Quotes and flags": bands in force; "Band arithmetic"

-- the states that have bands: Trading and Limit
unfoldable pub in_force : Stock → Bool
in_force s = any_of (is Trading s ∷ is Limit s ∷ [])

-- the time that decides k: in Limit that of its entry
unfoldable pub k_time : Stock → ℕ
k_time s = if is Limit s then s.course.entry otherwise clock_of s

-- lower and upper, 0 outside the states in which bands are in force
unfoldable pub bands_in : Stock → Bands
bands_in s =
    if in_force s then
    bands_of s.reference.price.sum s.reference.price.count (percent_of s.setup.tier s.setup.close)
    (factor_of s.setup.leverage (k_time s) s.end)
    otherwise record { lower = 0; upper = 0 }

-- ------------------------------------------------------------------ "Quotes and flags": the best bid and the best offer

-- the better of two bids: the higher one, but none above the upper band in force
unfoldable pub higher : Bool → ℕ → ℕ → ℕ → ℕ
higher on upper best bid = if all_of (on ∷ ltb upper bid ∷ []) then best otherwise max best bid

-- the better of two offers: the lower one, but none that is absent or below the lower band in force
unfoldable pub lesser : Bool → ℕ → ℕ → ℕ → ℕ
lesser on lower best offer =
    if any_of (eqb offer 0 ∷ all_of (on ∷ ltb offer lower ∷ []) ∷ []) then best otherwise
    if eqb best 0 then offer otherwise
    min best offer

-- the best bid of all participants, 0 where none counts
unfoldable pub best_bid : Bool → ℕ → List ℕ → ℕ
best_bid on upper bids = foldl (higher on upper) 0 bids

-- the best offer of all participants, 0 where none counts
unfoldable pub best_offer : Bool → ℕ → List ℕ → ℕ
best_offer on lower offers = foldl (lesser on lower) 0 offers

-- ------------------------------------------------------------------ "Quotes and flags": the four flags

-- the flag of a best bid: 0 where it is absent, 2 (non-executable) under the lower band, 3 (limit) at the upper band, else 1 (plain)
unfoldable pub bid_flag : Bool → Bands → ℕ → ℕ
bid_flag on bands bid =
    if eqb bid 0 then 0 otherwise
    if on then (if ltb bid bands.lower then 2 otherwise if eqb bid bands.upper then 3 otherwise 1) otherwise
    1

-- the flag of a best offer: 0 where it is absent, 2 over the upper band, 3 at the lower band, else 1
unfoldable pub offer_flag : Bool → Bands → ℕ → ℕ
offer_flag on bands offer =
    if eqb offer 0 then 0 otherwise
    if on then (if ltb bands.upper offer then 2 otherwise if eqb offer bands.lower then 3 otherwise 1) otherwise
    1

-- the best bid and the best offer of a stock, each with its flag
unfoldable pub best_of : Stock → Best
best_of s =
    let on = in_force s in
    let bands = bands_in s in
    let bid = best_bid on bands.upper s.quotes.bids in
    let offer = best_offer on bands.lower s.quotes.offers in
    record { bid = record { price = bid; flag = bid_flag on bands bid }; offer = record { price = offer; flag = offer_flag on bands offer } }

-- a side has the flag
unfoldable pub flagged : ℕ → Best → Bool
flagged flag b = any_of (eqb b.bid.flag flag ∷ eqb b.offer.flag flag ∷ [])

-- flag 3 on a side
abbrev pub at_limit : Stock → Bool
at_limit s = flagged 3 (best_of s)

-- flag 2 on a side ("Messages", P)
abbrev pub straddle : Stock → Bool
straddle s = flagged 2 (best_of s)

-- the best bid is higher than the best offer; where a side is absent nothing crosses
unfoldable pub crossed : Best → Bool
crossed b = if eqb b.offer.price 0 then false otherwise ltb b.offer.price b.bid.price
