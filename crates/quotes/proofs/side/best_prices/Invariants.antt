use mathlib.Core.List.{foldl}
use mathlib.Core.Path.{◌≡◌}
use Prim.Native.Nat.{◌-◌, ◌≤◌}
use lib.ListN.{length}
use Rattle.std.specs.Prelude.{is_some}
use Rattle.rules.specs.Quotes.{higher, lesser, best_bid, best_offer}
use Rattle.quotes.specs.Shown.{or_zeros}
use Rattle.quotes.proofs.Nearest.{price_at, farthest}
use Rattle.quotes.proofs.side.best_prices.Given as goal

abbrev pub invariant-loop-bid : goal.invariant-loop-bid
invariant-loop-bid l =
    let on = is_some l.fn.bands in
    let bands = or_zeros l.fn.bands in
    let bids = l.bid-iterator.a.rest.now in
    let offers = l.bid-iterator.b.rest.now in
    (length bids ≡ length offers)
    × (l.down ≤ l.cap)
    × (l.up ≤ farthest l.least)
    × (foldl (higher on bands.upper) (l.cap - l.down) bids ≡ best_bid on bands.upper l.fn.q.bids)
    × (foldl (lesser on bands.lower) (price_at l.least l.up) offers ≡ best_offer on bands.lower l.fn.q.offers)
