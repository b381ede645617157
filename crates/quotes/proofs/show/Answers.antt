use borrow.Author.Rules.{rules}
use Prim.Native.Nat.{ℕ}
use mathlib.Core.Path.{◌≡◌, ◌∙◌}
use Rattle.std.specs.Prelude.{Option, is_some}
use Rattle.band.specs.declared.Bands.{Bands}
use Rattle.rules.specs.Quotes.{in_force, k_time, bands_in, best_bid, best_offer, bid_flag, offer_flag, best_of}
use Rattle.rules.specs.States.{no_quotes}
use Rattle.rules.specs.declared.Quotes.{Quotes}
use Rattle.quotes.specs.Parts.{stock_by}
use Rattle.quotes.specs.Shown.{shown_of, or_zeros}
use Rattle.quotes.specs.declared.Basis.{Basis}
use Rattle.quotes.specs.declared.Shown.{Shown}
use Rattle.quotes.specs.declared.side.Prices.{Prices}
use Rattle.quotes.proofs.InForce.{as_shown}
use Rattle.quotes.proofs.show.Goals as goal

put : (x : Basis) (q : Quotes) (on : Option Bands) (bands : Bands) (prices : Prices) (b o : ℕ) → is_some on ≡ in_force (stock_by x no_quotes)
    → or_zeros on ≡ bands_in (stock_by x no_quotes)
    → bands ≡ or_zeros on
    → prices ≡ record { bid = best_bid (is_some on) (or_zeros on).upper q.bids; offer = best_offer (is_some on) (or_zeros on).lower q.offers }
    → b ≡ bid_flag (is_some on) (or_zeros on) prices.bid → o ≡ offer_flag (is_some on) (or_zeros on) prices.offer
    → ◌≡◌ {A = Shown}
    (record {
      bands = bands;
      best = record { bid = record { price = prices.bid; flag = b }; offer = record { price = prices.offer; flag = o } };
    })
    (shown_of (stock_by x q))
unfolding best_of bands_in in_force k_time
put x q on bands prices b o e1 e2 e e3 e4 e5 = simp (e5, e4, e3, e, e2, e1)

pub returns : goal.returns
returns c =
    let on : is_some c.then-bands.result ≡ in_force (stock_by c.args.b no_quotes) = c.then-bands.ensures.variant ∙ c.in_force.ensures in
    let those : or_zeros c.then-bands.result ≡ bands_in (stock_by c.args.b no_quotes) = as_shown _ _ on (search rules) in
    let bands : c.unwrap_or_default.result ≡ or_zeros c.then-bands.result = search rules in
    search put
