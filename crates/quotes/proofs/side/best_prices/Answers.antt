use borrow.Author.Rules.{rules}
use Prim.Native.Nat.{◌+◌, ◌%◌}
use native.Mathlib.Omega.{arith}
use mathlib.Core.Logic.{inl, inr}
use mathlib.Core.Path.{◌≡◌, ap, ◌∙◌}
use lib.ListN.{length}
use Rattle.quotes.proofs.Nearest.{turn, done, price_at, higher_bid, no_bid_yet, no_offer_yet, lesser_offer}
use Rattle.quotes.proofs.Sixteen.{sixteen}
use Rattle.quotes.proofs.side.best_prices.Goals as goal

pub loop-bid-init : goal.loop-bid-init
loop-bid-init c =
    let size = sixteen c.args.q _ (c.well_formed.1.0) in
    let bids : c.into_iter-bid-iterator.result.a.rest.now ≡ c.args.q.bids = search rules in
    let offers : c.into_iter-bid-iterator.result.b.rest.now ≡ c.args.q.offers = search rules in (
      rw (bids, offers) (omega (arith, size.0, size.1)),
      omega arith,
      omega arith,
      rw bids (search no_bid_yet),
      rw offers (search (no_offer_yet, rules)),
    )

pub loop-bid-preserved : goal.loop-bid-preserved
loop-bid-preserved c =
    let steps = c.in-Some.ensures.steps in
    let inv = c.loop-bid.invariant in (
      omega (arith, inv.0, ap length steps.0, ap length steps.1),
      omega arith,
      omega arith,
      turn _ _ _ _ _ _ _ steps.0 (search (higher_bid, rules)) inv.3,
      turn _ _ _ _ _ _ _ steps.1 (search (lesser_offer, rules)) inv.4,
    )

pub returns-then-up-none : goal.returns-then-up-none
returns-then-up-none c =
    let inv = c.loop-bid.invariant in
    let least = (c.floor_of-least.result + 1) % 4_294_967_296 in
    let bids : length c.loop-bid.bid-iterator.a.rest.now ≡ 0 = elim c.in-None.ensures.steps [ inl s ↦ s.1.0 | inr s ↦ omega (arith, inv.0, s.1.0) ] in
    let offers : length c.loop-bid.bid-iterator.b.rest.now ≡ 0 = omega (arith, inv.0, bids) in
    let here : least + c.loop-bid.up ≡ price_at least c.loop-bid.up = omega arith in
    rw (done _ _ _ _ bids inv.3, here ∙ done _ _ _ _ offers inv.4)

pub returns-else-up-none : goal.returns-else-up-none
returns-else-up-none c =
    let inv = c.loop-bid.invariant in
    let least = (c.floor_of-least.result + 1) % 4_294_967_296 in
    let bids : length c.loop-bid.bid-iterator.a.rest.now ≡ 0 = elim c.in-None.ensures.steps [ inl s ↦ s.1.0 | inr s ↦ omega (arith, inv.0, s.1.0) ] in
    let offers : length c.loop-bid.bid-iterator.b.rest.now ≡ 0 = omega (arith, inv.0, bids) in
    let here : 0 ≡ price_at least c.loop-bid.up = omega arith in
    rw (done _ _ _ _ bids inv.3, here ∙ done _ _ _ _ offers inv.4)
