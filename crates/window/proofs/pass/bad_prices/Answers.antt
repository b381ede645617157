use Rattle.std.proofs.Common.{rules, sym}
use lib.Bits.{bit_or}
use borrow.Author.Tests.{tests}
use Rattle.std.proofs.lemmas.Iterator.{YieldsList-from_slice}
use Rattle.std.proofs.lemmas.Iterator.Consumers.{fold_from_yields_List}
use Rattle.window.proofs.Passes.{less_one, prices_are}
use Rattle.window.proofs.pass.bad_prices.Goals as goal

pub returns-then-bits-lt-HIGHEST_PRICE : goal.returns-then-bits-lt-HIGHEST_PRICE
returns-then-bits-lt-HIGHEST_PRICE c =
    let bits = fold_from_yields_List _ (λ b p. bit_or b (less_one p)) _ _ c.fold-bits.ensures.ran (YieldsList-from_slice c.args.prices.now cc) (λ a x b q k. search (rules, tests)) in
    let all = prices_are 0 c.args.prices.now (λ i. (c.type_inv.prices i).fits) (rw bits at c.if-bits-lt-HIGHEST_PRICE.true) in
    sym (all.1)
