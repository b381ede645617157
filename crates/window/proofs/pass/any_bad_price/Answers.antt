use Rattle.std.proofs.Common.{rules}
use borrow.Author.Tests.{tests}
use Rattle.std.proofs.lemmas.Iterator.{YieldsList-from_slice}
use Rattle.std.proofs.lemmas.Iterator.Consumers.{fold_from_yields_List}
use Rattle.window.specs.Passes.{see_price, prices_bad}
use Rattle.window.proofs.pass.any_bad_price.Goals as goal

pub returns : goal.returns
unfolding prices_bad see_price
returns c = fold_from_yields_List _ see_price _ _ c.fold.ensures.ran (YieldsList-from_slice c.args.prices.now cc) (λ a x b q k. search (rules, tests))
