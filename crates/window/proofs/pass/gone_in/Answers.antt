use Rattle.std.proofs.Common.{rules, ◌∙◌, leb, ◌+◌}
use borrow.Author.Tests.{tests}
use Rattle.std.proofs.lemmas.Iterator.{YieldsList-from_slice}
use Rattle.std.proofs.lemmas.Iterator.Consumers.{count_from_yields_List}
use Rattle.std.proofs.lemmas.Iterator.Search.{YieldsList-from_take_while}
use Rattle.std.proofs.lemmas.List.Folds.{length-prefix_len}
use Rattle.window.proofs.Passes.{left_is}
use Rattle.window.proofs.pass.gone_in.Goals as goal

pub returns : goal.returns
returns c =
    let t = c.args.time in
    let us = c.args.times.now in
    count_from_yields_List c.take_while.result _ c.count.ensures.ran (YieldsList-from_take_while _ (λ u. leb (u + 300_000) t) (YieldsList-from_slice us cc) c.take_while.ensures.closure c.take_while.ensures.done (λ x b q k. search (rules, tests)))
    ∙ length-prefix_len (λ u. leb (u + 300_000) t) us ∙ left_is t us
