use mathlib.Core.Path.{sym, ◌∙◌}
use Rattle.quotes.specs.Parts.{stock_of}
use Rattle.stock.proofs.Sights.{unseen, refused, seen_by}
use Rattle.stock.proofs.sight.see.Goals as goal

pub returns-in_err-figures : goal.returns-in_err-figures
returns-in_err-figures c = c.from_residual.ensures ∙ unseen _ _ _ _ _ (sym (c.in_err-figures.was {u = tt}) ∙ c.survey.ensures)

pub returns-then-verdict-wrong : goal.returns-then-verdict-wrong
returns-then-verdict-wrong c =
    search (refused c.args.wrong (stock_of c.args.k c.args.q) c.args.count c.args.times.now c.args.prices.now _ (sym (c.in_ok-figures.was {u = tt}) ∙ c.survey.ensures) _ c.judged-verdict.ensures, c.if-verdict-wrong.true)

pub returns : goal.returns
returns c =
    search (seen_by c.args.wrong (stock_of c.args.k c.args.q) c.args.count c.args.times.now c.args.prices.now _ (sym (c.in_ok-figures.was {u = tt}) ∙ c.survey.ensures) _ c.judged-verdict.ensures, c.if-verdict-wrong.false)
