use Rattle.stock.specs.View.{asked}
use Rattle.calls.proofs.Parts.{unasked, of_part}
use Rattle.calls.proofs.ask_at.Goals as goal

pub returns-then-is_short : goal.returns-then-is_short
returns-then-is_short g c = search unasked

pub returns : goal.returns
returns g c =
    let of = of_part _ _ c.start_of-from.ensures (asked g.T.Asked.own g.T.Reply.beside) _ _ c.args.times.now c.args.prices.now c.ask.result c.copied.ensures in
    search (of, c.ask.ensures)
