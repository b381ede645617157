use Rattle.stock.specs.View.{made}
use Rattle.calls.proofs.Parts.{unstepped, placed}
use Rattle.calls.proofs.step_at.Goals as goal

pub returns-then-is_short : goal.returns-then-is_short
returns-then-is_short g c = search unstepped

pub returns : goal.returns
returns g c =
    let of = placed _ _ c.start_of-from.ensures (made (g.S.Step.rule c.args.step) g.S.Given.Reply.beside) _ _ c.args.times.now c.args.prices.now
    c.step.result.answer c.step.result.next c.step.new.times c.step.new.prices c.copied.ensures in
    search (of, c.step.ensures)
