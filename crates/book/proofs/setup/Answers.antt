use Rattle.std.proofs.Common.{◌∙◌, length, sym, ap}
use Rattle.rules.specs.declared.Answer.{Answer}
use Rattle.calls.proofs.Setups.{fours}
use Rattle.book.proofs.Setups.{refused, done}
use Rattle.book.proofs.setup.Goals as goal

pub returns-then-answer-ne-DONE : goal.returns-then-answer-ne-DONE
returns-then-answer-ne-DONE c = refused _ _ _ _ c.setup_answer-answer.ensures c.if-answer-ne-DONE.true

pub fill-requires : goal.fill-requires
fill-requires c =
    fours (length c.args.book.now) (length c.args.times.now) (length c.args.prices.now) c.args.end c.args.setups.now
    (sym (ap (λ (a : Answer). a.number) c.setup_answer-answer.ensures) ∙ c.if-answer-ne-DONE.false)

pub returns : goal.returns
returns c = done _ _ _ _ c.setup_answer-answer.ensures _ _ _ c.if-answer-ne-DONE.false c.fill.ensures c.wipe.ensures c.wipe-2.ensures
