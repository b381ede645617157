use mathlib.Core.Path.{refl, ◌∙◌}
use Rattle.rules.proofs.Refusals.{as_u32, not_done}
use Rattle.book.specs.Lent.{lent}
use Rattle.book.proofs.Called.{in_book, done_in, kept_in, refused_in}
use Rattle.book.proofs.step.Goals as goal

pub slice_copy_out-step_at : goal.slice_copy_out-step_at
slice_copy_out-step_at g c = in_book _ _ _ _ _ c.in-Ok.ensures refl

pub returns-then-number-ne-DONE : goal.returns-then-number-ne-DONE
returns-then-number-ne-DONE g c =
    kept_in _ _ (g.S.Step.rule c.args.step) g.S.Given.Reply.beside _ _ g.S.Step.number_of (g.met.S.Step.numbered c.args.step)
    c.in-Ok.ensures refl _ _ _ _ c.step_at-d.ensures (λ z. c.if-number-ne-DONE.true (c.number.ensures ∙ z))

pub bounds-book-i : goal.bounds-book-i
bounds-book-i g c = in_book _ _ _ _ _ c.in-Ok.ensures refl

pub returns-else-number-ne-DONE : goal.returns-else-number-ne-DONE
returns-else-number-ne-DONE g c =
    done_in _ _ (g.S.Step.rule c.args.step) g.S.Given.Reply.beside _ _ c.in-Ok.ensures refl _ _ _ _ c.step_at-d.ensures

pub returns-in-Err : goal.returns-in-Err
returns-in-Err g c =
    let of = refused_in c.args.stock _ (g.S.Step.rule c.args.step) g.S.Given.Reply.beside (lent c.args.book.now c.args.times.now c.args.prices.now) c.beside.result c.in-Err.ensures (not_done c.in-Err.why) in
    let beside = rw as_u32 at c.beside.ensures in
    search (of, beside)
