use mathlib.Core.Path.{refl}
use Rattle.rules.proofs.Refusals.{as_u32, not_done}
use Rattle.book.specs.Lent.{lent}
use Rattle.book.proofs.Called.{in_book, asked_in, unasked_in}
use Rattle.book.proofs.ask.Goals as goal

pub bounds-book-i : goal.bounds-book-i
bounds-book-i g c = in_book _ _ _ _ _ c.in-Ok.ensures refl

pub returns-in-Ok : goal.returns-in-Ok
returns-in-Ok g c =
    let of = asked_in c.args.stock _ g.T.Asked.own g.T.Reply.beside (lent c.args.book.now c.args.times.now c.args.prices.now) c.ask_at.result c.in-Ok.ensures refl in
    search (of, c.ask_at.ensures)

pub returns-in-Err : goal.returns-in-Err
returns-in-Err g c =
    let of = unasked_in c.args.stock _ g.T.Asked.own g.T.Reply.beside (lent c.args.book.now c.args.times.now c.args.prices.now) c.beside.result c.in-Err.ensures (not_done c.in-Err.why) in
    let beside = rw as_u32 at c.beside.ensures in
    search (of, beside)
