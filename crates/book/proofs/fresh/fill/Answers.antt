use Rattle.std.proofs.Common.{arith, add-one}
use Rattle.book.proofs.Setups.{one_more_lem, all_made}
use Rattle.book.proofs.fresh.fill.Goals as goal

pub loop-i-preserved : goal.loop-i-preserved
loop-i-preserved c =
    rw add-one (one_more_lem c.args.end c.args.list.now c.args.book.now c.requires c.loop-i.i c.loop-i.book _ (omega arith) c.loop-i.invariant c.started_at.ensures)

pub returns : goal.returns
returns c = all_made c.args.end c.args.list.now c.args.book.now c.requires c.loop-i.i c.loop-i.book (omega arith) c.loop-i.invariant
