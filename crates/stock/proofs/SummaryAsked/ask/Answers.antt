use Rattle.stock.proofs.Sights.{some_of, none_of}
use Rattle.stock.proofs.Calls.{summary_sound, summary_unsound}
use Rattle.stock.proofs.SummaryAsked.ask.Goals as goal

pub returns-then-is_none : goal.returns-then-is_none
returns-then-is_none c = search (summary_unsound c.args.r _ _ _ c.kept_of-k.ensures _ c.is_wrong-wrong.ensures _ c.see-seen.ensures (none_of _ (c.if-is_none.ensures {u = tt})))

pub returns : goal.returns
returns c = let g = some_of _ (c.if-is_none.ensures {u = tt}) in search (summary_sound c.args.r _ _ _ c.kept_of-k.ensures _ c.is_wrong-wrong.ensures _ c.see-seen.ensures g.0 g.1)
