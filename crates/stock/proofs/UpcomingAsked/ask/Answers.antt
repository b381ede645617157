use Rattle.stock.proofs.Calls.{time_fits, next_sound, next_unsound}
use Rattle.stock.proofs.UpcomingAsked.ask.Goals as goal

pub overflow_cast-result : goal.overflow_cast-result
overflow_cast-result c = search (time_fits c.args.r _ _ _ c.kept_of-k.ensures _ c.is_wrong-wrong.ensures _ c.see-seen.ensures _ c.in-Some.is)

pub returns-in_default : goal.returns-in_default
returns-in_default c = search (next_unsound c.args.r _ _ _ c.kept_of-k.ensures _ c.is_wrong-wrong.ensures _ c.see-seen.ensures c.in_default.is)

pub returns : goal.returns
returns c = search (next_sound c.args.r _ _ _ c.kept_of-k.ensures _ c.is_wrong-wrong.ensures _ c.see-seen.ensures _ c.in-Some.is)
