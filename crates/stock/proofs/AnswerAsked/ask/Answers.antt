use Rattle.stock.proofs.Sights.{some_of, none_of}
use Rattle.stock.proofs.Calls.{in_range, read_sound, read_unsound}
use Rattle.stock.proofs.AnswerAsked.ask.Goals as goal

pub returns-then-is_none : goal.returns-then-is_none
returns-then-is_none c = search (read_unsound c.args.r _ _ _ c.kept_of-k.ensures _ c.is_wrong-wrong.ensures _ c.see-seen.ensures (none_of _ (c.if-is_none.ensures {u = tt})))

pub answer_of-requires : goal.answer_of-requires
answer_of-requires c _ = let g = some_of _ (c.if-is_none.ensures {u = tt}) in in_range c.args.r _ _ _ c.kept_of-k.ensures _ c.is_wrong-wrong.ensures _ c.see-seen.ensures g.0 g.1

pub returns : goal.returns
returns c = let g = some_of _ (c.if-is_none.ensures {u = tt}) in search (read_sound c.args.r _ _ _ c.kept_of-k.ensures _ c.is_wrong-wrong.ensures _ c.see-seen.ensures g.0 g.1)
