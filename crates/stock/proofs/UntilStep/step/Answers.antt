use Rattle.rules.proofs.Refusals.{as_u32, not_done}
use Rattle.stock.proofs.Calls.{window_held, moment_due, settled_fits, unsettled_in_range, settled_done, settled_refused}
use Rattle.stock.proofs.UntilStep.step.Goals as goal

pub invariant_of-held : goal.invariant_of-held
invariant_of-held c = search (window_held c.args.r _ _ _ c.kept_of-k.ensures _ c.is_wrong-wrong.ensures _ c.see-seen.ensures _ c.in-Ok.ensures.0)

pub after_moment-step-requires : goal.after_moment-step-requires
after_moment-step-requires c = moment_due c.args.r _ _ _ c.kept_of-k.ensures _ c.is_wrong-wrong.ensures _ c.see-seen.ensures _ c.in-Ok.ensures.0 _ c.in-Ok.ensures.1

pub with_shown-requires : goal.with_shown-requires
with_shown-requires c = search (settled_fits c.args.r _ _ _ c.kept_of-k.ensures _ c.is_wrong-wrong.ensures _ c.see-seen.ensures _ c.in-Ok.ensures.0 _ c.in-Ok.ensures.1, c.after_moment-step.ensures)

pub own_time-requires : goal.own_time-requires
own_time-requires c = (moment_due c.args.r _ _ _ c.kept_of-k.ensures _ c.is_wrong-wrong.ensures _ c.see-seen.ensures _ c.in-Ok.ensures.0 _ c.in-Ok.ensures.1).1

pub returns-in-Ok : goal.returns-in-Ok
returns-in-Ok c =
    search (
      settled_done c.args.r _ _ _ c.kept_of-k.ensures _ c.is_wrong-wrong.ensures _ c.see-seen.ensures _ c.in-Ok.ensures.0 _ c.in-Ok.ensures.1,
      c.after_moment-step.ensures,
      c.write.ensures,
      c.with_shown.ensures,
      c.own_time.ensures,
      c.brought-brought.ensures,
      c.record_of-next.ensures,
    )

pub answer_of-answer-requires : goal.answer_of-answer-requires
answer_of-answer-requires c = rw as_u32 (unsettled_in_range c.args.r _ _ _ c.kept_of-k.ensures _ c.is_wrong-wrong.ensures _ c.see-seen.ensures _ _ c.in-Err.ensures)

pub returns-in-Err : goal.returns-in-Err
returns-in-Err c =
    let shown = rw as_u32 at c.answer_of-answer.ensures in
    search (settled_refused c.args.r _ _ _ c.kept_of-k.ensures _ c.is_wrong-wrong.ensures _ c.see-seen.ensures _ _ c.in-Err.ensures c.answer_of-answer.result c.without_moment.result (not_done c.in-Err.why), shown, c.without_moment.ensures)
