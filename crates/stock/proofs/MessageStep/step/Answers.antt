use Rattle.rules.proofs.Refusals.{as_u32, not_done}
use Rattle.stock.proofs.Calls.{sound_room, window_held, told_fits, refused_in_range, told_done, told_refused}
use Rattle.stock.proofs.MessageStep.step.Goals as goal

pub taking-requires : goal.taking-requires
taking-requires c = sound_room c.args.r _ _ _ c.kept_of-k.ensures _ c.is_wrong-wrong.ensures _ c.see-seen.ensures

pub invariant_of-held : goal.invariant_of-held
invariant_of-held c = search (window_held c.args.r _ _ _ c.kept_of-k.ensures _ c.is_wrong-wrong.ensures _ c.see-seen.ensures _ c.in-Ok.ensures.0)

pub after_message-step-requires : goal.after_message-step-requires
after_message-step-requires c = sound_room c.args.r _ _ _ c.kept_of-k.ensures _ c.is_wrong-wrong.ensures _ c.see-seen.ensures _ c.in-Ok.ensures.0

pub with_shown-answer-requires : goal.with_shown-answer-requires
with_shown-answer-requires c =
    search (told_fits c.args.r _ _ _ c.kept_of-k.ensures _ c.is_wrong-wrong.ensures _ c.see-seen.ensures _ c.in-Ok.ensures.0 c.args.self c.in-Ok.ensures.1, c.after_message-step.ensures)

pub returns-in-Ok : goal.returns-in-Ok
returns-in-Ok c =
    search (
      told_done c.args.r _ _ _ c.kept_of-k.ensures _ c.is_wrong-wrong.ensures _ c.see-seen.ensures _ c.in-Ok.ensures.0 c.args.self c.in-Ok.ensures.1,
      c.after_message-step.ensures,
      c.write.ensures,
      c.with_shown-answer.ensures,
      c.traded-price.ensures,
      c.brought-brought.ensures,
      c.record_of-next.ensures,
    )

pub answer_of-answer-requires : goal.answer_of-answer-requires
answer_of-answer-requires c = rw as_u32 (refused_in_range c.args.r _ _ _ c.kept_of-k.ensures _ c.is_wrong-wrong.ensures _ c.see-seen.ensures _ _ c.in-Err.ensures)

pub returns-in-Err : goal.returns-in-Err
returns-in-Err c =
    let shown = rw as_u32 at c.answer_of-answer.ensures in
    search (told_refused c.args.r _ _ _ c.kept_of-k.ensures _ c.is_wrong-wrong.ensures _ c.see-seen.ensures c.args.self _ c.in-Err.ensures c.answer_of-answer.result (not_done c.in-Err.why), shown)
