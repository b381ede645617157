use borrow.Author.Rules.{rules}
use Rattle.stock.proofs.Changes.{moment_step}
use Rattle.stock.proofs.steps.after_moment.Goals as goal

pub own_time-time-requires : goal.own_time-time-requires
own_time-time-requires c = search rules

pub change_at-change-requires : goal.change_at-change-requires
change_at-change-requires c = search rules

pub figures_after-g-requires : goal.figures_after-g-requires
figures_after-g-requires c = search rules

pub after_moment-after-requires : goal.after_moment-after-requires
after_moment-after-requires c = search rules

pub returns : goal.returns
returns c = search moment_step
