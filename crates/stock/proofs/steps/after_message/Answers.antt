use borrow.Author.Rules.{rules}
use Rattle.stock.proofs.Changes.{message_step}
use Rattle.stock.proofs.steps.after_message.Goals as goal

pub change_of-change-requires : goal.change_of-change-requires
change_of-change-requires c = search rules

pub figures_after-g-requires : goal.figures_after-g-requires
figures_after-g-requires c = search rules

pub after_message-after-requires : goal.after_message-after-requires
after_message-after-requires c = search rules

pub returns : goal.returns
returns c = search message_step
