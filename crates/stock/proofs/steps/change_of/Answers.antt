use Rattle.forms.proofs.Choice.{by_case}
use Rattle.stock.specs.Steps.{change_of}
use Rattle.stock.proofs.steps.change_of.Goals as goal

pub returns-in-Trade : goal.returns-in-Trade
unfolding change_of
returns-in-Trade c = search (by_case change_of)

pub returns-in-Quote : goal.returns-in-Quote
unfolding change_of
returns-in-Quote c = search (by_case change_of)

pub returns-in-Opening : goal.returns-in-Opening
unfolding change_of
returns-in-Opening c = search (by_case change_of)

pub returns-in-Pause : goal.returns-in-Pause
unfolding change_of
returns-in-Pause c = search (by_case change_of)

pub returns-in-Reopening : goal.returns-in-Reopening
unfolding change_of
returns-in-Reopening c = search (by_case change_of)

pub returns-in-Closing : goal.returns-in-Closing
unfolding change_of
returns-in-Closing c = search (by_case change_of)
