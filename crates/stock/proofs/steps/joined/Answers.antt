use borrow.Author.Rules.{rules}
use Rattle.forms.proofs.Choice.{calls}
use Rattle.stock.specs.Steps.{with_trade}
use Rattle.stock.proofs.steps.joined.Goals as goal

pub overflow_add-count : goal.overflow_add-count
overflow_add-count c = search rules

pub overflow_add-sum : goal.overflow_add-sum
overflow_add-sum c = search rules

pub returns-then-f-eq0 : goal.returns-then-f-eq0
unfolding with_trade
returns-then-f-eq0 c = search calls

pub returns : goal.returns
unfolding with_trade
returns c = search calls
