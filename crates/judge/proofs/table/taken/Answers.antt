use Rattle.forms.proofs.Choice.{tests}
use Rattle.rules.specs.Messages as messages
use Rattle.judge.proofs.table.taken.Goals as goal

pub returns-then-column-lt6 : goal.returns-then-column-lt6
unfolding messages.taken
returns-then-column-lt6 c = search tests

pub returns : goal.returns
unfolding messages.taken
returns c = search tests
