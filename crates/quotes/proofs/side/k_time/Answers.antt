use Rattle.forms.proofs.Choice.{tests}
use Rattle.rules.specs.Quotes.{k_time}
use Rattle.quotes.proofs.side.k_time.Goals as goal

pub returns-then-b-eq-LIMIT : goal.returns-then-b-eq-LIMIT
unfolding k_time
returns-then-b-eq-LIMIT c = search tests

pub returns-else-b-eq-LIMIT : goal.returns-else-b-eq-LIMIT
unfolding k_time
returns-else-b-eq-LIMIT c = search tests
