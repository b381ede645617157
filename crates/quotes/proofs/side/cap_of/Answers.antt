use borrow.Author.Rules.{rules}
use Rattle.forms.specs.Choice.{if◌then◌otherwise◌}
use Rattle.quotes.proofs.side.cap_of.Goals as goal

pub returns : goal.returns
unfolding if◌then◌otherwise◌
returns c = search rules
