use Rattle.tape.proofs.Feeds.{first_of}
use Rattle.tape.proofs.to_feed.Goals as goal

pub returns-clause-value : goal.returns-clause-value
returns-clause-value c = search first_of
