use Rattle.band.specs.Band.{percent_of}
use Rattle.forms.proofs.Choice.{tests}
use Rattle.band.proofs.percent.Goals as goal

pub returns-then-tier-eq1 : goal.returns-then-tier-eq1
unfolding percent_of
returns-then-tier-eq1 c = search tests depth 7

pub returns-then-close-gt30000 : goal.returns-then-close-gt30000
unfolding percent_of
returns-then-close-gt30000 c = search tests depth 7

pub returns-then-close-ge7500 : goal.returns-then-close-ge7500
unfolding percent_of
returns-then-close-ge7500 c = search tests

pub returns : goal.returns
unfolding percent_of
returns c = search tests
