use Rattle.forms.proofs.Choice.{arms, tests}
use Rattle.tape.specs.Scanning.{opened}
use Rattle.tape.proofs.scan.Scan.space.Goals.{then-self-eq0-via-then-self-eq0, then-self-eq0-via-else-self-eq0+then-self-ge-MOST_NUMBERS}
use Rattle.tape.proofs.scan.Scan.space.Goals as goal

pub returns-then-self-eq0 : goal.returns-then-self-eq0
unfolding opened
returns-then-self-eq0 c =
    elim c.then-self-eq0.branch [
      | then-self-eq0-via-then-self-eq0 w ↦ search (arms, tests) depth 20
      | then-self-eq0-via-else-self-eq0+then-self-ge-MOST_NUMBERS w ↦ search (arms, tests) depth 20
    ]

pub returns : goal.returns
unfolding opened
returns c = search (arms, tests) depth 20
