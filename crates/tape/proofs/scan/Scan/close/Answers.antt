use Rattle.forms.proofs.Choice.{arms, tests}
use Rattle.tape.specs.Scanning.{closed}
use Rattle.tape.proofs.scan.Scan.close.Goals.{else-self-gt0-via-then-self-gt0+else-self-le-MOST_NUMBERS, else-self-gt0-via-else-self-gt0}
use Rattle.tape.proofs.scan.Scan.close.Goals as goal

pub returns-then-self-le-MOST_NUMBERS : goal.returns-then-self-le-MOST_NUMBERS
unfolding closed
returns-then-self-le-MOST_NUMBERS c = search (arms, tests) depth 20

pub returns-else-self-gt0 : goal.returns-else-self-gt0
unfolding closed
returns-else-self-gt0 c =
    elim c.else-self-gt0.branch [
      | else-self-gt0-via-then-self-gt0+else-self-le-MOST_NUMBERS w ↦ search (arms, tests) depth 20
      | else-self-gt0-via-else-self-gt0 w ↦ search (arms, tests) depth 20
    ]
