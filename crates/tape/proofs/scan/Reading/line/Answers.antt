use Rattle.forms.proofs.Choice.{arms, tests, passes}
use Rattle.tape.specs.Scanning.{finished}
use Rattle.tape.proofs.scan.Reading.line.Goals.{then-self-want-via-then-self-want, then-self-want-via-else-self-want+then-self-eq0}
use Rattle.tape.proofs.scan.Reading.line.Goals as goal

pub returns-then-self-want : goal.returns-then-self-want
unfolding finished
returns-then-self-want c =
    elim c.then-self-want.branch [
      | then-self-want-via-then-self-want w ↦ search (arms, tests) depth 20
      | then-self-want-via-else-self-want+then-self-eq0 w ↦ search (arms, tests) depth 20
    ]

pub returns : goal.returns
unfolding finished
returns c = passes _ _ _ _ (search tests depth 20) (let h = c.close in cc)
