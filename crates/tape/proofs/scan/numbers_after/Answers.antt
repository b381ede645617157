use Rattle.forms.specs.Choice.{if◌then◌otherwise◌}
use Rattle.forms.proofs.Choice.{by_case, tests}
use Rattle.tape.specs.Lines.{numbers_in}
use Rattle.tape.specs.Scanning.{wanted}
use Rattle.tape.proofs.scan.numbers_after.Goals as goal

pub returns-in-67 : goal.returns-in-67
unfolding wanted numbers_in if◌then◌otherwise◌
returns-in-67 c = search (by_case wanted)

pub returns-in-83 : goal.returns-in-83
unfolding wanted numbers_in if◌then◌otherwise◌
returns-in-83 c = search (by_case wanted)

pub returns-in-84 : goal.returns-in-84
unfolding wanted numbers_in if◌then◌otherwise◌
returns-in-84 c = search (by_case wanted)

pub returns-in-81 : goal.returns-in-81
unfolding wanted numbers_in if◌then◌otherwise◌
returns-in-81 c = search (by_case wanted)

pub returns-in-79 : goal.returns-in-79
unfolding wanted numbers_in if◌then◌otherwise◌
returns-in-79 c = search (by_case wanted)

pub returns-in-80 : goal.returns-in-80
unfolding wanted numbers_in if◌then◌otherwise◌
returns-in-80 c = search (by_case wanted)

pub returns-in-82 : goal.returns-in-82
unfolding wanted numbers_in if◌then◌otherwise◌
returns-in-82 c = search (by_case wanted)

pub returns-in-88 : goal.returns-in-88
unfolding wanted numbers_in if◌then◌otherwise◌
returns-in-88 c = search (by_case wanted)

pub returns-in_default : goal.returns-in_default
unfolding wanted numbers_in if◌then◌otherwise◌
returns-in_default c = search tests depth 20
