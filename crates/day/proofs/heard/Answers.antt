use Rattle.forms.specs.Choice.{if◌then◌otherwise◌}
use Rattle.forms.proofs.Choice.{by_case_of, tests}
use Rattle.day.specs.Spoken.{spoken_of}
use Rattle.day.proofs.heard.Goals as goal

pub returns-in_default : goal.returns-in_default
unfolding spoken_of
returns-in_default c = search tests depth 20

pub returns-in-84-default : goal.returns-in-84-default
unfolding spoken_of if◌then◌otherwise◌
returns-in-84-default c = search (by_case_of spoken_of)

pub returns-in-81-default : goal.returns-in-81-default
unfolding spoken_of if◌then◌otherwise◌
returns-in-81-default c = search (by_case_of spoken_of)

pub returns-in-79-default : goal.returns-in-79-default
unfolding spoken_of if◌then◌otherwise◌
returns-in-79-default c = search (by_case_of spoken_of)

pub returns-in-80-default : goal.returns-in-80-default
unfolding spoken_of if◌then◌otherwise◌
returns-in-80-default c = search (by_case_of spoken_of)

pub returns-in-82-default : goal.returns-in-82-default
unfolding spoken_of if◌then◌otherwise◌
returns-in-82-default c = search (by_case_of spoken_of)

pub returns-in-88-default : goal.returns-in-88-default
unfolding spoken_of if◌then◌otherwise◌
returns-in-88-default c = search (by_case_of spoken_of)
