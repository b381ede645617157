use Rattle.forms.proofs.Choice.{tests, passes, goes}
use Rattle.tape.specs.Scanning.{step}
use Rattle.tape.proofs.scan.Scan.step.Goals as goal

pub returns-in-32 : goal.returns-in-32
unfolding step
returns-in-32 c = goes _ _ _ _ (search tests) (search)

pub returns-in-48-to-57 : goal.returns-in-48-to-57
unfolding step
returns-in-48-to-57 c = passes _ _ _ _ (search tests) (passes _ _ _ _ (search tests depth 20) (search))

pub returns-in_default : goal.returns-in_default
unfolding step
returns-in_default c = passes _ _ _ _ (search tests) (goes _ _ _ _ (search tests depth 20) (search))

pub returns-in_default-2 : goal.returns-in_default-2
unfolding step
returns-in_default-2 c = passes _ _ _ _ (search tests) (goes _ _ _ _ (search tests depth 20) (search))
