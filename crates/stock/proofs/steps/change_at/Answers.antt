use Rattle.stock.proofs.Changes.{change_v, change_z, change_c, change_none}
use Rattle.stock.proofs.steps.change_at.Goals as goal

pub returns-in-118 : goal.returns-in-118
returns-in-118 c = search change_v

pub returns-in-122 : goal.returns-in-122
returns-in-122 c = search change_z

pub returns-in-99 : goal.returns-in-99
returns-in-99 c = search change_c

pub returns-in_default : goal.returns-in_default
returns-in_default c = search change_none
