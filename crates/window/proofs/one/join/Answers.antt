use Rattle.window.proofs.Arrays.{join_done, join_short}
use Rattle.window.proofs.one.join.Goals as goal

pub returns-then-n-xs : goal.returns-then-n-xs
returns-then-n-xs c = search join_done

pub returns-else-n-xs : goal.returns-else-n-xs
returns-else-n-xs c = search join_short
