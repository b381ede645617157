use Rattle.window.proofs.Arrays.{start_done, start_short}
use Rattle.window.proofs.one.start.Goals as goal

pub returns-then-n-xs : goal.returns-then-n-xs
returns-then-n-xs c = search start_done

pub returns-else-n-xs : goal.returns-else-n-xs
returns-else-n-xs c = search start_short
