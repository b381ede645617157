use Rattle.window.proofs.Arrays.{leave_short, leave_done}
use Rattle.window.proofs.one.leave.Goals as goal

pub returns-then-xs-n : goal.returns-then-xs-n
returns-then-xs-n c = search leave_short

pub returns : goal.returns
returns c = search leave_done
