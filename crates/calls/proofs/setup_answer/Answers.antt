use mathlib.Core.Path.{◌∙◌, ap}
use Rattle.rules.specs.Numbers.{zeros}
use Rattle.rules.proofs.Refusals.{as_u32}
use Rattle.calls.proofs.setup_answer.Goals as goal

pub returns-in-Ok : goal.returns-in-Ok
returns-in-Ok c = c.beside.ensures ∙ ap zeros c.in-Ok.ensures

pub returns-in-Err : goal.returns-in-Err
returns-in-Err c =
    let beside = rw as_u32 at c.beside-in-Err.ensures in
    beside ∙ ap zeros c.in-Err.ensures
