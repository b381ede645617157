use Rattle.tape.proofs.Printing.{head_to, head_out}
use Rattle.tape.proofs.put.head.Goals as goal

pub returns-clause-value : goal.returns-clause-value
returns-clause-value c = search head_to

pub returns-clause-out_after : goal.returns-clause-out_after
returns-clause-out_after c = search head_out
