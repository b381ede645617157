use Rattle.tape.proofs.Printing.{line_to, line_out}
use Rattle.tape.proofs.put.line.Goals as goal

pub returns-clause-value : goal.returns-clause-value
returns-clause-value c = search line_to

pub returns-clause-out_after : goal.returns-clause-out_after
returns-clause-out_after c = search line_out
