use Rattle.tape.proofs.Printing.{field_to, field_out}
use Rattle.tape.proofs.put.field.Goals as goal

pub returns-clause-value : goal.returns-clause-value
returns-clause-value c = search field_to

pub returns-clause-out_after : goal.returns-clause-out_after
returns-clause-out_after c = search field_out
