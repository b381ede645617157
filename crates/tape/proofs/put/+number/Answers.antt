use native.Mathlib.Omega.{arith}
use Rattle.tape.proofs.Printing.{one_to, one_out, two_to, two_out, more_to, more_most, more_out, more_room}
use Rattle.tape.proofs.put.+number.Goals as goal

pub returns-then-n-lt10-clause-value : goal.returns-then-n-lt10-clause-value
returns-then-n-lt10-clause-value t c = search one_to

pub returns-then-n-lt10-clause-out_after : goal.returns-then-n-lt10-clause-out_after
returns-then-n-lt10-clause-out_after t c = search one_out

pub returns-then-n-lt100-clause-value : goal.returns-then-n-lt100-clause-value
returns-then-n-lt100-clause-value t c = search two_to

pub returns-then-n-lt100-clause-out_after : goal.returns-then-n-lt100-clause-out_after
returns-then-n-lt100-clause-out_after t c = search two_out

pub pair-requires-2 : goal.pair-requires-2
pair-requires-2 t c = (omega arith, search more_room)

pub returns-clause-upper_bound : goal.returns-clause-upper_bound
returns-clause-upper_bound t c = search more_most

pub returns-clause-value : goal.returns-clause-value
returns-clause-value t c = search more_to

pub returns-clause-out_after : goal.returns-clause-out_after
returns-clause-out_after t c = search more_out
