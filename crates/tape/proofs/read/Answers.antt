use mathlib.Core.Path.{refl}
use Rattle.tape.proofs.Scanning.{read_as}
use Rattle.tape.proofs.read.Goals as goal

pub returns-in_err-want : goal.returns-in_err-want
returns-in_err-want c = read_as _ _ _ _ _ _ c.in_ok-letter.ensures.cases.0 c.in_err-want.ensures refl c.from_residual-in_err-want.ensures

pub returns-in_err-over : goal.returns-in_err-over
returns-in_err-over c = read_as _ _ _ _ _ _ c.in_ok-letter.ensures.cases.0 c.in_ok-want.ensures c.in_err-over.ensures c.from_residual-in_err-over.ensures

pub returns : goal.returns
returns c = read_as _ _ _ _ _ _ c.in_ok-letter.ensures.cases.0 c.in_ok-want.ensures c.in_ok-over.ensures (search)
