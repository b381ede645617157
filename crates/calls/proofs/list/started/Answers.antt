use Rattle.std.proofs.Common.{rules}
use Rattle.rules.specs.Numbers.{fresh}
use Rattle.forms.proofs.Zeros.{zeros}
use Rattle.calls.proofs.list.started.Goals as goal

pub returns : goal.returns
unfolding fresh
returns c = search (rules, zeros 16, c.default.ensures, c.default-2.ensures, c.default-3.ensures)
