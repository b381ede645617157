use Rattle.std.proofs.Common.{rules}
use Rattle.forms.proofs.Zeros.{zeros}
use Rattle.shelf.proofs.Shelf.blank.Goals as goal

pub returns : goal.returns
returns c = search (rules, zeros 16, c.default.ensures)
