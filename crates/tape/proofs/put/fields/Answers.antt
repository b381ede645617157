use mathlib.Core.Path.{refl, sym}
use native.Mathlib.Nat.{add-zero}
use borrow.Author.Rules.{rules}
use Rattle.tape.specs.Lines.{parted}
use Rattle.tape.proofs.Printing.{fields_to, fields_out, field_room, fields_below}
use Rattle.tape.proofs.put.fields.Goals as goal

pub loop-n-init : goal.loop-n-init
unfolding parted
loop-n-init c = (refl, sym (add-zero _), refl)

pub field-to-requires : goal.field-to-requires
field-to-requires c = search field_room

pub loop-n-preserved : goal.loop-n-preserved
loop-n-preserved c = (search rules, search fields_to, search fields_out)

pub returns-clause-upper_bound : goal.returns-clause-upper_bound
returns-clause-upper_bound c = search fields_below
