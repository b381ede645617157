use native.Mathlib.Omega.{arith}
use Rattle.forms.proofs.Choice.{arms, tests}
use Rattle.tape.specs.Printing.{printing}
use Rattle.tape.proofs.Printing.{print_done, print_short}
use Rattle.tape.proofs.print.Goals.{then-numbers-gt-MOST_PRINTED-via-then-numbers-gt-MOST_PRINTED, then-numbers-gt-MOST_PRINTED-via-else-numbers-gt-MOST_PRINTED+then-saturating_sub-lt-LONGEST_PRINTED}
use Rattle.tape.proofs.print.Goals as goal

pub returns-then-numbers-gt-MOST_PRINTED-clause-out_after : goal.returns-then-numbers-gt-MOST_PRINTED-clause-out_after
unfolding printing
returns-then-numbers-gt-MOST_PRINTED-clause-out_after c =
    elim c.then-numbers-gt-MOST_PRINTED.branch [
      | then-numbers-gt-MOST_PRINTED-via-then-numbers-gt-MOST_PRINTED w ↦ search (arms, tests) depth 20
      | then-numbers-gt-MOST_PRINTED-via-else-numbers-gt-MOST_PRINTED+then-saturating_sub-lt-LONGEST_PRINTED w ↦ print_short _ _ _ _ _ _ (omega arith)
    ]

pub returns-clause-out_after : goal.returns-clause-out_after
returns-clause-out_after c = search (print_done, arith)
