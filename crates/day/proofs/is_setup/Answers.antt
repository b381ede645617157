use mathlib.Core.Bool.{Bool, not}
use mathlib.Core.Path.{◌≡◌}
use borrow.Author.Tests.{eq-eqb, ne_eqb}
use Rattle.forms.proofs.Bools.{joined}
use Rattle.rules.specs.Numbers.{bad_setup}
use Rattle.tape.specs.declared.Line.{Line}
use Rattle.day.specs.Contents.{setup_of, is_setup}
use Rattle.day.proofs.is_setup.Goals as goal

of_range : (line : Line) (bad : Bool) → line.letter ≡ 83 → bad ≡ bad_setup (setup_of line.numbers) → not bad ≡ is_setup line
unfolding is_setup
of_range line bad q e = simp (e, eq-eqb line.letter 83 q, joined)

pub returns-then-line-eq83 : goal.returns-then-line-eq83
returns-then-line-eq83 c = search of_range

pub returns-else-line-eq83 : goal.returns-else-line-eq83
unfolding is_setup
returns-else-line-eq83 c = simp (ne_eqb c.args.line.letter 83 c.if-line-eq83.false, joined)
