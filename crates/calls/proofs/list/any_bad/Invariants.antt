use mathlib.Core.Bool.{false}
use mathlib.Core.List.{foldl}
use mathlib.Core.Path.{◌≡◌}
use Rattle.rules.specs.Numbers.{or_bad_setup}
use Rattle.calls.specs.Setup.{setups_of}
use Rattle.calls.proofs.list.any_bad.Given as goal

abbrev pub invariant-loop-numbers : goal.invariant-loop-numbers
invariant-loop-numbers l = (l.numbers-iterator.size ≡ 4) × (foldl or_bad_setup l.bad (setups_of l.numbers-iterator.rest.now) ≡ foldl or_bad_setup false (setups_of l.list))
