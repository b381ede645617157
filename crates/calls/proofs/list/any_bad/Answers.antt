use mathlib.Core.Bool.{false}
use mathlib.Core.List.{foldl}
use mathlib.Core.Path.{◌∙◌, ap}
use native.Mathlib.Omega.{arith}
use Rattle.rules.specs.Numbers.{or_bad_setup}
use Rattle.calls.specs.Setup.{setups_of}
use Rattle.calls.proofs.Setups.{judge_more, judge_all}
use Rattle.calls.proofs.list.any_bad.Goals as goal

pub loop-numbers-init : goal.loop-numbers-init
loop-numbers-init c =
    let same = c.into_iter-numbers-iterator.ensures.into_iter_gives in (
      ap (λ s. s.size) same ∙ c.chunks_exact-numbers-items.ensures.size,
      ap (λ s. foldl or_bad_setup false (setups_of s.rest.now)) same ∙ ap (λ xs. foldl or_bad_setup false (setups_of xs)) c.chunks_exact-numbers-items.ensures.rest,
    )

pub loop-numbers-preserved : goal.loop-numbers-preserved
loop-numbers-preserved c =
    let step = c.in-Some.ensures.steps in (
      step.0 ∙ c.loop-numbers.invariant.0,
      judge_more _ _ _ _ _ _ _ step.1.0 (step.1.1 ∙ c.loop-numbers.invariant.0) c.setup_of.ensures c.bad_setup-bad.ensures c.loop-numbers.invariant.1,
    )

pub returns : goal.returns
returns c =
    let none = c.in-None.ensures.steps in
    judge_all _ _ _ (omega (arith, none.1.0, c.loop-numbers.invariant.0)) c.loop-numbers.invariant.1
