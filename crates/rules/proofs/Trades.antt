-- No trade is accepted outside bands in force, nor in a pause.
-- Assumes nothing.
use Prim.Native.Nat.{◌<◌}
use mathlib.Core.Logic.{inl, inr}
use native.Mathlib.Omega.{arith}
use Rattle.forms.proofs.Decides.{past}
use Rattle.rules.specs.Demands.{TradesInBands}
use Rattle.rules.specs.declared.Message.TheVariants.{Trade as T}
use Rattle.rules.proofs.Numbers.{taken_words}

pub in_bands : TradesInBands
in_bands h time price e =
    let a = past 7 0 _ _ (λ z. omega arith) (taken_words (T time price) h e).own_passed in
    let b = past 11 0 _ _ (λ z. omega arith) a.1 in
    let outside = (past 12 0 _ _ (λ z. omega arith) b.1).0 in (
      (λ l k.
          let low : ¬ (price < l.lower) = λ x. outside (l, k, inl x) in
          let high : ¬ (l.upper < price) = λ x. outside (l, k, inr x) in
          (omega arith, omega arith)),
      b.0,
    )
