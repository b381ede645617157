use Prim.Native.Nat.{ℕ}
use mathlib.Core.Bool.{Bool, true, false, ◌&&◌, ◌||◌}
use mathlib.Core.Path.{◌≡◌, refl, sym, ◌∙◌}
use lib.Dec.{leb, eqb}
use Rattle.forms.specs.Choice.{if◌then◌otherwise◌}
use Rattle.forms.proofs.Choice.{if_true, if_false}
use Rattle.rules.specs.Moments.{◌at◌while◌, sooner}
use Rattle.rules.specs.declared.Moment.{Moment}
use Rattle.forms.proofs.Bools.{joined}
use Rattle.judge.proofs.moment.sooner.Goals as goal

-- the row, where it comes and none after it comes sooner
by_one_test : (mark time : ℕ) (comes : Bool) (m : Moment)
    → sooner (mark at time while comes) m
    ≡ (if comes && (eqb m.mark 0 || leb time m.time) then record { mark = mark; time = time } otherwise m)
unfolding sooner if◌then◌otherwise◌
by_one_test mark time true m = simp joined
by_one_test mark time false m = refl

module _ (mark time : ℕ) (comes : Bool) (m : Moment) where
  row : (comes && (eqb m.mark 0 || leb time m.time)) ≡ true
      → ◌≡◌ {A = Moment} (record { mark = mark; time = time }) (sooner (mark at time while comes) m)
  row e = sym (by_one_test mark time comes m ∙ if_true _ _ _ e)

  rest : (comes && (eqb m.mark 0 || leb time m.time)) ≡ false → m ≡ sooner (mark at time while comes) m
  rest e = sym (by_one_test mark time comes m ∙ if_false _ _ _ e)

pub returns-then-comes-after : goal.returns-then-comes-after
returns-then-comes-after c = search row

pub returns : goal.returns
returns c = search rest
