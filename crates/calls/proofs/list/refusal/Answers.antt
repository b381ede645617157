use native.Mathlib.Omega.{arith}
use Rattle.forms.proofs.Checks.{hit, miss, no_check}
use Rattle.calls.proofs.Setups.{few, number_by_shape, number_by_list, number_by_range}
use Rattle.calls.proofs.list.refusal.Goals as goal

pub returns-then-bad_shape : goal.returns-then-bad_shape
returns-then-bad_shape c = search number_by_shape

pub overflow_mul-stocks : goal.overflow_mul-stocks
overflow_mul-stocks c = omega (arith, few _ _ _ _ c.bad_shape.ensures c.if-bad_shape.false)

pub returns-then-n-stocks : goal.returns-then-n-stocks
returns-then-n-stocks c = search number_by_list

pub returns-then-end_is_bad-setup_is_bad : goal.returns-then-end_is_bad-setup_is_bad
returns-then-end_is_bad-setup_is_bad c = search (number_by_range, hit)

pub returns : goal.returns
returns c = search (number_by_range, miss, no_check)
