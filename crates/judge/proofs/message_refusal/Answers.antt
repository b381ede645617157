use Prim.Native.Nat.{ℕ, ◌≤◌, ◌<◌}
use mathlib.Core.Bool.{Bool, true, false}
use mathlib.Core.List.{List}
use mathlib.Core.Path.{◌≡◌, refl}
use borrow.Author.Tests.{lt-ltb, le-ltb}
use lib.Dec.{ltb}
use borrow.Author.Rules.{rules}
use Rattle.std.specs.Prelude.{Result, Err, ⊤}
use Rattle.forms.specs.Checks.{Check, first}
use Rattle.forms.proofs.Checks.{hit, miss}
use Rattle.forms.proofs.Choice.{ne_not}
use Rattle.rules.specs.Messages.{kind, time_of, taken}
use Rattle.rules.specs.Moments.{due_by}
use Rattle.rules.specs.Numbers.{table_check, message_checks}
use Rattle.rules.specs.Refusals.{number_of, refused_by}
use Rattle.rules.specs.declared.Message.{Message}
use Rattle.rules.specs.declared.Refusal.{Refusal}
use Rattle.rules.proofs.Refusals.{not_done}
use Rattle.rules.specs.declared.Moment.{Moment}
use Rattle.forms.proofs.Bools.{refusals}
use Rattle.judge.proofs.message_refusal.Goals as goal

-- what the message's time decides
module _ (m : Message) (time : ℕ) (e : time ≡ time_of m) where
  before : (clock : ℕ) → time < clock → ltb (time_of m) clock ≡ true
  before clock h = rw (← e) (lt-ltb time clock h)

  not_before : (clock : ℕ) → clock ≤ time → ltb (time_of m) clock ≡ false
  not_before clock h = rw (← e) (le-ltb time clock h)

  due : (earliest : Moment) (x b : Bool) → x ≡ due_by time earliest → x ≡ b → due_by (time_of m) earliest ≡ b
  due earliest x b f q = rw (← e, ← f) q

-- what the table's number decides
module _ (m : Message) (row state : ℕ) (checks : List Check) (e : row ≡ kind m) where
  by_table : (r : Result ⊤ Refusal) (why : Refusal) → r ≡ Err why → number_of why ≡ taken row state → refused_by r ≡ first (table_check (taken (kind m) state) checks)
  by_table r why f g = rw (f, ← e, ← g) (hit _ (number_of why) checks (ne_not (number_of why) 0 (not_done why)))

  past_table : (r : ℕ) → 0 ≡ taken row state → r ≡ first checks → r ≡ first (table_check (taken (kind m) state) checks)
  past_table r f q = rw (← e, ← f) (miss _ 0 r checks refl q)

ruleset refused = (before, not_before, due, by_table, past_table, refusals)

pub returns-then-out_of_range : goal.returns-then-out_of_range
unfolding message_checks
returns-then-out_of_range c = search refused depth 20

pub returns-then-time-k : goal.returns-then-time-k
unfolding message_checks
returns-then-time-k c = search refused depth 20

pub returns-then-is_due : goal.returns-then-is_due
unfolding message_checks
returns-then-is_due c = search refused depth 20

pub returns-then-not_primary : goal.returns-then-not_primary
unfolding message_checks
returns-then-not_primary c = search refused depth 20

pub returns-in_err-taken : goal.returns-in_err-taken
unfolding message_checks
returns-in_err-taken c =
    let is : c.from_residual.result ≡ Err c.in_err-taken.field-0.0 = search rules in
    let table : number_of c.in_err-taken.field-0.0 ≡ taken c.kind_of.result c.args.k.course.state = c.in_err-taken.ensures in
    search refused depth 20

pub returns : goal.returns
unfolding message_checks
returns c =
    let table : 0 ≡ taken c.kind_of.result c.args.k.course.state = c.in_ok-taken.ensures in
    search refused depth 20
