-- What a call's number says of the checks that it passed.
-- Assumes nothing.
use Prim.Native.Nat.{ℕ, ◌≤◌}
use mathlib.Core.Bool.{true, false}
use mathlib.Core.Path.{◌≡◌}
use borrow.Author.Tests.{ltb-false, not-true, not-false}
use lib.ListN.{length}
use Rattle.forms.specs.Checks.{first}
use Rattle.forms.proofs.Checks.{beyond, own_passed, applied}
use Rattle.rules.specs.Stock.{Whole, clock_of}
use Rattle.rules.specs.Moments.{due_by, next_of}
use Rattle.rules.specs.Messages.{time_of}
use Rattle.rules.specs.Numbers.{rubbish, own_checks, message_checks, checks, tells, time_checks, settle_checks, settles}
use Rattle.rules.specs.declared.Message.{Message}

-- a message that is accepted
pub record Told (m : Message) (h : Whole) : Type 0 where
  pub sound : rubbish h ≡ false
  pub not_back : clock_of h.stock ≤ time_of m
  pub none_due : due_by (time_of m) (next_of h) ≡ false
  pub own_passes : first (own_checks m (length h.window) h.stock) ≡ 0

pub told : (m : Message) (h : Whole) → tells m h ≡ 0 → Told m h
unfolding tells checks message_checks
told m h e =
    let a = beyond 0 _ 1 _ tt e in
    let b = beyond 0 _ 4 _ tt a.1 in
    let c = beyond 0 _ 5 _ tt b.1 in
    let d = beyond 0 _ 6 _ tt c.1 in
    let f = beyond 0 _ 8 _ tt d.1 in
    let g = own_passed _ _ f.1 in
    record {
      sound = a.0;
      not_back = ltb-false _ _ c.0;
      none_due = d.0;
      own_passes = g.1;
    }

-- a settling that does a moment
pub record Settled (t : ℕ) (h : Whole) : Type 0 where
  pub sound : rubbish h ≡ false
  pub due : due_by t (next_of h) ≡ true

pub settled : (t : ℕ) (h : Whole) → settles t h ≡ 0 → Settled t h
unfolding settles settle_checks time_checks
settled t h e =
    let a = beyond 0 _ 1 _ tt e in
    let b = beyond 0 _ 4 _ tt a.1 in
    let c = beyond 0 _ 14 _ tt b.1 in
    record { sound = a.0; due = not-false _ c.0 }

-- and one that finds none
pub record Idle (t : ℕ) (h : Whole) : Type 0 where
  pub sound : rubbish h ≡ false
  pub none_due : due_by t (next_of h) ≡ false

pub idle : (t : ℕ) (h : Whole) → settles t h ≡ 14 → Idle t h
unfolding settles settle_checks time_checks
idle t h e =
    let a = beyond 14 _ 1 _ tt e in
    let b = beyond 14 _ 4 _ tt a.1 in
    record { sound = a.0; none_due = not-true _ (applied _ 14 tt b.1) }
