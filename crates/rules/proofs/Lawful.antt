-- The rules of document 01 have the laws of a machine.
-- Assumes nothing.
use Prim.Native.Nat.{ℕ, ◌≤◌, ◌<◌}
use mathlib.Core.Bool.{Bool, true, false, true≢false}
use mathlib.Core.Path.{◌≡◌, refl, sym, ap, ◌∙◌}
use native.Mathlib.Omega.{arith}
use borrow.Author.Tests.{leb-true, leb-false, ltb-false, eqb-false, not-true}
use lib.Dec.{leb, ltb}
use Rattle.forms.proofs.Choice.{all_head, all_tail, all_yes, all_empty, any_head, any_tail, ne_not}
use Rattle.rules.specs.Stock.{Whole, clock_of}
use Rattle.rules.specs.Moments.{due_by, past_at, next_of, fire}
use Rattle.rules.specs.Messages.{time_of}
use Rattle.rules.specs.Numbers.{rubbish, notice}
use Rattle.rules.specs.Machine.{MachineLaws}
use Rattle.rules.specs.Book.{machine}
use Rattle.rules.specs.declared.Moment.{Moment}
use Rattle.rules.proofs.Earliest.{IsMoment}
use Rattle.rules.proofs.Kept.{after_kept, come_kept}
use Rattle.rules.proofs.Passed.{told, settled, idle}

-- ------------------------------------------------------------------ a moment that is due, that is not, that is past

pub when_due : (t : ℕ) (m : Moment) → due_by t m ≡ true → IsMoment m × (m.time ≤ t)
unfolding due_by
when_due t m e = (
  eqb-false m.mark 0 (not-true _ (all_head _ _ e)),
  leb-true m.time t (all_head _ _ (all_tail _ _ e)),
)

pub when_not : (t : ℕ) (m : Moment) → due_by t m ≡ false → IsMoment m → t < m.time
unfolding due_by
when_not t m e is = go (leb m.time t) refl
  where
    go : (b : Bool) → leb m.time t ≡ b → t < m.time
    go true q = absurd (true≢false (sym (all_yes _ _ (ne_not m.mark 0 is) (all_yes _ _ q all_empty)) ∙ e))
    go false q = leb-false m.time t q

pub not_past : (t : ℕ) (m : Moment) → past_at t m ≡ false → IsMoment m → t ≤ m.time
unfolding past_at
not_past t m e is = go (ltb m.time t) refl
  where
    go : (b : Bool) → ltb m.time t ≡ b → t ≤ m.time
    go true q = absurd (true≢false (sym (all_yes _ _ (ne_not m.mark 0 is) (all_yes _ _ q all_empty)) ∙ e))
    go false q = ltb-false m.time t q

-- what check 1 has seen: no moment still to come is before the clock
pub next_not_past : (h : Whole) → rubbish h ≡ false → IsMoment (next_of h) → clock_of h.stock ≤ (next_of h).time
unfolding rubbish
next_not_past h r is =
    not_past _ _ (any_head _ _ (any_tail _ _ (any_tail _ _ (any_tail _ _ r)))) is

-- ------------------------------------------------------------------ the laws

pub fire_clock : (h : Whole) → clock_of (fire h).stock ≡ (next_of h).time
unfolding fire
fire_clock h = ap (λ k. k.0) (come_kept (next_of h) h)

pub machine_laws : MachineLaws machine
unfolding notice
machine_laws = record {
  not_back = λ m h e. (told m h e).not_back;
  none_due = λ m h e d k. let l = when_not (time_of m) (next_of h) (told m h e).none_due k.0 in omega (arith, k.1);
  at_message_lem = λ m h. ap (λ k. k.0) (after_kept m h);
  its_time = λ t h e. ((when_due t (next_of h) (settled t h e).due).0, refl);
  forward = λ t h e. next_not_past h (settled t h e).sound (when_due t (next_of h) (settled t h e).due).0;
  at_moment = fire_clock;
  nothing_due = λ t h e d k. let l = when_not t (next_of h) (idle t h e).none_due k.0 in omega (arith, k.1);
}
