-- A stock with day totals: wrong totals are answered 1, and otherwise a call does what it does without them. So it is a machine too.
-- Assumes nothing.
use Prim.Native.Nat.{ℕ}
use mathlib.Core.List.{List, [], ◌∷◌}
use mathlib.Core.Logic.{◌⊎◌, inl, inr, ⊎_elim}
use mathlib.Core.Path.{◌≡◌, refl, sym, ◌∙◌}
use native.Mathlib.Omega.{arith}
use borrow.Author.Tests.{eq-eqb, ne_eqb, eqb-true}
use Rattle.forms.specs.Words.{Number, Gives}
use Rattle.forms.specs.Words.Number.{◌for◌}
use Rattle.forms.proofs.Choice.{if_true, if_false, if_arms}
use Rattle.forms.proofs.Decides.{Decides, words, is_true, is_false, either_way, take, skip}
use Rattle.rules.specs.Totals.{wrong_totals}
use Rattle.rules.specs.Counted as counted
use Rattle.rules.specs.Counted.{Counted, or_wrong}
use Rattle.rules.specs.Machine.{MachineLaws, ByHistory, Alike, Lawful, message, moment, left}
use Rattle.rules.specs.Book.{machine, counting, Story}
use Rattle.rules.specs.TotalsWords as with_totals
use Rattle.rules.specs.TotalsWords.{WrongTotals, Wrong}
use Rattle.rules.specs.declared.Totals.{Totals}
use Rattle.rules.specs.declared.Summary.{Summary}
use Rattle.rules.specs.declared.Message.{Message}
use Rattle.rules.proofs.Alike.{by_history, alike}
use Rattle.rules.proofs.Lawful.{machine_laws}
use Rattle.rules.proofs.Numbers.{told, settled, was_read}

-- ------------------------------------------------------------------ wrong totals

pub wrong_is : (clock : ℕ) (t : Totals) → Decides (wrong_totals clock t) (WrongTotals clock t)
unfolding wrong_totals
wrong_is clock t = search words depth 20

module _ (c : Counted) where
  pub wrong_or_not : Wrong c ⊎ (¬ Wrong c)
  wrong_or_not = either_way _ (wrong_is _ c.totals)

  pub if_wrong : (own : ℕ) → Wrong c → or_wrong c own ≡ 1
  unfolding or_wrong
  if_wrong own w = if_true _ 1 own (is_true _ (wrong_is _ c.totals) w)

  pub if_right : (own : ℕ) → ¬ Wrong c → or_wrong c own ≡ own
  unfolding or_wrong
  if_right own n = if_false _ 1 own (is_false _ (wrong_is _ c.totals) n)

  -- any other number than 1 is the stock's own, and the totals are right
  pub own_number : (own n : ℕ) → ¬ (n ≡ 1) → or_wrong c own ≡ n → (¬ Wrong c) × (own ≡ n)
  own_number own n other e = go wrong_or_not
    where
      go : Wrong c ⊎ (¬ Wrong c) → (¬ Wrong c) × (own ≡ n)
      go (inl w) = absurd (other (sym e ∙ if_wrong own w))
      go (inr r) = (r, sym (if_right own r) ∙ e)

  -- what an accepted call was answered without totals
  pub accepted : (own : ℕ) → or_wrong c own ≡ 0 → own ≡ 0
  accepted own e = (own_number own 0 (λ z. omega arith) e).1

  gives : (own : ℕ) (table : List Number) → Gives table own → Gives (1 for Wrong c ∷ table) (or_wrong c own)
  gives own table g = ⊎_elim (λ w. take 1 _ (Wrong c) table w (if_wrong own w)) (λ r. skip 1 _ (Wrong c) table r (rw (if_right own r) g)) wrong_or_not

-- ------------------------------------------------------------------ the number of each call

pub told_with : (m : Message) (c : Counted) → Gives (with_totals.refusals m c) (counted.tells m c)
told_with m c = gives c _ _ (told m c.whole)

pub settled_with : (time : ℕ) (c : Counted) → Gives (with_totals.settle_refusals time c) (counted.settles time c)
settled_with time c = gives c _ _ (settled time c.whole)

pub read_with : (c : Counted) → Gives (with_totals.read_refusals c) (counted.reads c)
read_with c = gives c _ _ (was_read c.whole)

-- asking for the totals has the number of reading
pub totals_number : (c : Counted) → (counted.totals_answer c).number ≡ counted.reads c
unfolding counted.totals_answer
totals_number c = if_arms (λ (a : Summary). a.number ≡ counted.reads c) _ (λ e. sym (eqb-true _ 0 e)) (λ _. refl)

-- ------------------------------------------------------------------ what a call leaves

pub left_by_telling : (m : Message) (c : Counted)
    → (counted.tells m c ≡ 0 → counted.after_telling m c ≡ counted.after m c) × (¬ (counted.tells m c ≡ 0) → counted.after_telling m c ≡ c)
unfolding counted.after_telling
left_by_telling m c = ((λ e. if_true _ _ _ (eq-eqb _ 0 e)), (λ n. if_false _ _ _ (ne_eqb _ 0 n)))

pub left_by_settling : (time : ℕ) (c : Counted)
    → (counted.settles time c ≡ 0 → counted.after_settling time c ≡ counted.fire c) × (¬ (counted.settles time c ≡ 0) → counted.after_settling time c ≡ c)
unfolding counted.after_settling
left_by_settling time c = ((λ e. if_true _ _ _ (eq-eqb _ 0 e)), (λ n. if_false _ _ _ (ne_eqb _ 0 n)))

pub noticed_by_settling : (time : ℕ) (c : Counted) → counted.settles time c ≡ 0 → counted.settle_answer time c ≡ counted.notice c
unfolding counted.settle_answer
noticed_by_settling time c e = if_true _ _ _ (eq-eqb _ 0 e)

-- ------------------------------------------------------------------ a machine

pub counting_laws : MachineLaws counting
unfolding counted.after counted.fire
counting_laws = record {
  not_back = λ m c e. machine_laws.not_back m c.whole (accepted c _ e);
  none_due = λ m c e d k. machine_laws.none_due m c.whole (accepted c _ e) d k;
  at_message_lem = λ m c. machine_laws.at_message_lem m c.whole;
  its_time = λ t c e. machine_laws.its_time t c.whole (accepted c _ e);
  forward = λ t c e. machine_laws.forward t c.whole (accepted c _ e);
  at_moment = λ c. machine_laws.at_moment c.whole;
  nothing_due = λ t c e d k. machine_laws.nothing_due t c.whole (own_number c _ 14 (λ z. omega arith) e).1 d k;
}

pub counting_by_history : (blank : Counted) → ByHistory counting blank
counting_by_history = by_history counting counting_laws

pub counting_settled_alike : (blank : Counted) → Alike counting blank
counting_settled_alike = alike counting counting_laws

-- ------------------------------------------------------------------ a story

-- its events are allowed without totals, and leave the same stock
pub lawful_without : (c : Counted) (es : Story) → Lawful counting c es → Lawful machine c.whole es
unfolding counted.after counted.fire
lawful_without c [] v = tt
lawful_without c (message m ∷ es) v = (accepted c _ v.0, lawful_without (counted.after m c) es v.1)
lawful_without c (moment n ∷ es) v = ((v.0.0, accepted c _ v.0.1), v.1, lawful_without (counted.fire c) es v.2)

pub left_without : (c : Counted) (es : Story) → (left counting c es).whole ≡ left machine c.whole es
unfolding counted.after counted.fire
left_without c [] = refl
left_without c (message m ∷ es) = left_without (counted.after m c) es
left_without c (moment n ∷ es) = left_without (counted.fire c) es
