use mathlib.Core.Logic.{inl, inr}
use Rattle.rules.specs.Numbers.{not_primary}
use Rattle.judge.proofs.message.not_primary.Goals as goal

pub returns-in-Trade : goal.returns-in-Trade
unfolding not_primary
returns-in-Trade c = elim c.in-Trade.is [ inl t ↦ rw t.2 | inr q ↦ rw q.4 ]

pub returns-in-Opening : goal.returns-in-Opening
unfolding not_primary
returns-in-Opening c = elim c.in-Opening.is [ inl o ↦ rw o.2 | inr (inl p) ↦ rw p.1 | inr (inr (inl r)) ↦ rw r.2 | inr (inr (inr x)) ↦ rw x.2 ]
