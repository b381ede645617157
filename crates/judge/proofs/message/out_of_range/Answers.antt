use Prim.Native.Nat.{ℕ}
use mathlib.Core.Bool.{Bool, ◌||◌}
use mathlib.Core.List.{[], ◌∷◌}
use mathlib.Core.Logic.{inl, inr}
use mathlib.Core.Path.{◌≡◌}
use Rattle.forms.specs.Choice.{any_of}
use Rattle.forms.proofs.Bools.{joined, either}
use Rattle.rules.specs.Numbers.{out_of_range}
use Rattle.rules.specs.declared.Message.{Message}
use Rattle.judge.proofs.message.out_of_range.Goals as goal

by_letter : (end : ℕ) (m n : Message) (r : Bool) → m ≡ n → r ≡ out_of_range end n → r ≡ out_of_range end m
by_letter end m n r e q = rw e q

-- of what calls answered
three : (p q r a b c : Bool) → p ≡ a → q ≡ b → r ≡ c → (p || q || r) ≡ any_of (a ∷ b ∷ c ∷ [])
three p q r a b c e f g = simp (e, f, g, joined)

-- of a quote
four : (p b c t a d : Bool) → p ≡ a → t ≡ d → (p || b || c || t) ≡ any_of (a ∷ b ∷ c ∷ d ∷ [])
four p b c t a d e f = simp (e, f, joined)

ruleset row = (by_letter, either, three, four)

pub returns-in-Trade : goal.returns-in-Trade
unfolding out_of_range
returns-in-Trade c = search row

pub returns-in-Quote : goal.returns-in-Quote
unfolding out_of_range
returns-in-Quote c = search row

pub returns-in-Opening : goal.returns-in-Opening
unfolding out_of_range
returns-in-Opening c = let is = c.in-Opening.is in elim is [ inl o ↦ search row | inr (inl r) ↦ search row | inr (inr x) ↦ search row ]

pub returns-in-Pause : goal.returns-in-Pause
unfolding out_of_range
returns-in-Pause c = search row
