use Rattle.rules.specs.Numbers.{outside, own_checks}
use Rattle.forms.proofs.Bools.{refusals}
use Prim.Native.Nat.{ℕ}
use mathlib.Core.Bool.{Bool}
use mathlib.Core.Path.{◌≡◌, sym, ap, ◌∙◌}
use Rattle.rules.specs.States.{no_quotes}
use Rattle.rules.specs.declared.Quotes.{Quotes}
use Rattle.quotes.specs.Parts.{stock_of, fitted, basis_of, stock_by}
use Rattle.quotes.specs.declared.Basis.{Basis}
use Rattle.quotes.specs.declared.Kept.{Kept}
use Rattle.quotes.proofs.Laws as quotes
use Rattle.judge.proofs.message.trade_refusal.Goals as goal

by_basis : (k : Kept) (q : Quotes) (b : Basis) (price : ℕ) (x y : Bool) → b ≡ basis_of k → x ≡ outside (stock_by b no_quotes) price → x ≡ y → outside (stock_of (fitted k) q) price ≡ y
by_basis k q b price x y e f g = sym ((quotes.laws).outside_by_basis k q price) ∙ ap (λ b. outside (stock_by b no_quotes) price) (sym e) ∙ sym f ∙ g

pub returns-then-outside : goal.returns-then-outside
unfolding own_checks
returns-then-outside c time q = search (by_basis, refusals) depth 20

pub returns-then-held-ge-MOST_HELD : goal.returns-then-held-ge-MOST_HELD
unfolding own_checks
returns-then-held-ge-MOST_HELD c time q = search (by_basis, refusals) depth 20

pub returns : goal.returns
unfolding own_checks
returns c time q = search (by_basis, refusals) depth 20
