use Prim.Native.Nat.{ℕ}
use mathlib.Core.Path.{◌≡◌}
use Rattle.forms.specs.Checks.{first}
use Rattle.forms.proofs.Bools.{refusals}
use Rattle.rules.specs.Numbers.{own_checks}
use Rattle.rules.specs.declared.Message.{Message}
use Rattle.rules.specs.declared.Message.TheVariants.{Trade}
use Rattle.rules.specs.declared.Quotes.{Quotes}
use Rattle.rules.specs.declared.Stock.{Stock}
use Rattle.quotes.specs.Parts.{stock_of, fitted}
use Rattle.quotes.specs.declared.Kept.{Kept}
use Rattle.judge.proofs.message.own_refusal.Goals as goal

-- what is right of the letter that the message is, is right of the message
by_letter : (m n : Message) (held : ℕ) (s : Stock) (r : ℕ) → m ≡ n → r ≡ first (own_checks n held s) → r ≡ first (own_checks m held s)
by_letter m n held s r e q = rw e q

-- at the time of the message and beside any quotes, since a trade's checks ask neither
of_trade : (time price held : ℕ) (k : Kept) (q : Quotes) (r : ℕ) → ((t : ℕ) (q : Quotes) → r ≡ first (own_checks (Trade t price) held (stock_of (fitted k) q)))
    → r ≡ first (own_checks (Trade time price) held (stock_of (fitted k) q))
of_trade time price held k q r e = e time q

ruleset own = (by_letter, refusals)

pub returns-in-Trade : goal.returns-in-Trade
unfolding own_checks
returns-in-Trade c = search (by_letter, of_trade)

pub returns-in-Opening : goal.returns-in-Opening
unfolding own_checks
returns-in-Opening c = search own

pub returns-in-Pause : goal.returns-in-Pause
unfolding own_checks
returns-in-Pause c = search own

pub returns-in-Reopening : goal.returns-in-Reopening
unfolding own_checks
returns-in-Reopening c = search own

pub returns-in-Closing : goal.returns-in-Closing
unfolding own_checks
returns-in-Closing c = search own

pub returns-in_default : goal.returns-in_default
unfolding own_checks
returns-in_default c = search own

pub returns-in_default-2 : goal.returns-in_default-2
unfolding own_checks
returns-in_default-2 c = search own

pub returns-in_default-3 : goal.returns-in_default-3
unfolding own_checks
returns-in_default-3 c = search own

pub returns-in_default-4 : goal.returns-in_default-4
unfolding own_checks
returns-in_default-4 c = search own

pub returns-in_default-5 : goal.returns-in_default-5
unfolding own_checks
returns-in_default-5 c = search own
