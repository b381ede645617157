-- What the promises of judge obey. Each field is a theorem: `laws` of proofs/Laws.antt proves the record.
-- Assumes nothing.
use Rattle.std.specs.Prelude.{ℕ, ◌≤◌, false, ◌≡◌, length}
use Rattle.forms.specs.Checks.{first}
use Rattle.forms.specs.Promises.{Determines}
use Rattle.rules.specs.Stock.{Whole, clock_of, figures_of}
use Rattle.rules.specs.Moments.{next_of}
use Rattle.rules.specs.Numbers.{bad_end, bad_setup, bad_trades, rubbish, message_checks, time_checks}
use Rattle.rules.specs.Refusals.{refused_by}
use Rattle.quotes.specs.Parts.{stock_of, bare, fitted}
use Rattle.quotes.specs.declared.Kept.{Kept}
use Rattle.judge.specs.Verdict.{verdict_of}
use Rattle.rules.specs.declared.Figures.{Figures}
use Rattle.rules.specs.declared.Message.{Message}
use Rattle.rules.specs.declared.Moment.{Moment}
use Rattle.rules.specs.declared.Quotes.{Quotes}
use Rattle.rules.specs.declared.Setup.{Setup}

-- the verdict on a stock is that of the rules on the stock with its window: its earliest moment, and, where it holds at most 512 trades that are
-- all good, whether it is rubbish
abbrev pub EarliestIs : Type 0
EarliestIs = (h : Whole) → (verdict_of (figures_of h.window) h.stock).earliest ≡ next_of h

abbrev pub RubbishIs : Type 0
RubbishIs = (h : Whole) → length h.window ≤ 512 → bad_trades (clock_of h.stock) h.window ≡ false
    → (verdict_of (figures_of h.window) h.stock).rubbish ≡ rubbish h

-- the number that refuses settling does not depend on the quotes
abbrev pub SettlingAsksNoQuotes : Type 0
SettlingAsksNoQuotes = (time : ℕ) (earliest : Moment) (k : Kept) (q : Quotes) → time_checks time earliest (bare k) ≡ time_checks time earliest (stock_of k q)

pub record Laws : Type 0 where
  pub earliest_is : EarliestIs
  pub rubbish_is : RubbishIs
  pub settling_asks_no_quotes : SettlingAsksNoQuotes
  -- two results that a promise of src/lib.rt allows agree ("How much a promise says")
  pub bad_end_determined : (end : ℕ) → Determines (λ r. r ≡ bad_end end)
  pub bad_setup_determined : (u : Setup) → Determines (λ r. r ≡ bad_setup u)
  pub judged_determined : (f : Figures) (k : Kept) (q : Quotes) → Determines (λ r. r ≡ verdict_of f (stock_of k q))
  pub message_refusal_determined : (m : Message) (held : ℕ) (earliest : Moment) (k : Kept) (q : Quotes)
      → Determines (λ r. refused_by r ≡ first (message_checks m held earliest (stock_of (fitted k) q)))
  pub settle_refusal_determined : (time : ℕ) (earliest : Moment) (k : Kept) → Determines (λ r. refused_by r ≡ first (time_checks time earliest (bare k)))
