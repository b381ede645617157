-- The laws of specs/Laws.antt.
-- Assumes nothing.
use mathlib.Core.Path.{refl}
use borrow.Author.Tests.{le-ltb}
use lib.ListN.{length}
use Rattle.forms.proofs.Bools.{joined}
use Rattle.forms.proofs.Promises.{agree}
use Rattle.forms.specs.Checks.{first}
use Rattle.rules.specs.Numbers.{bad_end, bad_setup, rubbish, message_checks, time_checks}
use Rattle.rules.proofs.Refusals.{agree_by_number}
use Rattle.quotes.specs.Parts.{stock_of, bare, fitted}
use Rattle.judge.specs.Verdict.{verdict_of}
use Rattle.judge.specs.Laws.{EarliestIs, RubbishIs, SettlingAsksNoQuotes, Laws}

earliest_is : EarliestIs
earliest_is h = refl

rubbish_is : RubbishIs
unfolding rubbish
rubbish_is h few good = simp (le-ltb 512 (length h.window) few, good, joined)

settling_asks_no_quotes : SettlingAsksNoQuotes
unfolding time_checks
settling_asks_no_quotes time earliest k q = refl

pub laws : Laws
laws = record {
  earliest_is = earliest_is;
  rubbish_is = rubbish_is;
  settling_asks_no_quotes = settling_asks_no_quotes;
  bad_end_determined = λ end. agree (bad_end end);
  bad_setup_determined = λ u. agree (bad_setup u);
  judged_determined = λ f k q. agree (verdict_of f (stock_of k q));
  message_refusal_determined = λ m held earliest k q. agree_by_number (first (message_checks m held earliest (stock_of (fitted k) q)));
  settle_refusal_determined = λ time earliest k. agree_by_number (first (time_checks time earliest (bare k)));
}
