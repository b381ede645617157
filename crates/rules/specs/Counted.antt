-- A stock with its day totals beside it, and what a call answers and leaves (document 02, R-4). The names are those of the rules for a stock without
-- totals, which decide everything but the totals: these only add 1 for wrong totals, and bring the totals up to date.
-- Assumes nothing.
use Rattle.std.specs.Prelude.{ℕ, Bool, eqb}
use Rattle.forms.specs.Choice.{if◌then◌otherwise◌}
use Rattle.rules.specs.Stock.{Whole, clock_of}
use Rattle.rules.specs.Moments as moments
use Rattle.rules.specs.Moments.{no_moment, next_of}
use Rattle.rules.specs.Messages as messages
use Rattle.rules.specs.Numbers as numbers
use Rattle.rules.specs.Numbers.{answer, beside, none_coming}
use Rattle.rules.specs.Machine.{Event, message, moment}
use Rattle.rules.specs.Totals.{no_totals, traded_by, brought, wrong_totals}
use Rattle.rules.specs.declared.Setup.{Setup}
use Rattle.rules.specs.declared.Totals.{Totals}
use Rattle.rules.specs.declared.Answer.{Answer}
use Rattle.rules.specs.declared.Notice.{Notice}
use Rattle.rules.specs.declared.Upcoming.{Upcoming}
use Rattle.rules.specs.declared.Summary.{Summary}
use Rattle.rules.specs.declared.Message.{Message}

-- a stock with its window, and its day totals
pub record Counted : Type 0 where
  pub whole : Whole
  pub totals : Totals

-- ------------------------------------------------------------------ setup

-- a stock after setup: every total is 0
unfoldable pub fresh : ℕ → Setup → Counted
fresh end u = record { whole = numbers.fresh end u; totals = no_totals }

-- ------------------------------------------------------------------ the numbers

-- its totals are wrong
abbrev pub wrong : Counted → Bool
wrong c = wrong_totals (clock_of c.whole.stock) c.totals

-- 1 for wrong totals, else the stock's own number
unfoldable pub or_wrong : Counted → ℕ → ℕ
or_wrong c own = if wrong c then 1 otherwise own

-- the number that a message is answered with
abbrev pub tells : Message → Counted → ℕ
tells m c = or_wrong c (numbers.tells m c.whole)

-- the number that settling to a time is answered with
abbrev pub settles : ℕ → Counted → ℕ
settles time c = or_wrong c (numbers.settles time c.whole)

-- the number that reading is answered with
abbrev pub reads : Counted → ℕ
reads c = or_wrong c (numbers.reads c.whole)

-- ------------------------------------------------------------------ what happens

-- the stock that an event made, with the totals brought up to date
abbrev pub with_event : Event Message Notice → Counted → Whole → Counted
with_event e c h' = record { whole = h'; totals = brought (traded_by e) c.whole.stock h'.stock c.totals }

-- the dated notice of the earliest moment
abbrev pub notice : Counted → Notice
notice c = numbers.notice c.whole

-- the stock after an accepted message
unfoldable pub after : Message → Counted → Counted
after m c = with_event (message m) c (messages.after m c.whole)

-- the stock after its earliest moment
unfoldable pub fire : Counted → Counted
fire c = with_event (moment (notice c)) c (moments.fire c.whole)

-- the stock after a message: with what the message does where the number is 0, else as it was, with every total
unfoldable pub after_telling : Message → Counted → Counted
after_telling m c = if eqb (tells m c) 0 then after m c otherwise c

-- the stock after settling: with its earliest moment done where the number is 0, else as it was, with every total
unfoldable pub after_settling : ℕ → Counted → Counted
after_settling time c = if eqb (settles time c) 0 then fire c otherwise c

-- ------------------------------------------------------------------ the answers

-- the answer to a message: the number, and what the stock then shows
unfoldable pub tell_answer : Message → Counted → Answer
tell_answer m c = answer (tells m c) (after_telling m c).whole.stock

-- the answer to settling: the notice, or zeros for the mark and the time where no moment was done
unfoldable pub settle_answer : ℕ → Counted → Notice
settle_answer time c = if eqb (settles time c) 0 then notice c otherwise beside no_moment (answer (settles time c) c.whole.stock)

-- the answer to reading: the number, and what the stock shows
unfoldable pub read_answer : Counted → Answer
read_answer c = answer (reads c) c.whole.stock

-- the answer to asking what comes next: the number of reading, and where it is 0 the stock's earliest moment
unfoldable pub next_answer : Counted → Upcoming
next_answer c = if eqb (reads c) 0 then record { number = 0; mark = (next_of c.whole).mark; time = (next_of c.whole).time } otherwise none_coming (reads c)

-- a number with every total 0
abbrev pub no_summary : ℕ → Summary
no_summary number = record { number = number; totals = no_totals }

-- the answer to asking for the day totals: the number of reading, and where it is 0 the totals
unfoldable pub totals_answer : Counted → Summary
totals_answer c = if eqb (reads c) 0 then record { number = 0; totals = c.totals } otherwise no_summary (reads c)
