-- The stock of the rules as a machine, alone and with its day totals, and the book that a setup starts (document 01, "What the book holds").
-- Assumes nothing.
use Rattle.std.specs.Prelude.{ℕ, ◌*◌, List, [], map, ◌≡◌, eqb, length}
use Rattle.forms.specs.Choice.{if◌then◌otherwise◌}
use Rattle.forms.specs.Checks.{first}
use Rattle.rules.specs.Stock.{Whole, clock_of}
use Rattle.rules.specs.Moments.{next_of, fire}
use Rattle.rules.specs.Messages.{time_of, after}
use Rattle.rules.specs.Numbers.{call_checks, tells, settles, zeros, notice, sets_up, no_notice, none_coming}
use Rattle.rules.specs.Machine.{Machine, Event, of, journal, Asked, number_of, Calls, stock, run, log, asked, SettledTo}
use Rattle.rules.specs.Counted as counted
use Rattle.rules.specs.Counted.{Counted, fresh, tell_answer, settle_answer, read_answer, next_answer, no_summary, totals_answer}
use Rattle.rules.specs.declared.Setup.{Setup}
use Rattle.rules.specs.declared.Answer.{Answer}
use Rattle.rules.specs.declared.Notice.{Notice}
use Rattle.rules.specs.declared.Upcoming.{Upcoming}
use Rattle.rules.specs.declared.Summary.{Summary}
use Rattle.rules.specs.declared.Message.{Message}

-- the rules as a machine: one stock, whose rules need no totals
abbrev pub machine : Machine
machine = record {
  Stock = Whole;
  Message = Message;
  Notice = Notice;
  time = time_of;
  date = λ n. n.time;
  clock = λ h. clock_of h.stock;
  Due = λ h d. ((next_of h).mark ≡ 0 → ⊥) × ((next_of h).time ≡ d);
  tells = tells;
  settles = settles;
  after = after;
  fire = fire;
  notice = notice;
}

-- the same with day totals around the stock (R-4): of such stocks a book is made
abbrev pub counting : Machine
counting = record {
  Stock = Counted;
  Message = Message;
  Notice = Notice;
  time = time_of;
  date = λ n. n.time;
  clock = λ c. machine.clock c.whole;
  Due = λ c d. machine.Due c.whole d;
  tells = counted.tells;
  settles = counted.settles;
  after = counted.after;
  fire = counted.fire;
  notice = counted.notice;
}

-- what has happened to one stock: accepted messages and settled moments, in their order
abbrev pub Story : Type 0
Story = List (Event Message Notice)

-- ------------------------------------------------------------------ "What the book holds": the book after a setup and calls

-- the setup is accepted by a book with a stock for each setup, and with their places
abbrev pub Accepted : ℕ → List Setup → Type 0
Accepted end us = sets_up (length us) (512 * length us) (512 * length us) end us ≡ 0

-- a setup that is read only past the end of a book
abbrev pub no_setup : Setup
no_setup = record { tier = 1; leverage = 1; primary = 0; close = 1 }

module _ (end : ℕ) where
  -- the stock that is read past the end of a book
  abbrev pub blank : Counted
  blank = fresh end no_setup

  -- the book that a setup starts
  abbrev pub book : List Setup → List Counted
  book us = map (fresh end) us

  -- the stock i as calls have left it
  abbrev pub now : List Setup → Calls counting → ℕ → Counted
  now us cs i = stock counting blank (run counting blank (book us) cs) i

  -- what has happened to the stock i
  abbrev pub story : List Setup → Calls counting → ℕ → Story
  story us cs i = of i (log counting blank (book us) cs)

  -- the calls of ds on the stock i, made after cs, each with the stock that it found
  abbrev pub asked_of : List Setup → (cs ds : Calls counting) → ℕ → List (Asked counting)
  asked_of us cs ds i = of i (asked counting blank (run counting blank (book us) cs) ds)

  -- the journal of the stock i: the calls on it that were answered 0
  abbrev pub journal_of : List Setup → Calls counting → ℕ → List (Asked counting)
  journal_of us cs i = journal (number_of counting) (asked_of us [] cs i)

  -- the book is settled to T, and no stock of it beyond
  abbrev pub Settled : ℕ → List Setup → Calls counting → Type 0
  Settled T us cs = SettledTo counting blank T (book us) cs

  -- the answer of a book with so many places to a message for the stock i: 1 or 3 with zeros by the first checks, else the answer of the stock
  unfoldable pub book_tells : List Counted → (times prices i : ℕ) → Message → Answer
  book_tells b times prices i m =
      let number = first (call_checks (length b) times prices i) in
      if eqb number 0 then tell_answer m (stock counting blank b i) otherwise zeros number

  -- the answer to settling the stock i: 1 or 3 with zeros and no moment by the first checks, else the answer of the stock
  unfoldable pub book_settles : List Counted → (times prices i : ℕ) → ℕ → Notice
  book_settles b times prices i time =
      let number = first (call_checks (length b) times prices i) in
      if eqb number 0 then settle_answer time (stock counting blank b i) otherwise no_notice number

  -- the answer to reading the stock i: 1 or 3 with zeros by the first checks, else the answer of the stock
  unfoldable pub book_reads : List Counted → (times prices i : ℕ) → Answer
  book_reads b times prices i =
      let number = first (call_checks (length b) times prices i) in
      if eqb number 0 then read_answer (stock counting blank b i) otherwise zeros number

  -- the answer to asking what comes next of the stock i: 1 or 3 with no moment by the first checks, else the answer of the stock
  unfoldable pub book_next : List Counted → (times prices i : ℕ) → Upcoming
  book_next b times prices i =
      let number = first (call_checks (length b) times prices i) in
      if eqb number 0 then next_answer (stock counting blank b i) otherwise none_coming number

  -- the answer to asking for the day totals of the stock i: 1 or 3 with every total 0 by the first checks, else the answer of the stock
  unfoldable pub book_totals : List Counted → (times prices i : ℕ) → Summary
  book_totals b times prices i =
      let number = first (call_checks (length b) times prices i) in
      if eqb number 0 then totals_answer (stock counting blank b i) otherwise no_summary number
