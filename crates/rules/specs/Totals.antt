-- The day totals beside a stock, and the rule that brings them up to date (document 02, R-4).
-- Assumes nothing.
use Rattle.std.specs.Prelude.{ℕ, ◌+◌, ◌-◌, Bool, not, [], ◌∷◌, ltb, eqb}
use Rattle.forms.specs.Choice.{if◌then◌otherwise◌, all_of, any_of}
use Rattle.rules.specs.Stock.{Waiting, Trading, Limit, Paused, Late, Closed, state_of, clock_of, is}
use Rattle.rules.specs.Numbers.{not_side}
use Rattle.rules.specs.Machine.{Event, message, moment}
use Rattle.rules.specs.declared.Stock.{Stock}
use Rattle.rules.specs.declared.StateTimes.{StateTimes}
use Rattle.rules.specs.declared.Totals.{Totals}
use Rattle.rules.specs.declared.Notice.{Notice}
use Rattle.rules.specs.declared.Message.{Message}
use Rattle.rules.specs.declared.Message.TheVariants.{Trade as T, Quote as Q, Opening as O, Pause as P, Reopening as R, Closing as X}

-- the totals that a setup makes: every one is 0
abbrev pub no_totals : Totals
no_totals = record {
  spent = record { waiting = 0; trading = 0; limit = 0; paused = 0; late = 0; closed = 0 };
  limits = 0;
  pauses = 0;
  highest = 0;
  lowest = 0;
}

-- ------------------------------------------------------------------ the six times

-- a time, and so much more of it where the stock was in its state
unfoldable pub longer : Bool → ℕ → ℕ → ℕ
longer here more time = if here then time + more otherwise time

-- the times, after so much more of them in one state
abbrev pub spend : (state more : ℕ) → StateTimes → StateTimes
spend state more t = record {
  waiting = longer (eqb state Waiting) more t.waiting;
  trading = longer (eqb state Trading) more t.trading;
  limit = longer (eqb state Limit) more t.limit;
  paused = longer (eqb state Paused) more t.paused;
  late = longer (eqb state Late) more t.late;
  closed = longer (eqb state Closed) more t.closed;
}

-- all six together
abbrev pub spent_in_all : StateTimes → ℕ
spent_in_all t = t.waiting + t.trading + t.limit + t.paused + t.late + t.closed

-- ------------------------------------------------------------------ the two counts

-- a count stops here
abbrev pub most_counted : ℕ
most_counted = 4_294_967_295

-- a count, and one more where it is to be counted
unfoldable pub one_more : Bool → ℕ → ℕ
one_more one n = if all_of (one ∷ ltb n most_counted ∷ []) then n + 1 otherwise n

-- A Limit began: a stay in Limit keeps its entry and its reference, and one that was begun afresh in the same call has another of them.
unfoldable pub begins_limit : Stock → Stock → Bool
begins_limit s s' = all_of (
    is Limit s' ∷
    any_of (
    not (is Limit s) ∷
    not (eqb s'.course.entry s.course.entry) ∷
    not (eqb s'.reference.price.sum s.reference.price.sum) ∷
    not (eqb s'.reference.price.count s.reference.price.count) ∷
    []
    ) ∷
    [])

-- in a pause of either kind
unfoldable pub in_pause : Stock → Bool
in_pause s = any_of (is Paused s ∷ is Late s ∷ [])

-- a pause began, of either kind
unfoldable pub begins_pause : Stock → Stock → Bool
begins_pause s s' = all_of (in_pause s' ∷ not (in_pause s) ∷ [])

-- ------------------------------------------------------------------ the highest and the lowest trade

-- the price of a T; 0 for any other event
abbrev pub traded_by : Event Message Notice → ℕ
traded_by (message (T time price)) = price
traded_by (message (Q time participant bid offer)) = 0
traded_by (message (O time participant price)) = 0
traded_by (message (P time participant)) = 0
traded_by (message (R time participant price)) = 0
traded_by (message (X time participant price)) = 0
traded_by (moment n) = 0

-- the highest with one more price
unfoldable pub highest_with : ℕ → ℕ → ℕ
highest_with price n = if ltb n price then price otherwise n

-- the lowest with one more price, where 0 is none
unfoldable pub lowest_with : ℕ → ℕ → ℕ
lowest_with price n = if all_of (not (eqb price 0) ∷ any_of (eqb n 0 ∷ ltb price n ∷ []) ∷ []) then price otherwise n

-- ------------------------------------------------------------------ the rule

-- The totals after an event, by the price of its T, the stock s before it and the stock s' after it. The time from one event to the next was
-- spent in the state that the former left.
unfoldable pub brought : ℕ → Stock → Stock → Totals → Totals
brought price s s' t = record {
  spent = spend (state_of s) (clock_of s' - clock_of s) t.spent;
  limits = one_more (begins_limit s s') t.limits;
  pauses = one_more (begins_pause s s') t.pauses;
  highest = highest_with price t.highest;
  lowest = lowest_with price t.lowest;
}

-- the totals are wrong: the six times do not add up to the clock, or the highest or the lowest is over the price range
unfoldable pub wrong_totals : ℕ → Totals → Bool
wrong_totals clock t = any_of (
    not (eqb (spent_in_all t.spent) clock) ∷
    not_side t.highest ∷
    not_side t.lowest ∷
    [])
