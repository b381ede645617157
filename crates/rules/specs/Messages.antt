-- The messages, and what each does once it is accepted (document 01, "Messages").
-- Assumes nothing.
use Rattle.std.specs.Prelude.{ℕ, List, [], ◌∷◌, ◌++◌, leb, ltb, set}
use Rattle.forms.specs.Choice.{if◌then◌otherwise◌}
use Rattle.forms.specs.Tables.{entry}
use Rattle.band.specs.Band.{price_of}
use Rattle.rules.specs.Stock.{Whole, Waiting, Limit, clock_of, is, at_time, with_quotes, figures_of, mean_in}
use Rattle.rules.specs.States.{look, begin_trading, leave, test, begin_pause, shut}
use Rattle.rules.specs.declared.Stock.{Stock}
use Rattle.rules.specs.declared.Figures.{Figures}
use Rattle.rules.specs.declared.Message.{Message}
use Rattle.rules.specs.declared.Message.TheVariants.{Trade as T, Quote as Q, Opening as O, Pause as P, Reopening as R, Closing as X}

-- ------------------------------------------------------------------ "Messages": the table of message by state

-- the 36 entries: T, Q, O, P, R, X by the states 0 to 5
abbrev pub table : List (List ℕ)
table =
    (0 ∷ 0 ∷ 0 ∷ 11 ∷ 11 ∷ 7 ∷ []) ∷
    (0 ∷ 0 ∷ 0 ∷ 0 ∷ 0 ∷ 7 ∷ []) ∷
    (0 ∷ 9 ∷ 9 ∷ 9 ∷ 9 ∷ 7 ∷ []) ∷
    (9 ∷ 0 ∷ 9 ∷ 9 ∷ 9 ∷ 7 ∷ []) ∷
    (9 ∷ 9 ∷ 9 ∷ 0 ∷ 9 ∷ 7 ∷ []) ∷
    (9 ∷ 9 ∷ 9 ∷ 9 ∷ 0 ∷ 7 ∷ []) ∷
    []

-- a message's row of the table
abbrev pub kind : Message → ℕ
kind (T time price) = 0
kind (Q time participant bid offer) = 1
kind (O time participant price) = 2
kind (P time participant) = 3
kind (R time participant price) = 4
kind (X time participant price) = 5

-- the letters, each by its code
abbrev pub letter_t : ℕ
letter_t = 84

abbrev pub letter_q : ℕ
letter_q = 81

abbrev pub letter_o : ℕ
letter_o = 79

abbrev pub letter_p : ℕ
letter_p = 80

abbrev pub letter_r : ℕ
letter_r = 82

abbrev pub letter_x : ℕ
letter_x = 88

-- a message's letter
abbrev pub letter : Message → ℕ
letter (T time price) = letter_t
letter (Q time participant bid offer) = letter_q
letter (O time participant price) = letter_o
letter (P time participant) = letter_p
letter (R time participant price) = letter_r
letter (X time participant price) = letter_x

-- a message's time
abbrev pub time_of : Message → ℕ
time_of (T time price) = time
time_of (Q time participant bid offer) = time
time_of (O time participant price) = time
time_of (P time participant) = time
time_of (R time participant price) = time
time_of (X time participant price) = time

-- whether the state takes a message of the kind: 0, or the number that refuses it; a state over 5 refuses as Closed does
unfoldable pub taken : ℕ → ℕ → ℕ
taken kind state = if ltb state 6 then entry table kind state otherwise 7

-- ------------------------------------------------------------------ "Messages": what each does, the clock being at its time

-- a trade has joined: in Waiting, from 300,000 on, the mean is the first reference; Trading makes the Test
unfoldable pub trade_rules : Figures → Stock → Stock
trade_rules f s = if is Waiting s then (if leb 300_000 (clock_of s) then begin_trading (mean_in f) s otherwise s) otherwise test f s

-- a quote is set: Limit may end; Trading looks at the quotes
unfoldable pub quote_rules : Figures → Stock → Stock
quote_rules f s = if is Limit s then leave f s otherwise look s

-- one participant's bid and offer are set
abbrev pub with_quote : ℕ → ℕ → ℕ → Stock → Stock
with_quote participant bid offer s =
    with_quotes (record { bids = set s.quotes.bids participant bid; offers = set s.quotes.offers participant offer }) s

-- an opening or a reopening: the window is its price alone, dated by the message, and so is the reference
abbrev pub opened : ℕ → ℕ → Whole → Whole
opened time price h = record { stock = begin_trading (price_of price) h.stock; window = record { at = time; price = price } ∷ [] }

-- each message's effect
unfoldable pub does : Message → Whole → Whole
does (T time price) h =
    let w = h.window ++ (record { at = time; price = price } ∷ []) in
    record { stock = trade_rules (figures_of w) h.stock; window = w }
does (Q time participant bid offer) h =
    record { stock = quote_rules (figures_of h.window) (with_quote participant bid offer h.stock); window = h.window }
does (O time participant price) h = opened time price h
does (P time participant) h = record { stock = begin_pause h.stock; window = h.window }
does (R time participant price) h = opened time price h
does (X time participant price) h = record { stock = shut h.stock; window = [] }

-- a message that is accepted moves the clock to its time
unfoldable pub after : Message → Whole → Whole
after m h = does m (record { stock = at_time (time_of m) h.stock; window = h.window })
