-- What the private functions of a call promise each other.
-- Assumes nothing.
use Rattle.std.specs.Prelude.{ℕ, ◌+◌, ◌^◌, ◌<◌, Bool, not, Option, Some, None, Result, Ok, Err, List, [], ◌∷◌, ◌≡◌, eqb, length}
use Rattle.forms.specs.Choice.{if◌then◌otherwise◌, all_of, any_of}
use Rattle.forms.specs.Checks.{first}
use Rattle.rules.specs.Stock.{Whole, figures_of}
use Rattle.rules.specs.Moments.{mark_z, mark_c, mark_v, next_of}
use Rattle.rules.specs.Numbers.{rubbish, message_checks, time_checks, printed_reference}
use Rattle.rules.specs.Refusals.{number_of}
use Rattle.rules.specs.declared.Answer.{Answer}
use Rattle.rules.specs.declared.Figures.{Figures}
use Rattle.rules.specs.declared.Message.{Message}
use Rattle.rules.specs.declared.Message.TheVariants.{Trade as T, Quote as Q, Opening as O, Pause as P, Reopening as R, Closing as X}
use Rattle.rules.specs.declared.Quotes.{Quotes}
use Rattle.rules.specs.declared.Refusal.{Refusal}
use Rattle.rules.specs.declared.Stock.{Stock}
use Rattle.rules.specs.declared.Totals.{Totals}
use Rattle.quotes.specs.Parts.{stock_of, bare}
use Rattle.quotes.specs.declared.Kept.{Kept}
use Rattle.quotes.specs.declared.Shown.{Shown}
use Rattle.states.specs.After as states
use Rattle.states.specs.After.{after_of}
use Rattle.window.specs.Places.{trades, gone_of, changed}
use Rattle.window.specs.declared.Change.{Change}
use Rattle.window.specs.declared.Change.TheVariants.{Stay, Join, Leave, Empty, Start}
use Rattle.stock.specs.View.{in_shape, holding}
use Rattle.stock.specs.declared.Record.{Record}
use Rattle.stock.specs.declared.sight.Sight.{Sight}
use Rattle.stock.specs.declared.steps.Effect.{Effect}

-- the record of the stock with these parts, so many held trades and these totals
abbrev pub record_of : Kept → Quotes → ℕ → Totals → Record
record_of k q count t = record { stock = stock_of k q; count = count; totals = t }

-- ------------------------------------------------------------------ what a call sees first

-- what a call sees of a stock: its window's figures and its earliest moment, and nothing where it is not shaped, is rubbish or its totals are wrong
unfoldable pub seen_of : Bool → Stock → ℕ → List ℕ → List ℕ → Option Sight
seen_of wrong s count times prices =
    if all_of (in_shape times prices ∷ not (rubbish (holding s count times prices)) ∷ not wrong ∷ [])
    then Some (record { figures = figures_of (trades count times prices); earliest = next_of (holding s count times prices) })
    otherwise None

-- a message's number from what was seen
abbrev pub message_number : Message → Option Sight → ℕ → Stock → ℕ
message_number m (Some g) count s = first (message_checks m count g.earliest s)
message_number m None count s = 1

-- settling's number from what was seen
abbrev pub settle_number : ℕ → Option Sight → Stock → ℕ
settle_number time (Some g) s = first (time_checks time g.earliest s)
settle_number time None s = 1

-- a call goes on with what was seen where its number is 0; a refusal has the number
abbrev pub Goes : Option Sight → ℕ → Result Sight Refusal → Type 0
Goes seen n (Ok g) = (seen ≡ Some g) × (n ≡ 0)
Goes seen n (Err why) = number_of why ≡ n

-- the printed reference of a stock
abbrev pub printed_in : Kept → ℕ
printed_in k = printed_reference (bare k)

-- the printed reference and the bands that are shown fit 32 bits
abbrev pub Fits : Kept → Shown → Type 0
Fits k s = (printed_in k < 2 ^ 32) × (s.bands.lower < 2 ^ 32) × (s.bands.upper < 2 ^ 32)

-- a number with what is shown of a stock
abbrev pub answer_by : ℕ → Kept → Shown → Answer
answer_by number k s =
    record { number = number; state = k.course.state; reference = printed_in k; lower = s.bands.lower; upper = s.bands.upper; best = s.best }

-- ------------------------------------------------------------------ a step, before a place is written

-- what an accepted message does to the window
unfoldable pub change_of : Message → Change
change_of (T time price) = Join time price
change_of (Q time participant bid offer) = Stay
change_of (O time participant price) = Start time price
change_of (P time participant) = Stay
change_of (R time participant price) = Start time price
change_of (X time participant price) = Empty

-- what a moment does to the window, by its mark and its time
unfoldable pub change_at : ℕ → ℕ → ℕ → List ℕ → Change
change_at mark time count times =
    if eqb mark mark_v then Leave (gone_of time count times) otherwise
    if any_of (eqb mark mark_z ∷ eqb mark mark_c ∷ []) then Empty otherwise
    Stay

-- the figures with one more trade
unfoldable pub with_trade : Figures → ℕ → ℕ → Figures
with_trade f time price =
    record { count = f.count + 1; oldest = if eqb f.count 0 then time otherwise f.oldest; sum = f.sum + price }

-- f are the figures of the changed window, and band has room for their mean
pub record Changed (change : Change) (count : ℕ) (times prices : List ℕ) (f : Figures) : Type 0 where
  pub figures : f ≡ figures_of (changed change (trades count times prices))
  pub small : states.Fits f

-- the step does to a stock what the rules do: it gives the stock with what it shows, its count, and the change of its window
pub record Makes (rule : Whole → Whole) (h : Whole) (step : Effect) : Type 0 where
  pub after : step.after ≡ after_of (rule h).stock
  pub count : step.count ≡ length (rule h).window
  pub window : changed step.change h.window ≡ (rule h).window
