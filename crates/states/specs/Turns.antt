-- What the private functions of a step promise each other.
-- Assumes nothing.
use Rattle.std.specs.Prelude.{ℕ, Bool, false, not, [], ◌∷◌, ◌≡◌, eqb, set}
use Rattle.forms.specs.Choice.{if◌then◌otherwise◌, all_of, any_of}
use Rattle.band.specs.declared.Mean.{Mean}
use Rattle.rules.specs.Stock.{Limit, no_trades, mean_in}
use Rattle.rules.specs.Quotes.{flagged}
use Rattle.rules.specs.States.{look, no_quotes}
use Rattle.rules.specs.Moments.{mark_z, mark_c}
use Rattle.rules.specs.Messages.{quote_rules}
use Rattle.rules.specs.declared.Best.{Best}
use Rattle.rules.specs.declared.Figures.{Figures}
use Rattle.rules.specs.declared.Message.{Message}
use Rattle.rules.specs.declared.Message.TheVariants.{Trade as T, Quote as Q, Opening as O, Pause as P, Reopening as R, Closing as X}
use Rattle.rules.specs.declared.Quotes.{Quotes}
use Rattle.rules.specs.declared.Stock.{Stock}
use Rattle.quotes.specs.Parts.{stock_of}
use Rattle.quotes.specs.declared.Kept.{Kept}
use Rattle.states.specs.declared.rule.Turn.{Turn}
use Rattle.states.specs.declared.rule.Turn.TheVariants.{Still, Looking}

-- ------------------------------------------------------------------ the quotes after a step

-- one participant's bid and offer are set
abbrev pub with_quote : ℕ → ℕ → ℕ → Quotes → Quotes
with_quote participant bid offer q = record { bids = set q.bids participant bid; offers = set q.offers participant offer }

-- the quotes after a message: Q sets a participant's, X leaves none
unfoldable pub quotes_told : Quotes → Message → Quotes
quotes_told q (T time price) = q
quotes_told q (Q time participant bid offer) = with_quote participant bid offer q
quotes_told q (O time participant price) = q
quotes_told q (P time participant) = q
quotes_told q (R time participant price) = q
quotes_told q (X time participant price) = no_quotes

-- the quotes after a moment: z and c leave none
unfoldable pub quotes_at : ℕ → Quotes → Quotes
quotes_at mark q = if any_of (eqb mark mark_z ∷ eqb mark mark_c ∷ []) then no_quotes otherwise q

-- ------------------------------------------------------------------ a step, before the quotes are looked at

-- the stock of a turn, without its quotes
abbrev pub kept_in : Turn → Kept
kept_in (Still k) = k.kept
kept_in (Looking k) = k.kept

-- the stock after a turn: its quotes are looked at where the turn says so
unfoldable pub turned_to : Turn → Quotes → Stock
turned_to (Still k) q = stock_of k.kept q
turned_to (Looking k) q = look (stock_of k.kept q)

-- the stock after a turn that may also end Limit
unfoldable pub left_to : Turn → Figures → Quotes → Stock
left_to (Still k) f q = stock_of k.kept q
left_to (Looking k) f q = quote_rules f (stock_of k.kept q)

-- by the best quotes b, the turn ends Limit: they are looked at, and neither side has flag 3
unfoldable pub ends_limit : Turn → Best → Bool
ends_limit (Still k) b = false
ends_limit (Looking k) b = all_of (eqb k.kept.course.state Limit ∷ not (flagged 3 b) ∷ [])

-- the reference's price once Limit has ended: the mean, where there is a trade
abbrev pub left_price : Figures → Mean → Mean
left_price f price = if no_trades f then price otherwise mean_in f

-- the turn t does to the stock what the rule does, whatever the quotes are; that it may end Limit changes nothing, since it looks at the quotes in
-- Trading alone
pub record Turns (rule : Stock → Stock) (k : Kept) (t : Turn) : Type 0 where
  pub turned : (q : Quotes) → turned_to t q ≡ rule (stock_of k q)
  pub left : (f : Figures) (q : Quotes) → left_to t f q ≡ rule (stock_of k q)
