-- The places of one stock and the window in them (document 01, "What the book holds"; of freed places, "States").
-- Assumes nothing.
use Rattle.std.specs.Prelude.{◌≡◌, ℕ, zero, suc, ◌+◌, ◌-◌, max, Bool, not, List, [], ◌∷◌, ◌++◌, map, length, take, drop, replicate, ◌==◌, nat_le, nat_lt, slice_index, Option, Some, None}
use Rattle.forms.specs.Choice.{if◌then◌otherwise◌, all_of}
use Rattle.rules.specs.Stock.{Trade, total, oldest, figures_of}
use Rattle.rules.specs.Numbers.{bad_trades}
use Rattle.rules.specs.declared.Figures.{Figures}
use Rattle.window.specs.declared.Change.{Change}
use Rattle.window.specs.declared.Change.TheVariants.{Stay, Join, Leave, Empty, Start}

-- ------------------------------------------------------------------ the window that places hold, and how it is written to them

-- the trades in the first n places of both arrays, the oldest first; past the end a place reads 0
unfoldable pub trades : ℕ → List ℕ → List ℕ → List Trade
trades zero times prices = []
trades (suc n) times prices = trades n times prices ++ (record { at = slice_index times n; price = slice_index prices n } ∷ [])

-- the places of one array, of which n were used, once `front` is written to the front: freed places are 0, all others stay
unfoldable pub laid : ℕ → List ℕ → List ℕ → List ℕ
laid n front xs = front ++ (replicate (n - length front) 0 ++ drop (max n (length front)) xs)

-- `laid`, if there is room for the used places and for `front`; else the places as they were
unfoldable pub placed : ℕ → List ℕ → List ℕ → List ℕ
placed n front xs = if nat_le (max n (length front)) (length xs) then laid n front xs otherwise xs

-- as many places, each of them 0
abbrev pub wiped : List ℕ → List ℕ
wiped xs = replicate (length xs) 0

-- ------------------------------------------------------------------ what a step does to a window

-- the window after a change: a trade joins, the oldest leave, it is emptied, or it is one trade alone
unfoldable pub changed : Change → List Trade → List Trade
changed Stay w = w
changed (Join time price) w = w ++ (record { at = time; price = price } ∷ [])
changed (Leave gone) w = drop gone w
changed Empty w = []
changed (Start time price) w = record { at = time; price = price } ∷ []

-- the promise of `write`: both arrays with the changed window laid into them
pub record Written (change : Change) (count : ℕ) (ts ps ts' ps' : List ℕ) : Type 0 where
  pub times : ts' ≡ placed count (map (λ t. t.at) (changed change (trades count ts ps))) ts
  pub prices : ps' ≡ placed count (map (λ t. t.price) (changed change (trades count ts ps))) ps

-- ------------------------------------------------------------------ what is read of a window

-- both arrays have 512 places, and at most 512 trades are held
unfoldable pub whole : ℕ → List ℕ → List ℕ → Bool
whole count times prices = all_of ((length times == 512) ∷ (length prices == 512) ∷ nat_le count 512 ∷ [])

-- the figures of no trade
abbrev pub no_figures : Figures
no_figures = record { count = 0; oldest = 0; sum = 0 }

-- the promise of `survey`: the figures of the held trades, where these are whole and none is bad
unfoldable pub survey_of : ℕ → ℕ → List ℕ → List ℕ → Option Figures
survey_of clock count times prices =
    let w = trades count times prices in
    if all_of (whole count times prices ∷ not (bad_trades clock w) ∷ []) then Some (figures_of w) otherwise None

-- how many at the front of a list of times have left at `time`: each stays for 300,000
unfoldable pub left_of : ℕ → List ℕ → ℕ
left_of time [] = 0
left_of time (u ∷ us) = if nat_lt time (u + 300_000) then 0 otherwise suc (left_of time us)

-- how many of the first `count` places have left at `time`; 0 where there are fewer places
unfoldable pub gone_of : ℕ → ℕ → List ℕ → ℕ
gone_of time count times = if nat_le count (length times) then left_of time (take count times) otherwise 0

-- the figures once the `gone` oldest trades have left, from the figures f of all: what left is subtracted from the sum. No figures where
-- the places are not whole, no trade stays, or the sum is less than that of what left
unfoldable pub rest_of : ℕ → Figures → List ℕ → List ℕ → Figures
rest_of gone f times prices =
    let w = trades f.count times prices in
    let left = total (take gone w) in
    if all_of (whole f.count times prices ∷ nat_lt gone f.count ∷ nat_le left f.sum ∷ []) then
    record { count = f.count - gone; oldest = oldest (drop gone w); sum = f.sum - left } otherwise
    no_figures
