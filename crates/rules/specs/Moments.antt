-- The moments (document 01, "Moments").
-- Assumes nothing.
use Rattle.std.specs.Prelude.{ℕ, ◌+◌, ◌-◌, Bool, not, List, [], ◌∷◌, leb, ltb, eqb}
use Rattle.forms.specs.Choice.{if◌then◌otherwise◌, all_of, any_of}
use Rattle.rules.specs.Stock.{Trade, Whole, Waiting, Limit, Paused, Late, state_of, clock_of, is, at_time, hold_ended, not_early, figures_of, no_trades, mean_in, staying}
use Rattle.rules.specs.States.{look, begin_trading, test, begin_pause, shut}
use Rattle.rules.specs.declared.Stock.{Stock}
use Rattle.rules.specs.declared.Figures.{Figures}
use Rattle.rules.specs.declared.Moment.{Moment}

-- ------------------------------------------------------------------ "Moments": the marks, by the codes of their letters

-- the session's end
abbrev pub mark_z : ℕ
mark_z = 122

-- k changes
abbrev pub mark_w : ℕ
mark_w = 119

-- a Limit has lasted 15,000
abbrev pub mark_x : ℕ
mark_x = 120

-- a pause has lasted 600,000
abbrev pub mark_p : ℕ
mark_p = 112

-- a Late pause is over
abbrev pub mark_c : ℕ
mark_c = 99

-- the oldest trades leave
abbrev pub mark_v : ℕ
mark_v = 118

-- the first 300,000 are over
abbrev pub mark_f : ℕ
mark_f = 102

-- the hold is over
abbrev pub mark_h : ℕ
mark_h = 104

-- no moment: mark 0 and time 0
abbrev pub no_moment : Moment
no_moment = record { mark = 0; time = 0 }

-- ------------------------------------------------------------------ "Moments": times, states and order

-- a row of the table: the moment, and whether it is still to come
pub record Row : Type 0 where
  pub mark : ℕ
  pub time : ℕ
  pub comes : Bool

infix 5 ◌at◌while◌
abbrev pub ◌at◌while◌ : ℕ → ℕ → Bool → Row
mark at time while comes = record { mark = mark; time = time; comes = comes }

-- x comes so long after the entry into Limit
abbrev pub limit_lasts : ℕ
limit_lasts = 15_000

-- all moments, in the order of ties; v is that of the oldest trade
unfoldable pub moment_table : Figures → Stock → List Row
moment_table f s =
    (mark_z at s.end while leb (state_of s) 2) ∷
    (mark_w at 900_000 while all_of (leb (state_of s) 4 ∷ ltb (clock_of s) 900_000 ∷ [])) ∷
    (mark_w at s.end - 1_500_000 while all_of (leb (state_of s) 4 ∷ ltb (clock_of s) (s.end - 1_500_000) ∷ [])) ∷
    (mark_x at s.course.entry + limit_lasts while is Limit s) ∷
    (mark_p at s.course.pause + 600_000 while is Paused s) ∷
    (mark_c at s.end + 300_000 while is Late s) ∷
    (mark_v at f.oldest + 300_000 while all_of (leb (state_of s) 4 ∷ not (no_trades f) ∷ [])) ∷
    (mark_f at 300_000 while all_of (is Waiting s ∷ not (eqb s.course.early 0) ∷ [])) ∷
    (mark_h at s.reference.start + 30_000 while all_of (leb 1 (state_of s) ∷ leb (state_of s) 4 ∷ not (eqb s.reference.hold 0) ∷ [])) ∷
    []

-- the earlier of a row and what the rows after it give; of two at one time the row
unfoldable pub sooner : Row → Moment → Moment
sooner r m =
    if not r.comes then m otherwise
    if any_of (eqb m.mark 0 ∷ leb r.time m.time ∷ []) then record { mark = r.mark; time = r.time } otherwise
    m

-- the earliest of a table, no moment where none is still to come
unfoldable pub earliest : List Row → Moment
earliest [] = no_moment
earliest (r ∷ rs) = sooner r (earliest rs)

-- the earliest moment of a stock
unfoldable pub next : Figures → Stock → Moment
next f s = earliest (moment_table f s)

-- there is a moment, and it is not after `time`
unfoldable pub due_by : ℕ → Moment → Bool
due_by time m = all_of (not (eqb m.mark 0) ∷ leb m.time time ∷ [])

-- there is a moment, and it is before `time`
unfoldable pub past_at : ℕ → Moment → Bool
past_at time m = all_of (not (eqb m.mark 0) ∷ ltb m.time time ∷ [])

-- ------------------------------------------------------------------ "Moments": what each does, at its own time

-- f: with a trade in the window, Trading with the mean as reference
unfoldable pub first_five : Figures → Stock → Stock
first_five f s = if no_trades f then not_early s otherwise begin_trading (mean_in f) (not_early s)

-- the effect on the stock, with the figures of the window that the moment leaves; w changes k, and in Trading the bands with it
unfoldable pub effect : ℕ → Figures → Stock → Stock
effect mark f s =
    if eqb mark mark_z then shut s otherwise
    if eqb mark mark_w then look s otherwise
    if eqb mark mark_x then begin_pause s otherwise
    if eqb mark mark_p then begin_trading s.reference.price s otherwise
    if eqb mark mark_c then shut s otherwise
    if eqb mark mark_v then test f s otherwise
    if eqb mark mark_f then first_five f s otherwise
    test f (hold_ended s)

-- the effect on the window: v lets trades leave, z and c empty it
unfoldable pub window_after : Moment → List Trade → List Trade
window_after m w =
    if eqb m.mark mark_v then staying m.time w otherwise
    if any_of (eqb m.mark mark_z ∷ eqb m.mark mark_c ∷ []) then [] otherwise
    w

-- the effect on both; the clock moves to the moment's time
unfoldable pub come : Moment → Whole → Whole
come m h =
    let w = window_after m h.window in
    record { stock = effect m.mark (figures_of w) (at_time m.time h.stock); window = w }

-- the earliest moment of a stock with its window
abbrev pub next_of : Whole → Moment
next_of h = next (figures_of h.window) h.stock

-- the stock after its earliest moment
unfoldable pub fire : Whole → Whole
fire h = come (next_of h) h
