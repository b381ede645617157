-- The held trades are those of the last 300,000 since the last opening.
-- Assumes nothing.
use Prim.Native.Nat.{ℕ, ◌+◌, ◌≤◌, ◌<◌, ◌-◌}
use mathlib.Core.Bool.{Bool, true, false, true≢false}
use mathlib.Core.List.{List, [], ◌∷◌, ◌++◌}
use mathlib.Core.Logic.{◌⊎◌, inl, inr}
use mathlib.Core.Path.{◌≡◌, refl, sym, ap, ◌∙◌}
use native.Mathlib.Omega.{arith}
use borrow.Author.Tests.{leb-true, ltb-false, eqb-true, lt-ltb, le-ltb, le-leb}
use lib.Dec.{lit≤, leb, ltb, eqb}
use lib.ListN.{length}
use Rattle.forms.specs.Choice.{if◌then◌otherwise◌, all_of, any_of}
use Rattle.forms.proofs.Choice.{if_true, if_false, if_arms, all_tail, all_yes, all_empty, ne_not, all_leb, all_eqb}
use Rattle.forms.specs.Words.{Gives}
use Rattle.forms.proofs.Decides.{is_false, past}
use Rattle.rules.specs.Stock.{hold_ended, Trade, Whole, state_of, clock_of, oldest, figures_of, staying}
use Rattle.rules.specs.States.{begin_pause}
use Rattle.rules.specs.Moments.{mark_v, moment_table, next, effect, window_after, come, next_of, fire}
use Rattle.rules.specs.Messages.{time_of, does, after}
use Rattle.rules.specs.Numbers.{tells, settles, fresh, notice}
use Rattle.rules.specs.Machine.{message, moment, Lawful, left}
use Rattle.rules.specs.Book.{machine, Story}
use Rattle.rules.specs.Changes.{closing_mark, joins, recent}
use Rattle.rules.specs.Readings.{joined}
use Rattle.rules.specs.Words.{Rubbish, own_refusals}
use Rattle.rules.specs.Demands.{leaves, HeldTrades}
use Rattle.rules.specs.declared.Stock.{Stock}
use Rattle.rules.specs.declared.Figures.{Figures}
use Rattle.rules.specs.declared.Moment.{Moment}
use Rattle.rules.specs.declared.Message.{Message}
use Rattle.rules.specs.declared.Message.TheVariants.{Trade as T, Quote as Q, Opening as O, Pause as P, Reopening as R, Closing as X}
use Rattle.rules.proofs.Earliest.{IsMoment, one_of, none_before}
use Rattle.rules.proofs.Passed.{told, settled, idle}
use Rattle.rules.proofs.Lawful.{when_due, when_not, machine_laws, next_not_past}
use Rattle.rules.proofs.Kept.{Stands, look_stands, trading_stands, test_stands, five_stands, trade_stands, quote_stands}
use Rattle.rules.proofs.Last.{effect_open}
use Rattle.rules.proofs.Sound.{never_rubbish}
use Rattle.rules.proofs.Numbers.{rubbish_is, settled_sound, taken_words}
use Rattle.rules.proofs.MomentRows.{mark_rows}
use Rattle.rules.proofs.Window.{InOrder, window_in_order, staying_recent}
use native.Mathlib.Decide.{ℕ_discrete}

-- ------------------------------------------------------------------ recent trades

recent_snoc : (time : ℕ) (a : Trade) (l : List Trade) → time < a.at + 300_000 → recent time (l ++ (a ∷ [])) ≡ recent time l ++ (a ∷ [])
unfolding recent if◌then◌otherwise◌
recent_snoc time a [] h = rw (lt-ltb time (a.at + 300_000) h)
recent_snoc time a (b ∷ l) h = go (recent_snoc time a l h) (ltb time (b.at + 300_000))
  where
    go : recent time (l ++ (a ∷ [])) ≡ recent time l ++ (a ∷ []) → (c : Bool)
        → (if c then b ∷ recent time (l ++ (a ∷ [])) otherwise recent time (l ++ (a ∷ []))) ≡ (if c then b ∷ recent time l otherwise recent time l) ++ (a ∷ [])
    go ih true = ap (λ z. b ∷ z) ih
    go ih false = ih

recent_twice : (c d : ℕ) → c ≤ d → (l : List Trade) → recent d (recent c l) ≡ recent d l
unfolding recent
recent_twice c d h [] = refl
recent_twice c d h (a ∷ l) =
    let ih = recent_twice c d h l in
    if_arms (λ z. recent d z ≡ recent d (a ∷ l)) (ltb c (a.at + 300_000))
    (λ _. ap (λ z. if ltb d (a.at + 300_000) then a ∷ z otherwise z) ih)
    (λ e. ih ∙ sym (if_false _ _ _ (le-ltb d (a.at + 300_000) (omega (arith, ltb-false c (a.at + 300_000) e)))))

-- ------------------------------------------------------------------ a stock to which something happens is not closed

abbrev Low : Stock → Type 0
Low s = state_of s ≤ 4

told_low : (m : Message) (h : Whole) → tells m h ≡ 0 → Low h.stock
told_low m h e = go m (taken_words m h e).own_passed
  where
    state : ¬ (5 < state_of h.stock)
    state l = (taken_words m h e).sound (inl (inl l))

    low : ¬ (state_of h.stock ≡ 5) → Low h.stock
    low n = omega (arith, state)

    go : (m : Message) → Gives (own_refusals m h) 0 → Low h.stock
    go (T t a) g = low (past 7 0 _ _ (λ z. omega arith) g).0
    go (Q t i b o) g = low (past 7 0 _ _ (λ z. omega arith) g).0
    go (O t i a) g = low (past 7 0 _ _ (λ z. omega arith) (past 8 0 _ _ (λ z. omega arith) g).1).0
    go (P t i) g = low (past 7 0 _ _ (λ z. omega arith) (past 8 0 _ _ (λ z. omega arith) g).1).0
    go (R t i a) g = low (past 7 0 _ _ (λ z. omega arith) (past 8 0 _ _ (λ z. omega arith) g).1).0
    go (X t i a) g = low (past 7 0 _ _ (λ z. omega arith) (past 8 0 _ _ (λ z. omega arith) g).1).0

between : (a n b : ℕ) (bs : List Bool) → all_of (leb a n ∷ leb n b ∷ bs) ≡ true → n ≤ b
between a n b bs e = all_leb n b bs (all_tail _ _ e)

moment_low : (h : Whole) → IsMoment (next_of h) → Low h.stock
unfolding next moment_table
moment_low h is =
    one_of (λ _. Low h.stock) (moment_table (figures_of h.window) h.stock) (omega (arith, leb-true, eqb-true, between, all_leb, all_eqb)) is

-- ------------------------------------------------------------------ and is not closed after it, or its window is emptied

stands_low : Stands Low
stands_low = record { in_limit = λ s l. lit≤ tt; referred = λ r s l. l; in_trading = λ r s l. lit≤ tt }

pause_low : (s : Stock) → Low (begin_pause s)
unfolding begin_pause
pause_low s = if_arms (λ n. n ≤ 4) _ (λ _. lit≤ tt) (λ _. lit≤ tt)

effect_low : (mark : ℕ) (f : Figures) (s : Stock) → closing_mark mark ≡ false → Low s → Low (effect mark f s)
effect_low mark f s e l =
    effect_open Low mark f s e (look_stands stands_low s l) (pause_low s) (trading_stands stands_low _ s l) (test_stands stands_low f s l)
    (five_stands stands_low f s l) (test_stands stands_low f (hold_ended s) l)

does_low : (m : Message) (h : Whole) → Low h.stock → Low (does m h).stock ⊎ ((does m h).window ≡ [])
unfolding does
does_low (T t a) h l = inl (trade_stands stands_low _ _ l)
does_low (Q t i b o) h l = inl (quote_stands stands_low _ _ l)
does_low (O t i a) h l = inl (trading_stands stands_low _ _ l)
does_low (P t i) h l = inl (pause_low _)
does_low (R t i a) h l = inl (trading_stands stands_low _ _ l)
does_low (X t i a) h l = inr refl

-- ------------------------------------------------------------------ the window and the trades that have joined

-- the window is the trades of `l` that were recent at a time not after the clock, and a closed stock has none
record Holds (h : Whole) (l : List Trade) : Type 0 where
  cut : ℕ
  cut_by : cut ≤ clock_of h.stock
  held : h.window ≡ recent cut l
  live : Low h.stock ⊎ (h.window ≡ [])

message_holds : (m : Message) (h : Whole) (l : List Trade) → Holds h l → tells m h ≡ 0 → Holds (after m h) (joins l (message m))
unfolding after does recent
message_holds m h l i e =
    let r = go m (told m h e).not_back in
    record { cut = r.0; cut_by = omega (arith, machine_laws.at_message_lem m h, r.1); held = r.2; live = does_low m _ (told_low m h e) }
  where
    go : (m : Message) → clock_of h.stock ≤ time_of m
        → (c : ℕ) × (c ≤ time_of m) × ((after m h).window ≡ recent c (joins l (message m)))
    go (T t a) k = (
      i.cut,
      omega (arith, i.cut_by),
      ap (λ w. w ++ (record { at = t; price = a } ∷ [])) i.held
          ∙ sym (recent_snoc i.cut _ l (omega (arith, i.cut_by))),
    )
    go (Q t j b o) k = (i.cut, omega (arith, i.cut_by), i.held)
    go (O t j a) k = (t, omega arith, sym (if_true _ _ _ (lt-ltb t (t + 300_000) (omega arith))))
    go (P t j) k = (i.cut, omega (arith, i.cut_by), i.held)
    go (R t j a) k = (t, omega arith, sym (if_true _ _ _ (lt-ltb t (t + 300_000) (omega arith))))
    go (X t j a) k = (t, omega arith, refl)

moment_window : (m : Moment) (clock cut : ℕ) (w l : List Trade) → InOrder 0 clock w → cut ≤ m.time → w ≡ recent cut l
    → (d : ℕ) × (d ≤ m.time) × (window_after m w ≡ recent d (if closing_mark m.mark then [] otherwise l))
unfolding window_after recent if◌then◌otherwise◌ any_of
moment_window m clock cut w l o by held = go (eqb m.mark mark_v) refl (closing_mark m.mark) refl
  where
    go : (v : Bool) → eqb m.mark mark_v ≡ v → (c : Bool) → closing_mark m.mark ≡ c
        → (d : ℕ) × (d ≤ m.time) × ((if v then staying m.time w otherwise if c then [] otherwise w) ≡ recent d (if c then [] otherwise l))
    go true p true q = absurd (true≢false (sym q ∙ rw (eqb-true m.mark mark_v p)))
    go true p false q =
        (m.time, omega arith, staying_recent m.time clock 0 w o ∙ (ap (recent m.time) held ∙ recent_twice cut m.time by l))
    go false p true q = (m.time, omega arith, refl)
    go false p false q = (cut, by, held)

moment_holds : (t : ℕ) (h : Whole) (l : List Trade) → Holds h l → settles t h ≡ 0 → Holds (fire h) (joins l (moment (notice h)))
unfolding fire come notice recent if◌then◌otherwise◌
moment_holds t h l i e =
    let k = machine_laws.forward t h e in
    let r = moment_window (next_of h) _ i.cut h.window l (window_in_order h (settled_sound t h e)) (omega (arith, i.cut_by)) i.held in
    record {
      cut = r.0;
      cut_by = omega (arith, machine_laws.at_moment h, r.1);
      held = r.2;
      live = live r.0 r.2 (closing_mark (next_of h).mark) refl;
    }
  where
    live : (d : ℕ) → (fire h).window ≡ recent d (if closing_mark (next_of h).mark then [] otherwise l)
        → (c : Bool) → closing_mark (next_of h).mark ≡ c → Low (fire h).stock ⊎ ((fire h).window ≡ [])
    live d w true q = inr (w ∙ rw q)
    live d w false q = inl (effect_low _ _ _ q (moment_low h (when_due t (next_of h) (settled t h e).due).0))

left_holds : (es : Story) (h : Whole) (l : List Trade) → Holds h l → Lawful machine h es → Holds (left machine h es) (joined l es)
left_holds [] h l i v = i
left_holds (message m ∷ es) h l i v = left_holds es (after m h) (joins l (message m)) (message_holds m h l i v.0) v.1
left_holds (moment n ∷ es) h l i v =
    left_holds es (fire h) (joins l (moment n)) (rw v.1 (moment_holds v.0.0 h l i v.0.1)) v.2

-- ------------------------------------------------------------------ nothing due: no trade of the window has left

-- the earliest moment, if there is one, is after the time
abbrev Later : ℕ → Moment → Type 0
Later time m = IsMoment m → time < m.time

oldest_stays : (time : ℕ) (s : Stock) (a : Trade) (w : List Trade) → Low s → Later time (next (figures_of (a ∷ w)) s) → time < a.at + 300_000
unfolding next moment_table figures_of oldest
oldest_stays time s a w l e =
    let f : Figures = figures_of (a ∷ w) in
    let k = (none_before (moment_table f s) (mark_rows f s)).1.1.1.1.1.1.0
    (all_yes _ _ (le-leb (state_of s) 4 l) (all_yes _ _ (ne_not (length (a ∷ w)) 0 (omega arith)) all_empty)) in
    omega (arith, e k.0, k.1)

all_stay : (time : ℕ) (s : Stock) (w : List Trade) → Low s → Later time (next (figures_of w) s) → staying time w ≡ w
unfolding staying
all_stay time s [] l e = refl
all_stay time s (a ∷ w) l e = if_true _ _ _ (lt-ltb time (a.at + 300_000) (oldest_stays time s a w l e))

pub held_trades : HeldTrades
unfolding fresh recent
held_trades end u es a = (
  at_clock (ℕ_discrete i.cut (clock_of h.stock)),
  λ time e c. held_at time (λ is. when_not time (next_of h) (idle time h e).none_due is) (omega (arith, i.cut_by)),
)
  where
    h : Whole
    h = leaves end u es

    i : Holds h (joined [] es)
    i = left_holds es (fresh end u) [] (record { cut = 0; cut_by = lit≤ tt; held = refl; live = inl (lit≤ tt) }) a.lawful

    sound : ¬ Rubbish h
    sound = never_rubbish end u es a

    none_left : (time : ℕ) → Later time (next_of h) → Low h.stock ⊎ (h.window ≡ []) → recent time h.window ≡ h.window
    none_left time e (inl l) = sym (staying_recent time _ 0 h.window (window_in_order h sound)) ∙ all_stay time h.stock h.window l e
    none_left time e (inr p) = rw p

    held_at : (time : ℕ) → Later time (next_of h) → i.cut ≤ time → h.window ≡ recent time (joined [] es)
    held_at time e c = sym (none_left time e i.live) ∙ (ap (recent time) i.held ∙ recent_twice i.cut time c (joined [] es))

    at_clock : Dec (i.cut ≡ clock_of h.stock)
        → (cut : ℕ) × (cut ≤ clock_of h.stock) × (clock_of h.stock ≤ cut + 1) × (h.window ≡ recent cut (joined [] es))
    at_clock (yes e) = (i.cut, i.cut_by, omega arith, i.held)
    at_clock (no n) =
        let c = clock_of h.stock - 1 in
        let b = i.cut_by in
        (c, omega arith, omega arith, held_at c (λ is. omega (arith, next_not_past h (is_false _ (rubbish_is h) sound) is)) (omega arith))
