-- What an event changes and what it keeps, in words (document 01, "States", "Moments", "Messages"). An event is a message that was accepted or a
-- moment that happened; h is the stock before it, and s' the stock after it. No test of the rules is used: functions of this file compute windows
-- and quotes. Two things come from the rules: the window at an event that starts a reference, which `trades` states in words, and the setter
-- `with_quotes`. The demands `trades`, `quotes`, `reference`, `states` and `kept` say that each event does this, and `changes_only` says that
-- together they determine the stock; `resumes` says how a pause ends. Words.antt says how to read it.
-- Assumes nothing.
use Rattle.std.specs.Prelude.{ℕ, ◌+◌, ◌-◌, ◌≤◌, Bool, List, [], ◌∷◌, ◌++◌, ◌≡◌, ltb, eqb, length, get_or, set}
use Rattle.forms.specs.Choice.{if◌then◌otherwise◌, any_of}
use Rattle.forms.specs.Words.{◌or◌, ◌and◌, IsOneOf, Number, Otherwise}
use Rattle.forms.specs.Words.Number.{◌for◌}
use Rattle.band.specs.declared.Mean.{Mean}
use Rattle.rules.specs.Stock.{Trade, Whole, Waiting, Trading, Limit, Paused, Late, Closed, state_of, with_quotes}
use Rattle.rules.specs.Moments.{mark_z, mark_w, mark_x, mark_p, mark_c, mark_v, mark_f, mark_h}
use Rattle.rules.specs.Messages.{letter_t, letter_q, letter_o, letter_p, letter_r, letter_x}
use Rattle.rules.specs.Machine.{Event, message, moment, becomes}
use Rattle.rules.specs.Book.{machine}
use Rattle.rules.specs.Words.{IsMean, IsPriceAlone, OnePercent, AtBand, Crossing, time_in}
use Rattle.rules.specs.declared.Setup.{Setup}
use Rattle.rules.specs.declared.Quotes.{Quotes}
use Rattle.rules.specs.declared.Stock.{Stock}
use Rattle.rules.specs.declared.Notice.{Notice}
use Rattle.rules.specs.declared.Message.{Message}
use Rattle.rules.specs.declared.Message.TheVariants.{Trade as T, Quote as Q, Opening as O, Pause as P, Reopening as R, Closing as X}

-- an event's letter or mark
abbrev pub letter_of : Event Message Notice → ℕ
letter_of (message (T time price)) = letter_t
letter_of (message (Q time participant bid offer)) = letter_q
letter_of (message (O time participant price)) = letter_o
letter_of (message (P time participant)) = letter_p
letter_of (message (R time participant price)) = letter_r
letter_of (message (X time participant price)) = letter_x
letter_of (moment n) = n.mark

-- an event's date: the time that a message names, or a moment's own time
abbrev pub date_of : Event Message Notice → ℕ
date_of (message m) = time_in m
date_of (moment n) = n.time

-- `now` is `new` where the words hold, and `before` where they do not
abbrev pub IsNew : {A : Type 0} → Type 0 → A → A → A → Type 0
IsNew Words now new before = (Words and now ≡ new) or (¬ Words and now ≡ before)

-- ------------------------------------------------------------------ "States": the window

-- z and c, which close a stock
abbrev pub closing_mark : ℕ → Bool
closing_mark mark = any_of (eqb mark mark_z ∷ eqb mark mark_c ∷ [])

-- the trades w after an event: T adds a trade, O and R leave only their own price with the message's time, and closing leaves none
abbrev pub joins : List Trade → Event Message Notice → List Trade
joins w (message (T time price)) = w ++ (record { at = time; price = price } ∷ [])
joins w (message (Q time participant bid offer)) = w
joins w (message (O time participant price)) = record { at = time; price = price } ∷ []
joins w (message (P time participant)) = w
joins w (message (R time participant price)) = record { at = time; price = price } ∷ []
joins w (message (X time participant price)) = []
joins w (moment n) = if closing_mark n.mark then [] otherwise w

-- the trades that have not left at `time`: each stays for 300,000
unfoldable pub recent : ℕ → List Trade → List Trade
recent time [] = []
recent time (t ∷ ts) = if ltb time (t.at + 300_000) then t ∷ recent time ts otherwise recent time ts

-- the window after an event: v lets the trades leave whose time has come, and any other event does what `joins` says
abbrev pub TradesAfter : Whole → Event Message Notice → List Trade → Type 0
TradesAfter h e w' = IsNew (letter_of e ≡ mark_v) w' (recent (date_of e) h.window) (joins h.window e)

-- ------------------------------------------------------------------ "Quotes and flags": each participant's bid and offer

-- the bid and offer of participant i after an event, where `last` are those before it: Q sets them, closing makes them 0
abbrev pub quote_by : ℕ → ℕ × ℕ → Event Message Notice → ℕ × ℕ
quote_by i last (message (T time price)) = last
quote_by i last (message (Q time participant bid offer)) = if eqb participant i then (bid, offer) otherwise last
quote_by i last (message (O time participant price)) = last
quote_by i last (message (P time participant)) = last
quote_by i last (message (R time participant price)) = last
quote_by i last (message (X time participant price)) = (0, 0)
quote_by i last (moment n) = if closing_mark n.mark then (0, 0) otherwise last

-- there are sixteen participants, and participant i has that bid and offer
abbrev pub Quoted : ℕ → Quotes → ℕ × ℕ → Type 0
Quoted i q last = length q.bids ≡ 16 and get_or q.bids i 0 ≡ last.0 and length q.offers ≡ 16 and get_or q.offers i 0 ≡ last.1

-- the quotes after an event
abbrev pub QuotesAfter : Whole → Event Message Notice → Stock → Type 0
QuotesAfter h e s' = (i : ℕ) (last : ℕ × ℕ) → i ≤ 15 → Quoted i h.stock.quotes last → Quoted i s'.quotes (quote_by i last e)

-- ------------------------------------------------------------------ "States": the reference

-- the quotes with one participant's set
abbrev pub quotes_with : Quotes → (participant bid offer : ℕ) → Quotes
quotes_with q participant bid offer = record { bids = set q.bids participant bid; offers = set q.offers participant offer }

-- Limit ends by a quote, exactly where neither side then has flag 3 by the bands of the Limit
abbrev pub LeavesLimit : Whole → (participant bid offer : ℕ) → Type 0
LeavesLimit h participant bid offer =
    state_of h.stock ≡ Limit and ¬ AtBand (with_quotes (quotes_with h.stock.quotes participant bid offer) h.stock)

-- the Test finds that the mean of the window w is to be the reference: in Trading, with the hold ended (0) and the window not empty
abbrev pub Test : ℕ → Whole → List Trade → Mean → Type 0
Test hold h w mean = state_of h.stock ≡ Trading and hold ≡ 0 and IsMean w mean and OnePercent mean h.stock.reference.price

-- the event starts a reference of that exact price: O and R take their own price, p and the end of a Limit with no trade held keep the old one,
-- both numbers of it, and the others take the mean of the window that the event leaves
abbrev pub Starts : Whole → Event Message Notice → Mean → Type 0
Starts h (message (T time price)) r =
    let w = (becomes machine h (message (T time price))).window in
    (state_of h.stock ≡ Waiting and 300_000 ≤ time and IsMean w r) or Test h.stock.reference.hold h w r
Starts h (message (Q time participant bid offer)) r =
    let w = (becomes machine h (message (Q time participant bid offer))).window in
    LeavesLimit h participant bid offer and (IsMean w r or (w ≡ [] and r ≡ h.stock.reference.price))
Starts h (message (O time participant price)) r = IsPriceAlone price r
Starts h (message (P time participant)) r = ⊥
Starts h (message (R time participant price)) r = IsPriceAlone price r
Starts h (message (X time participant price)) r = ⊥
Starts h (moment n) r =
    let mark = n.mark in
    let w = (becomes machine h (moment n)).window in
    (mark ≡ mark_p and r ≡ h.stock.reference.price)
    or (mark ≡ mark_v and Test h.stock.reference.hold h w r)
    or (mark ≡ mark_f and IsMean w r)
    or (mark ≡ mark_h and Test 0 h w r)

-- the event starts a reference
abbrev pub StartsOne : Whole → Event Message Notice → Type 0
StartsOne h e = (r : Mean) × Starts h e r

-- a new reference has its price, the event's date and a new hold; otherwise the reference is as before, except that h ends the hold
abbrev pub ReferenceAfter : Whole → Event Message Notice → Stock → Type 0
ReferenceAfter h e s' =
    let r = h.stock.reference in
    let r' = s'.reference in
    (Starts h e r'.price and r'.start ≡ date_of e and r'.hold ≡ 1)
    or (¬ StartsOne h e and r'.price ≡ r.price and r'.start ≡ r.start and IsNew (letter_of e ≡ mark_h) r'.hold 0 r.hold)

-- ------------------------------------------------------------------ "States": the state

-- X, z and c close
abbrev pub Closes : Event Message Notice → Type 0
Closes e = IsOneOf (letter_of e) (letter_x ∷ mark_z ∷ mark_c ∷ [])

-- P and x start a pause
abbrev pub StartsPause : Event Message Notice → Type 0
StartsPause e = IsOneOf (letter_of e) (letter_p ∷ mark_x ∷ [])

-- a pause that began then ends by the event: the primary's reopening, 300,000 or more after it began, or p, 600,000 after it
abbrev pub EndsPause : Setup → ℕ → Event Message Notice → Type 0
EndsPause u begun e =
    ((time price : ℕ) × (e ≡ message (R time u.primary price)) × (begun + 300_000 ≤ time))
    or ((n : Notice) × (e ≡ moment n) × (n.mark ≡ mark_p) × (n.time ≡ begun + 600_000))

-- the quotes are looked at: on every new reference, with which Trading is entered or its bands change (also where Limit ends), and in
-- Trading on a quote and on w, which changes k
abbrev pub Looks : Whole → Event Message Notice → Type 0
Looks h e = StartsOne h e or (state_of h.stock ≡ Trading and IsOneOf (letter_of e) (letter_q ∷ mark_w ∷ []))

-- Limit is entered: the quotes are looked at, a side then has flag 3, and the quotes do not cross
abbrev pub Enters : Whole → Event Message Notice → Stock → Type 0
Enters h e s' = Looks h e and AtBand s' and ¬ Crossing s'

-- the state after an event; from E - 600,000 on a pause is a Late pause
abbrev pub state_after : Whole → Event Message Notice → Stock → List Number
state_after h e s' =
    Closed for Closes e ∷
    Late for (StartsPause e and h.stock.end - 600_000 ≤ date_of e) ∷
    Paused for StartsPause e ∷
    Limit for Enters h e s' ∷
    Trading for Looks h e ∷
    state_of h.stock for Otherwise ∷
    []

-- ------------------------------------------------------------------ what is kept beside the state

-- the clock is at the event's date, setup and E are as before; the entry into Limit and the pause start are the dates of the events that
-- made them; f is marked as having happened by f alone
abbrev pub KeptAfter : Whole → Event Message Notice → Stock → Type 0
KeptAfter h e s' =
    let c = h.stock.course in
    let c' = s'.course in
    c'.clock ≡ date_of e and s'.setup ≡ h.stock.setup and s'.end ≡ h.stock.end
    and IsNew (Enters h e s') c'.entry (date_of e) c.entry
    and IsNew (StartsPause e) c'.pause (date_of e) c.pause
    and IsNew (letter_of e ≡ mark_f) c'.early 0 c.early
