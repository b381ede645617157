-- What is demanded of the rules. Open this file first: it collects the statements, and proofs/Demands.antt proves the record.
--
-- `Words` and `Changes` say document 01 in words; the statements here say that the rules compute it. A story is what happened to one
-- stock since its setup: the messages that were accepted and the moments that were settled. `by_story` ties stories to a book.
--
-- Key
--   (x : A) → P             for every x, P
--   (x : A) × P             there is an x with P
--   P → Q, P ↔ Q            if P then Q, P exactly if Q
--   P × Q, P and Q          both
--   P ⊎ Q, P or Q, ¬ P      one of them, not P
--   ⊥, Otherwise            never holds, always holds
--   a ≡ b, a - b            a equals b, the difference, which is 0 where b is the greater
--   Some P l, IsOneOf n l   P holds of one of the list l, n is one of l
--   Every P l               P holds of each of the list l
--   a ∷ b ∷ [], as ++ bs    a list of a and b, two lists in a row
--   Sublistᴰ as bs          as is bs, of which any may be left out; the others are in order
--   get_or l i d              the ith of l, from 0, and d where l has none
--   s.end, k.0, k.1      a record's field `end`, and the first and the second of a pair
--   let x = a in P          P, in which x is short for a
--   λ x. f                  the function from x to f
--   Gives table n           n is the number of the table's first row whose words hold, and 0 where no row's do
--   tells m h               the number that the stock h answers the message m with
--   settles time h, reads h the number that it answers settling to a time with, and reading
--   next_answer h            what comes next: reading's number, with the earliest moment still to come by its mark and its time
--   after m h, fire h       the stock after an accepted message, and after its earliest moment; h' and s' are stocks after an event
--   becomes machine h e     the stock after an event e, which is a message or a moment
--   after_telling, after_settling, tell_answer, settle_answer, read_answer
--                           the stock after such a call, accepted or refused, and its answer; the names with `book` are those of a book
--   stock counting d b i    the ith stock of the book b; `step_in` and `number_in` are the book after a call on it, and the call's number
--   c.whole, c.totals     of a stock with its day totals: the stock, and the totals. `counted.tells` and the like are what `tells` is, with totals
--   keeps end u es          the totals that are kept along the story es
--   story end us cs i       the story of the ith stock after a setup us and calls cs, and `now` is that stock
--   asked_of end us cs ds i  the calls of ds on the ith stock, made after cs, accepted or refused, each with the stock that it found
--   journal_of end us cs i   the calls of cs on the ith stock that were answered 0, each with the stock that it found
--   called counting xs      the calls of such a list, without the stocks
--   limit_pauses ns          the starts of the limit pauses among the notices ns, and `notices es` are those of the story es
--   Apart d ts              any two of the dates ts are at least d apart
--   Allowed end u es        es is a story of a stock with setup u and session's end `end`, in a row that the rules allow
--   leaves end u es         the stock that the story es leaves
-- Assumes nothing.
use Rattle.std.specs.Prelude.{ℕ, ◌+◌, ◌*◌, ◌≤◌, ◌<◌, true, ◌↔◌, ◌⊎◌, ◌≡◌, length, get_or, replicate}
use mathlib.Core.List.{List, [], ◌∷◌, ◌++◌, map, Sublistᴰ}
use Rattle.forms.specs.Tables.{every}
use Rattle.forms.specs.Words.{◌or◌, ◌and◌, IsOneOf, Gives}
use Rattle.band.specs.Laws.{Within}
use Rattle.band.specs.declared.Bands.{Bands}
use Rattle.rules.specs.Stock.{Trade, Whole, Waiting, Trading, Limit, Paused, Late, Closed, state_of, clock_of, figures_of, mean_in}
use Rattle.rules.specs.Moments.{mark_f, fire}
use Rattle.rules.specs.Messages.{after}
use Rattle.rules.specs.Numbers.{tells, settles, reads, sets_up, after_telling, after_settling, notice, tell_answer, settle_answer, read_answer, setup_answer, fresh, next_answer}
use Rattle.rules.specs.Machine.{Machine, MachineLaws, Alike, Call, tell, settle, On, of, Every, journal, IsJournal, Event, message, moment, messages, notices, Lawful, becomes, left, Asked, number_of, called, Calls, stock, number_in, step_in}
use Rattle.rules.specs.Counted as counted
use Rattle.rules.specs.Counted.{Counted, no_summary}
use Rattle.rules.specs.Book.{machine, counting, Story, Accepted, no_setup, blank, book, now, story, asked_of, journal_of, Settled, book_tells, book_settles, book_reads, book_next, book_totals}
use Rattle.rules.specs.Words.{IsShape, IsEnd, IsSetup, IsMean, IsPriceAlone, HasBands, AtBand, Crossing, moments, IsFirst, Rubbish, refusals, ReachesTable, WrongState, TooLate, NoStraddle, settle_refusals, read_refusals, book_refusals, setup_refusals, ShowsNothing, Shows, IsTime, its_moment, AnswerInRange, NoticeInRange, UpcomingInRange, ShowsNone, ShowsNext}
use Rattle.rules.specs.Changes.{recent, TradesAfter, Quoted, QuotesAfter, ReferenceAfter, EndsPause, StartsPause, state_after, KeptAfter}
use Rattle.rules.specs.TotalsWords as with_totals
use Rattle.rules.specs.TotalsWords.{TotalsAfter, NoTotals, Wrong}
use Rattle.rules.specs.Readings.{joined, last_quote, NoneStarted, StartedBy, last_date, limit_pauses, count_of, MomentsOnly, waiting_time, trading_time, limit_time, paused_time, late_time, closed_time, Counts, KeptCount, trade_prices, IsHighest, IsLowest}
use Rattle.rules.specs.Pauses.{before, PauseAt, EntersLimit, LimitSince, PausedSince}
use Rattle.rules.specs.LimitPauses.{Apart, least_distance, pauses_bound}
use Rattle.rules.specs.Examples.{right, by_hand}
use Rattle.rules.specs.Days.{as_printed, days, listed, the_day, a_late_pause, a_pause, a_straddle, the_exact_mean, the_looks, offer_straddle, soonest_again, limit_again, pauses_by, pauses_of, evenly, all_day, totals_of}
use Rattle.rules.specs.Edges.{as_answered, edges}
use Rattle.rules.specs.declared.Setup.{Setup}
use Rattle.rules.specs.declared.Totals.{Totals}
use Rattle.rules.specs.declared.Notice.{Notice}
use Rattle.rules.specs.declared.Message.{Message}
use Rattle.rules.specs.declared.Message.TheVariants.{Trade as T, Quote as Q, Opening as O, Pause as P, Reopening as R, Closing as X}

-- A story of a stock whose setup and session's end are in range, in a row that the rules allow.
pub record Allowed (end : ℕ) (u : Setup) (es : Story) : Type 0 where
  pub end_ok : IsEnd end
  pub setup_ok : IsSetup u
  pub lawful : Lawful machine (fresh end u) es

-- The stock that a story leaves.
abbrev pub leaves : ℕ → Setup → Story → Whole
leaves end u es = left machine (fresh end u) es

-- The totals that are kept along a story: every accepted call brings them up to date.
abbrev pub keeps : ℕ → Setup → Story → Totals
keeps end u es = (left counting (counted.fresh end u) es).totals

-- An event that the rules allow next.
abbrev pub CanHappen : Whole → Event Message Notice → Type 0
CanHappen h e = Lawful machine h (e ∷ [])

-- ---------------------------------------------------------------- numbers

-- A call on a stock is answered n exactly where n's words hold and no earlier number's do.
abbrev pub NumbersAre : Type 0
NumbersAre = (h : Whole) (n : ℕ)
    → ((m : Message) → (tells m h ≡ n) ↔ Gives (refusals m h) n)
    × ((time : ℕ) → (settles time h ≡ n) ↔ Gives (settle_refusals time h) n)
    × ((reads h ≡ n) ↔ Gives (read_refusals h) n)

-- A call on a book is answered in the same way, after checks of the book's shape and of the stock's number. For a book of the right shape this is
-- `number_in`, by which calls change a book.
abbrev pub BookNumbersAre : Type 0
BookNumbersAre = (end : ℕ) (b : List Counted) (times prices i n : ℕ)
    → let h = stock counting (blank end) b i in
    ((m : Message) → ((book_tells end b times prices i m).number ≡ n) ↔ Gives (book_refusals (length b) times prices i (with_totals.refusals m h)) n)
    × ((time : ℕ) → ((book_settles end b times prices i time).answer.number ≡ n) ↔ Gives (book_refusals (length b) times prices i (with_totals.settle_refusals time h)) n)
    × (((book_reads end b times prices i).number ≡ n) ↔ Gives (book_refusals (length b) times prices i (with_totals.read_refusals h)) n)
    × (((book_totals end b times prices i).number ≡ n) ↔ Gives (book_refusals (length b) times prices i (with_totals.read_refusals h)) n)
    × (IsShape (length b) times prices
    → ((m : Message) → number_in counting (blank end) b (record { at = i; it = tell m }) ≡ (book_tells end b times prices i m).number)
    × ((time : ℕ) → number_in counting (blank end) b (record { at = i; it = settle time }) ≡ (book_settles end b times prices i time).answer.number))

-- A setup is answered n exactly where n's words hold and no earlier number's do.
abbrev pub SetupNumbersAre : Type 0
SetupNumbersAre = (stocks times prices end : ℕ) (us : List Setup) (n : ℕ)
    → (sets_up stocks times prices end us ≡ n) ↔ Gives (setup_refusals stocks times prices end us) n

-- The numbers of each message.
abbrev pub numbers_of : Message → List ℕ
numbers_of (T time price) = 0 ∷ 1 ∷ 3 ∷ 4 ∷ 5 ∷ 6 ∷ 7 ∷ 11 ∷ 12 ∷ 13 ∷ []
numbers_of (Q time participant bid offer) = 0 ∷ 1 ∷ 3 ∷ 4 ∷ 5 ∷ 6 ∷ 7 ∷ []
numbers_of (O time participant price) = 0 ∷ 1 ∷ 3 ∷ 4 ∷ 5 ∷ 6 ∷ 7 ∷ 8 ∷ 9 ∷ 15 ∷ []
numbers_of (P time participant) = 0 ∷ 1 ∷ 3 ∷ 4 ∷ 5 ∷ 6 ∷ 7 ∷ 8 ∷ 9 ∷ 16 ∷ []
numbers_of (R time participant price) = 0 ∷ 1 ∷ 3 ∷ 4 ∷ 5 ∷ 6 ∷ 7 ∷ 8 ∷ 9 ∷ 10 ∷ []
numbers_of (X time participant price) = 0 ∷ 1 ∷ 3 ∷ 4 ∷ 5 ∷ 6 ∷ 7 ∷ 8 ∷ 9 ∷ 10 ∷ []

-- Every number that a call gives is one of the call's list.
abbrev pub NumbersListed : Type 0
NumbersListed =
    ((end : ℕ) (b : List Counted) (times prices i : ℕ)
    → ((m : Message) → IsOneOf (book_tells end b times prices i m).number (numbers_of m))
    × ((time : ℕ) → IsOneOf (book_settles end b times prices i time).answer.number (0 ∷ 1 ∷ 3 ∷ 4 ∷ 14 ∷ []))
    × IsOneOf (book_reads end b times prices i).number (0 ∷ 1 ∷ 3 ∷ [])
    × IsOneOf (book_totals end b times prices i).number (0 ∷ 1 ∷ 3 ∷ []))
    × ((stocks times prices end : ℕ) (us : List Setup) → IsOneOf (sets_up stocks times prices end us) (0 ∷ 1 ∷ 2 ∷ []))

-- 9 comes from the table of message by state alone: it is given exactly where no check before the table applies and the state is wrong for the
-- message.
abbrev pub WrongStateIs : Type 0
WrongStateIs = (m : Message) (h : Whole) → (tells m h ≡ 9) ↔ (ReachesTable m h and WrongState h.stock m)

-- 15 is given exactly where no check before the table applies, and an opening comes to a Waiting stock at 300,000 or later.
abbrev pub TooLateIs : Type 0
TooLateIs = (m : Message) (h : Whole) → (tells m h ≡ 15) ↔ (ReachesTable m h and TooLate h.stock m)

-- 16 is given exactly where no check before the table applies, and a pause comes to a Trading stock that has no straddle.
abbrev pub NoStraddleIs : Type 0
NoStraddleIs = (m : Message) (h : Whole) → (tells m h ≡ 16) ↔ (ReachesTable m h and NoStraddle h.stock m)

-- ---------------------------------------------------------------- answers

-- An accepted message leaves the stock after the message. A settling that does a moment leaves the stock after that moment and gives its notice,
-- whatever time the call named. A refused call leaves the stock as it was.
abbrev pub CallsLeave : Type 0
CallsLeave = (h : Whole)
    → ((m : Message) → (tells m h ≡ 0 → after_telling m h ≡ after m h) × (¬ (tells m h ≡ 0) → after_telling m h ≡ h))
    × ((time : ℕ) → (settles time h ≡ 0 → (after_settling time h ≡ fire h) × (settle_answer time h ≡ notice h))
    × (¬ (settles time h ≡ 0) → after_settling time h ≡ h))

-- An answer shows the stock after the call, or zeros with 1, 2 and 3. Settling's answer has zeros for the moment where none was done.
abbrev pub AnswersShow : Type 0
AnswersShow = (h : Whole)
    → ((m : Message) → Shows (tells m h) (after_telling m h).stock (tell_answer m h))
    × ((time : ℕ) → let a = settle_answer time h in
    Shows (settles time h) (after_settling time h).stock a.answer
    × (¬ (settles time h ≡ 0) → a.mark ≡ 0 and a.time ≡ 0))
    × Shows (reads h) h.stock (read_answer h)
    × ((stocks times prices end : ℕ) (us : List Setup) → let a = setup_answer stocks times prices end us in
    (a.number ≡ sets_up stocks times prices end us) × ShowsNothing a)

-- Every number of an answer, of a notice and of what comes next is in its range, whatever the stock: each fits 32 bits. A record has sixteen
-- quotes.
abbrev pub AnswersFit : Type 0
AnswersFit = (h : Whole) → length h.stock.quotes.bids ≡ 16 → length h.stock.quotes.offers ≡ 16
    → ((m : Message) → AnswerInRange (tell_answer m h))
    × ((time : ℕ) → NoticeInRange (settle_answer time h))
    × AnswerInRange (read_answer h)
    × UpcomingInRange (next_answer h)

-- A book of the right shape answers a call on one of its stocks as that stock answers it; it answers any other call with zeros.
abbrev pub BookAnswers : Type 0
BookAnswers = (end : ℕ) (b : List Counted) (times prices i : ℕ)
    → let h = stock counting (blank end) b i in
    let there = IsShape (length b) times prices and i < length b in
    ((m : Message) → (there → book_tells end b times prices i m ≡ counted.tell_answer m h) × (¬ there → ShowsNothing (book_tells end b times prices i m)))
    × ((time : ℕ) → (there → book_settles end b times prices i time ≡ counted.settle_answer time h)
    × (¬ there → ShowsNothing (book_settles end b times prices i time).answer × ((book_settles end b times prices i time).mark ≡ 0) × ((book_settles end b times prices i time).time ≡ 0)))
    × (there → book_reads end b times prices i ≡ counted.read_answer h) × (¬ there → ShowsNothing (book_reads end b times prices i))

-- ---------------------------------------------------------------- what comes next

-- Asking what comes next is answered with the number of reading. With 0 the answer has the earliest moment still to come, or none where there is
-- none; with any other number it has none.
abbrev pub NextIs : Type 0
NextIs = (h : Whole) → let u = next_answer h in
    (u.number ≡ reads h) × (reads h ≡ 0 → ShowsNext h u) × (¬ (reads h ≡ 0) → ShowsNone u)

-- A book of the right shape gives this answer for a stock that it has; any other call gets the number of reading, and no moment.
abbrev pub BookNextIs : Type 0
BookNextIs = (end : ℕ) (b : List Counted) (times prices i : ℕ) → let u = book_next end b times prices i in
    let there = IsShape (length b) times prices and i < length b in
    (u.number ≡ (book_reads end b times prices i).number)
    × (there → u ≡ counted.next_answer (stock counting (blank end) b i)) × (¬ there → ShowsNone u)

-- A timer can be set by what comes next. Its time is not before the clock, and it is in range. Settling to any time in range is answered 14
-- exactly where no moment is to come or the time is before it; otherwise it does this moment and no other, whatever time the call names.
abbrev pub NextSettles : Type 0
NextSettles = (h : Whole) → let u = next_answer h in u.number ≡ 0
    → (¬ (u.mark ≡ 0) → clock_of h.stock ≤ u.time and IsTime h.stock.end u.time)
    × ((time : ℕ) → IsTime h.stock.end time
    → ((settles time h ≡ 14) ↔ (u.mark ≡ 0 or time < u.time))
    × (¬ (u.mark ≡ 0 or time < u.time)
    → settles time h ≡ 0 and (settle_answer time h).mark ≡ u.mark and (settle_answer time h).time ≡ u.time))

-- ---------------------------------------------------------------- a book and its stocks

-- A setup starts a stock: Waiting, no quote, every clock 0, no trade and no reference, f still to come.
abbrev pub FreshIs : Type 0
FreshIs = (end : ℕ) (u : Setup) → let h = fresh end u in let s = h.stock in
    s.setup ≡ u and s.end ≡ end
    and state_of s ≡ Waiting and clock_of s ≡ 0 and s.course.entry ≡ 0 and s.course.pause ≡ 0 and s.course.early ≡ 1
    and s.reference ≡ record { price = record { sum = 0; count = 0 }; start = 0; hold = 0 }
    and s.quotes.bids ≡ replicate 16 0 and s.quotes.offers ≡ replicate 16 0
    and h.window ≡ []

-- After an accepted setup and any calls, each stock is what its own story leaves, its totals are those kept along that story, and the rules allow
-- the story.
abbrev pub ByStory : Type 0
ByStory = (end : ℕ) (us : List Setup) → Accepted end us → (cs : Calls counting) (i : ℕ) → i < length us
    → Allowed end (get_or us i no_setup) (story end us cs i)
    × ((now end us cs i).whole ≡ leaves end (get_or us i no_setup) (story end us cs i))
    × ((now end us cs i).totals ≡ keeps end (get_or us i no_setup) (story end us cs i))

-- A call leaves as many stocks as there were, and the stock that it names as the call on that stock leaves it.
abbrev pub CallsStep : Type 0
CallsStep = (end : ℕ) (b : List Counted) (i : ℕ)
    → let h = stock counting (blank end) b i in
    ((m : Message) → let b' = step_in counting (blank end) b (record { at = i; it = tell m }) in
    (length b' ≡ length b) × (i < length b → stock counting (blank end) b' i ≡ counted.after_telling m h))
    × ((time : ℕ) → let b' = step_in counting (blank end) b (record { at = i; it = settle time }) in
    (length b' ≡ length b) × (i < length b → stock counting (blank end) b' i ≡ counted.after_settling time h))

-- A setup starts one stock for each of its setups, with an empty story. An accepted message is the next event of the story of the stock that it
-- names, and so is a settled moment; no other call on a stock of the book changes a story.
abbrev pub StoriesGrow : Type 0
StoriesGrow = (end : ℕ) (us : List Setup) → (length (book end us) ≡ length us)
    × ((i : ℕ) → (story end us [] i ≡ []) × ((cs : Calls counting) (j : ℕ) → j < length us
    → let h = now end us cs j in
    let after_call : Call Message → Story = λ it. story end us (cs ++ (record { at = j; it = it } ∷ [])) i in
    ((m : Message) → (i ≡ j and counted.tells m h ≡ 0 → after_call (tell m) ≡ story end us cs i ++ (message m ∷ []))
    × (¬ (i ≡ j and counted.tells m h ≡ 0) → after_call (tell m) ≡ story end us cs i))
    × ((time : ℕ) → (i ≡ j and counted.settles time h ≡ 0 → after_call (settle time) ≡ story end us cs i ++ (moment (counted.notice h) ∷ []))
    × (¬ (i ≡ j and counted.settles time h ≡ 0) → after_call (settle time) ≡ story end us cs i))))

-- A call that a stock refuses changes nothing. A book of a wrong shape answers 1 (`book_numbers`), and the crate book leaves its bytes.
abbrev pub Refused : Type 0
Refused = (end : ℕ) (b : List Counted) (c : On (Call Message)) → ¬ (number_in counting (blank end) b c ≡ 0)
    → step_in counting (blank end) b c ≡ b

-- A call changes nothing but the stock that it names.
abbrev pub OthersStay : Type 0
OthersStay = (end : ℕ) (b : List Counted) (c : On (Call Message)) (i : ℕ) → ¬ (i ≡ c.at)
    → stock counting (blank end) (step_in counting (blank end) b c) i ≡ stock counting (blank end) b i

-- No call ever makes rubbish.
abbrev pub NeverRubbish : Type 0
NeverRubbish = (end : ℕ) (u : Setup) (es : Story) → Allowed end u es → ¬ Rubbish (leaves end u es)

-- The next statement holds for any machine with seven laws; the stock of the rules has them.
abbrev pub OfAnyMachine : Type 1
OfAnyMachine = (𝓜 : Machine) → MachineLaws 𝓜 → (blank : 𝓜.Stock) → Alike 𝓜 blank

-- Where the stocks of two books get the same messages, and both books are settled to one time and not beyond, the stocks and the dated notices
-- are equal.
abbrev pub SettledAlike : Type 0
SettledAlike = (end : ℕ) (us : List Setup) (cs ds : Calls counting) (time : ℕ) → Settled end time us cs → Settled end time us ds
    → ((i : ℕ) → messages (story end us cs i) ≡ messages (story end us ds i))
    → (i : ℕ) → i < length us
    → (now end us cs i ≡ now end us ds i) × (notices (story end us cs i) ≡ notices (story end us ds i))

-- The journal of a list of calls has each call that was answered 0, in order, and no other.
abbrev pub JournalIs : Type 1
JournalIs = (A : Type 0) (number : A → ℕ) (xs : List A)
    → IsJournal number xs (journal number xs) × Every (λ x. number x ≡ 0) (journal number xs)

-- A journal that may have refused calls too: any list of the calls, in order, that has every call that was answered 0. So the list of all calls is
-- one.
abbrev pub JournalsAre : Type 1
JournalsAre = (A : Type 0) (number : A → ℕ) (xs es : List A)
    → IsJournal number xs es ↔ (Sublistᴰ es xs × (journal number es ≡ journal number xs))

-- The calls that were made on stock i are none at first. Each call on it is the next of them, with the stock that it found, accepted or refused.
-- A call on another stock, or on none, is not among them.
abbrev pub AskedGrow : Type 0
AskedGrow = (end : ℕ) (us : List Setup) (cs : Calls counting) (i : ℕ) → i < length us
    → (asked_of end us cs [] i ≡ []) × ((ds : Calls counting) (j : ℕ) (it : Call Message)
    → let after_call = asked_of end us cs (ds ++ (record { at = j; it = it } ∷ [])) i in
    (i ≡ j → after_call ≡ asked_of end us cs ds i ++ (record { call = it; found = now end us (cs ++ ds) i } ∷ []))
    × (¬ (i ≡ j) → after_call ≡ asked_of end us cs ds i))

-- The journal of stock i is empty at first. Each call on it that is answered 0 is the next entry, with the stock that it found. A refused call and
-- a call on another stock, or on none, are not entered.
abbrev pub JournalsGrow : Type 0
JournalsGrow = (end : ℕ) (us : List Setup) (i : ℕ) → i < length us
    → (journal_of end us [] i ≡ []) × ((cs : Calls counting) (j : ℕ)
    → let h = now end us cs i in
    let after_call : Call Message → List (Asked counting) = λ it. journal_of end us (cs ++ (record { at = j; it = it } ∷ [])) i in
    ((m : Message) → (i ≡ j and counted.tells m h ≡ 0 → after_call (tell m) ≡ journal_of end us cs i ++ (record { call = tell m; found = h } ∷ []))
    × (¬ (i ≡ j and counted.tells m h ≡ 0) → after_call (tell m) ≡ journal_of end us cs i))
    × ((time : ℕ) → (i ≡ j and counted.settles time h ≡ 0 → after_call (settle time) ≡ journal_of end us cs i ++ (record { call = settle time; found = h } ∷ []))
    × (¬ (i ≡ j and counted.settles time h ≡ 0) → after_call (settle time) ≡ journal_of end us cs i)))

-- Stock i of one book and stock j of another have the same setup. The sizes of the books and their other stocks may differ.
pub record SetUpAlike (us vs : List Setup) (i j : ℕ) : Type 0 where
  pub first : i < length us
  pub second : j < length vs
  pub alike : get_or us i no_setup ≡ get_or vs j no_setup

-- Both stocks accepted the same calls, and each of these found the same stock. The stocks are equal, and so are their stories with all notices.
pub record SameStock (end : ℕ) (us vs : List Setup) (cs ds : Calls counting) (i j : ℕ) : Type 0 where
  pub journals : journal_of end us cs i ≡ journal_of end vs ds j
  pub stocks : now end us cs i ≡ now end vs ds j
  pub stories : story end us cs i ≡ story end vs ds j

-- The accepted calls decide a stock and its story. Refused calls and calls on other stocks change nothing.
abbrev pub SameJournal : Type 0
SameJournal = (end : ℕ) (us vs : List Setup) (cs ds : Calls counting) (i j : ℕ) → SetUpAlike us vs i j
    → called counting (journal_of end us cs i) ≡ called counting (journal_of end vs ds j)
    → SameStock end us vs cs ds i j

-- Both stocks have accepted the same calls so far: none, at the beginning. Then stock i gets more calls, and a journal of these is replayed on
-- stock j. The journal has every accepted call and may have refused ones. Each entry finds the stock that its call found, so the answer is the same.
abbrev pub Replayed : Type 0
Replayed = (end : ℕ) (us vs : List Setup) (cs ds es fs : Calls counting) (i j : ℕ) → SetUpAlike us vs i j
    → called counting (journal_of end us cs i) ≡ called counting (journal_of end vs ds j)
    → (entries : List (Asked counting)) → IsJournal (number_of counting) (asked_of end us cs es i) entries → of j fs ≡ called counting entries
    → (asked_of end vs ds fs j ≡ entries) × SameStock end us vs (cs ++ es) (ds ++ fs) i j

-- Both stocks have accepted the same calls so far. Then both are settled to one time until that is refused. It does not matter how many calls
-- are made, nor how many of them were made before a crash.
abbrev pub SettledOn : Type 0
SettledOn = (end time : ℕ) (us vs : List Setup) (cs ds es fs : Calls counting) (i j : ℕ) → SetUpAlike us vs i j
    → called counting (journal_of end us cs i) ≡ called counting (journal_of end vs ds j)
    → Every (λ c. c ≡ settle time) (of i es) → ¬ (counted.settles time (now end us (cs ++ es) i) ≡ 0)
    → Every (λ c. c ≡ settle time) (of j fs) → ¬ (counted.settles time (now end vs (ds ++ fs) j) ≡ 0)
    → SameStock end us vs (cs ++ es) (ds ++ fs) i j

-- Fewer than 2,000 moments happen in a row, so settling ends.
abbrev pub FewMoments : Type 0
FewMoments = (end : ℕ) (u : Setup) (es ns : Story) → Allowed end u (es ++ ns) → MomentsOnly ns → length ns < 2_000

-- ---------------------------------------------------------------- what an event does

-- The moment that happens is the earliest still to come, and of two at one time the one that stands first in z w x p c v f h.
abbrev pub MomentsAre : Type 0
MomentsAre = (h : Whole) (n : Notice) → CanHappen h (moment n) → IsFirst (its_moment n) (moments h)

-- The window after each event.
abbrev pub TradesAre : Type 0
TradesAre = (h : Whole) (e : Event Message Notice) → CanHappen h e → TradesAfter h e (becomes machine h e).window

-- The quotes after each event.
abbrev pub QuotesAre : Type 0
QuotesAre = (h : Whole) (e : Event Message Notice) → CanHappen h e → QuotesAfter h e (becomes machine h e).stock

-- The state after each event.
abbrev pub StatesAre : Type 0
StatesAre = (h : Whole) (e : Event Message Notice) → CanHappen h e → let s' = (becomes machine h e).stock in Gives (state_after h e s') (state_of s')

-- The reference after each event.
abbrev pub ReferenceIs : Type 0
ReferenceIs = (h : Whole) (e : Event Message Notice) → CanHappen h e → ReferenceAfter h e (becomes machine h e).stock

-- What is kept beside them after each event: the clock, the setup, the session's end, the entry, the pause's start and the marker of f.
abbrev pub KeptIs : Type 0
KeptIs = (h : Whole) (e : Event Message Notice) → CanHappen h e → KeptAfter h e (becomes machine h e).stock

-- The words determine the stock: a stock for which they hold is the one that the rules leave. A record has sixteen quotes.
abbrev pub ChangesOnly : Type 0
ChangesOnly = (h : Whole) (e : Event Message Notice) → CanHappen h e → length h.stock.quotes.bids ≡ 16 → length h.stock.quotes.offers ≡ 16
    → (h' : Whole) → TradesAfter h e h'.window → QuotesAfter h e h'.stock → ReferenceAfter h e h'.stock
    → Gives (state_after h e h'.stock) (state_of h'.stock) → KeptAfter h e h'.stock
    → h' ≡ becomes machine h e

-- The mean of a window in the rules is its exact mean.
abbrev pub MeanIs : Type 0
MeanIs = (w : List Trade) → 1 ≤ length w → IsMean w (mean_in (figures_of w))

-- The mean of a window lies within any bounds of its prices, so between the least and the greatest: each bound times the count bounds the sum.
abbrev pub MeanBetween : Type 0
MeanBetween = (low high : ℕ) (w : List Trade) → Within low high (map (λ t. t.price) w)
    → let m = mean_in (figures_of w) in low * m.count ≤ m.sum and m.sum ≤ high * m.count

-- ---------------------------------------------------------------- a stock, read off its story

-- The clock is the date of the last event; the setup and the session's end are those of the beginning.
abbrev pub ClockIs : Type 0
ClockIs = (end : ℕ) (u : Setup) (es : Story) → Allowed end u es
    → (clock_of (leaves end u es).stock ≡ last_date 0 es) × ((leaves end u es).stock.setup ≡ u) × ((leaves end u es).stock.end ≡ end)

-- The held trades are those of the last 300,000 since the last opening. Trades that leave in the very millisecond of the clock may still be held;
-- at each time to which the stock is settled they are gone.
abbrev pub HeldTrades : Type 0
HeldTrades = (end : ℕ) (u : Setup) (es : Story) → Allowed end u es
    → let h = leaves end u es in
    ((cut : ℕ) × (cut ≤ clock_of h.stock) × (clock_of h.stock ≤ cut + 1) × (h.window ≡ recent cut (joined [] es)))
    × ((time : ℕ) → settles time h ≡ 14 → clock_of h.stock ≤ time → h.window ≡ recent time (joined [] es))

-- There are sixteen quotes, each the participant's last, and 0 before its first.
abbrev pub LastQuotes : Type 0
LastQuotes = (end : ℕ) (u : Setup) (es : Story) → Allowed end u es
    → (i : ℕ) → i ≤ 15 → Quoted i (leaves end u es).stock.quotes (last_quote i (0, 0) es)

-- Before an event starts the first reference there is none, and the stock is Waiting or Closed. From then on the reference is the one that
-- was started last, by its exact price, dated by that event, and the stock is not Waiting.
abbrev pub ReferenceSince : Type 0
ReferenceSince = (end : ℕ) (u : Setup) (es : Story) → Allowed end u es
    → let s = (leaves end u es).stock in
    let r = s.reference in
    (NoneStarted (fresh end u) es × (r ≡ record { price = record { sum = 0; count = 0 }; start = 0; hold = 0 }) × (state_of s ≡ Waiting or state_of s ≡ Closed))
    ⊎ (StartedBy r.price r.start (fresh end u) es × (1 ≤ r.price.count) × ¬ (state_of s ≡ Waiting))

-- The T that ends Waiting makes a reference of its own price with count 1: no other trade is held then (R-3).
abbrev pub FirstTrade : Type 0
FirstTrade = (end : ℕ) (u : Setup) (es : Story) → Allowed end u es → let h = leaves end u es in state_of h.stock ≡ Waiting
    → (time price : ℕ) → tells (T time price) h ≡ 0 → 300_000 ≤ time
    → IsPriceAlone price (becomes machine h (message (T time price))).stock.reference.price

-- In Limit and in a pause, the kept date is that of the event that began it.
abbrev pub DatesAre : Type 0
DatesAre = (end : ℕ) (u : Setup) (es : Story) → Allowed end u es
    → let s = (leaves end u es).stock in
    (state_of s ≡ Limit → LimitSince s.course.entry (fresh end u) es)
    × (state_of s ≡ Paused or state_of s ≡ Late → PausedSince s.course.pause (fresh end u) es)

-- In Trading, no best quote is at its limit band unless the quotes cross.
abbrev pub QuotesLookedAt : Type 0
QuotesLookedAt = (end : ℕ) (u : Setup) (es : Story) → Allowed end u es
    → let s = (leaves end u es).stock in
    state_of s ≡ Trading → ¬ (AtBand s and ¬ Crossing s)

-- ---------------------------------------------------------------- trades and pauses

-- No trade is accepted outside bands in force, nor in a pause.
abbrev pub TradesInBands : Type 0
TradesInBands = (h : Whole) (time price : ℕ) → tells (T time price) h ≡ 0
    → ((l : Bands) → HasBands h.stock l → l.lower ≤ price and price ≤ l.upper)
    × ¬ (state_of h.stock ≡ Paused or state_of h.stock ≡ Late)

-- In a story settled to t or later a moment begins a pause at t exactly when the limit state entered 15,000 before has lasted until t, and
-- t is before the end.
abbrev pub PausesBegin : Type 0
PausesBegin = (end : ℕ) (u : Setup) (es : Story) → Allowed end u es
    → (time : ℕ) → settles time (leaves end u es) ≡ 14 → (t : ℕ) → t ≤ time
    → PauseAt t (fresh end u) es
    ↔ ((entered : ℕ) × (t ≡ entered + 15_000) × LimitSince entered (fresh end u) (before t es) × (t < end))

-- A paused stock leaves its pause by the primary's reopening, 300,000 or more after the event that began the pause, or by p, 600,000 after it.
abbrev pub PausesEnd : Type 0
PausesEnd = (end : ℕ) (u : Setup) (es : Story) → Allowed end u es
    → let h = leaves end u es in
    state_of h.stock ≡ Paused → (begun : ℕ) × PausedSince begun (fresh end u) es
    × ((e : Event Message Notice) → CanHappen h e
    → (state_of (becomes machine h e).stock ≡ Paused) ⊎ EndsPause u begun e)

-- A Late pause never trades again.
abbrev pub NeverAgain : Type 0
NeverAgain = (h : Whole) (es : Story) → Lawful machine h es → state_of h.stock ≡ Late
    → (state_of (left machine h es).stock ≡ Late) ⊎ (state_of (left machine h es).stock ≡ Closed)

-- ---------------------------------------------------------------- how often a stock can pause (R-2)

-- A limit pause is one that x began. The starts of a story's limit pauses are the dates at which a moment begins a pause, Paused or Late.
abbrev pub LimitPausesAre : Type 0
LimitPausesAre = (end : ℕ) (u : Setup) (es : Story) → Allowed end u es
    → (t : ℕ) → IsOneOf t (limit_pauses (notices es)) ↔ PauseAt t (fresh end u) es

-- After an accepted setup and any calls, any two limit pauses of one stock start at least d apart; d is 315,000.
abbrev pub PausesApart : ℕ → Type 0
PausesApart d = (end : ℕ) (us : List Setup) → Accepted end us → (cs : Calls counting) (i : ℕ) → i < length us
    → Apart d (limit_pauses (notices (story end us cs i)))

-- For no greater d is this so: a day has two limit pauses that are exactly so far apart.
abbrev pub NoFarther : Type 0
NoFarther = (d : ℕ) → PausesApart d → d ≤ least_distance

-- Dates of one session that are so far apart are at most n; n is 75.
abbrev pub DatesFew : ℕ → Type 0
DatesFew n = (ts : List ℕ) → Apart least_distance ts → Every (λ t. t < 23_400_000) ts → length ts ≤ n

-- For no smaller n is this so.
abbrev pub NoFewer : Type 0
NoFewer = (n : ℕ) → DatesFew n → pauses_bound ≤ n

-- Hence, after an accepted setup and any calls, one stock never has more than 75 limit pauses in a day.
abbrev pub PausesFew : Type 0
PausesFew = (end : ℕ) (us : List Setup) → Accepted end us → (cs : Calls counting) (i : ℕ) → i < length us
    → length (limit_pauses (notices (story end us cs i))) ≤ pauses_bound

-- ---------------------------------------------------------------- the first five minutes

-- A story that was Waiting before 300,000, settled to 300,000 or later, has exactly one f.
abbrev pub OneF : Type 0
OneF = (end : ℕ) (u : Setup) (es : Story) → Allowed end u es → (time : ℕ) → settles time (leaves end u es) ≡ 14 → 300_000 ≤ time
    → state_of (leaves end u (before 300_000 es)).stock ≡ Waiting → count_of mark_f es ≡ 1

-- ---------------------------------------------------------------- day totals (R-4)

-- With wrong totals every call is answered 1, with zeros beside it. Otherwise each call is answered as without totals, and leaves the same stock.
abbrev pub TotalsAround : Type 0
TotalsAround = (c : Counted) → let h = c.whole in
    (Wrong c → ((m : Message) → counted.tells m c ≡ 1 and ShowsNothing (counted.tell_answer m c))
    × ((time : ℕ) → counted.settles time c ≡ 1 and ShowsNothing (counted.settle_answer time c).answer
    and (counted.settle_answer time c).mark ≡ 0 and (counted.settle_answer time c).time ≡ 0)
    × (counted.reads c ≡ 1) × ShowsNothing (counted.read_answer c) × ShowsNone (counted.next_answer c))
    × (¬ Wrong c → ((m : Message) → (counted.tells m c ≡ tells m h) × (counted.tell_answer m c ≡ tell_answer m h) × ((counted.after_telling m c).whole ≡ after_telling m h))
    × ((time : ℕ) → (counted.settles time c ≡ settles time h) × (counted.settle_answer time c ≡ settle_answer time h)
    × ((counted.after_settling time c).whole ≡ after_settling time h))
    × (counted.reads c ≡ reads h) × (counted.read_answer c ≡ read_answer h) × (counted.next_answer c ≡ next_answer h))

-- The number in each answer of a stock with totals is that of its table.
abbrev pub TotalsNumbers : Type 0
TotalsNumbers = (c : Counted)
    → ((m : Message) → Gives (with_totals.refusals m c) (counted.tell_answer m c).number)
    × ((time : ℕ) → Gives (with_totals.settle_refusals time c) (counted.settle_answer time c).answer.number)
    × Gives (with_totals.read_refusals c) (counted.read_answer c).number
    × Gives (with_totals.read_refusals c) (counted.next_answer c).number
    × Gives (with_totals.read_refusals c) (counted.totals_answer c).number

-- A refused call changes no total. Asking for the totals gives the number of reading; with 0 the totals beside it are the stock's, with any other
-- number every one is 0.
abbrev pub TotalsKept : Type 0
TotalsKept = (c : Counted)
    → ((m : Message) → ¬ (counted.tells m c ≡ 0) → counted.after_telling m c ≡ c)
    × ((time : ℕ) → ¬ (counted.settles time c ≡ 0) → counted.after_settling time c ≡ c)
    × (let a = counted.totals_answer c in
    (a.number ≡ counted.reads c) × (counted.reads c ≡ 0 → a.totals ≡ c.totals) × (¬ (counted.reads c ≡ 0) → NoTotals a.totals))

-- A book of the right shape gives this answer for a stock that it has; any other call gets its number with every total 0.
abbrev pub BookTotalsAre : Type 0
BookTotalsAre = (end : ℕ) (b : List Counted) (times prices i : ℕ) → let a = book_totals end b times prices i in
    let there = IsShape (length b) times prices and i < length b in
    (there → a ≡ counted.totals_answer (stock counting (blank end) b i)) × (¬ there → NoTotals a.totals)

-- A setup makes every total 0.
abbrev pub FreshTotals : Type 0
FreshTotals = (end : ℕ) (u : Setup) → ((counted.fresh end u).whole ≡ fresh end u) × NoTotals (counted.fresh end u).totals

-- The totals after each event.
abbrev pub TotalsAre : Type 0
TotalsAre = (c : Counted) (e : Event Message Notice) → CanHappen c.whole e
    → let c' = becomes counting c e in (c'.whole ≡ becomes machine c.whole e) × TotalsAfter c.whole e c'.whole.stock c.totals c'.totals

-- Each of the six times is how many milliseconds of the story the stock was in that state.
abbrev pub TimesAre : Type 0
TimesAre = (end : ℕ) (u : Setup) (es : Story) → Allowed end u es
    → let t = (keeps end u es).spent in let h = fresh end u in
    t.waiting ≡ waiting_time h es and t.trading ≡ trading_time h es and t.limit ≡ limit_time h es
    and t.paused ≡ paused_time h es and t.late ≡ late_time h es and t.closed ≡ closed_time h es

-- The six add up to the clock.
abbrev pub TimesAddUp : Type 0
TimesAddUp = (end : ℕ) (u : Setup) (es : Story) → Allowed end u es
    → let h = fresh end u in
    waiting_time h es + trading_time h es + limit_time h es + paused_time h es + late_time h es + closed_time h es ≡ clock_of (leaves end u es).stock

-- The limit states are the events that enter Limit, also those that leave it and enter it again. The pauses are the P and the x.
abbrev pub CountsAre : Type 0
CountsAre = (end : ℕ) (u : Setup) (es : Story) → Allowed end u es
    → let t = keeps end u es in let h = fresh end u in
    ((n : ℕ) × Counts EntersLimit h es n × KeptCount n t.limits)
    × ((n : ℕ) × Counts (λ h e. StartsPause e) h es n × KeptCount n t.pauses)

-- Events are counted in one way only.
abbrev pub OneCount : Type 1
OneCount = (Such : Whole → Event Message Notice → Type 0) (h : Whole) (es : Story) (n m : ℕ) → Counts Such h es n → Counts Such h es m → n ≡ m

-- The highest and the lowest are those of the story's T.
abbrev pub PricesAre : Type 0
PricesAre = (end : ℕ) (u : Setup) (es : Story) → Allowed end u es
    → let t = keeps end u es in IsHighest t.highest (trade_prices es) and IsLowest t.lowest (trade_prices es)

-- No call ever makes wrong totals.
abbrev pub NeverWrong : Type 0
NeverWrong = (end : ℕ) (u : Setup) (es : Story) → Allowed end u es → ¬ Wrong (record { whole = leaves end u es; totals = keeps end u es })

-- ---------------------------------------------------------------- examples

-- B1 to B12 in one table.
abbrev pub ByHand : Type 0
ByHand = every right by_hand ≡ true

-- Days as they are printed, document 01's own first.
abbrev pub AsPrinted : Type 0
AsPrinted = every as_printed days ≡ true

-- The limit pauses of days: two that start exactly 315,000 apart, and one more after a pause that P began; one with p before it; one by a bid; none
-- where P began the pause and z came before x; a Late one; and 74 in one day.
abbrev pub PausesCounted : Type 0
PausesCounted =
    pauses_of soonest_again ≡ 15_000 ∷ 330_000 ∷ 945_000 ∷ []
    and pauses_of a_pause ≡ 19_000 ∷ 634_000 ∷ []
    and pauses_of limit_again ≡ 468_000 ∷ []
    and pauses_of a_straddle ≡ []
    and pauses_of a_late_pause ≡ 3_005_000 ∷ []
    and pauses_by 23_400_000 (listed 2) all_day ≡ evenly 315_000 15_000 74

-- The totals that days leave: document 01's own; a Limit that is begun afresh by the quote that ended another; three limit states, begun by O, T and R; a
-- declared pause; a Late pause; several trades; and pauses one after another.
abbrev pub TotalsCounted : Type 0
TotalsCounted =
    totals_of the_day ≡ 1_000 ∷ 3_000 ∷ 15_000 ∷ 300_000 ∷ 0 ∷ 0 ∷ 1 ∷ 1 ∷ 92_000 ∷ 92_000 ∷ []
    and totals_of limit_again ≡ 100_000 ∷ 350_000 ∷ 18_000 ∷ 0 ∷ 0 ∷ 0 ∷ 2 ∷ 1 ∷ 81_000 ∷ 81_000 ∷ []
    and totals_of the_looks ≡ 1_000 ∷ 31_000 ∷ 16_000 ∷ 300_000 ∷ 0 ∷ 0 ∷ 3 ∷ 1 ∷ 117_500 ∷ 117_500 ∷ []
    and totals_of offer_straddle ≡ 1_000 ∷ 299_000 ∷ 0 ∷ 600_000 ∷ 0 ∷ 0 ∷ 0 ∷ 1 ∷ 0 ∷ 0 ∷ []
    and totals_of a_late_pause ≡ 1_000 ∷ 2_989_000 ∷ 15_000 ∷ 0 ∷ 895_000 ∷ 0 ∷ 1 ∷ 1 ∷ 0 ∷ 0 ∷ []
    and totals_of the_exact_mean ≡ 0 ∷ 300_002 ∷ 0 ∷ 0 ∷ 0 ∷ 0 ∷ 0 ∷ 0 ∷ 101_001 ∷ 100_999 ∷ []
    and totals_of soonest_again ≡ 0 ∷ 0 ∷ 45_000 ∷ 900_000 ∷ 0 ∷ 0 ∷ 3 ∷ 4 ∷ 0 ∷ 0 ∷ []

-- Records and calls at the edges of what the rules allow.
abbrev pub AtEdges : Type 0
AtEdges = every as_answered edges ≡ true

-- ------------------------------------------------------------------ all of it

pub record Demands : Type 1 where
  pub numbers : NumbersAre
  pub book_numbers : BookNumbersAre
  pub setup_numbers : SetupNumbersAre
  pub listed : NumbersListed
  pub wrong_state : WrongStateIs
  pub too_late : TooLateIs
  pub no_straddle : NoStraddleIs
  pub calls_leave : CallsLeave
  pub shows : AnswersShow
  pub fit : AnswersFit
  pub answers : BookAnswers
  pub next_is : NextIs
  pub book_next_lem : BookNextIs
  pub next_settles : NextSettles
  pub fresh_is : FreshIs
  pub by_story : ByStory
  pub calls_step : CallsStep
  pub stories_grow : StoriesGrow
  pub refused : Refused
  pub others : OthersStay
  pub never_rubbish : NeverRubbish
  pub of_any_machine : OfAnyMachine
  pub machine_laws_lem : MachineLaws counting
  pub settled_alike : SettledAlike
  pub journal_is : JournalIs
  pub journals_are : JournalsAre
  pub asked_grow : AskedGrow
  pub journals_grow : JournalsGrow
  pub same_journal : SameJournal
  pub replayed : Replayed
  pub settled_on : SettledOn
  pub few_moments : FewMoments
  pub moments_are : MomentsAre
  pub trades : TradesAre
  pub quotes : QuotesAre
  pub states : StatesAre
  pub reference : ReferenceIs
  pub kept : KeptIs
  pub changes_only : ChangesOnly
  pub mean : MeanIs
  pub mean_between : MeanBetween
  pub clock : ClockIs
  pub held_trades : HeldTrades
  pub last_quotes : LastQuotes
  pub reference_since : ReferenceSince
  pub first_trade : FirstTrade
  pub dates : DatesAre
  pub looked_at : QuotesLookedAt
  pub in_bands : TradesInBands
  pub pauses : PausesBegin
  pub resumes : PausesEnd
  pub never_again : NeverAgain
  pub limit_pauses_lem : LimitPausesAre
  pub pauses_apart : PausesApart least_distance
  pub no_farther : NoFarther
  pub dates_few : DatesFew pauses_bound
  pub no_fewer : NoFewer
  pub pauses_few : PausesFew
  pub one_f : OneF
  pub totals_around : TotalsAround
  pub totals_numbers : TotalsNumbers
  pub totals_kept : TotalsKept
  pub book_totals_lem : BookTotalsAre
  pub fresh_totals : FreshTotals
  pub totals_after : TotalsAre
  pub times : TimesAre
  pub times_add_up : TimesAddUp
  pub counts : CountsAre
  pub one_count : OneCount
  pub prices : PricesAre
  pub never_wrong : NeverWrong
  pub by_hand_lem : ByHand
  pub as_printed_lem : AsPrinted
  pub pauses_counted : PausesCounted
  pub totals_counted : TotalsCounted
  pub at_edges : AtEdges
