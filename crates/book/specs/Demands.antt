-- What is demanded of the calls on a lent book. Open this file first: proofs/Demands.antt proves the record `Demands`.
--
-- Each demand is stated of any family of calls, so that a wrong family can fail it, and proved of ours, which are the promises of
-- src/lib.rt. They hold for any bytes: the promises have no requires clause.
-- Assumes nothing.
use Rattle.std.specs.Prelude.{ℕ, ◌*◌, ◌≤◌, ◌<◌, List, [], ◌∷◌, ◌++◌, map, ◌↔◌, ◌≡◌, eqb, length}
use Rattle.forms.specs.Choice.{if◌then◌otherwise◌, all_of}
use Rattle.forms.specs.Promises.{Determines}
use Rattle.forms.specs.Words.{◌and◌, Otherwise, Some, Gives}
use Rattle.rules.specs.Machine.{Call, tell, settle, messages, notices, Calls, Every, journal, IsJournal, step_in, run}
use Rattle.rules.specs.Book.{counting, blank, book, story, book_tells, book_settles, book_reads, book_next, book_totals}
use Rattle.rules.specs.Numbers.{zeros, none_coming, no_notice}
use Rattle.rules.specs.Counted.{Counted, fresh, after_telling, after_settling, tell_answer, settle_answer, no_summary}
use Rattle.rules.specs.Demands.{Allowed, keeps}
use Rattle.rules.specs.Readings.{limit_pauses}
use Rattle.rules.specs.LimitPauses.{Apart, least_distance, pauses_bound}
use Rattle.rules.specs.TotalsWords.{refusals, settle_refusals, read_refusals, ReachesTable}
use Rattle.rules.specs.Words.{WrongState, TooLate, NoStraddle, ShowsNothing}
use Rattle.rules.specs.declared.Answer.{Answer}
use Rattle.rules.specs.declared.Message.{Message}
use Rattle.rules.specs.declared.Notice.{Notice}
use Rattle.rules.specs.declared.Summary.{Summary}
use Rattle.rules.specs.declared.Upcoming.{Upcoming}
use Rattle.rules.specs.declared.Setup.{Setup}
use Rattle.rules.specs.declared.Stock.{Stock}
use Rattle.stock.specs.View.{Bytes, telling, settling, Tells, Settles}
use Rattle.calls.specs.Setup.{setups_of}
use Rattle.calls.specs.Words.{setup_in}
use Rattle.book.specs.Lent.{Lent, bytes_of, Given, calling, TellsIn, SettlesIn, reading_in, coming_in, totalling_in}
use Rattle.book.specs.Words.{record_at, Means, UnusedAre0, InShape, call_table, setup_table}
use Rattle.book.specs.Layout.{stock_bytes, layout}
use Rattle.book.specs.Setup.{setting, SetsUp}

-- ------------------------------------------------------------------ calls on a book

-- a family of calls: the answers that each may give, and the bytes of a book that it may leave
pub record Family : Type 1 where
  pub SetUp : (end : ℕ) (list : List ℕ) → Lent → Answer → Lent → Type 0
  pub Tell : (i : ℕ) → Message → Lent → Answer → Lent → Type 0
  pub Settle : (i time : ℕ) → Lent → Notice → Lent → Type 0
  pub Read : (i : ℕ) → Lent → Answer → Type 0
  pub Next : (i : ℕ) → Lent → Upcoming → Type 0
  pub Total : (i : ℕ) → Lent → Summary → Type 0

-- ours: the promises of src/lib.rt
abbrev pub ours : Family
ours = record { SetUp = SetsUp; Tell = TellsIn; Settle = SettlesIn; Read = λ i b a. a ≡ reading_in i b; Next = λ i b u. u ≡ coming_in i b; Total = λ i b x. x ≡ totalling_in i b }

-- a call that was made, with its answer; of setups only refused ones
pub data Made : Type 0 where
  refused_setup : ℕ → List ℕ → Answer → Made
  told : ℕ → Message → Answer → Made
  settled : ℕ → ℕ → Notice → Made
  was_read : ℕ → Answer → Made
  next_given : ℕ → Upcoming → Made
  totals_given : ℕ → Summary → Made

-- calls of a family, one after the other, that lead from one book to another
abbrev pub Chain : Family → Lent → List Made → Lent → Type 0
Chain 𝓕 b [] b' = b ≡ b'
Chain 𝓕 b (refused_setup end list a ∷ cs) b' = (c : Lent) × 𝓕.SetUp end list b a c × ¬ (a.number ≡ 0) × Chain 𝓕 c cs b'
Chain 𝓕 b (told i m a ∷ cs) b' = (c : Lent) × 𝓕.Tell i m b a c × Chain 𝓕 c cs b'
Chain 𝓕 b (settled i time a ∷ cs) b' = (c : Lent) × 𝓕.Settle i time b a c × Chain 𝓕 c cs b'
Chain 𝓕 b (was_read i a ∷ cs) b' = 𝓕.Read i b a × Chain 𝓕 b cs b'
Chain 𝓕 b (next_given i u ∷ cs) b' = 𝓕.Next i b u × Chain 𝓕 b cs b'
Chain 𝓕 b (totals_given i x ∷ cs) b' = 𝓕.Total i b x × Chain 𝓕 b cs b'

-- the calls as the rules know them
abbrev pub calls : List Made → Calls counting
calls [] = []
calls (refused_setup end list a ∷ cs) = calls cs
calls (told i m a ∷ cs) = record { at = i; it = tell m } ∷ calls cs
calls (settled i time a ∷ cs) = record { at = i; it = settle time } ∷ calls cs
calls (was_read i a ∷ cs) = calls cs
calls (next_given i u ∷ cs) = calls cs
calls (totals_given i x ∷ cs) = calls cs

-- ------------------------------------------------------------------ demand 1

-- The number of a setup is that of its table, for any bytes and a list of any length.
abbrev pub SetupNumber : Family → Type 0
SetupNumber 𝓕 = (end : ℕ) (list : List ℕ) (b b' : Lent) (a : Answer) → 𝓕.SetUp end list b a b' → Gives (setup_table end list b) a.number

-- A refused setup leaves every byte.
abbrev pub SetupLeaves : Family → Type 0
SetupLeaves 𝓕 = (end : ℕ) (list : List ℕ) (b b' : Lent) (a : Answer) → 𝓕.SetUp end list b a b' → ¬ (a.number ≡ 0) → b' ≡ b

-- For any bytes:
pub record Demand1 (𝓕 : Family) : Type 0 where
  -- every call is answered
  pub setup_answered : (end : ℕ) (list : List ℕ) (b : Lent) → (a : Answer) × (b' : Lent) × 𝓕.SetUp end list b a b'
  pub tell_answered : (i : ℕ) (m : Message) (b : Lent) → (a : Answer) × (b' : Lent) × 𝓕.Tell i m b a b'
  pub settle_answered : (i time : ℕ) (b : Lent) → (a : Notice) × (b' : Lent) × 𝓕.Settle i time b a b'
  pub read_answered : (i : ℕ) (b : Lent) → (a : Answer) × 𝓕.Read i b a
  pub next_answered : (i : ℕ) (b : Lent) → (u : Upcoming) × 𝓕.Next i b u
  pub totals_answered : (i : ℕ) (b : Lent) → (x : Summary) × 𝓕.Total i b x
  -- the number is that of document 01's table for the stock that the bytes mean; they mean exactly one (`one_meaning` of Laws.antt)
  pub setup_number_lem : SetupNumber 𝓕
  pub tell_number : (i : ℕ) (m : Message) (b : Lent) (a : Answer) (b' : Lent) (h : Counted) → 𝓕.Tell i m b a b' → Means i b h
      → Gives (call_table i b (refusals m h)) a.number
  pub settle_number_lem : (i time : ℕ) (b : Lent) (a : Notice) (b' : Lent) (h : Counted) → 𝓕.Settle i time b a b' → Means i b h
      → Gives (call_table i b (settle_refusals time h)) a.answer.number
  pub read_number : (i : ℕ) (b : Lent) (a : Answer) (h : Counted) → 𝓕.Read i b a → Means i b h → Gives (call_table i b (read_refusals h)) a.number
  pub next_number : (i : ℕ) (b : Lent) (u : Upcoming) (h : Counted) → 𝓕.Next i b u → Means i b h → Gives (call_table i b (read_refusals h)) u.number
  pub totals_number : (i : ℕ) (b : Lent) (x : Summary) (h : Counted) → 𝓕.Total i b x → Means i b h → Gives (call_table i b (read_refusals h)) x.number
  -- two outcomes of one call agree, in the answer and in every byte
  pub setup_determined : (end : ℕ) (list : List ℕ) (b : Lent) → Determines (λ (x : Given Answer). 𝓕.SetUp end list b x.answer x.book)
  pub tell_determined : (i : ℕ) (m : Message) (b : Lent) → Determines (λ (x : Given Answer). 𝓕.Tell i m b x.answer x.book)
  pub settle_determined : (i time : ℕ) (b : Lent) → Determines (λ (x : Given Notice). 𝓕.Settle i time b x.answer x.book)
  pub read_determined : (i : ℕ) (b : Lent) → Determines (λ (a : Answer). 𝓕.Read i b a)
  pub next_determined : (i : ℕ) (b : Lent) → Determines (λ (u : Upcoming). 𝓕.Next i b u)
  pub totals_determined : (i : ℕ) (b : Lent) → Determines (λ (x : Summary). 𝓕.Total i b x)
  -- every number but 0 leaves every byte; reading, and asking what comes next or for the totals, always do
  pub setup_leaves : SetupLeaves 𝓕
  pub tell_leaves : (i : ℕ) (m : Message) (b : Lent) (a : Answer) (b' : Lent) → 𝓕.Tell i m b a b' → ¬ (a.number ≡ 0) → b' ≡ b
  pub settle_leaves : (i time : ℕ) (b : Lent) (a : Notice) (b' : Lent) → 𝓕.Settle i time b a b' → ¬ (a.answer.number ≡ 0) → b' ≡ b

-- For any bytes, a message to stock i is answered n exactly where the book has the right shape and that stock, no check before the table of
-- message by state applies, and these words hold for the stock that the bytes mean.
abbrev pub RefusedFor : Family → ℕ → (Stock → Message → Type 0) → Type 0
RefusedFor 𝓕 n Words = (i : ℕ) (m : Message) (b : Lent) (a : Answer) (b' : Lent) (h : Counted) → 𝓕.Tell i m b a b' → Means i b h
    → (a.number ≡ n) ↔ (InShape b and i < length b.records and ReachesTable m h and Words h.whole.stock m)

-- 9 is for a wrong state, 15 for an opening at 300,000 or later, 16 for a pause without straddle.
pub record Reasons (𝓕 : Family) : Type 0 where
  pub wrong_state : RefusedFor 𝓕 9 WrongState
  pub too_late : RefusedFor 𝓕 15 TooLate
  pub no_straddle : RefusedFor 𝓕 16 NoStraddle

-- ------------------------------------------------------------------ demand 2

-- each call is answered as the rules answer it, for the book that the calls before it left
abbrev pub Answered : ℕ → List Counted → List Made → Type 0
Answered end hs [] = Unit {0}
Answered end hs (refused_setup e list a ∷ cs) = Answered end hs cs
Answered end hs (told i m a ∷ cs) =
    (a ≡ book_tells end hs (512 * length hs) (512 * length hs) i m) × Answered end (step_in counting (blank end) hs (record { at = i; it = tell m })) cs
Answered end hs (settled i time a ∷ cs) =
    (a ≡ book_settles end hs (512 * length hs) (512 * length hs) i time)
    × Answered end (step_in counting (blank end) hs (record { at = i; it = settle time })) cs
Answered end hs (was_read i a ∷ cs) = (a ≡ book_reads end hs (512 * length hs) (512 * length hs) i) × Answered end hs cs
Answered end hs (next_given i u ∷ cs) = (u ≡ book_next end hs (512 * length hs) (512 * length hs) i) × Answered end hs cs
Answered end hs (totals_given i x ∷ cs) = (x ≡ book_totals end hs (512 * length hs) (512 * length hs) i) × Answered end hs cs

-- A setup is answered with the number of its table and zeros; a refused one leaves every byte. After an accepted setup every call is answered as
-- the rules answer it, and the bytes are the layout of the book that the rules leave.
pub record Demand2 (𝓕 : Family) : Type 0 where
  pub setup_number_lem : SetupNumber 𝓕
  pub setup_zeros : (end : ℕ) (list : List ℕ) (b b' : Lent) (a : Answer) → 𝓕.SetUp end list b a b' → ShowsNothing a
  pub setup_leaves : SetupLeaves 𝓕
  pub from_setup : (end : ℕ) (list : List ℕ) (b₀ b b' : Lent) (a : Answer) (cs : List Made) → 𝓕.SetUp end list b₀ a b → a.number ≡ 0
      → Chain 𝓕 b cs b'
      → Answered end (book end (setups_of list)) cs × (b' ≡ layout (run counting (blank end) (book end (setups_of list)) (calls cs)))

-- ------------------------------------------------------------------ demand 3

-- the messages to stock i that were answered 0
abbrev pub accepted : ℕ → List Made → List Message
accepted i [] = []
accepted i (refused_setup end list a ∷ cs) = accepted i cs
accepted i (told j m a ∷ cs) = if all_of (eqb i j ∷ eqb a.number 0 ∷ []) then m ∷ accepted i cs otherwise accepted i cs
accepted i (settled j time a ∷ cs) = accepted i cs
accepted i (was_read j a ∷ cs) = accepted i cs
accepted i (next_given j u ∷ cs) = accepted i cs
accepted i (totals_given j x ∷ cs) = accepted i cs

-- the notices from settling stock i that have number 0
abbrev pub noticed : ℕ → List Made → List Notice
noticed i [] = []
noticed i (refused_setup end list a ∷ cs) = noticed i cs
noticed i (told j m a ∷ cs) = noticed i cs
noticed i (settled j time a ∷ cs) = if all_of (eqb i j ∷ eqb a.answer.number 0 ∷ []) then a ∷ noticed i cs otherwise noticed i cs
noticed i (was_read j a ∷ cs) = noticed i cs
noticed i (next_given j u ∷ cs) = noticed i cs
noticed i (totals_given j x ∷ cs) = noticed i cs

-- the calls cs, which left the book b, have settled it to a time: settling a stock to that time is answered 14, and no notice has a later date
pub record SettledTo (𝓕 : Family) (time : ℕ) (cs : List Made) (b : Lent) : Type 0 where
  pub nothing_left : (i : ℕ) → i < length b.records → (a : Notice) × (b' : Lent) × 𝓕.Settle i time b a b' × (a.answer.number ≡ 14)
  pub nothing_later : (i : ℕ) → Every (λ n. n.time ≤ time) (noticed i cs)

-- Two books are set up alike, their stocks have accepted the same messages, and both are settled to one time and not beyond: then every byte is
-- equal, and so are the dated notices of each stock.
abbrev pub Demand3 : Family → Type 0
Demand3 𝓕 = (end time : ℕ) (list : List ℕ) (b₀ b b' c₀ c c' : Lent) (a e : Answer) (cs ds : List Made)
    → 𝓕.SetUp end list b₀ a b → a.number ≡ 0 → Chain 𝓕 b cs b'
    → 𝓕.SetUp end list c₀ e c → e.number ≡ 0 → Chain 𝓕 c ds c'
    → SettledTo 𝓕 time cs b' → SettledTo 𝓕 time ds c'
    → ((i : ℕ) → accepted i cs ≡ accepted i ds)
    → (b' ≡ c') × ((i : ℕ) → i < length b'.records → noticed i cs ≡ noticed i ds)

-- ------------------------------------------------------------------ eight books that must not pass

-- no call is answered
abbrev pub silent : Family
silent = record { SetUp = λ end list b a b'. ⊥; Tell = λ i m b a b'. ⊥; Settle = λ i time b a b'. ⊥; Read = λ i b a. ⊥; Next = λ i b u. ⊥; Total = λ i b x. ⊥ }

-- every call is refused
abbrev pub refusing : Family
refusing = record {
  SetUp = λ end list b a b'. (a ≡ zeros 1) × (b' ≡ b);
  Tell = λ i m b a b'. (a ≡ zeros 1) × (b' ≡ b);
  Settle = λ i time b a b'. (a ≡ no_notice 1) × (b' ≡ b);
  Read = λ i b a. a ≡ zeros 1;
  Next = λ i b u. u ≡ none_coming 1;
  Total = λ i b x. x ≡ no_summary 1;
}

-- every call gives one fixed answer, and may leave any bytes
abbrev pub fixed : Answer → Notice → Upcoming → Summary → Family
fixed x y z s = record {
  SetUp = λ end list b a b'. a ≡ x;
  Tell = λ i m b a b'. a ≡ x;
  Settle = λ i time b a b'. a ≡ y;
  Read = λ i b a. a ≡ x;
  Next = λ i b u. u ≡ z;
  Total = λ i b x. x ≡ s;
}

-- every answer is right, and the book is left as it is
abbrev pub leaving : Family
leaving = record {
  SetUp = λ end list b a b'. (a ≡ (setting end list b).answer) × (b' ≡ b);
  Tell = λ i m b a b'. (a ≡ (calling i (telling m) zeros b).answer) × (b' ≡ b);
  Settle = λ i time b a b'. (a ≡ (calling i (settling time) no_notice b).answer) × (b' ≡ b);
  Read = λ i b a. a ≡ reading_in i b;
  Next = λ i b u. u ≡ coming_in i b;
  Total = λ i b x. x ≡ totalling_in i b;
}

-- a right setup, after which calls are only acknowledged: answered 0, with anything beside it
abbrev pub acknowledging : Family
acknowledging = record {
  SetUp = SetsUp;
  Tell = λ i m b a b'. (a.number ≡ 0) × (b' ≡ b);
  Settle = λ i time b a b'. (a.answer.number ≡ 0) × (b' ≡ b);
  Read = λ i b a. a.number ≡ 0;
  Next = λ i b u. u.number ≡ 0;
  Total = λ i b x. x.number ≡ 0;
}

-- every call is right, but a reading tells no more than its number: beside the same number there is always the same
abbrev pub blind : (ℕ → Answer) → Family
blind x = record { SetUp = SetsUp; Tell = TellsIn; Settle = SettlesIn; Read = λ i b a. a ≡ x (reading_in i b).number; Next = λ i b u. u ≡ coming_in i b; Total = λ i b x. x ≡ totalling_in i b }

-- every call is right, but what comes next is not told: beside the same number there is always the same
abbrev pub unaware : (ℕ → Upcoming) → Family
unaware z = record { SetUp = SetsUp; Tell = TellsIn; Settle = SettlesIn; Read = λ i b a. a ≡ reading_in i b; Next = λ i b u. u ≡ z (coming_in i b).number; Total = λ i b x. x ≡ totalling_in i b }

-- every call is right, but the totals are not told: beside the same number there are always the same
abbrev pub uncounting : (ℕ → Summary) → Family
uncounting z = record { SetUp = SetsUp; Tell = TellsIn; Settle = SettlesIn; Read = λ i b a. a ≡ reading_in i b; Next = λ i b u. u ≡ coming_in i b; Total = λ i b x. x ≡ z (totalling_in i b).number }

-- ------------------------------------------------------------------ what follows an accepted setup

-- Telling, settling, reading, and asking what comes next or for the totals never give number 1.
abbrev pub Never1 : List Made → Type 0
Never1 [] = Unit {0}
Never1 (refused_setup end list a ∷ cs) = Never1 cs
Never1 (told i m a ∷ cs) = ¬ (a.number ≡ 1) × Never1 cs
Never1 (settled i time a ∷ cs) = ¬ (a.answer.number ≡ 1) × Never1 cs
Never1 (was_read i a ∷ cs) = ¬ (a.number ≡ 1) × Never1 cs
Never1 (next_given i u ∷ cs) = ¬ (u.number ≡ 1) × Never1 cs
Never1 (totals_given i x ∷ cs) = ¬ (x.number ≡ 1) × Never1 cs

-- After an accepted setup, in every family that meets demand 2: number 1 is never given, and every unused place is 0.
abbrev pub AfterSetup : Family → Type 0
AfterSetup 𝓕 = (end : ℕ) (list : List ℕ) (b₀ b b' : Lent) (a : Answer) (cs : List Made) → 𝓕.SetUp end list b₀ a b → a.number ≡ 0
    → Chain 𝓕 b cs b'
    → Never1 cs × ((i : ℕ) → i < length b'.records → UnusedAre0 i b')

-- After an accepted setup, in every family that meets demand 2: the accepted messages and the notices of each stock, read from the calls and their
-- answers, are those of its story.
abbrev pub StoriesTold : Family → Type 0
StoriesTold 𝓕 = (end : ℕ) (list : List ℕ) (b₀ b b' : Lent) (a : Answer) (cs : List Made) → 𝓕.SetUp end list b₀ a b → a.number ≡ 0
    → Chain 𝓕 b cs b'
    → (i : ℕ) → let es = story end (setups_of list) (calls cs) i in (messages es ≡ accepted i cs) × (notices es ≡ noticed i cs)

-- After an accepted setup, in every family that meets demand 2: the rules allow the story of each stock, and the totals in its record are those kept
-- along it. `times`, `counts` and `prices` of the rules' demands read them off the story.
abbrev pub TotalsTold : Family → Type 0
TotalsTold 𝓕 = (end : ℕ) (list : List ℕ) (b₀ b b' : Lent) (a : Answer) (cs : List Made) → 𝓕.SetUp end list b₀ a b → a.number ≡ 0
    → Chain 𝓕 b cs b'
    → (i : ℕ) → i < length b'.records → let es = story end (setups_of list) (calls cs) i in
    Allowed end (setup_in list i) es × ((record_at i b').totals ≡ keeps end (setup_in list i) es)

-- ------------------------------------------------------------------ how often a stock can pause (R-2)

-- After an accepted setup and any calls, refused ones and refused setups among them, this holds for the starts of each stock's limit pauses.
abbrev pub OfLimitPauses : Family → (List ℕ → Type 0) → Type 0
OfLimitPauses 𝓕 Holds = (end : ℕ) (list : List ℕ) (b₀ b b' : Lent) (a : Answer) (cs : List Made) → 𝓕.SetUp end list b₀ a b → a.number ≡ 0
    → Chain 𝓕 b cs b'
    → (i : ℕ) → i < length b'.records → Holds (limit_pauses (noticed i cs))

-- Any two limit pauses of one stock start at least 315,000 apart.
abbrev pub PausesApart : Family → Type 0
PausesApart 𝓕 = OfLimitPauses 𝓕 (Apart least_distance)

-- Hence one stock never has more than 75 limit pauses in a day.
abbrev pub PausesFew : Family → Type 0
PausesFew 𝓕 = OfLimitPauses 𝓕 (λ starts. length starts ≤ pauses_bound)

-- ------------------------------------------------------------------ one lent record

-- a call on one lent record, with its answer
pub data MadeOne : Type 0 where
  told_one : Message → Answer → MadeOne
  settled_one : ℕ → Notice → MadeOne

-- such calls, one after the other, that lead from the bytes of one stock to others
abbrev pub OneChain : Bytes → List MadeOne → Bytes → Type 0
OneChain x [] x' = x ≡ x'
OneChain x (told_one m a ∷ cs) x' = (c : Bytes) × Tells m x (record { answer = a; next = c.kept }) c.times c.prices × OneChain c cs x'
OneChain x (settled_one time a ∷ cs) x' = (c : Bytes) × Settles time x (record { answer = a; next = c.kept }) c.times c.prices × OneChain c cs x'

-- the stock of the rules after such calls; and that each is answered as the rules answer it
abbrev pub left_one : Counted → List MadeOne → Counted
left_one h [] = h
left_one h (told_one m a ∷ cs) = left_one (after_telling m h) cs
left_one h (settled_one time a ∷ cs) = left_one (after_settling time h) cs

abbrev pub AnsweredOne : Counted → List MadeOne → Type 0
AnsweredOne h [] = Unit {0}
AnsweredOne h (told_one m a ∷ cs) = (a ≡ tell_answer m h) × AnsweredOne (after_telling m h) cs
AnsweredOne h (settled_one time a ∷ cs) = (a ≡ settle_answer time h) × AnsweredOne (after_settling time h) cs

-- After a setup, every call on the lent record of a stock is answered as the rules answer it, and leaves the layout of the rules' stock.
abbrev pub OneStock : Type 0
OneStock = (end : ℕ) (u : Setup) (cs : List MadeOne) (x : Bytes) → OneChain (stock_bytes (fresh end u)) cs x
    → AnsweredOne (fresh end u) cs × (x ≡ stock_bytes (left_one (fresh end u) cs))

-- ------------------------------------------------------------------ one stock and its journal

-- the number that a call was answered with; the call without its answer
abbrev pub number_made : MadeOne → ℕ
number_made (told_one m a) = a.number
number_made (settled_one time a) = a.answer.number

abbrev pub call_made : MadeOne → Call Message
call_made (told_one m a) = tell m
call_made (settled_one time a) = settle time

abbrev pub called : List MadeOne → List (Call Message)
called xs = map call_made xs

-- the messages and the settlings of stock i, each with its answer
abbrev pub made_of : ℕ → List Made → List MadeOne
made_of i [] = []
made_of i (refused_setup end list a ∷ cs) = made_of i cs
made_of i (told j m a ∷ cs) = if eqb i j then told_one m a ∷ made_of i cs otherwise made_of i cs
made_of i (settled j time a ∷ cs) = if eqb i j then settled_one time a ∷ made_of i cs otherwise made_of i cs
made_of i (was_read j a ∷ cs) = made_of i cs
made_of i (next_given j u ∷ cs) = made_of i cs
made_of i (totals_given j x ∷ cs) = made_of i cs

-- the journal of stock i: its messages and settlings that were answered 0
abbrev pub journal_of : ℕ → List Made → List MadeOne
journal_of i cs = journal number_made (made_of i cs)

-- The list of stock i is empty at first. Each message to it and each settling of it whose answer is kept is the next of the list, with the
-- answer. No other call changes the list: none on another stock, no refused setup, no reading.
pub record Collects (i : ℕ) (Kept : Answer → Type 0) (list : List Made → List MadeOne) : Type 0 where
  pub at_first : list [] ≡ []
  pub a_message : (cs : List Made) (j : ℕ) (m : Message) (a : Answer)
      → (i ≡ j and Kept a → list (cs ++ (told j m a ∷ [])) ≡ list cs ++ (told_one m a ∷ []))
      × (¬ (i ≡ j and Kept a) → list (cs ++ (told j m a ∷ [])) ≡ list cs)
  pub a_settling : (cs : List Made) (j time : ℕ) (n : Notice)
      → (i ≡ j and Kept n.answer → list (cs ++ (settled j time n ∷ [])) ≡ list cs ++ (settled_one time n ∷ []))
      × (¬ (i ≡ j and Kept n.answer) → list (cs ++ (settled j time n ∷ [])) ≡ list cs)
  pub a_refused_setup : (cs : List Made) (end : ℕ) (numbers : List ℕ) (a : Answer) → list (cs ++ (refused_setup end numbers a ∷ [])) ≡ list cs
  pub a_reading : (cs : List Made) (j : ℕ) (a : Answer) → list (cs ++ (was_read j a ∷ [])) ≡ list cs
  pub a_next : (cs : List Made) (j : ℕ) (u : Upcoming) → list (cs ++ (next_given j u ∷ [])) ≡ list cs
  pub some_totals : (cs : List Made) (j : ℕ) (x : Summary) → list (cs ++ (totals_given j x ∷ [])) ≡ list cs

-- The calls on stock i are kept with any answer; its journal has those that were answered 0.
abbrev pub JournalsGrow : Type 0
JournalsGrow = (i : ℕ) → Collects i (λ a. Otherwise) (made_of i) × Collects i (λ a. a.number ≡ 0) (journal_of i)

-- A setup was accepted and the calls cs were made, which left the book b. Stock i of it has the setup u. Its other stocks may have any setups.
pub record Ran (𝓕 : Family) (end : ℕ) (u : Setup) (i : ℕ) (cs : List Made) (b : Lent) : Type 0 where
  pub list : List ℕ
  pub before : Lent
  pub start : Lent
  pub answer : Answer
  pub set_up : 𝓕.SetUp end list before answer start
  pub accepted : answer.number ≡ 0
  pub its_setup : setup_in list i ≡ u
  pub chain : Chain 𝓕 start cs b
  pub there : i < length b.records

-- Stock i of the book b and stock j of the book c: the same calls were answered 0, with the same answers; every byte is equal; and so are
-- the notices.
pub record SameStock (i j : ℕ) (cs ds : List Made) (b c : Lent) : Type 0 where
  pub journals : journal_of i cs ≡ journal_of j ds
  pub stocks : bytes_of i b ≡ bytes_of j c
  pub notices : noticed i cs ≡ noticed j ds

-- Stock i of one book, and stock j of another or of the same book set up again, have the same setup and session's end. Between their calls there
-- may be calls on other stocks, refused setups and readings.
pub record Recovery (𝓕 : Family) : Type 0 where
  -- The accepted calls decide the stock: refused calls change nothing.
  pub same_journal : (end : ℕ) (u : Setup) (i j : ℕ) (cs ds : List Made) (b c : Lent) → Ran 𝓕 end u i cs b → Ran 𝓕 end u j ds c
      → called (journal_of i cs) ≡ called (journal_of j ds)
      → SameStock i j cs ds b c
  -- Both stocks have accepted the same calls cs and ds so far: none, at the beginning. Then stock i gets the calls es, and a journal of these is
  -- replayed on stock j. The journal has every accepted call and may have refused ones. Each entry gets the answer that its call got.
  pub replayed : (end : ℕ) (u : Setup) (i j : ℕ) (cs ds es fs : List Made) (b c : Lent) → Ran 𝓕 end u i (cs ++ es) b → Ran 𝓕 end u j (ds ++ fs) c
      → called (journal_of i cs) ≡ called (journal_of j ds)
      → (entries : List MadeOne) → IsJournal number_made (made_of i es) entries → called (made_of j fs) ≡ called entries
      → (made_of j fs ≡ entries) × SameStock i j (cs ++ es) (ds ++ fs) b c
  -- Both stocks have accepted the same calls so far. Then both are settled to one time until that is refused: stock i by the calls es; stock j by
  -- fs, then there is a crash, and then by gs. The notices of gs are those that were still to come.
  pub settled_on : (end time : ℕ) (u : Setup) (i j : ℕ) (cs ds es fs gs : List Made) (b c : Lent)
      → Ran 𝓕 end u i (cs ++ es) b → Ran 𝓕 end u j (ds ++ (fs ++ gs)) c
      → called (journal_of i cs) ≡ called (journal_of j ds)
      → Every (λ x. call_made x ≡ settle time) (made_of i es) → Some (λ x. ¬ (number_made x ≡ 0)) (made_of i es)
      → Every (λ x. call_made x ≡ settle time) (made_of j (fs ++ gs)) → Some (λ x. ¬ (number_made x ≡ 0)) (made_of j (fs ++ gs))
      → SameStock i j (cs ++ es) (ds ++ (fs ++ gs)) b c × (noticed i es ≡ noticed j fs ++ noticed j gs)

-- The bytes of stock i of the book b are copied to stock j of the book c: its record and its 512 places of both arrays. The bytes may be any,
-- and c any book of the right shape. Then stock i gets the calls cs, and a journal of these is replayed on stock j.
abbrev pub Copied : Type 0
Copied = (i j : ℕ) (cs ds : List Made) (b b' c c' : Lent)
    → InShape b → i < length b.records → InShape c → j < length c.records → bytes_of i b ≡ bytes_of j c
    → Chain ours b cs b' → Chain ours c ds c'
    → (entries : List MadeOne) → IsJournal number_made (made_of i cs) entries → called (made_of j ds) ≡ called entries
    → (made_of j ds ≡ entries) × SameStock i j cs ds b' c'

-- ------------------------------------------------------------------ all of them

pub record Demands : Type 1 where
  pub demand1 : Demand1 ours
  pub reasons : (𝓕 : Family) → Demand1 𝓕 → Reasons 𝓕
  pub demand2 : Demand2 ours
  pub demand3 : (𝓕 : Family) → Demand2 𝓕 → Demand3 𝓕
  pub after_setup : (𝓕 : Family) → Demand2 𝓕 → AfterSetup 𝓕
  pub stories_told : (𝓕 : Family) → Demand2 𝓕 → StoriesTold 𝓕
  pub totals_told : (𝓕 : Family) → Demand2 𝓕 → TotalsTold 𝓕
  pub pauses_apart : (𝓕 : Family) → Demand2 𝓕 → PausesApart 𝓕
  pub pauses_few : (𝓕 : Family) → Demand2 𝓕 → PausesFew 𝓕
  pub one_stock : OneStock
  pub recovery : (𝓕 : Family) → Demand2 𝓕 → Recovery 𝓕
  pub copied : Copied
  pub journals_grow : JournalsGrow
  -- each of the eight wrong books fails a demand
  pub silent_fails : Demand1 silent → ⊥
  pub refusing_fails : Demand2 refusing → ⊥
  pub fixed_fails : (x : Answer) (y : Notice) (z : Upcoming) (s : Summary) → Demand2 (fixed x y z s) → ⊥
  pub leaving_fails : Demand2 leaving → ⊥
  pub acknowledging_fails : Demand2 acknowledging → ⊥
  pub blind_fails : (x : ℕ → Answer) → Demand2 (blind x) → ⊥
  pub unaware_fails : (z : ℕ → Upcoming) → Demand2 (unaware z) → ⊥
  pub uncounting_fails : (z : ℕ → Summary) → Demand2 (uncounting z) → ⊥
