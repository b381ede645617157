-- What the bytes of a book obey under calls. Each field is a theorem: `laws` of proofs/Laws.antt proves the record.
-- Assumes nothing.
use Rattle.std.specs.Prelude.{ℕ, ◌+◌, ◌*◌, ◌≤◌, ◌<◌, true, List, ◌↔◌, ◌≡◌, length}
use Rattle.forms.specs.Promises.{Determines}
use Rattle.forms.specs.Words.{◌and◌}
use Rattle.rules.specs.Machine.{Every}
use Rattle.rules.specs.Numbers.{zeros, no_notice, none_coming, setup_answer}
use Rattle.rules.specs.Counted.{Counted, fresh, after_telling, after_settling, tell_answer, settle_answer, read_answer, next_answer, no_summary, totals_answer}
use Rattle.rules.specs.declared.Answer.{Answer}
use Rattle.rules.specs.declared.Message.{Message}
use Rattle.rules.specs.declared.Notice.{Notice}
use Rattle.rules.specs.declared.Summary.{Summary}
use Rattle.rules.specs.declared.Upcoming.{Upcoming}
use Rattle.stock.specs.View.{Bytes, view, shaped, Outcome, telling, settling}
use Rattle.stock.specs.declared.Record.{Record}
use Rattle.calls.specs.Setup.{setups_of}
use Rattle.calls.specs.Words.{setup_in}
use Rattle.book.specs.Lent.{Lent, lent, bytes_of, with_bytes, Given, call_number, calling, CallsIn, TellsIn, SettlesIn, asking, reading_in, coming_in, totalling_in}
use Rattle.book.specs.Words.{Means, UnusedAre0, LaidOut, InShape}
use Rattle.book.specs.Setup.{SetsUp}
use Rattle.book.specs.Layout.{layout}

-- ------------------------------------------------------------------ the parts of a book

-- a book put together: each part is what was given for it
abbrev pub LentIs : Type 0
LentIs = (records : List Record) (times prices : List ℕ)
    → let b = lent records times prices in b.records ≡ records and b.times ≡ times and b.prices ≡ prices

-- ------------------------------------------------------------------ the bytes of a stock

-- the book has stock i, with its places
pub record Has (i : ℕ) (b : Lent) : Type 0 where
  pub kept : i < length b.records
  pub times : 512 * i + 512 ≤ length b.times
  pub prices : 512 * i + 512 ≤ length b.prices

-- where the first checks let a call through, the book has its stock
abbrev pub LetThrough : Type 0
LetThrough = (i : ℕ) (b : Lent) → call_number i b ≡ 0 → Has i b

-- bytes that are written for a stock are read again, and those of every other stock are as they were
abbrev pub BytesWritten : Type 0
BytesWritten = (i : ℕ) (x : Bytes) (b : Lent) → shaped x ≡ true → Has i b → bytes_of i (with_bytes i x b) ≡ x

abbrev pub BytesOfOthers : Type 0
BytesOfOthers = (i : ℕ) (x : Bytes) (b : Lent) → shaped x ≡ true → Has i b → (j : ℕ) → ¬ (j ≡ i) → bytes_of j (with_bytes i x b) ≡ bytes_of j b

-- the bytes of a stock mean exactly one stock: the one that is read from them
abbrev pub OneMeaning : Type 0
OneMeaning = (i : ℕ) (b : Lent) (h : Counted) → Means i b h ↔ (h ≡ view (bytes_of i b))

-- the layout of a book whose windows fit, entry by entry
abbrev pub LayoutIs : Type 0
LayoutIs = (hs : List Counted) → Every (λ h. length h.whole.window ≤ 512) hs → LaidOut hs (layout hs)

-- ------------------------------------------------------------------ calls on any bytes

-- the answer is `own` for a stock of the book; it is 1 for a wrong shape and 3 for an unknown stock, with zeros beside it
pub record AnsweredBy {A : Type 0} (i : ℕ) (b : Lent) (r own : A) (beside : ℕ → A) : Type 0 where
  pub there : InShape b → i < length b.records → r ≡ own
  pub no_shape : ¬ InShape b → r ≡ beside 1
  pub no_stock : InShape b → length b.records ≤ i → r ≡ beside 3

-- the answer is the rules' answer for the stock that the bytes mean, and the new bytes mean the stock that the rules leave
abbrev pub ToldByTheRules : Type 0
ToldByTheRules = (i : ℕ) (m : Message) (b : Lent) (r : Answer) (b' : Lent) (h : Counted) → TellsIn i m b r b' → Means i b h
    → AnsweredBy i b r (tell_answer m h) zeros × (InShape b → i < length b.records → Means i b' (after_telling m h))

abbrev pub SettledByTheRules : Type 0
SettledByTheRules = (i time : ℕ) (b : Lent) (r : Notice) (b' : Lent) (h : Counted) → SettlesIn i time b r b' → Means i b h
    → AnsweredBy i b r (settle_answer time h) no_notice × (InShape b → i < length b.records → Means i b' (after_settling time h))

abbrev pub ReadByTheRules : Type 0
ReadByTheRules = (i : ℕ) (b : Lent) (h : Counted) → Means i b h → AnsweredBy i b (reading_in i b) (read_answer h) zeros

abbrev pub NextByTheRules : Type 0
NextByTheRules = (i : ℕ) (b : Lent) (h : Counted) → Means i b h → AnsweredBy i b (coming_in i b) (next_answer h) none_coming

abbrev pub TotalsByTheRules : Type 0
TotalsByTheRules = (i : ℕ) (b : Lent) (h : Counted) → Means i b h → AnsweredBy i b (totalling_in i b) (totals_answer h) no_summary

-- a step that does not change its stock's bytes does not change the book
abbrev pub CallLeaves : Type 1
CallLeaves = (A : Type 0) (i : ℕ) (step : Bytes → Outcome A) (beside : ℕ → A) (b : Lent)
    → (call_number i b ≡ 0 → (step (bytes_of i b)).bytes ≡ bytes_of i b) → (calling i step beside b).book ≡ b

-- a call that is not answered 0 changes no byte
abbrev pub ToldRefused : Type 0
ToldRefused = (i : ℕ) (m : Message) (b : Lent) (r : Answer) (b' : Lent) → TellsIn i m b r b' → ¬ (r.number ≡ 0) → b' ≡ b

abbrev pub SettledRefused : Type 0
SettledRefused = (i time : ℕ) (b : Lent) (r : Notice) (b' : Lent) → SettlesIn i time b r b' → ¬ (r.answer.number ≡ 0) → b' ≡ b

-- a call on stock i writes the bytes that its step gives, keeps those of every other stock, and keeps the number of records and places
pub record Touched (i : ℕ) (next : Bytes) (b b' : Lent) : Type 0 where
  pub own : call_number i b ≡ 0 → bytes_of i b' ≡ next
  pub others : (j : ℕ) → ¬ (j ≡ i) → bytes_of j b' ≡ bytes_of j b
  pub stocks : length b'.records ≡ length b.records
  pub times : length b'.times ≡ length b.times
  pub prices : length b'.prices ≡ length b.prices

abbrev pub ToldTouches : Type 0
ToldTouches = (i : ℕ) (m : Message) (b : Lent) (r : Answer) (b' : Lent) → TellsIn i m b r b'
    → Touched i (telling m (bytes_of i b)).bytes b b'

abbrev pub SettledTouches : Type 0
SettledTouches = (i time : ℕ) (b : Lent) (r : Notice) (b' : Lent) → SettlesIn i time b r b'
    → Touched i (settling time (bytes_of i b)).bytes b b'

-- ------------------------------------------------------------------ setup

-- a list of four numbers for each of some stocks gets the rules' answer
abbrev pub SetUpByTheRules : Type 0
SetUpByTheRules = (end : ℕ) (list : List ℕ) (b b' : Lent) (r : Answer) → SetsUp end list b r b' → (stocks : ℕ) → length list ≡ 4 * stocks
    → r ≡ setup_answer (length b.records) (length b.times) (length b.prices) end (setups_of list)

-- any other list is answered 1 with zeros
abbrev pub SetUpOne : Type 0
SetUpOne = (end : ℕ) (list : List ℕ) (b b' : Lent) (r : Answer) → SetsUp end list b r b' → ¬ ((stocks : ℕ) × (length list ≡ 4 * stocks))
    → r ≡ zeros 1

-- an accepted setup keeps the number of stocks, starts each from its own four numbers, and sets every place to 0
abbrev pub SetUpStarts : Type 0
SetUpStarts = (end : ℕ) (list : List ℕ) (b b' : Lent) (r : Answer) → SetsUp end list b r b' → r.number ≡ 0
    → (length b'.records ≡ length b.records)
    × ((i : ℕ) → i < length b.records → Means i b' (fresh end (setup_in list i)) × UnusedAre0 i b')

-- a setup that is not answered 0 changes no byte
abbrev pub SetUpRefused : Type 0
SetUpRefused = (end : ℕ) (list : List ℕ) (b b' : Lent) (r : Answer) → SetsUp end list b r b' → ¬ (r.number ≡ 0) → b' ≡ b

-- ------------------------------------------------------------------ all of them

pub record Laws : Type 1 where
  pub lent_is : LentIs
  pub let_through : LetThrough
  pub bytes_written : BytesWritten
  pub bytes_of_others : BytesOfOthers
  pub one_meaning : OneMeaning
  pub layout_is : LayoutIs
  pub told_by_the_rules : ToldByTheRules
  pub settled_by_the_rules : SettledByTheRules
  pub read_by_the_rules : ReadByTheRules
  pub next_by_the_rules : NextByTheRules
  pub totals_by_the_rules : TotalsByTheRules
  pub call_leaves : CallLeaves
  pub told_refused : ToldRefused
  pub settled_refused : SettledRefused
  pub told_touches : ToldTouches
  pub settled_touches : SettledTouches
  pub set_up_by_the_rules : SetUpByTheRules
  pub set_up_one : SetUpOne
  pub set_up_starts : SetUpStarts
  pub set_up_refused : SetUpRefused
  -- two results that a promise allows agree, in the answer and in every byte of the book
  pub step_determined : {A : Type 0} → (i : ℕ) (step : Bytes → Outcome A) (beside : ℕ → A) (b : Lent) → Determines (λ (x : Given A). CallsIn i step beside b x.answer x.book)
  pub ask_determined : {A : Type 0} → (i : ℕ) (given : Bytes → A) (beside : ℕ → A) (b : Lent) → Determines (λ (x : A). x ≡ asking i given beside b)
  pub tell_determined : (i : ℕ) (m : Message) (b : Lent) → Determines (λ (x : Given Answer). TellsIn i m b x.answer x.book)
  pub settle_determined : (i time : ℕ) (b : Lent) → Determines (λ (x : Given Notice). SettlesIn i time b x.answer x.book)
  pub read_determined : (i : ℕ) (b : Lent) → Determines (λ (r : Answer). r ≡ reading_in i b)
  pub next_determined : (i : ℕ) (b : Lent) → Determines (λ (u : Upcoming). u ≡ coming_in i b)
  pub totals_determined : (i : ℕ) (b : Lent) → Determines (λ (x : Summary). x ≡ totalling_in i b)
  pub setup_determined : (end : ℕ) (list : List ℕ) (b : Lent) → Determines (λ (x : Given Answer). SetsUp end list b x.answer x.book)
