-- A book in memory, and what a call on it promises (document 01, "What the book holds", "Numbers given back").
-- Assumes nothing.
use Rattle.std.specs.Prelude.{ℕ, List, ◌≡◌, eqb, length, get_or, set}
use Rattle.forms.specs.Choice.{if◌then◌otherwise◌}
use Rattle.forms.specs.Checks.{first}
use Rattle.rules.specs.Numbers.{call_checks, zeros, none_coming, no_notice}
use Rattle.rules.specs.Counted.{no_summary}
use Rattle.rules.specs.Book.{blank}
use Rattle.rules.specs.declared.Answer.{Answer}
use Rattle.rules.specs.declared.Message.{Message}
use Rattle.rules.specs.declared.Notice.{Notice}
use Rattle.rules.specs.declared.Summary.{Summary}
use Rattle.rules.specs.declared.Upcoming.{Upcoming}
use Rattle.stock.specs.View.{Bytes, bytes, Outcome, telling, settling, reading, coming, totalling}
use Rattle.stock.specs.declared.Record.{Record}
use Rattle.calls.specs.Parts.{part, put}

-- ------------------------------------------------------------------ the bytes of a book

-- the records, one per stock, beside the two arrays
pub record Lent : Type 0 where
  pub records : List Record
  pub times : List ℕ
  pub prices : List ℕ

abbrev pub lent : List Record → List ℕ → List ℕ → Lent
lent records times prices = record { records = records; times = times; prices = prices }

-- the record that is read past the end of the records; no accepted call reads it
abbrev pub no_record : Record
no_record = record { stock = (blank 0).whole.stock; count = 0; totals = (blank 0).totals }

-- the bytes of stock i
abbrev pub bytes_of : ℕ → Lent → Bytes
bytes_of i b = bytes (get_or b.records i no_record) (part i b.times) (part i b.prices)

-- the book with other bytes for stock i: every other record and place is as it was
abbrev pub with_bytes : ℕ → Bytes → Lent → Lent
with_bytes i x b = lent (set b.records i x.kept) (put i x.times b.times) (put i x.prices b.prices)

-- ------------------------------------------------------------------ what a call gives and leaves

-- an answer, and every byte that the call leaves
pub record Given (A : Type 0) : Type 0 where
  pub answer : A
  pub book : Lent

-- the number of the first checks: the shape of the book, then the number of the stock
abbrev pub call_number : ℕ → Lent → ℕ
call_number i b = first (call_checks (length b.records) (length b.times) (length b.prices) i)

-- a call on stock i: what its step makes of its bytes, or a number with zeros beside it and every byte as it was
unfoldable pub calling : {A : Type 0} → ℕ → (Bytes → Outcome A) → (ℕ → A) → Lent → Given A
calling i step beside b =
    if eqb (call_number i b) 0 then record { answer = (step (bytes_of i b)).answer; book = with_bytes i (step (bytes_of i b)).bytes b } otherwise
    record { answer = beside (call_number i b); book = b }

-- the promise of a call on stock i
abbrev pub CallsIn : {A : Type 0} → ℕ → (Bytes → Outcome A) → (ℕ → A) → Lent → A → Lent → Type 0
CallsIn {A} i step beside b r b' = ◌≡◌ {A = Given A} (record { answer = r; book = b' }) (calling i step beside b)

-- the promise of telling stock i a message
abbrev pub TellsIn : ℕ → Message → Lent → Answer → Lent → Type 0
TellsIn i m = CallsIn i (telling m) zeros

-- the promise of settling stock i to a time
abbrev pub SettlesIn : ℕ → ℕ → Lent → Notice → Lent → Type 0
SettlesIn i time = CallsIn i (settling time) no_notice

-- a call on stock i that changes nothing: what its bytes give, or a number with zeros beside it
unfoldable pub asking : {A : Type 0} → ℕ → (Bytes → A) → (ℕ → A) → Lent → A
asking i given beside b = if eqb (call_number i b) 0 then given (bytes_of i b) otherwise beside (call_number i b)

-- the answer to reading stock i
abbrev pub reading_in : ℕ → Lent → Answer
reading_in i b = asking i reading zeros b

-- the answer to asking what comes next of stock i
abbrev pub coming_in : ℕ → Lent → Upcoming
coming_in i b = asking i coming none_coming b

-- the answer to asking for the day totals of stock i
abbrev pub totalling_in : ℕ → Lent → Summary
totalling_in i b = asking i totalling no_summary b
