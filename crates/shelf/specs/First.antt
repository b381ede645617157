-- What a call on the first records of a shelf promises (document 01, "What the book holds", "Numbers given back").
-- Assumes nothing.
use Rattle.std.specs.Prelude.{ℕ, ◌<◌, ◌≤◌, List, ◌++◌, ◌≡◌, take, drop}
use Rattle.rules.specs.Numbers.{zeros, no_notice}
use Rattle.rules.specs.declared.Answer.{Answer}
use Rattle.rules.specs.declared.Message.{Message}
use Rattle.rules.specs.declared.Notice.{Notice}
use Rattle.stock.specs.View.{Bytes, Outcome, telling, settling}
use Rattle.book.specs.Lent.{Lent, lent, CallsIn}
use Rattle.book.specs.Setup.{SetsUp}
use Rattle.shelf.specs.declared.Shelf.{Shelf}

-- a shelf beside the two arrays
pub record Shelved : Type 0 where
  pub shelf : Shelf
  pub times : List ℕ
  pub prices : List ℕ

abbrev pub shelved : Shelf → List ℕ → List ℕ → Shelved
shelved shelf times prices = record { shelf = shelf; times = times; prices = prices }

-- the book that a call is lent: the first records, as many as the shelf has stocks, with both arrays
abbrev pub front : Shelved → Lent
front s = lent (take s.shelf.stocks s.shelf.records) s.times s.prices

-- the book that a call leaves, in front of the other records as they were
abbrev pub in_front : Lent → Shelved → Shelved
in_front b s = shelved (record { records = b.records ++ drop s.shelf.stocks s.shelf.records; stocks = s.shelf.stocks }) b.times b.prices

-- the first records, as a call on a book leaves them, with the others as they were
abbrev pub First : {A : Type 0} → (Lent → A → Lent → Type 0) → Shelved → A → Shelved → Type 0
First Call s r s' = (b : Lent) × ((s' ≡ in_front b s) × Call (front s) r b)

-- the promise of setting up the first stocks
abbrev pub SetsUpFirst : ℕ → List ℕ → Shelved → Answer → Shelved → Type 0
SetsUpFirst end list = First (SetsUp end list)

-- the promise of a step of one of the first stocks
abbrev pub StepsFirst : {A : Type 0} → ℕ → (Bytes → Outcome A) → (ℕ → A) → Shelved → A → Shelved → Type 0
StepsFirst i step beside = First (CallsIn i step beside)

-- the promise of telling one of the first stocks a message
abbrev pub TellsFirst : ℕ → Message → Shelved → Answer → Shelved → Type 0
TellsFirst i m = StepsFirst i (telling m) zeros

-- the promise of settling one of the first stocks to a time
abbrev pub SettlesFirst : ℕ → ℕ → Shelved → Notice → Shelved → Type 0
SettlesFirst i time = StepsFirst i (settling time) no_notice

-- the result of a call with over eight stocks: number 1 with nothing beside it
abbrev pub undone : {A : Type 0} → (ℕ → A) → A
undone beside = beside 1

-- the result is the given one, and the shelf and every place are as they were
abbrev pub Same : {A : Type 0} → A → A → Shelved → Shelved → Type 0
Same r given s s' = (r ≡ given) × (s' ≡ s)

-- the first promise holds where n is at most eight, the second where it is over eight
abbrev pub Within : ℕ → Type 0 → Type 0 → Type 0
Within n Called Refused = (n ≤ 8 → Called) × (8 < n → Refused)
