-- One stock in memory, what it means in the rules, and what a call promises (document 01, "What the book holds", "How much a promise says").
-- Assumes nothing.
use Rattle.std.specs.Prelude.{ℕ, Bool, List, [], ◌∷◌, map, ◌≡◌, eqb, length}
use Rattle.forms.specs.Choice.{if◌then◌otherwise◌, all_of}
use Rattle.rules.specs.Stock.{Whole}
use Rattle.rules.specs.Numbers.{zeros, no_notice, none_coming}
use Rattle.rules.specs.Counted.{Counted, tells, settles, after, fire, tell_answer, settle_answer, read_answer, next_answer, no_summary, totals_answer}
use Rattle.rules.specs.declared.Answer.{Answer}
use Rattle.rules.specs.declared.Message.{Message}
use Rattle.rules.specs.declared.Notice.{Notice}
use Rattle.rules.specs.declared.Stock.{Stock}
use Rattle.rules.specs.declared.Summary.{Summary}
use Rattle.rules.specs.declared.Upcoming.{Upcoming}
use Rattle.window.specs.Places.{trades, laid}
use Rattle.stock.specs.declared.Handed.{Handed}
use Rattle.stock.specs.declared.Record.{Record}

-- ------------------------------------------------------------------ the bytes of a stock, and what they mean

-- a stock's record beside its places
pub record Bytes : Type 0 where
  pub kept : Record
  pub times : List ℕ
  pub prices : List ℕ

abbrev pub bytes : Record → List ℕ → List ℕ → Bytes
bytes kept times prices = record { kept = kept; times = times; prices = prices }

-- a stock with so many trades in the first places, the oldest first
abbrev pub holding : Stock → ℕ → List ℕ → List ℕ → Whole
holding s count times prices = record { stock = s; window = trades count times prices }

-- the stock that the bytes mean, with its window and its day totals
abbrev pub view : Bytes → Counted
view b = record { whole = holding b.kept.stock b.kept.count b.times b.prices; totals = b.kept.totals }

-- the bytes b with a stock written over them: the window in front, zeros in freed places, all other places as they were
abbrev pub lay : Counted → Bytes → Bytes
lay c b = record {
  kept = record { stock = c.whole.stock; count = length c.whole.window; totals = c.totals };
  times = laid b.kept.count (map (λ t. t.at) c.whole.window) b.times;
  prices = laid b.kept.count (map (λ t. t.price) c.whole.window) b.prices;
}

-- two parts of 512 places
unfoldable pub in_shape : List ℕ → List ℕ → Bool
in_shape times prices = all_of (eqb (length times) 512 ∷ eqb (length prices) 512 ∷ [])

-- the stock owns 512 places of each array
abbrev pub shaped : Bytes → Bool
shaped b = in_shape b.times b.prices

-- ------------------------------------------------------------------ what a call gives and leaves

-- an answer, and every byte that the call leaves
pub record Outcome (A : Type 0) : Type 0 where
  pub answer : A
  pub bytes : Bytes

-- a rule for a call: of each stock the number, the answer, and the stock that is left where the number is 0
pub record Ruling (A : Type 0) : Type 0 where
  pub number : Counted → ℕ
  pub answer : Counted → A
  pub next : Counted → Counted

-- a call by a rule: parts without 512 places get 1; where the number is 0 the layout of the stock that the rule leaves is left, else every byte
unfoldable pub made : {A : Type 0} → Ruling A → (ℕ → A) → Bytes → Outcome A
made rule beside b =
    if shaped b then record { answer = rule.answer (view b); bytes = if eqb (rule.number (view b)) 0 then lay (rule.next (view b)) b otherwise b }
    otherwise record { answer = beside 1; bytes = b }

-- the rule for a message, and for settling to a time
abbrev pub told_by : Message → Ruling Answer
told_by m = record { number = tells m; answer = tell_answer m; next = after m }

abbrev pub settled_by : ℕ → Ruling Notice
settled_by time = record { number = settles time; answer = settle_answer time; next = fire }

-- telling a message
abbrev pub telling : Message → Bytes → Outcome Answer
telling m = made (told_by m) zeros

-- settling to a time
abbrev pub settling : ℕ → Bytes → Outcome Notice
settling time = made (settled_by time) no_notice

-- the promise of a step with that outcome: the answer, the next record and all places at exit are the outcome's
abbrev pub Leaves : {A : Type 0} → Outcome A → Handed A → List ℕ → List ℕ → Type 0
Leaves {A} o r times prices = ◌≡◌ {A = Outcome A} (record { answer = r.answer; bytes = bytes r.next times prices }) o

-- the promise of telling
abbrev pub Tells : Message → Bytes → Handed Answer → List ℕ → List ℕ → Type 0
Tells m b = Leaves (telling m b)

-- the promise of settling
abbrev pub Settles : ℕ → Bytes → Handed Notice → List ℕ → List ℕ → Type 0
Settles time b = Leaves (settling time b)

-- the number of an answer, and of a notice
abbrev pub answer_number : Answer → ℕ
answer_number a = a.number

abbrev pub notice_number : Notice → ℕ
notice_number n = n.answer.number

-- ------------------------------------------------------------------ what reading gives

-- a call that changes nothing: parts without 512 places get 1, others get the rules' answer
unfoldable pub asked : {A : Type 0} → (Counted → A) → (ℕ → A) → Bytes → A
asked own beside b = if shaped b then own (view b) otherwise beside 1

-- reading
abbrev pub reading : Bytes → Answer
reading = asked read_answer zeros

-- asking what comes next
abbrev pub coming : Bytes → Upcoming
coming = asked next_answer none_coming

-- asking for the day totals
abbrev pub totalling : Bytes → Summary
totalling = asked totals_answer no_summary
