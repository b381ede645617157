-- What the promises of a record's methods obey. Each field is a theorem: `laws` of proofs/Laws.antt proves the record.
-- Assumes nothing.
use Rattle.std.specs.Prelude.{ℕ, ◌≤◌, ◌<◌, true, false, List, ◌↔◌, ◌≡◌, length, get_or}
use Rattle.forms.specs.Promises.{Determines}
use Rattle.forms.specs.Words.{◌and◌}
use Rattle.rules.specs.Stock.{Trade}
use Rattle.rules.specs.Numbers.{zeros, no_notice, none_coming}
use Rattle.rules.specs.Counted.{Counted, after_telling, after_settling, tell_answer, settle_answer, read_answer, next_answer, no_summary, totals_answer}
use Rattle.rules.specs.Words.{ShowsNothing}
use Rattle.rules.specs.declared.Answer.{Answer}
use Rattle.rules.specs.declared.Message.{Message}
use Rattle.rules.specs.declared.Notice.{Notice}
use Rattle.rules.specs.declared.Summary.{Summary}
use Rattle.rules.specs.declared.Upcoming.{Upcoming}
use Rattle.stock.specs.View.{Bytes, bytes, view, lay, shaped, Outcome, Leaves, Tells, Settles, answer_number, notice_number, reading, coming, totalling}
use Rattle.stock.specs.declared.Handed.{Handed}
use Rattle.stock.specs.declared.Record.{Record}

-- what a method hands back, with both parts as it leaves them
pub record Left (R : Type 0) : Type 0 where
  pub result : R
  pub times : List ℕ
  pub prices : List ℕ

-- a number with zeros beside it, and no moment
abbrev pub NoNoticeIs : Type 0
NoNoticeIs = (number : ℕ) → let n = no_notice number in
    n.answer.number ≡ number and ShowsNothing n.answer and n.mark ≡ 0 and n.time ≡ 0

-- bytes put together: each part is what was given for it
abbrev pub BytesAre : Type 0
BytesAre = (kept : Record) (times prices : List ℕ) → let b = bytes kept times prices in b.kept ≡ kept and b.times ≡ times and b.prices ≡ prices

-- the parts of a stock are in shape where each has 512 places
abbrev pub ShapedIs : Type 0
ShapedIs = (b : Bytes) → (shaped b ≡ true) ↔ (length b.times ≡ 512 and length b.prices ≡ 512)

-- `view` reads the record's stock and totals, with as many trades as it counts, each from its place of both parts
abbrev pub ViewIs : Type 0
ViewIs = (b : Bytes) → ((view b).whole.stock ≡ b.kept.stock) × (length (view b).whole.window ≡ b.kept.count)
    × ((j : ℕ) (d : Trade) → j < b.kept.count → get_or (view b).whole.window j d ≡ record { at = get_or b.times j 0; price = get_or b.prices j 0 })
    × ((view b).totals ≡ b.kept.totals)

-- `view` reads back what `lay` wrote, whatever the places held before
abbrev pub ReadBack : Type 0
ReadBack = (h : Counted) (b : Bytes) → view (lay h b) ≡ h

-- with parts of 512 places the answer is the rules', and the new bytes mean what the rules make of the stock that the old bytes meant
abbrev pub ToldByTheRules : Type 0
ToldByTheRules = (m : Message) (b : Bytes) (r : Handed Answer) (times prices : List ℕ) → Tells m b r times prices → shaped b ≡ true
    → (r.answer ≡ tell_answer m (view b)) × (view (bytes r.next times prices) ≡ after_telling m (view b))

abbrev pub SettledByTheRules : Type 0
SettledByTheRules = (time : ℕ) (b : Bytes) (r : Handed Notice) (times prices : List ℕ) → Settles time b r times prices → shaped b ≡ true
    → (r.answer ≡ settle_answer time (view b)) × (view (bytes r.next times prices) ≡ after_settling time (view b))

-- with other parts the answer is 1 with zeros
abbrev pub ToldOne : Type 0
ToldOne = (m : Message) (b : Bytes) (r : Handed Answer) (times prices : List ℕ) → Tells m b r times prices → shaped b ≡ false → r.answer ≡ zeros 1

abbrev pub SettledOne : Type 0
SettledOne = (time : ℕ) (b : Bytes) (r : Handed Notice) (times prices : List ℕ) → Settles time b r times prices → shaped b ≡ false
    → r.answer ≡ no_notice 1

-- reading gives the rules' answer with parts of 512 places, and 1 with zeros with other parts
abbrev pub ReadByTheRules : Type 0
ReadByTheRules = (b : Bytes) → (shaped b ≡ true → reading b ≡ read_answer (view b)) × (shaped b ≡ false → reading b ≡ zeros 1)

-- asking what comes next gives the rules' answer with parts of 512 places, and 1 with no moment with other parts
abbrev pub NextByTheRules : Type 0
NextByTheRules = (b : Bytes) → (shaped b ≡ true → coming b ≡ next_answer (view b)) × (shaped b ≡ false → coming b ≡ none_coming 1)

-- asking for the totals gives the rules' answer with parts of 512 places, and 1 with every total 0 with other parts
abbrev pub TotalsByTheRules : Type 0
TotalsByTheRules = (b : Bytes) → (shaped b ≡ true → totalling b ≡ totals_answer (view b)) × (shaped b ≡ false → totalling b ≡ no_summary 1)

-- a call that is not answered 0 changes no byte
abbrev pub ToldRefused : Type 0
ToldRefused = (m : Message) (b : Bytes) (r : Handed Answer) (times prices : List ℕ) → Tells m b r times prices → ¬ (r.answer.number ≡ 0)
    → bytes r.next times prices ≡ b

abbrev pub SettledRefused : Type 0
SettledRefused = (time : ℕ) (b : Bytes) (r : Handed Notice) (times prices : List ℕ) → Settles time b r times prices
    → ¬ (r.answer.answer.number ≡ 0) → bytes r.next times prices ≡ b

-- no call changes how many places the parts have
abbrev pub ToldInShape : Type 0
ToldInShape = (m : Message) (b : Bytes) (r : Handed Answer) (times prices : List ℕ) → Tells m b r times prices
    → shaped (bytes r.next times prices) ≡ shaped b

abbrev pub SettledInShape : Type 0
SettledInShape = (time : ℕ) (b : Bytes) (r : Handed Notice) (times prices : List ℕ) → Settles time b r times prices
    → shaped (bytes r.next times prices) ≡ shaped b

-- behind the trades that a call leaves, a place that was used before is 0, and any other place is as it was
abbrev pub Unwritten : (used held : ℕ) (before after : List ℕ) → Type 0
Unwritten used held before after = (j : ℕ) → held ≤ j → (j < used → get_or after j 0 ≡ 0) × (used ≤ j → get_or after j 0 ≡ get_or before j 0)

abbrev pub ToldUnused : Type 0
ToldUnused = (m : Message) (b : Bytes) (r : Handed Answer) (times prices : List ℕ) → Tells m b r times prices
    → Unwritten b.kept.count r.next.count b.times times × Unwritten b.kept.count r.next.count b.prices prices

abbrev pub SettledUnused : Type 0
SettledUnused = (time : ℕ) (b : Bytes) (r : Handed Notice) (times prices : List ℕ) → Settles time b r times prices
    → Unwritten b.kept.count r.next.count b.times times × Unwritten b.kept.count r.next.count b.prices prices

pub record Laws : Type 1 where
  pub bytes_are : BytesAre
  pub shaped_is : ShapedIs
  pub view_is : ViewIs
  pub read_back : ReadBack
  pub told_by_the_rules : ToldByTheRules
  pub settled_by_the_rules : SettledByTheRules
  pub told_one : ToldOne
  pub settled_one : SettledOne
  pub read_by_the_rules : ReadByTheRules
  pub next_by_the_rules : NextByTheRules
  pub totals_by_the_rules : TotalsByTheRules
  pub told_refused : ToldRefused
  pub settled_refused : SettledRefused
  pub told_in_shape : ToldInShape
  pub settled_in_shape : SettledInShape
  pub told_unused : ToldUnused
  pub settled_unused : SettledUnused
  pub no_notice_is : NoNoticeIs
  -- two results that a promise of src/lib.rt allows agree, in the answer, the next record and every place
  pub zeros_determined : (number : ℕ) → Determines (λ (x : Answer). x ≡ zeros number)
  pub zero_notice_determined : (number : ℕ) → Determines (λ (x : Notice). x ≡ no_notice number)
  pub none_coming_determined : (number : ℕ) → Determines (λ (x : Upcoming). x ≡ none_coming number)
  pub no_summary_determined : (number : ℕ) → Determines (λ (x : Summary). x ≡ no_summary number)
  pub step_determined : {A : Type 0} → (o : Outcome A) → Determines (λ (x : Left (Handed A)). Leaves o x.result x.times x.prices)
  pub tell_determined : (m : Message) (b : Bytes) → Determines (λ (x : Left (Handed Answer)). Tells m b x.result x.times x.prices)
  pub settle_determined : (time : ℕ) (b : Bytes) → Determines (λ (x : Left (Handed Notice)). Settles time b x.result x.times x.prices)
  pub read_determined : (b : Bytes) → Determines (λ (r : Answer). r ≡ reading b)
  pub next_determined : (b : Bytes) → Determines (λ (r : Upcoming). r ≡ coming b)
  pub summary_determined : (b : Bytes) → Determines (λ (r : Summary). r ≡ totalling b)
  pub number_determined : (a : Answer) → Determines (λ (n : ℕ). n ≡ answer_number a)
  pub notice_number_determined : (a : Notice) → Determines (λ (n : ℕ). n ≡ notice_number a)
