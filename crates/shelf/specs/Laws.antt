-- What the promises of shelf obey. Each field is a theorem: `laws` of proofs/Laws.antt proves the record.
-- Assumes nothing.
use Rattle.std.specs.Prelude.{ℕ, ◌<◌, ◌≤◌, List, ◌≡◌, length, drop}
use Rattle.forms.specs.Promises.{Determines}
use Rattle.forms.specs.Words.{◌and◌}
use Rattle.rules.specs.Numbers.{zeros, no_notice}
use Rattle.rules.specs.Words.{ShowsNothing}
use Rattle.rules.specs.declared.Answer.{Answer}
use Rattle.rules.specs.declared.Message.{Message}
use Rattle.rules.specs.declared.Notice.{Notice}
use Rattle.stock.specs.View.{Bytes, Outcome}
use Rattle.book.specs.Lent.{Lent, TellsIn, SettlesIn}
use Rattle.book.specs.Setup.{SetsUp}
use Rattle.shelf.specs.Blank.{blank_shelf}
use Rattle.shelf.specs.First.{Shelved, shelved, front, SetsUpFirst, StepsFirst, TellsFirst, SettlesFirst, undone, Same, Within}
use Rattle.shelf.specs.declared.Shelf.{Shelf}

-- what a method gives, with the shelf and both arrays as it leaves them
pub record Left (R : Type 0) : Type 0 where
  pub result : R
  pub shelved : Shelved

module _ (s : Shelved) where
  -- the first records are as the book's call with the same arguments promises; the others and their number are as they were
  abbrev pub OnFirst : {A : Type 0} → (Lent → A → Lent → Type 0) → A → Shelved → Type 0
  OnFirst Call r s' = Call (front s) r (front s') × ((drop s.shelf.stocks s'.shelf.records ≡ drop s.shelf.stocks s.shelf.records) × (s'.shelf.stocks ≡ s.shelf.stocks))

  -- the shelf has a record for each stock, and a call leaves as many records
  abbrev pub Fits : Shelved → Type 0
  Fits s' = s.shelf.stocks ≤ length s.shelf.records and length s'.shelf.records ≡ length s.shelf.records

  abbrev pub SetUpIs : Type 0
  SetUpIs = (end : ℕ) (list : List ℕ) (r : Answer) (s' : Shelved) → Fits s' → SetsUpFirst end list s r s' → OnFirst (SetsUp end list) r s'

  abbrev pub ToldIs : Type 0
  ToldIs = (i : ℕ) (m : Message) (r : Answer) (s' : Shelved) → Fits s' → TellsFirst i m s r s' → OnFirst (TellsIn i m) r s'

  abbrev pub SettledIs : Type 0
  SettledIs = (i time : ℕ) (r : Notice) (s' : Shelved) → Fits s' → SettlesFirst i time s r s' → OnFirst (SettlesIn i time) r s'

  -- the answer is 1 with zeros, and the shelf and every place are as they were
  abbrev pub Refused : Answer → Shelved → Type 0
  Refused r s' = r.number ≡ 1 and ShowsNothing r and s' ≡ s

  -- with over eight stocks every call is refused, with no moment
  abbrev pub OverEight : Type 0
  OverEight = (s' : Shelved) → let n = s.shelf.stocks in 8 < n →
      ((end : ℕ) (list : List ℕ) (r : Answer) → Within n (SetsUpFirst end list s r s') (Same r (undone zeros) s s') → Refused r s')
      × (((i : ℕ) (m : Message) (r : Answer) → Within n (TellsFirst i m s r s') (Same r (undone zeros) s s') → Refused r s')
      × ((i time : ℕ) (r : Notice) → Within n (SettlesFirst i time s r s') (Same r (undone no_notice) s s') → Refused r.answer s' and r.mark ≡ 0 and r.time ≡ 0))

-- two results that a promise of src/lib.rt allows agree, in the answer, in every record and in every place
module _ (shelf : Shelf) (times prices : List ℕ) where
  abbrev pub SetupDetermined : Type 0
  SetupDetermined = (end : ℕ) (list : List ℕ) → Determines (λ (x : Left Answer).
      Within shelf.stocks (SetsUpFirst end list (shelved shelf times prices) x.result x.shelved) (Same x.result (undone zeros) (shelved shelf times prices) x.shelved))

  abbrev pub TellDetermined : Type 0
  TellDetermined = (i : ℕ) (m : Message) → Determines (λ (x : Left Answer).
      Within shelf.stocks (TellsFirst i m (shelved shelf times prices) x.result x.shelved) (Same x.result (undone zeros) (shelved shelf times prices) x.shelved))

  abbrev pub SettleDetermined : Type 0
  SettleDetermined = (i time : ℕ) → Determines (λ (x : Left Notice).
      Within shelf.stocks (SettlesFirst i time (shelved shelf times prices) x.result x.shelved) (Same x.result (undone no_notice) (shelved shelf times prices) x.shelved))

pub record Laws : Type 1 where
  pub set_up_is : (s : Shelved) → SetUpIs s
  pub told_is : (s : Shelved) → ToldIs s
  pub settled_is : (s : Shelved) → SettledIs s
  pub over_eight : (s : Shelved) → OverEight s
  pub blank_determined : (n : ℕ) → Determines (λ (r : Shelf). r ≡ blank_shelf n)
  pub setup_determined : (shelf : Shelf) (times prices : List ℕ) → SetupDetermined shelf times prices
  pub step_determined : {A : Type 0} → (i : ℕ) (step : Bytes → Outcome A) (beside : ℕ → A) (shelf : Shelf) (times prices : List ℕ) → Determines (λ (x : Left A).
      Within shelf.stocks (StepsFirst i step beside (shelved shelf times prices) x.result x.shelved) (Same x.result (undone beside) (shelved shelf times prices) x.shelved))
  pub tell_determined : (shelf : Shelf) (times prices : List ℕ) → TellDetermined shelf times prices
  pub settle_determined : (shelf : Shelf) (times prices : List ℕ) → SettleDetermined shelf times prices
