-- What the parts of a call obey. Each field is a theorem: `laws` of proofs/Laws.antt proves the record.
-- Assumes nothing.
use Rattle.std.specs.Prelude.{ℕ, Result, ⊤, ◌+◌, ◌*◌, ◌≤◌, ◌<◌, List, ◌≡◌, length, get_or}
use Rattle.forms.specs.Checks.{first}
use Rattle.forms.specs.Promises.{Determines}
use Rattle.forms.specs.Words.{Gives}
use Rattle.rules.specs.Book.{no_setup}
use Rattle.rules.specs.Numbers.{call_checks, zeros}
use Rattle.rules.specs.Refusals.{refused_by}
use Rattle.rules.specs.declared.Answer.{Answer}
use Rattle.rules.specs.declared.Refusal.{Refusal}
use Rattle.rules.specs.Counted.{Counted}
use Rattle.stock.specs.View.{Bytes, bytes, Outcome, asked}
use Rattle.stock.specs.Laws.{Left}
use Rattle.stock.specs.declared.Handed.{Handed}
use Rattle.stock.specs.declared.Record.{Record}
use Rattle.calls.specs.Parts.{part, put, StepsAt}
use Rattle.calls.specs.Setup.{setups_of, record_of, setup_number}
use Rattle.calls.specs.Words.{setup_in, setup_refusals}

-- ------------------------------------------------------------------ the part of a stock

-- stock i has at most 512 places, and place j is entry 512 i + j
abbrev pub PartIs : Type 0
PartIs = (i : ℕ) (xs : List ℕ) → (length (part i xs) ≤ 512) × ((j : ℕ) → j < 512 → get_or (part i xs) j 0 ≡ get_or xs (512 * i + j) 0)

-- the new part has 512 places, and the array has room for it
pub record Fits (i : ℕ) (new xs : List ℕ) : Type 0 where
  pub places : length new ≡ 512
  pub room : 512 * i + 512 ≤ length xs

-- a part that was put is read back, and every other stock's part is as it was
abbrev pub PartPut : Type 0
PartPut = (i : ℕ) (new xs : List ℕ) → Fits i new xs → part i (put i new xs) ≡ new

abbrev pub PartPutOther : Type 0
PartPutOther = (i : ℕ) (new xs : List ℕ) → Fits i new xs → (j : ℕ) → ¬ (j ≡ i) → part j (put i new xs) ≡ part j xs

-- ------------------------------------------------------------------ setup

-- the list has a setup for each four of its numbers, in their order
abbrev pub SetupsAre : Type 0
SetupsAre = (list : List ℕ) (stocks : ℕ) → length list ≡ 4 * stocks
    → (length (setups_of list) ≡ stocks) × ((i : ℕ) → i < stocks → get_or (setups_of list) i no_setup ≡ setup_in list i)

-- the number is that of the first row of the table in words whose condition holds
abbrev pub SetupNumberIs : Type 0
SetupNumberIs = (stocks times prices end : ℕ) (list : List ℕ) → Gives (setup_refusals stocks times prices end list) (setup_number stocks times prices end list)

-- ------------------------------------------------------------------ all of them

pub record Laws : Type 1 where
  pub part_is : PartIs
  pub part_put : PartPut
  pub part_put_other : PartPutOther
  pub put_part : (i : ℕ) (xs : List ℕ) → put i (part i xs) xs ≡ xs
  pub length_put : (i : ℕ) (new xs : List ℕ) → Fits i new xs → length (put i new xs) ≡ length xs
  pub setups_are : SetupsAre
  pub setup_number_is : SetupNumberIs
  -- two results that a promise of src/lib.rt allows agree
  pub call_refusal_determined : (stocks times prices i : ℕ) → Determines (λ (r : Result ⊤ Refusal). refused_by r ≡ first (call_checks stocks times prices i))
  pub step_at_determined : {A : Type 0} → (i : ℕ) (step : Bytes → Outcome A) (r : Record) (ts ps : List ℕ) → Determines (λ (x : Left (Handed A)). StepsAt i step r ts ps x.result x.times x.prices)
  pub ask_at_determined : {A : Type 0} → (i : ℕ) (own : Counted → A) (beside : ℕ → A) (r : Record) (ts ps : List ℕ) → Determines (λ (x : A). x ≡ asked own beside (bytes r (part i ts) (part i ps)))
  pub setup_answer_determined : (stocks times prices end : ℕ) (list : List ℕ) → Determines (λ (r : Answer). r ≡ zeros (setup_number stocks times prices end list))
  pub started_at_determined : (list : List ℕ) (end i : ℕ) → Determines (λ (r : Record). r ≡ record_of end (get_or (setups_of list) i no_setup))
