-- What the promises of totals obey. Each field is a theorem: `laws` of proofs/Laws.antt proves the record.
-- Assumes nothing.
use Rattle.std.specs.Prelude.{ℕ, ◌≡◌}
use Rattle.forms.specs.Promises.{Determines}
use Rattle.rules.specs.Stock.{clock_of}
use Rattle.rules.specs.Machine.{message}
use Rattle.rules.specs.Totals.{traded_by, brought, wrong_totals}
use Rattle.rules.specs.TotalsWords.{WrongTotals}
use Rattle.rules.specs.declared.Stock.{Stock}
use Rattle.rules.specs.declared.Message.{Message}
use Rattle.rules.specs.declared.Totals.{Totals}
use Rattle.quotes.specs.Parts.{bare}
use Rattle.quotes.specs.declared.Kept.{Kept}
use Rattle.totals.specs.Bringing.{bringing}

-- right totals become what the rules make of them, and wrong ones stay
abbrev pub BringingIs : Type 0
BringingIs = (price : ℕ) (s s' : Stock) (t : Totals)
    → (¬ WrongTotals (clock_of s) t → bringing price s s' t ≡ brought price s s' t) × (WrongTotals (clock_of s) t → bringing price s s' t ≡ t)

pub record Laws : Type 0 where
  pub bringing_is : BringingIs
  -- two results that a promise of src/lib.rt allows agree
  pub is_wrong_determined : (t : Totals) (clock : ℕ) → Determines (λ r. r ≡ wrong_totals clock t)
  pub traded_determined : (m : Message) → Determines (λ r. r ≡ traded_by (message m))
  pub brought_determined : (t : Totals) (price : ℕ) (before after : Kept) → Determines (λ r. r ≡ bringing price (bare before) (bare after) t)
