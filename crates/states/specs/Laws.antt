-- What the state rules over figures obey. Each field is a theorem: `laws` of proofs/Laws.antt proves the record.
-- Assumes nothing.
use Rattle.std.specs.Prelude.{ℕ, ◌≡◌}
use Rattle.forms.specs.Promises.{Determines}
use Rattle.forms.specs.Words.{◌and◌}
use Rattle.rules.specs.Stock.{Whole, figures_of, at_time}
use Rattle.rules.specs.States.{look}
use Rattle.rules.specs.Moments.{effect}
use Rattle.rules.specs.Messages.{after}
use Rattle.rules.specs.declared.Stock.{Stock}
use Rattle.rules.specs.declared.Figures.{Figures}
use Rattle.rules.specs.declared.Message.{Message}
use Rattle.rules.specs.declared.Quotes.{Quotes}
use Rattle.quotes.specs.Parts.{stock_of, fitted}
use Rattle.quotes.specs.Shown.{shown_of}
use Rattle.quotes.specs.declared.Kept.{Kept}
use Rattle.states.specs.After.{Fits, fit, effect_of, after_of}
use Rattle.states.specs.declared.After.{After}

-- an accepted message leaves the stock that the rules leave, given the figures of the window that it leaves
abbrev pub AsTheRules : Type 0
AsTheRules = (m : Message) (h : Whole) → effect_of m (figures_of (after m h).window) h.stock ≡ (after m h).stock

-- figures for whose mean there is room are taken as they are
abbrev pub FitsAsItIs : Type 0
FitsAsItIs = (f : Figures) → Fits f → fit f ≡ f

-- a stock with what it shows is that stock, by its parts, and what it shows
abbrev pub AfterIs : Type 0
AfterIs = (s : Stock) → stock_of (after_of s).kept (after_of s).quotes ≡ s and (after_of s).shown ≡ shown_of s

-- looking at the quotes changes nothing that is shown, even where Limit is entered
abbrev pub LookShowsTheSame : Type 0
LookShowsTheSame = (s : Stock) → shown_of (look s) ≡ shown_of s

pub record Laws : Type 0 where
  pub as_the_rules : AsTheRules
  pub fits_as_it_is : FitsAsItIs
  pub after_is : AfterIs
  pub look_shows_the_same : LookShowsTheSame
  -- two results that a promise of src/lib.rt allows agree
  pub after_message_determined : (m : Message) (f : Figures) (k : Kept) (q : Quotes)
      → Determines (λ (r : After). r ≡ after_of (effect_of m (fit f) (stock_of (fitted k) q)))
  pub after_moment_determined : (mark time : ℕ) (f : Figures) (k : Kept) (q : Quotes)
      → Determines (λ (r : After). r ≡ after_of (effect mark (fit f) (at_time time (stock_of (fitted k) q))))
