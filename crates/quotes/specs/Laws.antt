-- What the promises of quotes obey. Each field is a theorem: `laws` of proofs/Laws.antt proves the record.
-- Assumes nothing.
use Rattle.std.specs.Prelude.{ℕ, ◌≡◌}
use Rattle.forms.specs.Promises.{Determines}
use Rattle.forms.specs.Words.{◌and◌}
use Rattle.band.specs.Band.{no_mean}
use Rattle.band.specs.Words.{Fits}
use Rattle.rules.specs.Stock.{Trading, state_of, enter_limit}
use Rattle.rules.specs.Quotes.{bands_in, best_of}
use Rattle.rules.specs.States.{no_quotes}
use Rattle.rules.specs.Numbers.{outside}
use Rattle.rules.specs.declared.Quotes.{Quotes}
use Rattle.rules.specs.declared.Stock.{Stock}
use Rattle.quotes.specs.Parts.{stock_of, kept_of, Room, fitted, basis_of, stock_by}
use Rattle.quotes.specs.Shown.{shown_of}
use Rattle.quotes.specs.declared.Basis.{Basis}
use Rattle.quotes.specs.declared.Kept.{Kept}

-- a stock that is put together has the parts that it was made of; a stock that is taken apart and put together is itself
abbrev pub PartsAre : Type 0
PartsAre = (k : Kept) (q : Quotes) → kept_of (stock_of k q) ≡ k and (stock_of k q).quotes ≡ q

abbrev pub PartsAreAll : Type 0
PartsAreAll = (s : Stock) → stock_of (kept_of s) s.quotes ≡ s

-- a stock that is made from a basis has that basis and those quotes; a reference that band has no room for counts as none
abbrev pub BasisIs : Type 0
BasisIs = (b : Basis) (q : Quotes) → let s = stock_by b q in let c = basis_of (kept_of s) in
    c.tier ≡ b.tier and c.leverage ≡ b.leverage and c.close ≡ b.close and c.end ≡ b.end
    and c.state ≡ b.state and c.clock ≡ b.clock and c.entry ≡ b.entry
    and (Fits b.reference → c.reference ≡ b.reference) and (¬ Fits b.reference → c.reference ≡ no_mean)
    and s.quotes ≡ q

-- parts with a reference that band has room for are taken as they are, and others with none
abbrev pub FittedIs : Type 0
FittedIs = (k : Kept) → let n = fitted k in
    (Room k → n ≡ k) and (¬ Room k → n.reference.price ≡ no_mean)
    and n.setup ≡ k.setup and n.end ≡ k.end and n.course ≡ k.course
    and n.reference.start ≡ k.reference.start and n.reference.hold ≡ k.reference.hold

-- what a stock shows is the rules' bands in force, and their best quotes with their flags
abbrev pub ShownIs : Type 0
ShownIs = (s : Stock) → (shown_of s).bands ≡ bands_in s and (shown_of s).best ≡ best_of s

-- what a stock shows depends only on its basis and its quotes, and so does which price is outside its bands
abbrev pub ShownByBasis : Type 0
ShownByBasis = (k : Kept) (q : Quotes) → shown_of (stock_by (basis_of k) q) ≡ shown_of (stock_of (fitted k) q)

abbrev pub OutsideByBasis : Type 0
OutsideByBasis = (k : Kept) (q : Quotes) (price : ℕ) → outside (stock_by (basis_of k) no_quotes) price ≡ outside (stock_of (fitted k) q) price

-- Limit keeps the bands of the time of its entry, so entering Limit changes nothing that is shown
abbrev pub LimitShowsTheSame : Type 0
LimitShowsTheSame = (s : Stock) → state_of s ≡ Trading → shown_of (enter_limit s) ≡ shown_of s

pub record Laws : Type 0 where
  pub parts_are : PartsAre
  pub parts_are_all : PartsAreAll
  pub basis_is : BasisIs
  pub fitted_is : FittedIs
  pub shown_is : ShownIs
  pub shown_by_basis : ShownByBasis
  pub outside_by_basis : OutsideByBasis
  pub limit_shows_the_same : LimitShowsTheSame
  -- two results that a promise of src/lib.rt allows agree ("How much a promise says")
  pub basis_of_determined : (k : Kept) → Determines (λ r. r ≡ basis_of k)
  pub show_determined : (b : Basis) (q : Quotes) → Determines (λ r. r ≡ shown_of (stock_by b q))
  pub is_outside_determined : (b : Basis) (price : ℕ) → Determines (λ r. r ≡ outside (stock_by b no_quotes) price)
