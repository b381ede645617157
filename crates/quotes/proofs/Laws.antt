-- The laws of specs/Laws.antt.
-- Assumes nothing.
use mathlib.Core.Path.{◌≡◌, refl, ◌∙◌}
use Rattle.forms.specs.Choice.{if◌then◌otherwise◌, any_of}
use Rattle.forms.proofs.Promises.{agree}
use Rattle.band.proofs.Words.{fits_is}
use Rattle.rules.specs.Quotes.{in_force, k_time, bands_in, best_of}
use Rattle.rules.specs.States.{no_quotes}
use Rattle.rules.specs.Numbers.{outside}
use Rattle.rules.specs.declared.Quotes.{Quotes}
use Rattle.quotes.specs.Parts.{stock_of, fitted, basis_of, stock_by}
use Rattle.quotes.specs.Shown.{shown_of}
use Rattle.quotes.specs.declared.Basis.{Basis}
use Rattle.quotes.specs.declared.Kept.{Kept}
use Rattle.quotes.specs.declared.Shown.{Shown}
use Rattle.quotes.specs.Laws.{PartsAre, PartsAreAll, BasisIs, FittedIs, ShownIs, ShownByBasis, OutsideByBasis, LimitShowsTheSame, Laws}

parts_are : PartsAre
parts_are k q = (refl, refl)

basis_is : BasisIs
basis_is b q =
    (refl, (refl, (refl, (refl, (refl, (refl, (refl, ((fits_is b.reference).1, ((fits_is b.reference).2, refl)))))))))

pub fitted_is : FittedIs
fitted_is k =
    ((λ f. rw ((fits_is k.reference.price).1 f)), ((fits_is k.reference.price).2, (refl, (refl, (refl, (refl, refl))))))

parts_are_all : PartsAreAll
parts_are_all s = refl

shown_is : ShownIs
shown_is s = (refl, refl)

shown_by_basis : ShownByBasis
unfolding bands_in best_of in_force k_time
shown_by_basis k q = refl

-- the same where the basis was asked for by itself
pub shown_by : (k : Kept) (q : Quotes) (b : Basis) (shown : Shown) → b ≡ basis_of k → shown ≡ shown_of (stock_by b q) → shown ≡ shown_of (stock_of (fitted k) q)
shown_by k q b shown e f = f ∙ rw e (shown_by_basis k q)

outside_by_basis : OutsideByBasis
unfolding outside bands_in in_force k_time
outside_by_basis k q price = refl

limit_shows_the_same : LimitShowsTheSame
unfolding bands_in best_of in_force k_time any_of if◌then◌otherwise◌
limit_shows_the_same s e = rw e

pub laws : Laws
laws = record {
  parts_are = parts_are;
  parts_are_all = parts_are_all;
  basis_is = basis_is;
  fitted_is = fitted_is;
  shown_is = shown_is;
  shown_by_basis = shown_by_basis;
  outside_by_basis = outside_by_basis;
  limit_shows_the_same = limit_shows_the_same;
  basis_of_determined = λ k. agree (basis_of k);
  show_determined = λ b q. agree (shown_of (stock_by b q));
  is_outside_determined = λ b price. agree (outside (stock_by b no_quotes) price);
}
