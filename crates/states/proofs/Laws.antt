-- The laws of specs/Laws.antt.
-- Assumes nothing.
use mathlib.Core.Path.{◌≡◌, refl}
use Rattle.forms.proofs.Choice.{if_true, if_arms, all_eqb}
use Rattle.forms.proofs.Promises.{agree}
use Rattle.forms.proofs.Decides.{is_true}
use Rattle.band.proofs.Words.{fits_decides}
use Rattle.rules.specs.Stock.{at_time, enter_limit, mean_in}
use Rattle.rules.specs.States.{look}
use Rattle.rules.specs.Moments.{effect}
use Rattle.rules.specs.Messages.{does, after}
use Rattle.rules.specs.declared.Message.TheVariants.{Trade as T, Quote as Q, Opening as O, Pause as P, Reopening as R, Closing as X}
use Rattle.quotes.specs.Parts.{stock_of, fitted}
use Rattle.quotes.specs.Shown.{shown_of}
use Rattle.quotes.proofs.Laws as quotes
use Rattle.states.specs.After.{fit, effect_at, effect_of, after_of}
use Rattle.states.specs.Laws.{AsTheRules, FitsAsItIs, AfterIs, LookShowsTheSame, Laws}

as_the_rules : AsTheRules
unfolding after does effect_of effect_at
as_the_rules (T time price) h = refl
as_the_rules (Q time participant bid offer) h = refl
as_the_rules (O time participant price) h = refl
as_the_rules (P time participant) h = refl
as_the_rules (R time participant price) h = refl
as_the_rules (X time participant price) h = refl

fits_as_it_is : FitsAsItIs
unfolding fit
fits_as_it_is f h = if_true _ _ _ (is_true _ (fits_decides (mean_in f)) h)

after_is : AfterIs
after_is s = (refl, refl)

look_shows_the_same : LookShowsTheSame
unfolding look
look_shows_the_same s =
    if_arms (λ n. shown_of n ≡ shown_of s) _ {x = enter_limit s} {y = s} (λ t. (quotes.laws).limit_shows_the_same s (all_eqb _ _ _ t)) (λ _. refl)

pub laws : Laws
laws = record {
  as_the_rules = as_the_rules;
  fits_as_it_is = fits_as_it_is;
  after_is = after_is;
  look_shows_the_same = look_shows_the_same;
  after_message_determined = λ m f k q. agree (after_of (effect_of m (fit f) (stock_of (fitted k) q)));
  after_moment_determined = λ mark time f k q. agree (after_of (effect mark (fit f) (at_time time (stock_of (fitted k) q))));
}
