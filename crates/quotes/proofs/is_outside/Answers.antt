use borrow.Author.Rules.{rules}
use Prim.Native.Nat.{ℕ}
use mathlib.Core.Bool.{Bool, ◌&&◌, ◌||◌}
use mathlib.Core.Path.{◌≡◌, ◌∙◌}
use lib.Dec.{ltb}
use Rattle.std.specs.Prelude.{Option, is_some}
use Rattle.forms.proofs.Bools.{and_all, or_any}
use Rattle.band.specs.declared.Bands.{Bands}
use Rattle.rules.specs.Quotes.{in_force, bands_in}
use Rattle.rules.specs.Numbers.{outside}
use Rattle.rules.specs.States.{no_quotes}
use Rattle.quotes.specs.Parts.{stock_by}
use Rattle.quotes.specs.Shown.{or_zeros}
use Rattle.quotes.specs.declared.Basis.{Basis}
use Rattle.quotes.proofs.InForce.{as_shown}
use Rattle.quotes.proofs.is_outside.Goals as goal

beyond : (b : Basis) (price : ℕ) (on : Option Bands) (r : Bool) → is_some on ≡ in_force (stock_by b no_quotes) → or_zeros on ≡ bands_in (stock_by b no_quotes)
    → r ≡ (is_some on && (ltb price (or_zeros on).lower || ltb (or_zeros on).upper price)) → r ≡ outside (stock_by b no_quotes) price
unfolding outside
beyond b price on r e f g = rw g (simp (e, f, and_all, or_any))

pub returns : goal.returns
returns c =
    let on : is_some c.then-bands.result ≡ in_force (stock_by c.args.b no_quotes) = c.then-bands.ensures.variant ∙ c.in_force.ensures in
    let those : or_zeros c.then-bands.result ≡ bands_in (stock_by c.args.b no_quotes) = as_shown _ _ on (search rules) in
    beyond _ _ _ _ on those (search rules)
