use mathlib.Core.Bool.{◌||◌}
use mathlib.Core.Path.{◌≡◌}
use lib.Dec.{eqb}
use Rattle.rules.specs.Quotes.{flagged, straddle}
use Rattle.rules.specs.declared.Quotes.{Quotes}
use Rattle.quotes.specs.Parts.{stock_of, fitted, basis_of, stock_by}
use Rattle.quotes.specs.Shown.{shown_of}
use Rattle.quotes.specs.declared.Basis.{Basis}
use Rattle.quotes.specs.declared.Kept.{Kept}
use Rattle.quotes.specs.declared.Shown.{Shown}
use Rattle.quotes.proofs.Laws.{shown_by}
use Rattle.forms.proofs.Bools.{joined}
use Rattle.judge.proofs.message.is_straddle.Goals as goal

flag_2 : (k : Kept) (q : Quotes) (b : Basis) (r : Shown) → b ≡ basis_of k → r ≡ shown_of (stock_by b q)
    → (eqb r.best.bid.flag 2 || eqb r.best.offer.flag 2) ≡ straddle (stock_of (fitted k) q)
unfolding flagged
flag_2 k q b r e f = simp (shown_by k q b r e f, joined)

pub returns : goal.returns
returns c = search flag_2
