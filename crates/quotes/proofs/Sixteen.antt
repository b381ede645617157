-- That each side of the quotes has sixteen prices, which their type tells.
-- Assumes nothing.
use mathlib.Core.List.{List}
use mathlib.Core.Path.{◌≡◌}
use lib.ListN.{length}
use mir.Val.{Val}
use denote.Laws.{Is}
use denote.Struct.Laws as LL
use Rattle.rules.specs.declared.Quotes.{Quotes}
use Rattle.rules.specs.contracts.Quotes as Q
use Rattle.rules.proofs.Quotes.TheLaws as Q'

pub sixteen : (q : Quotes) (vs : List Val) → Is Q.the_row q vs → (length q.bids ≡ 16) × (length q.offers ≡ 16)
sixteen q vs typed =
    let sides = LL.owed Q.the_type Q'.the_laws q vs typed in
    (sides.0.1.0.1, sides.1.0.1.0.1)
