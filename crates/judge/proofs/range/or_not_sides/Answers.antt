use Prim.Native.Nat.{ℕ}
use borrow.Author.Rules.{rules}
use mathlib.Core.Bool.{Bool, true, false, ◌||◌}
use mathlib.Core.List.{List, [], ◌∷◌, ◌++◌, foldl}
use mathlib.Core.Path.{◌≡◌, refl, subst}
use lib.Dec.{ltb}
use Rattle.std.proofs.lemmas.Fn.{fold_over, slice_gives, fronts}
use Rattle.forms.specs.Choice.{if◌then◌otherwise◌}
use Rattle.rules.specs.Numbers.{or_not_side}
use Rattle.judge.proofs.range.or_not_sides.Goals as goal

one_more : (any : Bool) (side : ℕ) → (any || ltb 999_999_999 side) ≡ or_not_side any side
unfolding or_not_side if◌then◌otherwise◌
one_more true side = refl
one_more false side = refl

-- one side more at the end
turn : (bad : Bool) (sides : List ℕ) (side : ℕ) (any r : Bool) → any ≡ foldl or_not_side bad sides → r ≡ (any || ltb 999_999_999 side)
    → r ≡ foldl or_not_side bad (sides ++ (side ∷ []))
turn bad [] side any r e f = rw (f, e) (one_more bad side)
turn bad (first ∷ sides) side any r e f = turn (or_not_side bad first) sides side any r e f

pub returns : goal.returns
returns c = subst (λ sides. c.fold.result ≡ foldl or_not_side c.args.bad sides) c.iter.ensures.rest
    (fold_over fronts (λ y. y.now) _ (λ sides any. any ≡ foldl or_not_side c.args.bad sides) _ (λ sides any side r f k call. (turn c.args.bad sides side.now any r k (search rules), search rules))
    _ _ _ _ (slice_gives c.iter.result) refl c.fold.ensures.ran)
