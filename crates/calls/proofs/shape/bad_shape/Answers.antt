use mathlib.Core.Bool.{Bool, true, false, ◌||◌}
use mathlib.Core.List.{[], ◌∷◌}
use mathlib.Core.Path.{◌≡◌, sym, ◌∙◌, ap}
use Rattle.forms.specs.Choice.{any_of}
use Rattle.forms.proofs.Bools.{joined}
use Rattle.rules.specs.Numbers.{bad_shape}
use Rattle.calls.proofs.shape.bad_shape.Goals as goal

in_twos : (a b c d x : Bool) → (a || b) ≡ x → (x || (c || d)) ≡ any_of (a ∷ b ∷ c ∷ d ∷ [])
in_twos a b c d x e =
    let all : ((a || b) || (c || d)) ≡ any_of (a ∷ b ∷ c ∷ d ∷ []) = simp joined in
    ap (λ y. y || (c || d)) (sym e) ∙ all

by_first : (a b c d : Bool) → (a || b) ≡ true → true ≡ any_of (a ∷ b ∷ c ∷ d ∷ [])
by_first a b c d e = in_twos a b c d true e

by_last : (a b c d : Bool) → (a || b) ≡ false → (c || d) ≡ any_of (a ∷ b ∷ c ∷ d ∷ [])
by_last a b c d e = in_twos a b c d false e

pub returns-then-stocks : goal.returns-then-stocks
unfolding bad_shape
returns-then-stocks c = search by_first

pub returns : goal.returns
unfolding bad_shape
returns c = search by_last
