-- What `&`, `|` and `!` of the code say in the words of the rules.
-- Assumes nothing.
use mathlib.Core.Bool.{Bool, true, false, not, ◌&&◌, ◌||◌, and-true, and_assoc, or-false, or_assoc}
use mathlib.Core.List.{List, [], ◌∷◌}
use mathlib.Core.Path.{◌≡◌, refl, sym, ◌∙◌}
use Rattle.forms.specs.Choice.{if◌then◌otherwise◌, all_of, any_of}
use Rattle.forms.proofs.Choice.{all_empty, any_empty, by_true, by_false, tests}
use Rattle.forms.proofs.Checks.{firsts}

pub all_and : (b : Bool) (bs : List Bool) → all_of (b ∷ bs) ≡ (b && all_of bs)
unfolding all_of if◌then◌otherwise◌
all_and true bs = refl
all_and false bs = refl

pub any_or : (b : Bool) (bs : List Bool) → any_of (b ∷ bs) ≡ (b || any_of bs)
unfolding any_of if◌then◌otherwise◌
any_or true bs = refl
any_or false bs = refl

-- rows of tests, of any length: `simp joined`
pub ruleset joined = (all_and, all_empty, and-true, and_assoc, any_or, any_empty, or-false, or_assoc)

pub and_all : (a b : Bool) → (a && b) ≡ all_of (a ∷ b ∷ [])
and_all a b = simp joined

pub or_any : (a b : Bool) → (a || b) ≡ any_of (a ∷ b ∷ [])
or_any a b = simp joined

-- of what two calls answered
pub either : (p q a b : Bool) → p ≡ a → q ≡ b → (p || q) ≡ any_of (a ∷ b ∷ [])
either p q a b e f = rw (e, f) (or_any a b)

-- where the code branched on both
pub both : (a b x : Bool) → (a && b) ≡ x → all_of (a ∷ b ∷ []) ≡ x
both a b x e = sym (and_all a b) ∙ e

pub not_yes : (b : Bool) → b ≡ true → not b ≡ false
not_yes b e = rw e

pub not_no : (b : Bool) → b ≡ false → not b ≡ true
not_no b e = rw e

-- ------------------------------------------------------------------ what proofs hand to `search`

-- the returns of a function that branches on `&`
pub ruleset both_tests = (both, tests)

-- the returns of a row of refusals by what calls answered: `search refusals depth 20`
pub ruleset refusals = (firsts, by_true, by_false, not_yes, not_no)
