-- A table's rule, proved once: a test of all rows holds of each.
-- Assumes nothing.
use Prim.Native.Nat.{ℕ, zero, suc, ◌<◌}
use mathlib.Core.Bool.{Bool, true}
use mathlib.Core.List.{List, [], ◌∷◌}
use mathlib.Core.Path.{◌≡◌}
use native.Mathlib.Nat.{le_of_suc-le-suc, not-suc-le-zero}
use lib.ListN.{length, get_or}
use Rattle.forms.proofs.Choice.{all_head, all_tail}
use Rattle.forms.specs.Tables.{every}

-- what holds of the rows of a table, one under the other
infixr 4 ◌│◌
pub ◌│◌ : {A B : Type 0} → A → B → A × B
a │ b = (a, b)

-- a test that holds of every row holds of each
pub each : {A : Type 0} (right : A → Bool) (rows : List A) (d : A) → every right rows ≡ true
    → (i : ℕ) → i < length rows → right (get_or rows i d) ≡ true
unfolding every
each right [] d e i h = absurd (not-suc-le-zero h)
each right (row ∷ rows) d e zero h = all_head _ _ e
each right (row ∷ rows) d e (suc i) h = each right rows d (all_tail _ _ e) i (le_of_suc-le-suc h)
