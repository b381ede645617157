-- Words for what rules compute: `and`, `or`, "one of a list is so", and a table of numbers with the condition of each. Words are
-- propositions over numbers: they hold or do not, whatever a rule computes.
-- Assumes nothing.
use Rattle.std.specs.Prelude.{ℕ, List, [], ◌∷◌, ◌⊎◌, ◌≡◌}

-- ------------------------------------------------------------------ words put together

infixr 1 ◌or◌
infixr 2 ◌and◌
abbrev pub ◌or◌ : Type 0 → Type 0 → Type 0
A or B = A ⊎ B

abbrev pub ◌and◌ : Type 0 → Type 0 → Type 0
A and B = A × B

-- the proposition holds for one of the list
abbrev pub Some : {A : Type 0} → (A → Type 0) → List A → Type 0
Some P [] = ⊥
Some P (x ∷ xs) = P x or Some P xs

-- the number is one of the list
abbrev pub IsOneOf : ℕ → List ℕ → Type 0
IsOneOf n ns = Some (λ k. n ≡ k) ns

-- ------------------------------------------------------------------ numbers, each with its condition

-- a number, and the words for which it is given
infix 80 ◌for◌
pub data Number : Type 1 where
  ◌for◌ : ℕ → Type 0 → Number

-- the condition of a row that applies where no row above does
abbrev pub Otherwise : Type 0
Otherwise = Unit {0}

-- n is the number of the first row whose words hold, and 0 where no row's do
unfoldable pub Gives : List Number → ℕ → Type 0
Gives [] n = n ≡ 0
Gives (k for P ∷ rest) n = (P and (n ≡ k)) or ((¬ P) and Gives rest n)
