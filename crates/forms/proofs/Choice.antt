-- The laws by which `search` picks the case of a rule from the tests that the code made.
-- Assumes nothing.
use Prim.Native.Nat.{ℕ, ◌≤◌}
use mathlib.Core.Bool.{Bool, true, false, not, false≢true}
use mathlib.Core.List.{List, [], ◌∷◌}
use mathlib.Core.Path.{◌≡◌, refl, sym, ◌∙◌}
use borrow.Author.Tests.{lt-ltb, le-ltb, le-leb, lt-leb, eq-eqb, ne_eqb, leb-true, eqb-true, not-false}
use lib.Dec.{leb, eqb}
use native.Mathlib.Nat.{min-eq_left, min-eq_right, max-eq_left, max-eq_right, le_of_lt}
use native.Mathlib.Omega.{arith}
use Rattle.forms.specs.Choice.{if◌then◌otherwise◌, all_of, any_of}

-- ------------------------------------------------------------------ a choice

pub if_true : {A : Type 0} (b : Bool) (x y : A) → b ≡ true → (if b then x otherwise y) ≡ x
unfolding if◌then◌otherwise◌
if_true b x y e = rw e

pub if_false : {A : Type 0} (b : Bool) (x y : A) → b ≡ false → (if b then x otherwise y) ≡ y
unfolding if◌then◌otherwise◌
if_false b x y e = rw e

-- the arm that the code went
module _ {A : Type 0} (b : Bool) (r x y : A) where
  pub goes : b ≡ true → r ≡ x → r ≡ (if b then x otherwise y)
  goes e q = q ∙ sym (if_true b x y e)

  pub passes : b ≡ false → r ≡ y → r ≡ (if b then x otherwise y)
  passes e q = q ∙ sym (if_false b x y e)

-- the arm of a match that the code went: `search (by_case rule)`, and `by_case_of` for a rule that has another argument first
pub by_case : {A B : Type 0} (rule : A → B) (m n : A) (r : B) → m ≡ n → r ≡ rule n → r ≡ rule m
by_case rule m n r e q = rw e q

pub by_case_of : {P A B : Type 0} (rule : P → A → B) (p : P) (m n : A) (r : B) → m ≡ n → r ≡ rule p n → r ≡ rule p m
by_case_of rule p m n r e q = rw e q

-- what holds of each arm where it is chosen holds of the choice
pub if_arms : {A : Type 0} (P : A → Type 0) (b : Bool) {x y : A} → (b ≡ true → P x) → (b ≡ false → P y) → P (if b then x otherwise y)
unfolding if◌then◌otherwise◌
if_arms P true p q = p refl
if_arms P false p q = q refl

-- ------------------------------------------------------------------ the test that two numbers differ

pub eq_not : (a b : ℕ) → a ≡ b → not (eqb a b) ≡ false
eq_not a b e = rw (eq-eqb a b e)

pub ne_not : (a b : ℕ) → (a ≡ b → ⊥) → not (eqb a b) ≡ true
ne_not a b e = rw (ne_eqb a b e)

pub eq_of_not : (a b : ℕ) → not (eqb a b) ≡ false → a ≡ b
eq_of_not a b e = eqb-true a b (not-false (eqb a b) e)

-- a fact about numbers as the test that says it
pub ruleset compared = (lt-ltb, le-ltb, le-leb, lt-leb, eq-eqb, ne_eqb, eq_not, ne_not)

-- ------------------------------------------------------------------ what a call answered, and the test on it

pub by_true : (x b : Bool) → x ≡ b → x ≡ true → b ≡ true
by_true x b e q = rw e at q

pub by_false : (x b : Bool) → x ≡ b → x ≡ false → b ≡ false
by_false x b e q = rw e at q

-- ------------------------------------------------------------------ all of the tests, one of the tests

-- where both hold, each does
pub if_yes : (a b : Bool) → (if a then b otherwise false) ≡ true → (a ≡ true) × (b ≡ true)
unfolding if◌then◌otherwise◌
if_yes true b e = (refl, e)
if_yes false b e = absurd (false≢true e)

-- where not one holds, each does not
pub if_no : (a b : Bool) → (if a then true otherwise b) ≡ false → (a ≡ false) × (b ≡ false)
unfolding if◌then◌otherwise◌
if_no true b e = absurd (false≢true (sym e))
if_no false b e = (refl, e)

pub all_yes : (b : Bool) (bs : List Bool) → b ≡ true → all_of bs ≡ true → all_of (b ∷ bs) ≡ true
unfolding all_of if◌then◌otherwise◌
all_yes b bs e q = rw e q

pub all_empty : all_of [] ≡ true
unfolding all_of
all_empty = refl

pub all_not_here : (b : Bool) (bs : List Bool) → b ≡ false → all_of (b ∷ bs) ≡ false
unfolding all_of if◌then◌otherwise◌
all_not_here b bs e = rw e

pub all_not_there : (b : Bool) (bs : List Bool) → all_of bs ≡ false → all_of (b ∷ bs) ≡ false
unfolding all_of if◌then◌otherwise◌
all_not_there true bs e = e
all_not_there false bs e = refl

-- where all hold, the first does, and the rest do
pub all_head : (b : Bool) (bs : List Bool) → all_of (b ∷ bs) ≡ true → b ≡ true
unfolding all_of
all_head b bs e = (if_yes b (all_of bs) e).0

pub all_tail : (b : Bool) (bs : List Bool) → all_of (b ∷ bs) ≡ true → all_of bs ≡ true
unfolding all_of
all_tail b bs e = (if_yes b (all_of bs) e).1

-- the same where the first compares
pub all_leb : (a b : ℕ) (bs : List Bool) → all_of (leb a b ∷ bs) ≡ true → a ≤ b
all_leb a b bs e = leb-true a b (all_head _ _ e)

pub all_eqb : (a b : ℕ) (bs : List Bool) → all_of (eqb a b ∷ bs) ≡ true → a ≡ b
all_eqb a b bs e = eqb-true a b (all_head _ _ e)

pub any_here : (b : Bool) (bs : List Bool) → b ≡ true → any_of (b ∷ bs) ≡ true
unfolding any_of if◌then◌otherwise◌
any_here b bs e = rw e

pub any_there : (b : Bool) (bs : List Bool) → any_of bs ≡ true → any_of (b ∷ bs) ≡ true
unfolding any_of if◌then◌otherwise◌
any_there true bs e = refl
any_there false bs e = e

pub any_not : (b : Bool) (bs : List Bool) → b ≡ false → any_of bs ≡ false → any_of (b ∷ bs) ≡ false
unfolding any_of if◌then◌otherwise◌
any_not b bs e q = rw e q

pub any_empty : any_of [] ≡ false
unfolding any_of
any_empty = refl

-- where none holds, the first does not, and none of the rest
pub any_head : (b : Bool) (bs : List Bool) → any_of (b ∷ bs) ≡ false → b ≡ false
unfolding any_of
any_head b bs e = (if_no b (any_of bs) e).0

pub any_tail : (b : Bool) (bs : List Bool) → any_of (b ∷ bs) ≡ false → any_of bs ≡ false
unfolding any_of
any_tail b bs e = (if_no b (any_of bs) e).1

-- the same, of what a function answers
pub any_hit : (b : Bool) (bs : List Bool) → b ≡ true → true ≡ any_of (b ∷ bs)
any_hit b bs e = sym (any_here b bs e)

pub any_miss : (x b : Bool) (bs : List Bool) → b ≡ false → x ≡ any_of bs → x ≡ any_of (b ∷ bs)
unfolding any_of if◌then◌otherwise◌
any_miss x b bs e q = rw e q

pub any_last : (x b : Bool) → x ≡ b → x ≡ any_of (b ∷ [])
unfolding any_of if◌then◌otherwise◌
any_last true b e = rw (← e)
any_last false b e = rw (← e)

-- ------------------------------------------------------------------ what proofs hand to `search`

-- the returns of a function that branches
pub ruleset tests = (compared, if_true, if_false, all_yes, all_empty, all_not_here, all_not_there, any_here, any_there, any_not, any_empty, min-eq_left, min-eq_right, max-eq_left, max-eq_right, le_of_lt, arith)

-- the same where the code branched on what a call answered
pub ruleset calls = (compared, if_true, if_false, by_true, by_false)

-- the returns of a function that branches and hands on what a call answered
pub ruleset arms = (goes, passes, compared)

-- the returns of a function that answers a row of tests
pub ruleset anys = (any_hit, any_last, any_miss, by_true, by_false, compared)
