-- A choice by a test, and tests put together. The rules say `if`, `all_of` and `any_of` where they choose.
-- Assumes nothing.
use Rattle.std.specs.Prelude.{Bool, true, false, List, [], ◌∷◌}

infix 1 if◌then◌otherwise◌
unfoldable pub if◌then◌otherwise◌ : {A : Type 0} → Bool → A → A → A
if true then a otherwise b = a
if false then a otherwise b = b

-- every test of the list holds
unfoldable pub all_of : List Bool → Bool
all_of [] = true
all_of (b ∷ bs) = if b then all_of bs otherwise false

-- one test of the list holds
unfoldable pub any_of : List Bool → Bool
any_of [] = false
any_of (b ∷ bs) = if b then true otherwise any_of bs
