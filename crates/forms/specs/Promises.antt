-- What it means that a promise determines its result.
-- Assumes nothing.
use Rattle.std.specs.Prelude.{◌≡◌}

-- any two results that the promise allows are equal
abbrev pub Determines : {A : Type 0} → (A → Type 0) → Type 0
Determines {A} promise = (r s : A) → promise r → promise s → r ≡ s
