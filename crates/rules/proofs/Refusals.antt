-- Each refusal has a number of its own, and none has 0.
-- Assumes nothing.
use Prim.Native.Nat.{ℕ, ◌+◌}
use mathlib.Core.Bool.{false≢true}
use mathlib.Core.List.{List, [], ◌∷◌}
use mathlib.Core.Path.{◌≡◌, refl, sym, ap, ◌∙◌}
use denote.Enum.Declared.{tag_of}
use lib.ListN.{get_or}
use Rattle.std.specs.Prelude.{Result, Ok, Err, is_err, ⊤}
use Rattle.forms.specs.Promises.{Determines}
use Rattle.rules.specs.contracts.Refusal.{the_type}
use Rattle.rules.specs.Refusals.{number_of, refused_by}
use Rattle.rules.specs.declared.Refusal.{Refusal}
use Rattle.rules.specs.declared.Refusal.TheVariants as is

-- the answers in the order of their numbers
answers : List (Result ⊤ Refusal)
answers =
    Ok tt ∷
    Err is.Rubbish ∷
    Err is.BadSetup ∷
    Err is.NoStock ∷
    Err is.OutOfRange ∷
    Err is.BeforeClock ∷
    Err is.Unsettled ∷
    Err is.ClosedStock ∷
    Err is.NotPrimary ∷
    Err is.WrongState ∷
    Err is.NotYet ∷
    Err is.InPause ∷
    Err is.OutsideBands ∷
    Err is.NoRoom ∷
    Err is.NothingDue ∷
    Err is.TooLate ∷
    Err is.NoStraddle ∷
    []

answered : ℕ → Result ⊤ Refusal
answered n = get_or answers n (Ok tt)

back : (r : Result ⊤ Refusal) → answered (refused_by r) ≡ r
unfolding answered answers
back (Ok done) = refl
back (Err is.Rubbish) = refl
back (Err is.BadSetup) = refl
back (Err is.NoStock) = refl
back (Err is.OutOfRange) = refl
back (Err is.BeforeClock) = refl
back (Err is.Unsettled) = refl
back (Err is.ClosedStock) = refl
back (Err is.NotPrimary) = refl
back (Err is.WrongState) = refl
back (Err is.NotYet) = refl
back (Err is.InPause) = refl
back (Err is.OutsideBands) = refl
back (Err is.NoRoom) = refl
back (Err is.NothingDue) = refl
back (Err is.TooLate) = refl
back (Err is.NoStraddle) = refl

-- a promise that tells the number of its result determines the result
pub agree_by_number : (n : ℕ) → Determines (λ r. refused_by r ≡ n)
agree_by_number n r s e f = sym (back r) ∙ ap answered (e ∙ sym f) ∙ back s

-- what is refused is not done
pub not_done : (why : Refusal) → number_of why ≡ 0 → ⊥
not_done why e = false≢true (sym (ap is_err (agree_by_number 0 (Err why) (Ok tt) e refl)))

-- `why as u32` of the code is its number
pub as_u32 : (why : Refusal) → tag_of the_type why + 1 ≡ number_of why
as_u32 is.Rubbish = refl
as_u32 is.BadSetup = refl
as_u32 is.NoStock = refl
as_u32 is.OutOfRange = refl
as_u32 is.BeforeClock = refl
as_u32 is.Unsettled = refl
as_u32 is.ClosedStock = refl
as_u32 is.NotPrimary = refl
as_u32 is.WrongState = refl
as_u32 is.NotYet = refl
as_u32 is.InPause = refl
as_u32 is.OutsideBands = refl
as_u32 is.NoRoom = refl
as_u32 is.NothingDue = refl
as_u32 is.TooLate = refl
as_u32 is.NoStraddle = refl
