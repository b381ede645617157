-- What the earliest row of a table of moments is.
-- Assumes nothing.
use Prim.Native.Nat.{◌≤◌, ◌<◌}
use mathlib.Core.Bool.{Bool, true, false, true≢false}
use mathlib.Core.List.{List, [], ◌∷◌}
use mathlib.Core.Path.{◌≡◌, refl, sym, ap, ◌∙◌, subst}
use native.Mathlib.Omega.{arith}
use borrow.Author.Tests.{leb-true, leb-false, eqb-true, eqb-false}
use lib.Dec.{leb, eqb}
use Rattle.forms.specs.Choice.{if◌then◌otherwise◌, any_of}
use Rattle.rules.specs.Moments.{Row, sooner, earliest}
use Rattle.rules.specs.declared.Moment.{Moment}

-- ------------------------------------------------------------------ a table and its earliest row

abbrev pub IsMoment : Moment → Type 0
IsMoment m = m.mark ≡ 0 → ⊥

abbrev pub moment_of : Row → Moment
moment_of r = record { mark = r.mark; time = r.time }

-- of a table's rows, each that is still to come is F
abbrev pub Rows : (Moment → Type 0) → List Row → Type 0
Rows F [] = Unit {0}
Rows F (r ∷ rs) = (r.comes ≡ true → F (moment_of r)) × Rows F rs

-- the earliest of a table is its first row, which is still to come, or the earliest of the rest
pub data First (r : Row) (rs : List Row) : Type 0 where
  head : r.comes ≡ true → earliest (r ∷ rs) ≡ moment_of r → (IsMoment (earliest rs) → r.time ≤ (earliest rs).time) → First r rs
  tail : earliest (r ∷ rs) ≡ earliest rs → (r.comes ≡ true → IsMoment (earliest rs) × ((earliest rs).time < r.time)) → First r rs

pub first_row : (r : Row) (rs : List Row) → First r rs
unfolding earliest sooner if◌then◌otherwise◌ any_of
first_row r rs = go r.comes refl (eqb (earliest rs).mark 0) refl (leb r.time (earliest rs).time) refl
  where
    m : Moment
    m = earliest rs

    go : (c : Bool) → r.comes ≡ c → (n : Bool) → eqb m.mark 0 ≡ n → (l : Bool) → leb r.time m.time ≡ l → First r rs
    go false c n p l q = tail (rw c) (λ d. absurd (true≢false (sym d ∙ c)))
    go true c true p l q = head c (rw (c, p)) (λ is. absurd (is (eqb-true m.mark 0 p)))
    go true c false p true q = head c (rw (c, p, q)) (λ is. leb-true r.time m.time q)
    go true c false p false q = tail (rw (c, p, q)) (λ d. (eqb-false m.mark 0 p, leb-false r.time m.time q))

-- ------------------------------------------------------------------ it is a row, and none still to come is before it

-- it is one of the rows
pub one_of : (F : Moment → Type 0) (rs : List Row) → Rows F rs → IsMoment (earliest rs) → F (earliest rs)
unfolding earliest
one_of F [] a is = absurd (is refl)
one_of F (r ∷ rs) a is = go (λ is. one_of F rs a.1 is) (first_row r rs)
  where
    go : (IsMoment (earliest rs) → F (earliest rs)) → First r rs → F (earliest (r ∷ rs))
    go ih (head c e l) = subst F (sym e) (a.0 c)
    go ih (tail e l) = subst F (sym e) (ih (λ z. is (ap (λ m. m.mark) e ∙ z)))

-- and no row that is still to come is before it
pub none_before : (rs : List Row) → Rows IsMoment rs → Rows (λ m. IsMoment (earliest rs) × ((earliest rs).time ≤ m.time)) rs
none_before [] a = tt
none_before (r ∷ rs) a = go (none_before rs a.1) (first_row r rs)
  where
    -- what is true of the rows by the earliest of the rest is true by an earlier one
    by : (e : Moment) (qs : List Row) → IsMoment e → (IsMoment (earliest rs) → e.time ≤ (earliest rs).time)
        → Rows (λ m. IsMoment (earliest rs) × ((earliest rs).time ≤ m.time)) qs → Rows (λ m. IsMoment e × (e.time ≤ m.time)) qs
    by e [] is l h = tt
    by e (q ∷ qs) is l h = ((λ c. let k = h.0 c in (is, omega (arith, l k.0, k.1))), by e qs is l h.1)

    go : Rows (λ m. IsMoment (earliest rs) × ((earliest rs).time ≤ m.time)) rs → First r rs
        → Rows (λ m. IsMoment (earliest (r ∷ rs)) × ((earliest (r ∷ rs)).time ≤ m.time)) (r ∷ rs)
    go ih (head c e l) =
        let is : IsMoment (earliest (r ∷ rs)) = λ z. a.0 c (sym (ap (λ m. m.mark) e) ∙ z) in
        let t : (earliest (r ∷ rs)).time ≡ r.time = ap (λ m. m.time) e in
        ((λ _. (is, omega arith)), by (earliest (r ∷ rs)) rs is (λ k. omega (arith, l k)) ih)
    go ih (tail e l) = subst (λ e. Rows (λ m. IsMoment e × (e.time ≤ m.time)) (r ∷ rs)) (sym e)
        ((λ c. let k = l c in (k.0, omega (arith, k.1))), ih)
