-- The table of moments in words: what is due, what is past, and which moment comes first.
-- Assumes nothing.
use Prim.Native.Nat.{ℕ, ◌+◌, ◌≤◌, ◌<◌}
use mathlib.Core.Bool.{Bool, true, false, not}
use mathlib.Core.List.{List, [], ◌∷◌}
use mathlib.Core.Logic.{inl, inr, ◌↔◌}
use mathlib.Core.Path.{◌≡◌, refl, ap, subst}
use native.Mathlib.Omega.{arith}
use borrow.Author.Tests.{eq-eqb, ne_eqb}
use lib.Dec.{T as Given, leb, eqb}
use Rattle.forms.specs.Choice.{if◌then◌otherwise◌, any_of}
use Rattle.forms.proofs.Decides.{Decides, words, reworded, by_le}
use Rattle.rules.specs.Stock.{Trade, Whole, oldest, figures_of}
use Rattle.rules.specs.Moments.{no_moment, Row, moment_table, sooner, earliest, next, next_of, due_by, past_at}
use Rattle.rules.specs.Numbers.{notice}
use Rattle.rules.specs.Words.{Coming, oldest_at, moments, Comes, Due, IsFirst}
use Rattle.rules.specs.Demands.{MomentsAre}
use Rattle.rules.specs.declared.Moment.{Moment}
use Rattle.rules.proofs.Earliest.{IsMoment}
use Rattle.rules.proofs.Lawful.{machine_laws}

-- ------------------------------------------------------------------ the rules' table is the words'

-- rows of the same marks and times, whose tests decide the words
data Rowed : List Row → List Coming → Type 1 where
  no_line : Rowed [] []
  line : {mark t u : ℕ} {b : Bool} {C : Type 0} {rs : List Row} {cs : List Coming} → Given (not (eqb mark 0)) → t ≡ u → Decides b C → Rowed rs cs
      → Rowed (record { mark = mark; time = t; comes = b } ∷ rs) (record { mark = mark; time = u; comes = C } ∷ cs)

oldest_is : (w : List Trade) → oldest w + 300_000 ≡ oldest_at w + 300_000
unfolding oldest
oldest_is [] = refl
oldest_is (t ∷ ts) = refl

lines : (h : Whole) → Rowed (moment_table (figures_of h.window) h.stock) (moments h)
unfolding moment_table figures_of
lines h = search (words, no_line, line, oldest_is) depth 40 fits 4000

-- ------------------------------------------------------------------ the moment that comes first

-- no row is still to come
abbrev pub None : List Coming → Type 0
None cs = ¬ Comes (λ time. Unit {0}) cs

-- none still to come is before the first
pub none_before : (m : Moment) (cs : List Coming) → IsFirst m cs → ¬ Comes (λ time. time < m.time) cs
none_before m [] f k = f
none_before m (c ∷ cs) (inl f) (inl k) = omega (arith, f.1.1.0, k.1)
none_before m (c ∷ cs) (inl f) (inr k) = f.1.1.1 (subst (λ t. Comes (λ time. time < t) cs) f.1.1.0 k)
none_before m (c ∷ cs) (inr f) (inl k) = omega (arith, f.0 k.0, k.1)
none_before m (c ∷ cs) (inr f) (inr k) = none_before m cs f.1 k

-- what is at some time is at another
pub weaker : (At Bt : ℕ → Type 0) (cs : List Coming) → ((time : ℕ) → At time → Bt time) → Comes At cs → Comes Bt cs
weaker At Bt [] w k = k
weaker At Bt (c ∷ cs) w (inl k) = inl (k.0, w _ k.1)
weaker At Bt (c ∷ cs) w (inr k) = inr (weaker At Bt cs w k)

-- the earliest of the rules' table is the first of the words', and there is none where none is still to come
pub data Foremost (m : Moment) (cs : List Coming) : Type 0 where
  is_first : IsMoment m → IsFirst m cs → Foremost m cs
  is_none : m ≡ no_moment → None cs → Foremost m cs

-- a row in front of the rest, of which m comes first
foremost_row : (mark t : ℕ) (b : Bool) (C : Type 0) (m : Moment) (cs : List Coming) → ¬ (mark ≡ 0) → Decides b C → Foremost m cs
    → Foremost (sooner (record { mark = mark; time = t; comes = b }) m) (record { mark = mark; time = t; comes = C } ∷ cs)
unfolding sooner if◌then◌otherwise◌ any_of
foremost_row mark t false C m cs n d (is_first i f) = is_first i (inr ((λ c. absurd (d.fails refl c)), f))
foremost_row mark t false C m cs n d (is_none z f) = is_none z none
  where
    none : None (record { mark = mark; time = t; comes = C } ∷ cs)
    none (inl k) = d.fails refl k.0
    none (inr k) = f k
foremost_row mark t true C m cs n d (is_none z f) = rw (eq-eqb m.mark 0 (ap (λ m. m.mark) z)) (is_first n (inl (d.holds refl, (refl, (refl, λ k. f (weaker _ _ cs (λ _ _. tt) k))))))
foremost_row mark t true C m cs n d (is_first i f) = rw (ne_eqb m.mark 0 i) (go (leb t m.time) (by_le t m.time))
  where
    go : (l : Bool) → Decides l (t ≤ m.time)
        → Foremost (if any_of (false ∷ l ∷ []) then record { mark = mark; time = t } otherwise m) (record { mark = mark; time = t; comes = C } ∷ cs)
    go true l = is_first n (inl (d.holds refl, (refl, (refl, λ k. none_before m cs f (weaker _ _ cs (λ s q. omega (arith, l.holds refl)) k)))))
    go false l = is_first i (inr ((λ _. let k = l.fails refl in omega arith), f))

is_mark : (n : ℕ) → Given (not (eqb n 0)) → ¬ (n ≡ 0)
is_mark n g z = rw (eq-eqb n 0 z) at g

foremost : (rs : List Row) (cs : List Coming) → Rowed rs cs → Foremost (earliest rs) cs
unfolding earliest
foremost rs cs no_line = is_none refl (λ z. z)
foremost rs cs (line {mark} {t} {u} {b} {C} {rs = qs} {cs = ds} n e d l) =
    subst (λ u. Foremost (earliest (record { mark = mark; time = t; comes = b } ∷ qs)) (record { mark = mark; time = u; comes = C } ∷ ds)) e
    (foremost_row mark t b C (earliest qs) ds (is_mark mark n) d (foremost qs ds l))

pub next_foremost : (h : Whole) → Foremost (next_of h) (moments h)
unfolding next
next_foremost h = foremost _ _ (lines h)

pub next_first : (h : Whole) → IsMoment (next_of h) → IsFirst (next_of h) (moments h)
next_first h is = go (next_foremost h)
  where
    go : Foremost (next_of h) (moments h) → IsFirst (next_of h) (moments h)
    go (is_first i f) = f
    go (is_none z f) = absurd (is (ap (λ m. m.mark) z))

pub moments_are : MomentsAre
unfolding notice
moments_are h n v = rw v.1 (next_first h (machine_laws.its_time v.0.0 h v.0.1).0)

-- ------------------------------------------------------------------ due and past

module _ (At : ℕ → Type 0) (down : (a b : ℕ) → a ≤ b → At b → At a) (m : Moment) where
  at_first : (cs : List Coming) → IsFirst m cs → At m.time → Comes At cs
  at_first [] f a = f
  at_first (c ∷ cs) (inl f) a = inl (f.0, subst At f.1.1.0 a)
  at_first (c ∷ cs) (inr f) a = inr (at_first cs f.1 a)

  at_least : (cs : List Coming) → Comes At cs → ¬ Comes (λ time. time < m.time) cs → At m.time
  at_least [] k n = absurd k
  at_least (c ∷ cs) (inl k) n = let l : ¬ (c.time < m.time) = λ l. n (inl (k.0, l)) in down m.time c.time (omega arith) k.1
  at_least (c ∷ cs) (inr k) n = at_least cs k (λ x. n (inr x))

  -- the first is at such a time exactly where one still to come is
  comes_is : (cs : List Coming) → Foremost m cs → (IsMoment m × At m.time) ↔ Comes At cs
  comes_is cs (is_first i f) = ((λ k. at_first cs f k.1), (λ k. (i, at_least cs k (none_before m cs f))))
  comes_is cs (is_none z f) = ((λ k. absurd (k.0 (ap (λ m. m.mark) z))), (λ k. absurd (f (weaker At _ cs (λ _ _. tt) k))))

pub due_is : (time : ℕ) (h : Whole) → Decides (due_by time (next_of h)) (Due time h)
unfolding due_by
due_is time h = reworded (comes_is (λ t. t ≤ time) (λ a b. omega arith) (next_of h) (moments h) (next_foremost h)) (search words)

pub past_is : (time : ℕ) (h : Whole) → Decides (past_at time (next_of h)) (Comes (λ t. t < time) (moments h))
unfolding past_at
past_is time h = reworded (comes_is (λ t. t < time) (λ a b. omega arith) (next_of h) (moments h) (next_foremost h)) (search words)
