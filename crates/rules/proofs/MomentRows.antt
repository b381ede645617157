-- Which row of the table a moment is that happens: its mark, its date, and what the row says of the stock.
-- Assumes nothing.
use Prim.Native.Nat.{ℕ, ◌+◌, ◌-◌, ◌≤◌, ◌<◌}
use mathlib.Core.Bool.{Bool, true, not}
use mathlib.Core.List.{List, [], ◌∷◌}
use mathlib.Core.Path.{◌≡◌, refl}
use native.Mathlib.Omega.{arith}
use borrow.Author.Tests.{leb-true, ltb-true, eqb-true, eqb-false, not-true}
use lib.Dec.{eqb}
use Rattle.forms.specs.Choice.{all_of}
use Rattle.forms.proofs.Choice.{all_head, all_tail}
use Rattle.forms.proofs.Tables.{◌│◌}
use Rattle.rules.specs.Stock.{Whole, Waiting, Limit, Paused, Late, state_of, clock_of, figures_of}
use Rattle.rules.specs.Moments.{mark_z, mark_w, mark_x, mark_p, mark_c, mark_v, mark_f, mark_h, limit_lasts, moment_table, next, next_of}
use Rattle.rules.specs.Numbers.{settles, notice}
use Rattle.rules.specs.Machine.{moment, Lawful}
use Rattle.rules.specs.Book.{machine}
use Rattle.rules.specs.Words.{its_moment}
use Rattle.rules.specs.declared.Stock.{Stock}
use Rattle.rules.specs.declared.Figures.{Figures}
use Rattle.rules.specs.declared.Moment.{Moment}
use Rattle.rules.specs.declared.Notice.{Notice}
use Rattle.rules.proofs.Earliest.{IsMoment, Rows, one_of}
use Rattle.rules.proofs.Passed.{settled}
use Rattle.rules.proofs.Lawful.{when_due}

-- ------------------------------------------------------------------ what a row says

-- a row that is still to come
pub data IsRow (f : Figures) (s : Stock) (m : Moment) : Type 0 where
  row_z : m.mark ≡ mark_z → m.time ≡ s.end → state_of s ≤ Limit → IsRow f s m
  row_w_early : m.mark ≡ mark_w → m.time ≡ 900_000 → clock_of s < m.time → state_of s ≤ Late → IsRow f s m
  row_w_late : m.mark ≡ mark_w → m.time + 1_500_000 ≡ s.end → clock_of s < m.time → state_of s ≤ Late → IsRow f s m
  row_x : m.mark ≡ mark_x → m.time ≡ s.course.entry + limit_lasts → state_of s ≡ Limit → IsRow f s m
  row_p : m.mark ≡ mark_p → m.time ≡ s.course.pause + 600_000 → state_of s ≡ Paused → IsRow f s m
  row_c : m.mark ≡ mark_c → m.time ≡ s.end + 300_000 → state_of s ≡ Late → IsRow f s m
  row_v : m.mark ≡ mark_v → m.time ≡ f.oldest + 300_000 → state_of s ≤ Late → (f.count ≡ 0 → ⊥) → IsRow f s m
  row_f : m.mark ≡ mark_f → m.time ≡ 300_000 → state_of s ≡ Waiting → (s.course.early ≡ 0 → ⊥) → IsRow f s m
  row_h : m.mark ≡ mark_h → m.time ≡ s.reference.start + 30_000 → 1 ≤ state_of s → state_of s ≤ Late → (s.reference.hold ≡ 0 → ⊥)
      → IsRow f s m

nonzero : (n : ℕ) → not (eqb n 0) ≡ true → n ≡ 0 → ⊥
nonzero n e = eqb-false n 0 (not-true _ e)

rows : (f : Figures) (s : Stock) → Rows (IsRow f s) (moment_table f s)
unfolding moment_table
rows f s =
    (λ on. row_z refl refl (leb-true _ _ on))
    │ (λ on. row_w_early refl refl (ltb-true _ _ (second _ _ _ on)) (leb-true _ _ (all_head _ _ on)))
    │ (λ on.
    let c : clock_of s < s.end - 1_500_000 = ltb-true _ _ (second _ _ _ on) in
    row_w_late refl (omega arith) c (leb-true _ _ (all_head _ _ on)))
    │ (λ on. row_x refl refl (eqb-true _ _ on))
    │ (λ on. row_p refl refl (eqb-true _ _ on))
    │ (λ on. row_c refl refl (eqb-true _ _ on))
    │ (λ on. row_v refl refl (leb-true _ _ (all_head _ _ on)) (nonzero _ (second _ _ _ on)))
    │ (λ on. row_f refl refl (eqb-true _ _ (all_head _ _ on)) (nonzero _ (second _ _ _ on)))
    │ (λ on. row_h refl refl (leb-true _ _ (all_head _ _ on)) (leb-true _ _ (second _ _ _ on)) (nonzero _ (all_head _ _ (all_tail _ _ (all_tail _ _ on)))))
    │ tt
  where
    second : (a b : Bool) (bs : List Bool) → all_of (a ∷ b ∷ bs) ≡ true → b ≡ true
    second a b bs on = all_head _ _ (all_tail _ _ on)

-- and each row has a mark
pub mark_rows : (f : Figures) (s : Stock) → Rows IsMoment (moment_table f s)
unfolding moment_table
mark_rows f s = omega arith

-- ------------------------------------------------------------------ the moment that happens

-- what is so of each row still to come is so of the earliest moment
pub by_row : (h : Whole) → IsMoment (next_of h) → (F : Moment → Type 0) → Rows F (moment_table (figures_of h.window) h.stock) → F (next_of h)
unfolding next
by_row h m F rows = one_of F (moment_table (figures_of h.window) h.stock) rows m

-- the next moment of a stock is a row
pub next_row : (f : Figures) (s : Stock) → IsMoment (next f s) → IsRow f s (next f s)
unfolding next
next_row f s is = one_of (IsRow f s) (moment_table f s) (rows f s) is

-- the moment that a settling does
pub settled_row : (t : ℕ) (h : Whole) → settles t h ≡ 0 → IsRow (figures_of h.window) h.stock (next_of h)
settled_row t h e = next_row _ _ (when_due t (next_of h) (settled t h e).due).0

-- the moment of a notice that the rules allow next
pub notice_row : (h : Whole) (n : Notice) → Lawful machine h (moment n ∷ []) → IsRow (figures_of h.window) h.stock (its_moment n)
unfolding notice
notice_row h n v = rw v.1 (settled_row v.0.0 h v.0.1)
