-- What comes next: the moment that the words' table has first, its time, and what settling makes of it.
-- Assumes nothing.
use Prim.Native.Nat.{ℕ, ◌+◌, ◌-◌, ◌≤◌, ◌<◌}
use mathlib.Core.Bool.{Bool, true, false, not}
use mathlib.Core.Logic.{inl, inr, ⊎_elim, ◌↔◌}
use mathlib.Core.Path.{◌≡◌, refl, sym, ap, ◌∙◌, subst}
use native.Mathlib.Omega.{arith}
use borrow.Author.Tests.{eq-eqb, ne_eqb, eqb-true}
use lib.ListN.{length}
use Rattle.forms.specs.Choice.{if◌then◌otherwise◌}
use Rattle.forms.specs.Checks.{first}
use Rattle.forms.specs.Words.{◌or◌, ◌and◌}
use Rattle.forms.proofs.Choice.{if_true, if_false, if_arms}
use Rattle.forms.proofs.Decides.{is_false, either_way, by_eq, by_le, not_le, past}
use Rattle.rules.specs.Stock.{Whole, Late, state_of, figures_of}
use Rattle.rules.specs.Moments.{due_by, next_of}
use Rattle.rules.specs.Numbers.{not_time, rubbish, time_checks, settle_checks, settles, reads, notice, settle_answer, none_coming, next_answer, zeros}
use Rattle.rules.specs.Machine.{stock}
use Rattle.rules.specs.Counted as counted
use Rattle.rules.specs.Counted.{Counted}
use Rattle.rules.specs.Book.{counting, blank, book_reads, book_next}
use Rattle.rules.specs.Words.{IsTime, moments, Comes, Rubbish, ShowsNone, ShowsNext}
use Rattle.rules.specs.Demands.{NextIs, BookNextIs, NextSettles}
use Rattle.rules.specs.declared.Figures.{Figures}
use Rattle.rules.specs.declared.Moment.{Moment}
use Rattle.rules.specs.declared.Stock.{Stock}
use Rattle.rules.specs.declared.Upcoming.{Upcoming}
use Rattle.rules.proofs.Answers.{done_or_not, number_of_lem, calls_leave, if_there, if_not}
use Rattle.rules.proofs.Coming.{Foremost, is_first, is_none, none_before, next_foremost, next_first}
use Rattle.rules.proofs.Earliest.{IsMoment}
use Rattle.rules.proofs.Lawful.{when_due, when_not, next_not_past}
use Rattle.rules.proofs.MomentRows.{IsRow, row_z, row_w_early, row_w_late, row_x, row_p, row_c, row_v, row_f, row_h, next_row}
use Rattle.rules.proofs.Numbers.{rubbish_is, numbers}
use Rattle.rules.proofs.Ranges.{in_end}

-- ------------------------------------------------------------------ what is answered

-- the earliest moment as it is answered
abbrev given : Whole → Upcoming
given h = record { number = 0; mark = (next_of h).mark; time = (next_of h).time }

next_number : (h : Whole) → (next_answer h).number ≡ reads h
unfolding next_answer
next_number h = ⊎_elim (λ e. simp (eq-eqb (reads h) 0 e, if_true) (sym e)) (λ n. simp (ne_eqb (reads h) 0 n, if_false)) (done_or_not (reads h))

shows_next : (h : Whole) → reads h ≡ 0 → ShowsNext h (next_answer h)
unfolding next_answer
shows_next h e = subst (ShowsNext h) (sym (if_true _ (given h) _ (eq-eqb _ 0 e))) (go (next_foremost h))
  where
    go : Foremost (next_of h) (moments h) → ShowsNext h (given h)
    go (is_first i f) = inl (i, f)
    go (is_none z f) = inr (f, (ap (λ m. m.mark) z, ap (λ m. m.time) z))

shows_none : (h : Whole) → ¬ (reads h ≡ 0) → ShowsNone (next_answer h)
unfolding next_answer
shows_none h n = subst ShowsNone (sym (if_false _ _ (none_coming (reads h)) (ne_eqb _ 0 n))) (refl, refl)

pub next_is : NextIs
next_is h = (next_number h, shows_next h, shows_none h)

pub next_number_with : (c : Counted) → (counted.next_answer c).number ≡ counted.reads c
unfolding counted.next_answer
next_number_with c = if_arms (λ (u : Upcoming). u.number ≡ counted.reads c) _ (λ e. sym (eqb-true _ 0 e)) (λ _. refl)

-- a book's first checks give both one number, and so does the stock
same_number : (b : Bool) (h : Counted) (c : ℕ) → (if b then counted.next_answer h otherwise none_coming c).number ≡ (if b then counted.read_answer h otherwise zeros c).number
unfolding if◌then◌otherwise◌ counted.read_answer
same_number true h c = next_number_with h ∙ sym (number_of_lem (counted.reads h) h.whole.stock)
same_number false h c = refl

pub book_next_lem : BookNextIs
unfolding book_next book_reads
book_next_lem end b times prices i =
    let h = stock counting (blank end) b i in (
      same_number _ h _,
      if_there none_coming (counted.next_answer h) (λ u. u.number) (λ n. refl) (length b) times prices i,
      (λ n. subst ShowsNone (sym (if_not none_coming (counted.next_answer h) (λ u. u.number) (λ n. refl) (length b) times prices i n)) (refl, refl)),
    )

-- ------------------------------------------------------------------ its time

-- a stock that has a moment to come is not Closed
awake : (f : Figures) (s : Stock) (m : Moment) → IsRow f s m → state_of s ≤ Late
awake f s m (row_z _ _ l) = omega arith
awake f s m (row_w_early _ _ _ l) = l
awake f s m (row_w_late _ _ _ l) = l
awake f s m (row_x _ _ e) = omega arith
awake f s m (row_p _ _ e) = omega arith
awake f s m (row_c _ _ e) = omega arith
awake f s m (row_v _ _ l _) = l
awake f s m (row_f _ _ e _) = omega arith
awake f s m (row_h _ _ _ l _) = l

-- z, p or c is still to come, and none of them is later
pub next_by : (h : Whole) → ¬ Rubbish h → IsMoment (next_of h) → IsTime h.stock.end (next_of h).time
next_by h sound is = ⊎_elim by_z (λ n. ⊎_elim by_p (by_c n) (either_way _ (by_eq state 3))) (either_way _ (by_le state 2))
  where
    s : Stock
    s = h.stock

    state : ℕ
    state = state_of s

    t : ℕ
    t = (next_of h).time

    first_is : ¬ Comes (λ time. time < t) (moments h)
    first_is = none_before (next_of h) (moments h) (next_first h is)

    by_z : state ≤ 2 → t ≤ s.end + 300_000
    by_z l = let k : ¬ (s.end < t) = λ e. first_is (inl (l, e)) in omega arith

    by_p : state ≡ 3 → t ≤ s.end + 300_000
    by_p l =
        let k : ¬ (s.course.pause + 600_000 < t) = λ e. first_is (inr (inr (inr (inr (inl (l, e)))))) in
        let early : ¬ (s.end - 600_000 ≤ s.course.pause) = λ e. sound (inl (inr (inr (inr (inr (inr (inr (l, e)))))))) in
        omega arith

    by_c : ¬ (state ≤ 2) → ¬ (state ≡ 3) → t ≤ s.end + 300_000
    by_c n m =
        let l : state ≤ 4 = awake (figures_of h.window) s (next_of h) (next_row _ _ is) in
        let k : ¬ (s.end + 300_000 < t) = λ e. first_is (inr (inr (inr (inr (inr (inl (omega arith, e))))))) in
        omega arith

-- so it is a number of 32 bits
pub next_fits : (h : Whole) → rubbish h ≡ false → (next_of h).time < 4_294_967_296
next_fits h r = go (next_foremost h)
  where
    sound : ¬ Rubbish h
    sound = (rubbish_is h).fails r

    go : Foremost (next_of h) (moments h) → (next_of h).time < 4_294_967_296
    go (is_first i f) = omega (arith, next_by h sound i, (in_end h.stock.end (λ n. sound (inl (inr (inr (inl n)))))).1)
    go (is_none z f) = omega (arith, ap (λ m. m.time) z)

-- ------------------------------------------------------------------ settling to a time

-- of a stock that is no rubbish, to a time in range
settles_by : (time : ℕ) (h : Whole) → rubbish h ≡ false → not_time h.stock.end time ≡ false
    → settles time h ≡ (if not (due_by time (next_of h)) then 14 otherwise 0)
unfolding settles settle_checks time_checks first
settles_by time h r t = simp (r, t, if_false)

module _ (h : Whole) (time : ℕ) (r : rubbish h ≡ false) (t : IsTime h.stock.end time) where
  abbrev NotYet : Type 0
  NotYet = (next_of h).mark ≡ 0 or time < (next_of h).time

  abbrev Does : Type 0
  Does = settles time h ≡ 0 and (settle_answer time h).mark ≡ (next_of h).mark and (settle_answer time h).time ≡ (next_of h).time

  does : settles time h ≡ 0 → Does
  unfolding notice
  does e = let k = (((calls_leave h).1 time).0 e).1 in (e, (ap (λ n. n.mark) k, ap (λ n. n.time) k))

  in_time : ((settles time h ≡ 14) ↔ NotYet) × (¬ NotYet → Does)
  in_time = go (due_by time (next_of h)) refl
    where
      by : settles time h ≡ (if not (due_by time (next_of h)) then 14 otherwise 0)
      by = settles_by time h r (is_false _ (not_le _ _) (λ n. n t))

      go : (d : Bool) → due_by time (next_of h) ≡ d → ((settles time h ≡ 14) ↔ NotYet) × (¬ NotYet → Does)
      go true e =
          let due = when_due time (next_of h) e in
          let zero : settles time h ≡ 0 = by ∙ simp (e, if_false) in
          (((λ k. absurd (omega arith)), ⊎_elim (λ z. absurd (due.0 z)) (λ l. absurd (omega (arith, due.1)))), (λ _. does zero))
      go false e =
          let idle : settles time h ≡ 14 = by ∙ simp (e, if_true) in
          let later : NotYet = ⊎_elim inl (λ is. inr (when_not time (next_of h) e is)) (either_way _ (by_eq (next_of h).mark 0)) in
          (((λ _. later), (λ _. idle)), (λ n. absurd (n later)))

pub next_settles : NextSettles
unfolding next_answer
next_settles h e =
    let q : reads h ≡ 0 = sym (next_number h) ∙ e in
    let sound : ¬ Rubbish h = (past 1 0 _ _ (λ z. omega arith) ((numbers h 0).2.0 q)).0 in
    let r = is_false _ (rubbish_is h) sound in
    let is : next_answer h ≡ given h = if_true _ _ _ (eq-eqb _ 0 q) in
    rw is ((λ m. (next_not_past h r m, next_by h sound m)), (λ time t. in_time h time r t))
