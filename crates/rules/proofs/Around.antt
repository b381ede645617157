-- What totals around a stock change: 1 where they are wrong, and nothing else but the totals.
-- Assumes nothing.
use Prim.Native.Nat.{ℕ}
use mathlib.Core.Bool.{Bool, true, false}
use mathlib.Core.Path.{◌≡◌, refl, ap, ◌∙◌}
use native.Mathlib.Omega.{arith}
use borrow.Author.Tests.{eq-eqb, ne_eqb}
use lib.Dec.{eqb}
use lib.ListN.{length}
use Rattle.forms.specs.Choice.{if◌then◌otherwise◌, any_of}
use Rattle.forms.specs.Words.{◌and◌}
use Rattle.forms.proofs.Choice.{if_true, if_false}
use Rattle.rules.specs.Numbers as numbers
use Rattle.rules.specs.Numbers.{answer, zeros, beside, none_coming}
use Rattle.rules.specs.Moments.{no_moment, next_of}
use Rattle.rules.specs.Machine.{stock}
use Rattle.rules.specs.Totals.{no_totals}
use Rattle.rules.specs.Counted as counted
use Rattle.rules.specs.Counted.{Counted, no_summary}
use Rattle.rules.specs.Book.{counting, blank, book_totals}
use Rattle.rules.specs.Words.{ShowsNothing, ShowsNone}
use Rattle.rules.specs.TotalsWords.{NoTotals, Wrong}
use Rattle.rules.specs.Demands.{TotalsAround, TotalsNumbers, TotalsKept, BookTotalsAre, FreshTotals}
use Rattle.rules.specs.declared.Stock.{Stock}
use Rattle.rules.specs.declared.Message.{Message}
use Rattle.rules.proofs.Answers.{nothing_shown, told_number, settled_number, read_number, if_there, if_not}
use Rattle.rules.proofs.Next.{next_number_with}
use Rattle.rules.proofs.Counted.{if_wrong, if_right, told_with, settled_with, read_with, left_by_telling, left_by_settling, totals_number}

-- ------------------------------------------------------------------ by the number

answer_1 : (s : Stock) → answer 1 s ≡ zeros 1
unfolding answer any_of if◌then◌otherwise◌
answer_1 s = refl

shows_1 : (n : ℕ) (s : Stock) → n ≡ 1 → ShowsNothing (answer n s)
shows_1 n s e = rw e (nothing_shown 1 (answer 1 s) (answer_1 s))

-- a part of what a test chooses
part_chosen : {A B : Type 0} (f : A → B) (b : Bool) (x y : A) → f (if b then x otherwise y) ≡ (if b then f x otherwise f y)
unfolding if◌then◌otherwise◌
part_chosen f true x y = refl
part_chosen f false x y = refl

-- the same choice by two numbers that are equal
by_number : {A : Type 0} (n k : ℕ) (x y : A) → n ≡ k → (if eqb n 0 then x otherwise y) ≡ (if eqb k 0 then x otherwise y)
by_number n k x y e = ap (λ n. if eqb n 0 then x otherwise y) e

-- ------------------------------------------------------------------ wrong totals, and right ones

module _ (c : Counted) where
  abbrev IfWrong : Type 0
  IfWrong =
      ((m : Message) → counted.tells m c ≡ 1 and ShowsNothing (counted.tell_answer m c))
      × ((time : ℕ) → counted.settles time c ≡ 1 and ShowsNothing (counted.settle_answer time c).answer
      and (counted.settle_answer time c).mark ≡ 0 and (counted.settle_answer time c).time ≡ 0)
      × (counted.reads c ≡ 1) × ShowsNothing (counted.read_answer c) × ShowsNone (counted.next_answer c)

  wrongly : Wrong c → IfWrong
  unfolding counted.tell_answer counted.settle_answer counted.read_answer counted.next_answer
  wrongly w = (
    (λ m. let e = if_wrong c (numbers.tells m c.whole) w in (e, shows_1 _ _ e)),
    (λ time.
        let e = if_wrong c (numbers.settles time c.whole) w in
        let a = if_false (eqb (counted.settles time c) 0) (counted.notice c) (beside no_moment (answer (counted.settles time c) c.whole.stock))
        (ne_eqb (counted.settles time c) 0 (λ z. omega (arith, e, z))) in
        (e, (rw a (shows_1 _ _ e), (ap (λ n. n.mark) a, ap (λ n. n.time) a)))),
    if_wrong c _ w,
    shows_1 _ _ (if_wrong c (numbers.reads c.whole) w),
    let e = if_wrong c (numbers.reads c.whole) w in
        let a = if_false (eqb (counted.reads c) 0) (record { number = 0; mark = (next_of c.whole).mark; time = (next_of c.whole).time }) (none_coming (counted.reads c))
        (ne_eqb (counted.reads c) 0 (λ z. omega (arith, e, z))) in
        (ap (λ u. u.mark) a, ap (λ u. u.time) a),
  )

  -- the stock that a call leaves is as without totals
  whole_told : (m : Message) → counted.tells m c ≡ numbers.tells m c.whole → (counted.after_telling m c).whole ≡ numbers.after_telling m c.whole
  unfolding counted.after_telling numbers.after_telling counted.after
  whole_told m e = part_chosen (λ (c : Counted). c.whole) _ _ _ ∙ by_number _ _ _ _ e

  whole_settled : (time : ℕ) → counted.settles time c ≡ numbers.settles time c.whole → (counted.after_settling time c).whole ≡ numbers.after_settling time c.whole
  unfolding counted.after_settling numbers.after_settling counted.fire
  whole_settled time e = part_chosen (λ (c : Counted). c.whole) _ _ _ ∙ by_number _ _ _ _ e

pub around : TotalsAround
unfolding counted.tell_answer counted.settle_answer counted.read_answer counted.next_answer numbers.tell_answer numbers.settle_answer numbers.read_answer numbers.next_answer
around c = (
  wrongly c,
  (λ r. (
    (λ m.
        let e = if_right c (numbers.tells m c.whole) r in
        let k = whole_told c m e in
        (e, rw (e, k), k)),
    (λ time.
        let e = if_right c (numbers.settles time c.whole) r in
        (e, ap (λ n. if eqb n 0 then numbers.notice c.whole otherwise beside no_moment (answer n c.whole.stock)) e, whole_settled c time e)),
    if_right c _ r,
    ap (λ n. answer n c.whole.stock) (if_right c _ r),
    ap (λ n. if eqb n 0 then record { number = 0; mark = (next_of c.whole).mark; time = (next_of c.whole).time } otherwise none_coming n) (if_right c _ r),
  )),
)

pub numbers_with : TotalsNumbers
numbers_with c = (
  (λ m. rw (told_number m c) (told_with m c)),
  (λ time. rw (settled_number time c) (settled_with time c)),
  rw (read_number c) (read_with c),
  rw (next_number_with c) (read_with c),
  rw (totals_number c) (read_with c),
)

-- ------------------------------------------------------------------ the totals that a call leaves, and reading them

none : NoTotals no_totals
none = (refl, (refl, (refl, (refl, (refl, (refl, (refl, (refl, (refl, refl)))))))))

pub kept_totals : TotalsKept
unfolding counted.totals_answer
kept_totals c = (
  (λ m. (left_by_telling m c).1),
  (λ time. (left_by_settling time c).1),
  (
    totals_number c,
    (λ e. ap (λ a. a.totals) (if_true (eqb (counted.reads c) 0) (record { number = 0; totals = c.totals }) (no_summary (counted.reads c)) (eq-eqb _ 0 e))),
    (λ n. rw (if_false (eqb (counted.reads c) 0) (record { number = 0; totals = c.totals }) (no_summary (counted.reads c)) (ne_eqb _ 0 n)) none),
  ),
)

pub book_totals_lem : BookTotalsAre
unfolding book_totals
book_totals_lem end b times prices i =
    let it = counted.totals_answer (stock counting (blank end) b i) in (
      if_there no_summary it (λ a. a.number) (λ n. refl) (length b) times prices i,
      (λ n. rw (if_not no_summary it (λ a. a.number) (λ n. refl) (length b) times prices i n) none),
    )

pub fresh_totals : FreshTotals
unfolding counted.fresh
fresh_totals end u = (refl, none)
