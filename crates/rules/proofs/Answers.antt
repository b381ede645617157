-- What calls answer and leave: of a stock, and of a book.
-- Assumes nothing.
use Prim.Native.Nat.{ℕ, ◌≤◌, ◌<◌}
use mathlib.Core.Bool.{Bool, true, false}
use mathlib.Core.List.{List, [], ◌∷◌}
use mathlib.Core.Logic.{◌⊎◌, inl, inr, ⊎_elim}
use mathlib.Core.Path.{◌≡◌, refl, sym, ap, ◌∙◌, subst}
use native.Mathlib.Omega.{arith}
use borrow.Author.Tests.{eq-eqb, ne_eqb, eqb-true}
use lib.Dec.{ltb, leb, eqb}
use lib.ListN.{length}
use Rattle.forms.specs.Choice.{if◌then◌otherwise◌, any_of}
use Rattle.forms.specs.Checks.{first}
use Rattle.forms.specs.Words.{◌or◌, ◌and◌, Number, Gives}
use Rattle.forms.proofs.Choice.{if_true, if_false, if_arms}
use Rattle.forms.proofs.Decides.{Decides, words, is_so, stable, either_way, by_lt, by_eq, by_le, skip, take, one_number, exactly, listed as one_listed, numbers_in, within, among}
use Rattle.band.specs.declared.Mean.{Mean}
use Rattle.band.proofs.Words.{printed_given}
use Rattle.band.proofs.Laws.{printed_of_none}
use Rattle.rules.specs.Stock.{Whole, state_of}
use Rattle.rules.specs.Quotes.{bands_in, best_of}
use Rattle.rules.specs.Numbers as numbers
use Rattle.rules.specs.Numbers.{bad_shape, call_checks, tells, settles, reads, answer, zeros, no_notice, after_telling, after_settling, notice, printed_reference, tell_answer, settle_answer, read_answer, setup_answer, fresh}
use Rattle.rules.specs.Machine.{number_in, stock}
use Rattle.rules.specs.Counted as counted
use Rattle.rules.specs.Counted.{Counted, no_summary}
use Rattle.rules.specs.TotalsWords as with_totals
use Rattle.rules.specs.Book.{counting, blank, book_tells, book_settles, book_reads, book_totals}
use Rattle.rules.specs.Words.{IsShape, book_refusals, setup_refusals, IsPrinted, ShowsNothing, Shows}
use Rattle.rules.specs.Demands.{CallsLeave, AnswersShow, BookAnswers, BookNumbersAre, NumbersListed, numbers_of, FreshIs}
use Rattle.rules.specs.declared.Stock.{Stock}
use Rattle.rules.specs.declared.Answer.{Answer}
use Rattle.rules.specs.declared.Notice.{Notice}
use Rattle.rules.specs.declared.Summary.{Summary}
use Rattle.rules.specs.declared.Message.{Message}
use Rattle.rules.specs.declared.Message.TheVariants.{Trade as T, Quote as Q, Opening as O, Pause as P, Reopening as R, Closing as X}
use Rattle.rules.proofs.BestQuotes.{bands_shown, bid_shown, offer_shown}
use Rattle.rules.proofs.Counted.{told_with, settled_with, read_with, totals_number}
use Rattle.rules.proofs.Numbers.{set_up}
use Rattle.rules.proofs.Ranges.{shape_is}

-- ------------------------------------------------------------------ a call on a stock

-- a number is 0 or not
pub done_or_not : (n : ℕ) → (n ≡ 0) ⊎ (¬ (n ≡ 0))
done_or_not n = either_way _ (by_eq n 0)

pub calls_leave : CallsLeave
unfolding after_telling after_settling settle_answer
calls_leave h = (
  (λ m. ((λ e. if_true _ _ _ (eq-eqb _ 0 e)), (λ n. if_false _ _ _ (ne_eqb _ 0 n)))),
  (λ time. (
    (λ e. (if_true _ _ _ (eq-eqb _ 0 e), if_true _ _ _ (eq-eqb _ 0 e))),
    (λ n. if_false _ _ _ (ne_eqb _ 0 n)),
  )),
)

-- the printed reference; without one it is 0
printed_shown : (s : Stock) → IsPrinted s.reference.price (printed_reference s)
printed_shown s = go (done_or_not s.reference.price.count)
  where
    m : Mean
    m = s.reference.price

    go : (m.count ≡ 0) ⊎ (¬ (m.count ≡ 0)) → IsPrinted m (printed_reference s)
    go (inl z) = inl (z, printed_of_none m.sum m.count z)
    go (inr n) = inr (printed_given m.sum m.count (omega arith))

shows_it : (n : ℕ) (s : Stock) → Shows n s (answer n s)
unfolding answer if◌then◌otherwise◌
shows_it n s = go (any_of (eqb n 1 ∷ eqb n 2 ∷ eqb n 3 ∷ [])) (search words)
  where
    go : (b : Bool) → Decides b (n ≡ 1 or n ≡ 2 or n ≡ 3)
        → Shows n s (if b then zeros n otherwise record { number = n; state = state_of s; reference = printed_reference s; lower = (bands_in s).lower; upper = (bands_in s).upper; best = best_of s })
    go true d = (refl, inl (d.holds refl, (refl, (refl, (refl, (refl, (refl, (refl, (refl, refl)))))))))
    go false d = (refl, inr (d.fails refl, (refl, (printed_shown s, (bands_shown s, (bid_shown s, offer_shown s))))))

pub number_of_lem : (n : ℕ) (s : Stock) → (answer n s).number ≡ n
number_of_lem n s = (shows_it n s).0

abbrev SettleShows : ℕ → Whole → Type 0
SettleShows time h =
    let a = settle_answer time h in
    Shows (settles time h) (after_settling time h).stock a.answer
    × (¬ (settles time h ≡ 0) → a.mark ≡ 0 and a.time ≡ 0)

settle_done : (time : ℕ) (h : Whole) → settles time h ≡ 0 → SettleShows time h
unfolding notice
settle_done time h e =
    let k = ((calls_leave h).1 time).0 e in
    rw (k.1, k.0, e) (shows_it 0 _, (λ z. absurd (z refl)))

settle_refused : (time : ℕ) (h : Whole) → ¬ (settles time h ≡ 0) → SettleShows time h
unfolding settle_answer
settle_refused time h n =
    rw (((calls_leave h).1 time).1 n, if_false _ _ _ (ne_eqb (settles time h) 0 n)) (shows_it _ _, (λ _. (refl, refl)))

pub shows : AnswersShow
unfolding tell_answer read_answer setup_answer
shows h = (
  (λ m. shows_it (tells m h) _),
  (λ time. ⊎_elim (settle_done time h) (settle_refused time h) (done_or_not (settles time h))),
  shows_it (reads h) _,
  (λ stocks times prices end us. (refl, (refl, (refl, (refl, (refl, (refl, (refl, (refl, refl))))))))),
)

pub fresh_is : FreshIs
unfolding fresh
fresh_is end u = (refl, (refl, (refl, (refl, (refl, (refl, (refl, (refl, (refl, (refl, refl))))))))))

-- ------------------------------------------------------------------ a call on a book

-- what the first checks of a call come to
pub data Called (stocks times prices i : ℕ) : Type 0 where
  wrong_shape : ¬ IsShape stocks times prices → first (call_checks stocks times prices i) ≡ 1 → Called stocks times prices i
  no_stock : IsShape stocks times prices → stocks ≤ i → first (call_checks stocks times prices i) ≡ 3 → Called stocks times prices i
  there : IsShape stocks times prices → i < stocks → first (call_checks stocks times prices i) ≡ 0 → Called stocks times prices i

pub called : (stocks times prices i : ℕ) → Called stocks times prices i
unfolding call_checks first if◌then◌otherwise◌
called stocks times prices i = go (bad_shape stocks times prices) refl (leb stocks i) refl
  where
    go : (b : Bool) → bad_shape stocks times prices ≡ b → (c : Bool) → leb stocks i ≡ c → Called stocks times prices i
    go true e c f = wrong_shape ((shape_is stocks times prices).holds e) (rw e)
    go false e true f = no_stock (is_so (shape_is stocks times prices) (search stable) e) ((by_le stocks i).holds f) (rw (e, f))
    go false e false f =
        let n = (by_le stocks i).fails f in
        there (is_so (shape_is stocks times prices) (search stable) e) (omega arith) (rw (e, f))

-- a call's answer: that of the stock where it is there, and zeros beside the number where it is not
module _ {A : Type 0} (zero : ℕ → A) (it : A) (number_of : A → ℕ) (its : (n : ℕ) → number_of (zero n) ≡ n)
    (stocks times prices i : ℕ) where
  abbrev called_answer : A
  called_answer = let number = first (call_checks stocks times prices i) in if eqb number 0 then it otherwise zero number

  abbrev There : Type 0
  There = IsShape stocks times prices and i < stocks

  pub if_there : There → called_answer ≡ it
  if_there t = go (called stocks times prices i)
    where
      go : Called stocks times prices i → called_answer ≡ it
      go (wrong_shape n e) = absurd (n t.0)
      go (no_stock s l e) = let k = t.1 in absurd (omega arith)
      go (there s l e) = if_true _ _ _ (eq-eqb _ 0 e)

  pub if_not : ¬ There → called_answer ≡ zero (first (call_checks stocks times prices i))
  if_not n = go (called stocks times prices i)
    where
      go : Called stocks times prices i → called_answer ≡ zero (first (call_checks stocks times prices i))
      go (wrong_shape _ e) = if_false _ _ _ (ne_eqb (first (call_checks stocks times prices i)) 0 (λ z. omega arith))
      go (no_stock _ _ e) = if_false _ _ _ (ne_eqb (first (call_checks stocks times prices i)) 0 (λ z. omega arith))
      go (there s l e) = absurd (n (s, l))

  called_number : (own : List Number) → Gives own (number_of it) → Gives (book_refusals stocks times prices i own) (number_of called_answer)
  called_number own g = go (called stocks times prices i)
    where
      c : ℕ
      c = first (call_checks stocks times prices i)

      refused : ¬ (c ≡ 0) → number_of called_answer ≡ c
      refused n = ap number_of (if_false _ _ _ (ne_eqb _ 0 n)) ∙ its c

      go : Called stocks times prices i → Gives (book_refusals stocks times prices i own) (number_of called_answer)
      go (wrong_shape n e) = take 1 _ _ _ n (refused (λ z. omega arith) ∙ e)
      go (no_stock s l e) = skip 1 _ _ _ (λ n. n s) (take 3 _ _ _ l (refused (λ z. omega arith) ∙ e))
      go (there s l e) = skip 1 _ _ _ (λ n. n s) (skip 3 _ _ _ (λ k. omega arith)
          (subst (λ a. Gives own (number_of a)) (sym (if_there (s, l))) g))

pub nothing_shown : (n : ℕ) (a : Answer) → a ≡ zeros n → ShowsNothing a
nothing_shown n a e = rw e (refl, (refl, (refl, (refl, (refl, (refl, (refl, refl)))))))

-- the number of each answer of a stock with totals
pub told_number : (m : Message) (c : Counted) → (counted.tell_answer m c).number ≡ counted.tells m c
unfolding counted.tell_answer
told_number m c = number_of_lem _ _

pub settled_number : (time : ℕ) (c : Counted) → (counted.settle_answer time c).answer.number ≡ counted.settles time c
unfolding counted.settle_answer numbers.notice
settled_number time c = if_arms (λ (a : Notice). a.answer.number ≡ counted.settles time c) _
    (λ e. number_of_lem 0 _ ∙ sym (eqb-true _ 0 e)) (λ _. number_of_lem _ _)

pub read_number : (c : Counted) → (counted.read_answer c).number ≡ counted.reads c
unfolding counted.read_answer
read_number c = number_of_lem _ _

module _ (end : ℕ) (b : List Counted) (times prices i : ℕ) where
  abbrev here : Counted
  here = stock counting (blank end) b i

  told_on : (m : Message) → Gives (book_refusals (length b) times prices i (with_totals.refusals m here)) (book_tells end b times prices i m).number
  unfolding book_tells
  told_on m = called_number zeros _ (λ a. a.number) (λ n. refl) (length b) times prices i _
      (subst (Gives (with_totals.refusals m here)) (sym (told_number m here)) (told_with m here))

  settled_on : (time : ℕ) → Gives (book_refusals (length b) times prices i (with_totals.settle_refusals time here)) (book_settles end b times prices i time).answer.number
  unfolding book_settles
  settled_on time = called_number {A = Notice} no_notice _ (λ a. a.answer.number) (λ n. refl) (length b) times prices i _
      (subst (Gives (with_totals.settle_refusals time here)) (sym (settled_number time here)) (settled_with time here))

  read_on : Gives (book_refusals (length b) times prices i (with_totals.read_refusals here)) (book_reads end b times prices i).number
  unfolding book_reads
  read_on = called_number zeros _ (λ a. a.number) (λ n. refl) (length b) times prices i _
      (subst (Gives (with_totals.read_refusals here)) (sym (read_number here)) (read_with here))

  totals_on : Gives (book_refusals (length b) times prices i (with_totals.read_refusals here)) (book_totals end b times prices i).number
  unfolding book_totals
  totals_on = called_number {A = Summary} no_summary _ (λ a. a.number) (λ n. refl) (length b) times prices i _
      (subst (Gives (with_totals.read_refusals here)) (sym (totals_number here)) (read_with here))

pub answers : BookAnswers
unfolding book_tells book_settles book_reads
answers end b times prices i = (
  (λ m. (if_there zeros _ (λ a. a.number) (λ n. refl) _ _ _ _, (λ n. nothing_shown _ _ (if_not zeros _ (λ a. a.number) (λ n. refl) _ _ _ _ n)))),
  (λ time. (
    if_there {A = Notice} no_notice _ (λ a. a.answer.number) (λ n. refl) _ _ _ _,
    (λ n.
        let e = if_not {A = Notice} no_notice (counted.settle_answer time (stock counting (blank end) b i))
        (λ a. a.answer.number) (λ n. refl) (length b) times prices i n in
        (nothing_shown _ _ (ap (λ a. a.answer) e), ap (λ a. a.mark) e, ap (λ a. a.time) e)),
  )),
  if_there zeros _ (λ a. a.number) (λ n. refl) _ _ _ _,
  (λ n. nothing_shown _ _ (if_not zeros _ (λ a. a.number) (λ n. refl) _ _ _ _ n)),
)

pub book_numbers : BookNumbersAre
unfolding number_in
book_numbers end b times prices i n = (
  (λ m. exactly _ _ n (told_on end b times prices i m)),
  (λ time. exactly _ _ n (settled_on end b times prices i time)),
  exactly _ _ n (read_on end b times prices i),
  exactly _ _ n (totals_on end b times prices i),
  (λ s. (
    (λ m. by_place (counted.tells m (here end b times prices i)) _ _ s
        (λ t. ap (λ a. a.number) (((answers end b times prices i).0 m).0 t) ∙ told_number m (here end b times prices i))
        (told_on end b times prices i m)),
    (λ time. by_place (counted.settles time (here end b times prices i)) _ _ s
        (λ t. ap (λ a. a.answer.number) (((answers end b times prices i).1 time).0 t) ∙ settled_number time (here end b times prices i))
        (settled_on end b times prices i time)),
  )),
)
  where
    -- a book of the right shape: the stock's number where it is there, and 3 where it is not
    by_place : (own given : ℕ) (rest : List Number) → IsShape (length b) times prices → (IsShape (length b) times prices and i < length b → given ≡ own)
        → Gives (book_refusals (length b) times prices i rest) given → (if ltb i (length b) then own otherwise 3) ≡ given
    by_place own given rest s is g = go (ltb i (length b)) (by_lt i (length b))
      where
        go : (c : Bool) → Decides c (i < length b) → (if c then own otherwise 3) ≡ given
        go true d = if_true true own 3 refl ∙ sym (is (s, d.holds refl))
        go false d =
            let n = d.fails refl in
            if_false false own 3 refl ∙ one_number _ 3 given (skip 1 _ _ _ (λ k. k s) (take 3 _ _ _ (omega arith) refl)) g

-- ------------------------------------------------------------------ the numbers of each call

numbers_of_lem : (m : Message) (h : Counted) (stocks times prices i : ℕ) → within (0 ∷ numbers_in (book_refusals stocks times prices i (with_totals.refusals m h))) (numbers_of m) ≡ true
numbers_of_lem (T time price) h stocks times prices i = refl
numbers_of_lem (Q time participant bid offer) h stocks times prices i = refl
numbers_of_lem (O time participant price) h stocks times prices i = refl
numbers_of_lem (P time participant) h stocks times prices i = refl
numbers_of_lem (R time participant price) h stocks times prices i = refl
numbers_of_lem (X time participant price) h stocks times prices i = refl

pub listed : NumbersListed
listed = (
  (λ end b times prices i.
      let h = stock counting (blank end) b i in
      let on = book_refusals (length b) times prices i in (
        (λ m. among (0 ∷ numbers_in (on (with_totals.refusals m h))) (numbers_of m) _ (numbers_of_lem m h (length b) times prices i) (one_listed _ _ (told_on end b times prices i m))),
        (λ time. among (0 ∷ numbers_in (on (with_totals.settle_refusals time h))) (0 ∷ 1 ∷ 3 ∷ 4 ∷ 14 ∷ []) _ refl (one_listed _ _ (settled_on end b times prices i time))),
        among (0 ∷ numbers_in (on (with_totals.read_refusals h))) (0 ∷ 1 ∷ 3 ∷ []) _ refl (one_listed _ _ (read_on end b times prices i)),
        among (0 ∷ numbers_in (on (with_totals.read_refusals h))) (0 ∷ 1 ∷ 3 ∷ []) _ refl (one_listed _ _ (totals_on end b times prices i)),
      )),
  (λ stocks times prices end us.
      among (0 ∷ numbers_in (setup_refusals stocks times prices end us)) (0 ∷ 1 ∷ 2 ∷ []) _ refl (one_listed _ _ (set_up stocks times prices end us))),
)
