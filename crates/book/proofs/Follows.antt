-- A call on the layout of a book of the rules answers as the rules do, and leaves the layout of what they make of that book.
-- Assumes nothing.
use Prim.Native.Nat.{ℕ, ◌*◌, ◌≤◌, ◌<◌}
use mathlib.Core.Bool.{Bool, true, false}
use mathlib.Core.List.{List}
use mathlib.Core.Path.{◌≡◌, refl, ap, ◌∙◌}
use native.Mathlib.Omega.{arith}
use borrow.Author.Tests.{ltb-true, ltb-false, lt-ltb, le-ltb, le-leb, lt-leb, eq-eqb, ne_eqb, eqb-true}
use lib.Dec.{ltb, leb, eqb}
use lib.ListN.{length, set}
use lib.Seq.{set-get_or}
use Rattle.forms.specs.Choice.{if◌then◌otherwise◌}
use Rattle.forms.specs.Checks.{first}
use Rattle.forms.proofs.Choice.{if_true, if_false, any_not, any_empty, eq_not}
use Rattle.rules.specs.Counted.{Counted, fire, after, tells, settles, read_answer, next_answer, no_summary, totals_answer}
use Rattle.rules.specs.Machine.{Every, Call, tell, settle, number, done, stock, number_in, step_in}
use Rattle.rules.specs.Book.{counting, blank, book_tells, book_settles, book_reads, book_next, book_totals}
use Rattle.rules.specs.Numbers.{bad_shape, call_checks, zeros, no_notice, none_coming}
use Rattle.rules.specs.declared.Message.{Message}
use Rattle.stock.specs.View.{Bytes, lay, Outcome, Ruling, made, told_by, telling, settled_by, settling, asked}
use Rattle.book.specs.Lent.{bytes_of, call_number, calling, asking, reading_in, coming_in, totalling_in}
use Rattle.book.specs.Layout.{stock_bytes, layout}
use Rattle.book.proofs.Layouts.{Fits, in_shape_lem, lay_again, read_again, length_records, length_times, length_prices, bytes_of_lem, with_bytes_lem}

-- ------------------------------------------------------------------ one stock

-- what a step gives and leaves of a stock's layout, by its number
abbrev Stepped : {A : Type 0} → Counted → A → ℕ → Counted → Outcome A
Stepped h a n h' = record { answer = a; bytes = stock_bytes (if eqb n 0 then h' otherwise h) }

module _ (h : Counted) (f : Fits h) where
  laid : (n : ℕ) (h' : Counted) → (n ≡ 0 → Fits h') → (if eqb n 0 then lay h' (stock_bytes h) otherwise stock_bytes h) ≡ stock_bytes (if eqb n 0 then h' otherwise h)
  laid n h' k = go (eqb n 0) refl
    where
      go : (b : Bool) → eqb n 0 ≡ b → (if eqb n 0 then lay h' (stock_bytes h) otherwise stock_bytes h) ≡ stock_bytes (if eqb n 0 then h' otherwise h)
      go true q = simp (q, if_true) (lay_again h f h' (k (eqb-true n 0 q)))
      go false q = simp (q, if_false)

  pub made_is : {A : Type 0} (rule : Ruling A) (beside : ℕ → A) → (rule.number h ≡ 0 → Fits (rule.next h))
      → made rule beside (stock_bytes h) ≡ Stepped h (rule.answer h) (rule.number h) (rule.next h)
  unfolding made
  made_is rule beside k = simp (in_shape_lem h f, if_true, read_again) (ap (λ x. record { answer = rule.answer h; bytes = x }) (laid (rule.number h) (rule.next h) k))

  asked_is : {A : Type 0} (own : Counted → A) (beside : ℕ → A) → asked own beside (stock_bytes h) ≡ own h
  unfolding asked
  asked_is own beside = simp (in_shape_lem h f, if_true) (ap own (read_again h))

-- ------------------------------------------------------------------ a book of 1 to 64 stocks

module _ (end : ℕ) (hs : List Counted) (all : Every Fits hs) (some : 1 ≤ length hs) (few : length hs ≤ 64) where
  abbrev places : ℕ
  places = 512 * length hs

  -- its shape is right: the first checks look at the stock's number alone
  right_shape : bad_shape (length hs) places places ≡ false
  unfolding bad_shape
  right_shape =
      any_not _ _ (ne_eqb (length hs) 0 (λ z. omega (arith, z, some)))
      (any_not _ _ (le-ltb _ _ few) (any_not _ _ (eq_not places places refl) (any_not _ _ (eq_not places places refl) any_empty)))

  pub first_number : (i : ℕ) → first (call_checks (length hs) places places i) ≡ (if ltb i (length hs) then 0 otherwise 3)
  unfolding call_checks first
  first_number i = simp (right_shape, if_false) (go (ltb i (length hs)) refl)
    where
      go : (b : Bool) → ltb i (length hs) ≡ b → ◌≡◌ {A = ℕ} (if leb (length hs) i then 3 otherwise 0) (if ltb i (length hs) then 0 otherwise 3)
      go true q = simp (q, if_true, lt-leb (length hs) i (ltb-true i (length hs) q), if_false)
      go false q = simp (q, if_false, le-leb (length hs) i (ltb-false i (length hs) q), if_true)

  number_is : (i : ℕ) → call_number i (layout hs) ≡ first (call_checks (length hs) places places i)
  number_is i = rw (length_records hs all, length_times hs all, length_prices hs all)

  module _ {A : Type 0} (i : ℕ) (step : Bytes → Outcome A) (beside : ℕ → A) where
    -- the stock is there: its step's answer, and the layout with what the step makes of it
    pub called : (a : A) (n : ℕ) (h' : Counted) → i < length hs → step (stock_bytes (stock counting (blank end) hs i)) ≡ Stepped (stock counting (blank end) hs i) a n h'
        → calling i step beside (layout hs) ≡ record { answer = a; book = layout (if eqb n 0 then set hs i h' otherwise hs) }
    unfolding calling
    called a n h' l e =
        let z : call_number i (layout hs) ≡ 0 = number_is i ∙ first_number i ∙ simp (lt-ltb i (length hs) l, if_true) in
        let s : step (bytes_of i (layout hs)) ≡ Stepped (stock counting (blank end) hs i) a n h' = rw (bytes_of_lem hs all i l (blank end)) e in
        simp (z, eq-eqb 0 0 refl, if_true, s, with_bytes_lem hs all i l) (ap (λ x. record { answer = a; book = layout x }) (go (eqb n 0) refl))
      where
        go : (b : Bool) → eqb n 0 ≡ b → set hs i (if eqb n 0 then h' otherwise stock counting (blank end) hs i) ≡ (if eqb n 0 then set hs i h' otherwise hs)
        go true q = simp (q, if_true)
        go false q = simp (q, if_false) (set-get_or hs i (blank end))

    -- there is none: 3, and the layout as it was
    pub absent : length hs ≤ i → calling i step beside (layout hs) ≡ record { answer = beside 3; book = layout hs }
    unfolding calling
    absent l =
        let z : call_number i (layout hs) ≡ 3 = number_is i ∙ first_number i ∙ simp (le-ltb i (length hs) l, if_false) in
        simp (z, ne_eqb 3 0 (λ e. omega arith), if_false)

  -- a call by the rule of `it`
  step_follows : {A : Type 0} (rule : Ruling A) (beside : ℕ → A) (it : Call Message) → rule.number ≡ number counting it → rule.next ≡ done counting it
      → (i : ℕ) → (i < length hs → rule.number (stock counting (blank end) hs i) ≡ 0 → Fits (rule.next (stock counting (blank end) hs i)))
      → (i < length hs → Fits (stock counting (blank end) hs i))
      → calling i (made rule beside) beside (layout hs)
      ≡ record {
        answer = (let number = first (call_checks (length hs) places places i) in if eqb number 0 then rule.answer (stock counting (blank end) hs i) otherwise beside number);
        book = layout (step_in counting (blank end) hs (record { at = i; it = it }));
      }
  unfolding step_in number_in
  step_follows rule beside it e d i k f = rw (← e, ← d) (go (ltb i (length hs)) refl)
    where
      go : (b : Bool) → ltb i (length hs) ≡ b → calling i (made rule beside) beside (layout hs)
          ≡ record {
            answer = (let number = first (call_checks (length hs) places places i) in if eqb number 0 then rule.answer (stock counting (blank end) hs i) otherwise beside number);
            book = layout (let n = if ltb i (length hs) then rule.number (stock counting (blank end) hs i) otherwise 3 in if eqb n 0 then set hs i (rule.next (stock counting (blank end) hs i)) otherwise hs);
          }
      go true q =
          let l = ltb-true _ _ q in
          let h = stock counting (blank end) hs i in
          simp (first_number i, q, if_true, eq-eqb 0 0 refl) (called i (made rule beside) beside (rule.answer h) (rule.number h) (rule.next h) l (made_is h (f l) rule beside (k l)))
      go false q = simp (first_number i, q, if_false, ne_eqb 3 0 (λ e. omega arith)) (absent i (made rule beside) beside (ltb-false _ _ q))

  -- telling stock i a message
  pub tell_follows : (i : ℕ) (m : Message) → (i < length hs → tells m (stock counting (blank end) hs i) ≡ 0 → Fits (after m (stock counting (blank end) hs i)))
      → (i < length hs → Fits (stock counting (blank end) hs i))
      → calling i (telling m) zeros (layout hs)
      ≡ record { answer = book_tells end hs places places i m; book = layout (step_in counting (blank end) hs (record { at = i; it = tell m })) }
  unfolding book_tells
  tell_follows i m = step_follows (told_by m) zeros (tell m) refl refl i

  -- settling it to a time
  pub settle_follows : (i time : ℕ) → (i < length hs → settles time (stock counting (blank end) hs i) ≡ 0 → Fits (fire (stock counting (blank end) hs i)))
      → (i < length hs → Fits (stock counting (blank end) hs i))
      → calling i (settling time) no_notice (layout hs)
      ≡ record { answer = book_settles end hs places places i time; book = layout (step_in counting (blank end) hs (record { at = i; it = settle time })) }
  unfolding book_settles
  settle_follows i time = step_follows (settled_by time) no_notice (settle time) refl refl i

  -- a call that changes nothing
  ask_follows : {A : Type 0} (own : Counted → A) (beside : ℕ → A)
      → (i : ℕ) → (i < length hs → Fits (stock counting (blank end) hs i))
      → asking i (asked own beside) beside (layout hs)
      ≡ (let number = first (call_checks (length hs) places places i) in if eqb number 0 then own (stock counting (blank end) hs i) otherwise beside number)
  unfolding asking
  ask_follows own beside i f = go (ltb i (length hs)) refl
    where
      go : (b : Bool) → ltb i (length hs) ≡ b → asking i (asked own beside) beside (layout hs)
          ≡ (let number = first (call_checks (length hs) places places i) in if eqb number 0 then own (stock counting (blank end) hs i) otherwise beside number)
      go true q =
          let l = ltb-true i (length hs) q in
          let z : call_number i (layout hs) ≡ 0 = number_is i ∙ first_number i ∙ simp (q, if_true) in
          simp (z, first_number i, q, eq-eqb 0 0 refl, if_true) (ap (asked own beside) (bytes_of_lem hs all i l (blank end)) ∙ asked_is _ (f l) own beside)
      go false q =
          let z : call_number i (layout hs) ≡ 3 = number_is i ∙ first_number i ∙ simp (q, if_false) in
          simp (z, first_number i, q, ne_eqb 3 0 (λ e. omega (arith, e)), if_false)

  pub read_follows : (i : ℕ) → (i < length hs → Fits (stock counting (blank end) hs i)) → reading_in i (layout hs) ≡ book_reads end hs places places i
  unfolding book_reads
  read_follows = ask_follows read_answer zeros

  pub next_follows : (i : ℕ) → (i < length hs → Fits (stock counting (blank end) hs i)) → coming_in i (layout hs) ≡ book_next end hs places places i
  unfolding book_next
  next_follows = ask_follows next_answer none_coming

  pub totals_follows : (i : ℕ) → (i < length hs → Fits (stock counting (blank end) hs i)) → totalling_in i (layout hs) ≡ book_totals end hs places places i
  unfolding book_totals
  totals_follows = ask_follows totals_answer no_summary
