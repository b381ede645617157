-- What the bytes of a stock mean, entry by entry, and what calls on any bytes answer and leave of it.
-- Assumes nothing.
use Prim.Native.Nat.{ℕ, ◌≤◌, ◌<◌}
use mathlib.Core.Bool.{Bool, true, false}
use mathlib.Core.List.{List}
use mathlib.Core.Path.{◌≡◌, refl, sym, ap, ◌∙◌, subst}
use native.Mathlib.Omega.{arith}
use borrow.Author.Tests.{ltb-true, ltb-false, eq-eqb, ne_eqb}
use lib.Dec.{ltb, eqb}
use lib.ListN.{length, get_or, get_or-eq_default}
use lib.Seq.{ext_get_or}
use Rattle.forms.specs.Choice.{if◌then◌otherwise◌}
use Rattle.forms.specs.Words.{Number, Gives}
use Rattle.forms.proofs.Choice.{if_true, if_false}
use Rattle.forms.proofs.Decides.{take, skip}
use Rattle.rules.specs.Stock.{Trade}
use Rattle.rules.specs.Counted.{Counted, after_telling, after_settling, read_answer, next_answer, no_summary, totals_answer}
use Rattle.rules.specs.Numbers.{zeros, no_notice, none_coming}
use Rattle.rules.proofs.Answers.{Called, wrong_shape, no_stock, there, called}
use Rattle.stock.specs.View.{view, shaped, Ruling, made, told_by, settled_by, asked}
use Rattle.stock.proofs.Laws as stock
use Rattle.calls.specs.Parts.{part}
use Rattle.calls.proofs.Parts.{part_is}
use Rattle.book.specs.Lent.{Lent, bytes_of, Given, call_number, calling, CallsIn, asking}
use Rattle.book.specs.Words.{record_at, no_trade, Means, InShape, call_table}
use Rattle.book.specs.Laws.{LentIs, OneMeaning, Touched, AnsweredBy, ToldByTheRules, SettledByTheRules, ReadByTheRules, NextByTheRules, TotalsByTheRules}
use Rattle.book.proofs.Calls.{let_through, bytes_shaped, told_touches, settled_touches}

-- ------------------------------------------------------------------ the places of a stock

pub lent_is : LentIs
lent_is records times prices = (refl, (refl, refl))

-- behind them nothing is read
past_part : (i : ℕ) (xs : List ℕ) (j : ℕ) → 512 ≤ j → get_or (part i xs) j 0 ≡ 0
past_part i xs j h = let few = (part_is i xs).0 in get_or-eq_default (part i xs) 0 (omega (arith, few, h))

-- ------------------------------------------------------------------ what is read of them

module _ (i : ℕ) (b : Lent) where
  -- trade j of those that are read
  read_at : (j : ℕ) → j < (record_at i b).count
      → get_or (view (bytes_of i b)).whole.window j no_trade ≡ record { at = get_or (part i b.times) j 0; price = get_or (part i b.prices) j 0 }
  read_at j h = ((stock.laws).view_is (bytes_of i b)).2 j no_trade h

  counted : length (view (bytes_of i b)).whole.window ≡ (record_at i b).count
  counted = ((stock.laws).view_is (bytes_of i b)).1

  is_meant : Means i b (view (bytes_of i b))
  is_meant = record {
    stock = ((stock.laws).view_is (bytes_of i b)).0;
    totals = ((stock.laws).view_is (bytes_of i b)).3;
    count = counted;
    held = λ j l h.
        let t = read_at j (omega (arith, l, counted)) in
        (ap (λ (t : Trade). t.at) t ∙ (part_is i b.times).1 j h, ap (λ (t : Trade). t.price) t ∙ (part_is i b.prices).1 j h);
    beyond = λ j l h. read_at j (omega (arith, l, counted)) ∙ rw (past_part i b.times j h, past_part i b.prices j h);
  }

  -- trade j of two windows that the same bytes mean
  same_trade : (h k : Counted) → Means i b h → Means i b k → (j : ℕ) → j < length h.whole.window → j < length k.whole.window → get_or h.whole.window j no_trade ≡ get_or k.whole.window j no_trade
  same_trade h k p q j l m = go (ltb j 512) refl
    where
      trade : (s t : Trade) → s.at ≡ t.at → s.price ≡ t.price → s ≡ t
      trade s t e f = λ x. record { at = e x; price = f x }

      go : (c : Bool) → ltb j 512 ≡ c → get_or h.whole.window j no_trade ≡ get_or k.whole.window j no_trade
      go true e =
          let f = ltb-true j 512 e in
          trade _ _ ((p.held j l f).0 ∙ sym (q.held j m f).0) ((p.held j l f).1 ∙ sym (q.held j m f).1)
      go false e = let f = ltb-false j 512 e in p.beyond j l f ∙ sym (q.beyond j m f)

  same_meaning : (h k : Counted) → Means i b h → Means i b k → h ≡ k
  same_meaning h k p q =
      let long : length h.whole.window ≡ length k.whole.window = p.count ∙ sym q.count in
      whole h k (p.stock ∙ sym q.stock) (p.totals ∙ sym q.totals) (ext_get_or no_trade h.whole.window k.whole.window long (λ j l. same_trade h k p q j l (omega (arith, l, long))))
    where
      whole : (h k : Counted) → h.whole.stock ≡ k.whole.stock → h.totals ≡ k.totals → h.whole.window ≡ k.whole.window → h ≡ k
      whole h k e t f = λ x. record { whole = record { stock = e x; window = f x }; totals = t x }

pub one_meaning : OneMeaning
one_meaning i b h = ((λ p. same_meaning i b h (view (bytes_of i b)) p (is_meant i b)), λ e. subst (Means i b) (sym e) (is_meant i b))

-- ------------------------------------------------------------------ what a call on any bytes is answered

-- of a stock that the first checks let through its own answer, of another the number of these checks
module _ {A : Type 0} (i : ℕ) (b : Lent) (own : A) (beside : ℕ → A) (x : A)
    (done : call_number i b ≡ 0 → x ≡ own) (refused : ¬ (call_number i b ≡ 0) → x ≡ beside (call_number i b)) where
  abbrev Case : Type 0
  Case = Called (length b.records) (length b.times) (length b.prices) i

  abbrev case : Case
  case = called (length b.records) (length b.times) (length b.prices) i

  answered_by : AnsweredBy i b x own beside
  answered_by = record { there = there_is case; no_shape = no_shape_is case; no_stock = no_stock_is case }
    where
      there_is : Case → InShape b → i < length b.records → x ≡ own
      there_is (wrong_shape n e) s l = absurd (n s)
      there_is (no_stock _ k e) s l = absurd (omega (arith, k, l))
      there_is (there _ _ e) s l = done e

      no_shape_is : Case → ¬ InShape b → x ≡ beside 1
      no_shape_is (wrong_shape _ e) n = refused (λ z. omega (arith, e, z)) ∙ ap beside e
      no_shape_is (no_stock s k e) n = absurd (n s)
      no_shape_is (there s l e) n = absurd (n s)

      no_stock_is : Case → InShape b → length b.records ≤ i → x ≡ beside 3
      no_stock_is (wrong_shape n e) s l = absurd (n s)
      no_stock_is (no_stock _ _ e) s l = refused (λ z. omega (arith, e, z)) ∙ ap beside e
      no_stock_is (there _ k e) s l = absurd (omega (arith, k, l))

-- its number is that of the call's table
pub number_by : {A : Type 0} (i : ℕ) (b : Lent) (x own : A) (beside : ℕ → A) (number_of : A → ℕ) → ((n : ℕ) → number_of (beside n) ≡ n)
    → (table : List Number) → Gives table (number_of own) → AnsweredBy i b x own beside → Gives (call_table i b table) (number_of x)
number_by i b x own beside number_of its table g a = go (called (length b.records) (length b.times) (length b.prices) i)
  where
    go : Called (length b.records) (length b.times) (length b.prices) i → Gives (call_table i b table) (number_of x)
    go (wrong_shape n e) = take 1 _ _ _ n (ap number_of (a.no_shape n) ∙ its 1)
    go (no_stock s l e) = skip 1 _ _ _ (λ n. n s) (take 3 _ _ _ l (ap number_of (a.no_stock s l) ∙ its 3))
    go (there s l e) = skip 1 _ _ _ (λ n. n s) (skip 3 _ _ _ (λ k. omega (arith, k, l)) (subst (λ y. Gives table (number_of y)) (sym (a.there s l)) g))

-- what is let through is a stock of a book of the right shape, and owns its places
pub let_in : (i : ℕ) (b : Lent) → InShape b → i < length b.records → call_number i b ≡ 0
let_in i b s l = go (called (length b.records) (length b.times) (length b.prices) i)
  where
    go : Called (length b.records) (length b.times) (length b.prices) i → call_number i b ≡ 0
    go (wrong_shape n e) = absurd (n s)
    go (no_stock _ k e) = absurd (omega (arith, k, l))
    go (there _ _ e) = e

in_parts : (i : ℕ) (b : Lent) → call_number i b ≡ 0 → shaped (bytes_of i b) ≡ true
in_parts i b e = bytes_shaped i b (let_through i b e)

-- ------------------------------------------------------------------ telling and settling

-- a call by a rule
module _ {A : Type 0} (i : ℕ) (rule : Ruling A) (beside : ℕ → A) (b : Lent) (r : A) (b' : Lent) (e : CallsIn i (made rule beside) beside b r b')
    (touched : Touched i (made rule beside (bytes_of i b)).bytes b b') (h : Counted) (p : Means i b h) where
  abbrev next : Counted → Counted
  next h = if eqb (rule.number h) 0 then rule.next h otherwise h

  is : h ≡ view (bytes_of i b)
  is = (one_meaning i b h).0 p

  rules : call_number i b ≡ 0
      → ((made rule beside (bytes_of i b)).answer ≡ rule.answer (view (bytes_of i b))) × (view (made rule beside (bytes_of i b)).bytes ≡ next (view (bytes_of i b)))
  rules z = stock.by_the_rules rule beside (bytes_of i b) _ refl (in_parts i b z)

  then_means : call_number i b ≡ 0 → Means i b' (next h)
  then_means z = (one_meaning i b' (next h)).1 (ap next is ∙ sym (rules z).1 ∙ ap view (sym (touched.own z)))

  by_the_rules : AnsweredBy i b r (rule.answer h) beside × (InShape b → i < length b.records → Means i b' (next h))
  unfolding calling
  by_the_rules = (
    answered_by i b (rule.answer h) beside r
        (λ z. ap (λ (g : Given A). g.answer) (e ∙ if_true _ _ _ (eq-eqb _ 0 z)) ∙ (rules z).0 ∙ ap rule.answer (sym is))
        (λ n. ap (λ (g : Given A). g.answer) (e ∙ if_false _ _ _ (ne_eqb _ 0 n))),
    (λ s l. then_means (let_in i b s l)),
  )

pub told_by_the_rules : ToldByTheRules
unfolding after_telling
told_by_the_rules i m b r b' h e = by_the_rules i (told_by m) zeros b r b' e (told_touches i m b r b' e) h

pub settled_by_the_rules : SettledByTheRules
unfolding after_settling
settled_by_the_rules i time b r b' h e = by_the_rules i (settled_by time) no_notice b r b' e (settled_touches i time b r b' e) h

-- ------------------------------------------------------------------ reading, what comes next, and the totals

asked_by_the_rules : {A : Type 0} (own : Counted → A) (beside : ℕ → A)
    → (i : ℕ) (b : Lent) (h : Counted) → Means i b h → AnsweredBy i b (asking i (asked own beside) beside b) (own h) beside
unfolding asking
asked_by_the_rules own beside i b h p =
    let is : h ≡ view (bytes_of i b) = (one_meaning i b h).0 p in
    answered_by i b (own h) beside (asking i (asked own beside) beside b)
    (λ z. if_true _ _ _ (eq-eqb _ 0 z) ∙ (stock.given_by own beside (bytes_of i b)).0 (in_parts i b z) ∙ ap own (sym is))
    (λ n. if_false _ _ _ (ne_eqb _ 0 n))

pub read_by_the_rules : ReadByTheRules
read_by_the_rules = asked_by_the_rules read_answer zeros

pub next_by_the_rules : NextByTheRules
next_by_the_rules = asked_by_the_rules next_answer none_coming

pub totals_by_the_rules : TotalsByTheRules
totals_by_the_rules = asked_by_the_rules totals_answer no_summary
