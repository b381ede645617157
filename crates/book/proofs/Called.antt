-- What a call on the book gives and leaves, from the number of its first checks and the promise of the stock's step.
-- Assumes nothing.
use Prim.Native.Nat.{ℕ, ◌+◌, ◌*◌, ◌<◌, ◌≤◌}
use mathlib.Core.Bool.{true, false}
use mathlib.Core.List.{List}
use mathlib.Core.Path.{◌≡◌, refl, sym, ap, subst, ◌∙◌}
use borrow.Author.Tests.{eq-eqb, ne_eqb, leb-false}
use native.Mathlib.Omega.{arith}
use lib.Dec.{eqb}
use lib.ListN.{length, get_or, set}
use lib.Seq.{set-get_or}
use Rattle.forms.proofs.Choice.{if_true, if_false, goes, passes, any_head, any_tail, eq_of_not}
use Rattle.forms.proofs.Checks.{beyond}
use Rattle.rules.specs.Numbers.{bad_shape, call_checks}
use Rattle.rules.specs.Counted.{Counted}
use Rattle.stock.specs.View.{Bytes, bytes, Ruling, made, asked}
use Rattle.stock.proofs.Laws.{unchanged}
use Rattle.stock.specs.declared.Record.{Record}
use Rattle.std.proofs.lemmas.List.{get_or_default}
use Rattle.calls.specs.Parts.{Placed, part}
use Rattle.book.specs.Lent.{Lent, lent, no_record, bytes_of, call_number, calling, CallsIn, asking}

-- the call goes on, or the number stops it
module _ (i n : ℕ) (b : Lent) where
  goes_on : n ≡ call_number i b → n ≡ 0 → eqb (call_number i b) 0 ≡ true
  goes_on e t = eq-eqb (call_number i b) 0 (sym e ∙ t)

  stops : n ≡ call_number i b → (n ≡ 0 → ⊥) → eqb (call_number i b) 0 ≡ false
  stops e t = ne_eqb (call_number i b) 0 (λ k. t (e ∙ k))

-- ------------------------------------------------------------------ what the number 0 tells

-- the stock is one of the book's, and owns 512 places of each array
pub record Inside (i : ℕ) (b : Lent) : Type 0 where
  pub record_of : i < length b.records
  pub times_of : 512 * i + 512 ≤ length b.times
  pub prices_of : 512 * i + 512 ≤ length b.prices

pub inside : (i n : ℕ) (b : Lent) → n ≡ call_number i b → n ≡ 0 → Inside i b
unfolding call_checks bad_shape
inside i n b e t =
    let shape = beyond 0 _ 1 _ tt (sym e ∙ t) in
    let stock : i < length b.records = leb-false (length b.records) i (beyond 0 _ 3 _ tt shape.1).0 in
    let places = any_tail _ _ (any_tail _ _ shape.0) in
    let times : length b.times ≡ 512 * length b.records = eq_of_not _ _ (any_head _ _ places) in
    let prices : length b.prices ≡ 512 * length b.records = eq_of_not _ _ (any_head _ _ (any_tail _ _ places)) in
    record { record_of = stock; times_of = omega arith; prices_of = omega arith }

pub in_book : (i n : ℕ) (records : List Record) (times prices : List ℕ) → n ≡ call_number i (lent records times prices) → n ≡ 0 → i < length records
in_book i n records times prices e z = (inside i n (lent records times prices) e z).record_of

-- the record that the code read, whatever it reads past the end, is the stock's
module _ (i n : ℕ) (b : Lent) (is : n ≡ call_number i b) (zero : n ≡ 0) (d : Record) where
  own : bytes (get_or b.records i d) (part i b.times) (part i b.prices) ≡ bytes_of i b
  own = rw (get_or_default b.records i d no_record ((inside i n b is zero).record_of))

-- ------------------------------------------------------------------ what the call gives

module _ {A : Type 0} (i n : ℕ) (rule : Ruling A) (beside : ℕ → A) (b : Lent) (a : A) where
  -- what the record that the code read, its answer and the places come to
  abbrev Came : Record → Record → List ℕ → List ℕ → Type 0
  Came d kept times prices = Placed i (made rule beside (bytes (get_or b.records i d) (part i b.times) (part i b.prices))) b.times b.prices a kept times prices

  its_own : n ≡ call_number i b → n ≡ 0 → (d kept : Record) (times prices : List ℕ) → Came d kept times prices
      → Placed i (made rule beside (bytes_of i b)) b.times b.prices a kept times prices
  its_own e t d kept times prices = subst (λ x. Placed i (made rule beside x) b.times b.prices a kept times prices) (own i n b e t d)

  -- the step's outcome in the stock's place
  pub done_in : n ≡ call_number i b → n ≡ 0 → (d kept : Record) (times prices : List ℕ) → Came d kept times prices
      → CallsIn i (made rule beside) beside b a (lent (set b.records i kept) times prices)
  unfolding calling
  done_in e t d kept times prices q =
      let p = its_own e t d kept times prices q in
      rw (if_true (eqb (call_number i b) 0) _ _ (goes_on i n b e t)) (rw p.answer (rw p.next (rw p.times (rw p.prices refl))))

  -- a number with nothing beside it, and the book as it was
  pub refused_in : n ≡ call_number i b → (n ≡ 0 → ⊥) → a ≡ beside n → CallsIn i (made rule beside) beside b a b
  unfolding calling
  refused_in e t q = rw (if_false (eqb (call_number i b) 0) _ _ (stops i n b e t)) (rw q (rw e refl))

  -- a refusal leaves the record, which is not stored
  pub kept_in : (number : A → ℕ) → ((h : Counted) → number (rule.answer h) ≡ rule.number h) → n ≡ call_number i b → n ≡ 0
      → (d kept : Record) (times prices : List ℕ) → Came d kept times prices → (number a ≡ 0 → ⊥)
      → CallsIn i (made rule beside) beside b a (lent b.records times prices)
  kept_in number numbered e t d kept times prices q z =
      let p = its_own e t d kept times prices q in
      let refused : ¬ (number (made rule beside (bytes_of i b)).answer ≡ 0) = rw (← p.answer) z in
      let same : kept ≡ get_or b.records i no_record = p.next ∙ ap (λ (x : Bytes). x.kept) (unchanged rule beside (bytes_of i b) _ refl number numbered refused) in
      let stays : set b.records i kept ≡ b.records = rw same (set-get_or b.records i no_record) in
      ap (λ records. record { answer = a; book = lent records times prices }) (sym stays) ∙ done_in e t d kept times prices q

-- ------------------------------------------------------------------ what a call gives that changes nothing

module _ {A : Type 0} (i n : ℕ) (given : Counted → A) (beside : ℕ → A) (b : Lent) (a : A) where
  pub asked_in : n ≡ call_number i b → n ≡ 0 → (d : Record) → a ≡ asked given beside (bytes (get_or b.records i d) (part i b.times) (part i b.prices))
      → a ≡ asking i (asked given beside) beside b
  unfolding asking
  asked_in e t d q = goes (eqb (call_number i b) 0) a _ _ (goes_on i n b e t) (q ∙ ap (asked given beside) (own i n b e t d))

  pub unasked_in : n ≡ call_number i b → (n ≡ 0 → ⊥) → a ≡ beside n → a ≡ asking i (asked given beside) beside b
  unfolding asking
  unasked_in e t q = passes (eqb (call_number i b) 0) a _ _ (stops i n b e t) (rw e at q)
