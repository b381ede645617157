-- The bytes of a stock of a book, and what a call leaves of them.
-- Assumes nothing.
use Prim.Native.Nat.{ℕ, ◌+◌, ◌*◌, ◌≤◌, ◌<◌}
use mathlib.Core.Bool.{true}
use mathlib.Core.List.{List}
use mathlib.Core.Path.{◌≡◌, refl, sym, ap, subst, ◌∙◌}
use native.Mathlib.Omega.{arith}
use borrow.Author.Tests.{eqb-true, eqb-false, leb-false}
use lib.Dec.{eqb}
use lib.ListN.{length, length-set, length-take, length-drop}
use lib.Seq.{get_or-set_same, get_or-set_other, set-get_or}
use Rattle.forms.proofs.Choice.{if_arms, any_head, any_tail, eq_of_not}
use Rattle.forms.proofs.Checks.{passed}
use Rattle.rules.specs.Numbers.{bad_shape, call_checks, zeros, no_notice}
use Rattle.rules.specs.declared.Message.{Message}
use Rattle.rules.proofs.Answers.{told_number, settled_number}
use Rattle.stock.specs.View.{Bytes, shaped, Outcome, told_by, telling, settled_by, settling}
use Rattle.stock.proofs.Laws as stock
use Rattle.calls.specs.Parts.{part}
use Rattle.calls.proofs.Parts.{part_put, part_put_other, put_part, length_put}
use Rattle.book.specs.Lent.{Lent, no_record, bytes_of, with_bytes, Given, call_number, calling}
use Rattle.book.specs.Laws.{Has, LetThrough, Touched, ToldRefused, SettledRefused, ToldTouches, SettledTouches}

-- ------------------------------------------------------------------ a stock that the book has

pub let_through : LetThrough
unfolding call_checks bad_shape
let_through i b e =
    let p = passed (call_checks (length b.records) (length b.times) (length b.prices) i) tt e in
    let times = any_tail _ _ (any_tail _ _ p.0) in
    let t : length b.times ≡ 512 * length b.records = eq_of_not _ _ (any_head _ _ times) in
    let q : length b.prices ≡ 512 * length b.records = eq_of_not _ _ (any_head _ _ (any_tail _ _ times)) in
    let k : i < length b.records = leb-false _ _ p.1.0 in
    record { kept = k; times = omega arith; prices = omega arith }

shaped_times : (x : Bytes) → shaped x ≡ true → length x.times ≡ 512
shaped_times x q = (((stock.laws).shaped_is x).0 q).0

shaped_prices : (x : Bytes) → shaped x ≡ true → length x.prices ≡ 512
shaped_prices x q = (((stock.laws).shaped_is x).0 q).1

pub bytes_shaped : (i : ℕ) (b : Lent) → Has i b → shaped (bytes_of i b) ≡ true
bytes_shaped i b h = ((stock.laws).shaped_is (bytes_of i b)).1 (long b.times h.times, long b.prices h.prices)
  where
    long : (xs : List ℕ) → 512 * i + 512 ≤ length xs → length (part i xs) ≡ 512
    long xs r = simp (length-take, length-drop) (omega arith)

module _ (i : ℕ) (x : Bytes) (b : Lent) (q : shaped x ≡ true) (h : Has i b) where
  pub written : bytes_of i (with_bytes i x b) ≡ x
  written = simp (
    get_or-set_same b.records i x.kept no_record h.kept,
    part_put i x.times b.times (shaped_times x q) h.times,
    part_put i x.prices b.prices (shaped_prices x q) h.prices,
  )

  pub of_others : (j : ℕ) → (j ≡ i → ⊥) → bytes_of j (with_bytes i x b) ≡ bytes_of j b
  of_others j other = simp (
    get_or-set_other b.records i j x.kept no_record other,
    part_put_other i x.times b.times (shaped_times x q) h.times j other,
    part_put_other i x.prices b.prices (shaped_prices x q) h.prices j other,
  )

  same_stocks : length (with_bytes i x b).records ≡ length b.records
  same_stocks = length-set b.records i x.kept

  same_times : length (with_bytes i x b).times ≡ length b.times
  same_times = length_put i x.times b.times (shaped_times x q) h.times

  same_prices : length (with_bytes i x b).prices ≡ length b.prices
  same_prices = length_put i x.prices b.prices (shaped_prices x q) h.prices

-- bytes written as they were
as_it_was : (i : ℕ) (b : Lent) → with_bytes i (bytes_of i b) b ≡ b
as_it_was i b = simp (set-get_or, put_part)

-- ------------------------------------------------------------------ a call

module _ {A : Type 0} (i : ℕ) (step : Bytes → Outcome A) (beside : ℕ → A) (b : Lent) where
  abbrev next : Bytes
  next = (step (bytes_of i b)).bytes

  -- what holds of each way a call goes holds of it
  either : (P : Given A → Type 0) → (call_number i b ≡ 0 → P (record { answer = (step (bytes_of i b)).answer; book = with_bytes i next b }))
      → ((call_number i b ≡ 0 → ⊥) → P (record { answer = beside (call_number i b); book = b })) → P (calling i step beside b)
  unfolding calling
  either P done left = if_arms P (eqb (call_number i b) 0) (λ e. done (eqb-true _ _ e)) (λ e. left (eqb-false _ _ e))

  unchanged : next ≡ bytes_of i b → with_bytes i next b ≡ b
  unchanged same = ap (λ x. with_bytes i x b) same ∙ as_it_was i b

  pub leaves : (call_number i b ≡ 0 → next ≡ bytes_of i b) → (calling i step beside b).book ≡ b
  leaves same = either (λ g. g.book ≡ b) (λ z. unchanged (same z)) (λ _. refl)

  -- of what a promise says
  module _ (g : Given A) (e : g ≡ calling i step beside b) where
    given : (P : Given A → Type 0) → P (calling i step beside b) → P g
    given P = subst P (sym e)

    refused : (number : A → ℕ) → ((number (step (bytes_of i b)).answer ≡ 0 → ⊥) → next ≡ bytes_of i b)
        → (number g.answer ≡ 0 → ⊥) → g.book ≡ b
    refused number same = let P : Given A → Type 0 = λ g. (number g.answer ≡ 0 → ⊥) → g.book ≡ b in
        given P (either P (λ z n. unchanged (same n)) (λ _ _. refl))

    touches : shaped next ≡ shaped (bytes_of i b) → Touched i next b g.book
    touches same = let P : Given A → Type 0 = λ g. Touched i next b g.book in given P (either P done left)
      where
        done : call_number i b ≡ 0 → Touched i next b (with_bytes i next b)
        done z =
            let h = let_through i b z in
            let q = same ∙ bytes_shaped i b h in
            record {
              own = λ _. written i next b q h;
              others = of_others i next b q h;
              stocks = same_stocks i next b q h;
              times = same_times i next b q h;
              prices = same_prices i next b q h;
            }

        left : (call_number i b ≡ 0 → ⊥) → Touched i next b b
        left z = record { own = λ y. absurd (z y); others = λ j other. refl; stocks = refl; times = refl; prices = refl }

-- ------------------------------------------------------------------ telling and settling

-- a stock's law of what its step leaves, of the outcome itself
told_shaped : (m : Message) (x : Bytes) → shaped (telling m x).bytes ≡ shaped x
told_shaped m x = (stock.laws).told_in_shape m x (record { answer = (telling m x).answer; next = (telling m x).bytes.kept }) _ _ refl

settled_shaped : (time : ℕ) (x : Bytes) → shaped (settling time x).bytes ≡ shaped x
settled_shaped time x = (stock.laws).settled_in_shape time x (record { answer = (settling time x).answer; next = (settling time x).bytes.kept }) _ _ refl

pub told_refused : ToldRefused
told_refused i m b r b' e = refused i (telling m) zeros b _ e (λ a. a.number) (stock.unchanged (told_by m) zeros (bytes_of i b) _ refl (λ a. a.number) (told_number m))

pub settled_refused : SettledRefused
settled_refused i time b r b' e =
    refused i (settling time) no_notice b _ e (λ a. a.answer.number)
    (stock.unchanged (settled_by time) no_notice (bytes_of i b) _ refl (λ a. a.answer.number) (settled_number time))

pub told_touches : ToldTouches
told_touches i m b r b' e = touches i (telling m) zeros b _ e (told_shaped m (bytes_of i b))

pub settled_touches : SettledTouches
settled_touches i time b r b' e = touches i (settling time) no_notice b _ e (settled_shaped time (bytes_of i b))
