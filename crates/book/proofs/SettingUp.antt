-- What a setup comes to: the laws of it in specs/Laws.antt, and its number in words.
-- Assumes nothing.
use Prim.Native.Nat.{ℕ, zero, suc, ◌+◌, ◌*◌, ◌<◌}
use mathlib.Core.List.{List, [], ◌∷◌, map}
use mathlib.Core.Path.{◌≡◌, refl, sym, ◌∙◌, ap}
use native.Mathlib.Nat.{not-suc-le-zero, le_of_suc-le-suc}
use borrow.Author.Tests.{eq-eqb, ne_eqb}
use lib.ListN.{length, get_or, replicate, length-map, get_or-map}
use Rattle.forms.specs.Words.{Gives}
use Rattle.forms.proofs.Checks.{hit, miss}
use Rattle.forms.proofs.Choice.{if_true, if_false, eq_not, ne_not}
use Rattle.forms.proofs.Decides.{one_number}
use Rattle.rules.specs.Counted.{fresh}
use Rattle.rules.specs.Book.{no_setup}
use Rattle.rules.specs.Numbers as numbers
use Rattle.rules.specs.Numbers.{sets_up, setup_answer, zeros}
use Rattle.rules.specs.declared.Answer.{Answer}
use Rattle.rules.specs.declared.Setup.{Setup}
use Rattle.stock.specs.View.{bytes, view}
use Rattle.window.specs.Places.{trades}
use Rattle.calls.specs.Parts.{part}
use Rattle.calls.specs.Setup.{setups_of, record_of, setup_number}
use Rattle.calls.specs.Words.{setup_in}
use Rattle.calls.proofs.Setups.{setups_length, setups_are, fours}
use Rattle.calls.proofs.InWords.{setup_number_is}
use Rattle.book.specs.Lent.{Lent, lent, Given, no_record}
use Rattle.book.specs.Words.{record_at, setup_table}
use Rattle.book.specs.Setup.{number_of, setting, SetsUp}
use Rattle.book.specs.Laws.{SetUpByTheRules, SetUpOne, SetUpStarts}
use Rattle.book.proofs.Meaning.{one_meaning}

-- ------------------------------------------------------------------ the parts of the outcome

module _ (end : ℕ) (list : List ℕ) (b b' : Lent) (r : Answer) (e : SetsUp end list b r b') where
  pub answered : r ≡ zeros (number_of end list b)
  unfolding setting
  answered = ap (λ (o : Given Answer). o.answer) e

  -- where it is done
  module _ (q : r.number ≡ 0) where
    pub number_0 : number_of end list b ≡ 0
    number_0 = sym (ap (λ (x : Answer). x.number) answered) ∙ q

    pub started : b' ≡ lent (map (record_of end) (setups_of list)) (replicate (length b.times) 0) (replicate (length b.prices) 0)
    unfolding setting
    started = ap (λ (o : Given Answer). o.book) e ∙ if_true _ _ _ (eq-eqb (number_of end list b) 0 number_0)

    four_each : length list ≡ 4 * length b.records
    four_each = fours (length b.records) (length b.times) (length b.prices) end list number_0

    as_many : length (setups_of list) ≡ length b.records
    as_many = setups_length _ list four_each

  pub left : ¬ (r.number ≡ 0) → b' ≡ b
  unfolding setting
  left z =
      ap (λ (o : Given Answer). o.book) e
      ∙ if_false _ _ _ (ne_eqb (number_of end list b) 0 (λ k. z (ap (λ (x : Answer). x.number) answered ∙ k)))

-- ------------------------------------------------------------------ the number, by the list

pub by_the_rules : SetUpByTheRules
unfolding setup_number sets_up setup_answer
by_the_rules end list b b' r e stocks k =
    let four : length list ≡ 4 * length (setups_of list) = k ∙ ap (λ n. 4 * n) (sym (setups_length stocks list k)) in
    answered end list b b' r e ∙ ap zeros (sym (miss _ 1 _ _ (eq_not (length list) _ four) refl))

pub one : SetUpOne
unfolding setup_number
one end list b b' r e k = answered end list b b' r e ∙ ap zeros (sym (hit _ 1 _ (ne_not (length list) _ (λ four. k (length (setups_of list), four)))))

-- ------------------------------------------------------------------ the number, in words

-- what is given by the table in words is the number
pub same_number : (end : ℕ) (list : List ℕ) (b : Lent) (n : ℕ) → Gives (setup_table end list b) n → number_of end list b ≡ n
same_number end list b n g = one_number _ _ n (setup_number_is (length b.records) (length b.times) (length b.prices) end list) g

-- ------------------------------------------------------------------ what the bytes mean

-- within a list it is no matter what is said to stand past its end
within : {A : Type 0} (l : List A) (i : ℕ) (d c : A) → i < length l → get_or l i d ≡ get_or l i c
within [] i d c h = absurd (not-suc-le-zero h)
within (x ∷ l) zero d c h = refl
within (x ∷ l) (suc i) d c h = within l i d c (le_of_suc-le-suc h)

record_of_lem : (end : ℕ) (us : List Setup) (i : ℕ) → i < length us → get_or (map (record_of end) us) i no_record ≡ record_of end (get_or us i no_setup)
record_of_lem end us i h = within (map (record_of end) us) i _ _ (rw (length-map us (record_of end)) h) ∙ get_or-map (record_of end) us i no_setup

-- a record with no trade, whatever stands in its places
fresh_view : (end : ℕ) (u : Setup) (ts ps : List ℕ) → view (bytes (record_of end u) ts ps) ≡ fresh end u
unfolding fresh numbers.fresh trades
fresh_view end u ts ps = refl

-- zeros, wherever one looks
zero_at : (n k : ℕ) → ◌≡◌ {A = ℕ} (get_or (replicate n 0) k 0) 0
zero_at zero k = refl
zero_at (suc n) zero = refl
zero_at (suc n) (suc k) = zero_at n k

pub starts : SetUpStarts
starts end list b b' r e q =
    let us = setups_of list in
    let n : length us ≡ length b.records = as_many end list b b' r e q in
    let is = started end list b b' r e q in
    let at : (i : ℕ) → i < length b.records → get_or us i no_setup ≡ setup_in list i = (setups_are list (length b.records) (four_each end list b b' r e q)).1 in
    let kept : (i : ℕ) → i < length b.records → record_at i b' ≡ record_of end (setup_in list i) =
    λ i l. ap (record_at i) is ∙ record_of_lem end us i (rw n l) ∙ ap (record_of end) (at i l) in (
      rw is (length-map us (record_of end) ∙ n),
      λ i l. (
        (one_meaning i b' _).1 (sym (ap (λ x. view (bytes x (part i b'.times) (part i b'.prices))) (kept i l) ∙ fresh_view end _ _ _)),
        λ j c k. (sym (ap (λ (x : Lent). get_or x.times (512 * i + j) 0) is ∙ zero_at (length b.times) (512 * i + j)), sym (ap (λ (x : Lent). get_or x.prices (512 * i + j) 0) is ∙ zero_at (length b.prices) (512 * i + j))),
      ),
    )
