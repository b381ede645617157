-- What calls do to a book, and that each of its stocks is what its story leaves.
-- Assumes nothing.
use Prim.Native.Nat.{ℕ, zero, suc, ◌<◌}
use mathlib.Core.List.{List, [], ◌∷◌, ◌++◌}
use mathlib.Core.Logic.{inl, inr}
use mathlib.Core.Path.{◌≡◌, refl, sym, ap, ◌∙◌, subst}
use borrow.Author.Tests.{ne_eqb}
use native.Mathlib.Nat.{le_of_suc-le-suc, not-suc-le-zero}
use native.Mathlib.Omega.{arith}
use lib.ListN.{length, get_or, length-map, get_or-map}
use lib.Seq.{get_or-set_other}
use Rattle.forms.specs.Words.{Some}
use Rattle.forms.proofs.Choice.{if_arms, if_false}
use Rattle.forms.proofs.Decides.{past}
use Rattle.rules.specs.Counted.{Counted, fresh}
use Rattle.rules.specs.Machine.{Lawful, left, Calls, stock, number_in, step_in}
use Rattle.rules.specs.Book.{counting, Accepted, no_setup, blank, book, now, story, journal_of}
use Rattle.rules.specs.Words.{IsEnd, IsSetup}
use Rattle.rules.specs.Demands.{ByStory, Refused, OthersStay, SettledAlike, SetUpAlike, SameStock, SameJournal, Replayed, SettledOn}
use Rattle.rules.specs.declared.Setup.{Setup}
use Rattle.rules.proofs.Journal.{by_journal, by_entries, by_settling}
use Rattle.rules.proofs.Counted.{counting_by_history, counting_settled_alike, lawful_without, left_without}
use Rattle.rules.proofs.Numbers.{setup_numbers}
use Rattle.rules.proofs.Ranges.{in_end, in_setup}

-- ------------------------------------------------------------------ one call

pub refused : Refused
unfolding step_in
refused end b c n = if_false _ _ _ (ne_eqb (number_in counting (blank end) b c) 0 n)

pub others : OthersStay
unfolding step_in
others end b c i n = if_arms (λ (b' : List Counted). get_or b' i (blank end) ≡ get_or b i (blank end)) _ (λ _. get_or-set_other b c.at i _ (blank end) n) (λ _. refl)

-- ------------------------------------------------------------------ a setup that is accepted

-- where none of a list is out of range, each is in it
none_out : (us : List Setup) → ¬ Some (λ u. ¬ IsSetup u) us → (i : ℕ) → i < length us → IsSetup (get_or us i no_setup)
none_out [] n i h = absurd (not-suc-le-zero h)
none_out (u ∷ us) n zero h = in_setup u (λ k. n (inl k))
none_out (u ∷ us) n (suc i) h = none_out us (λ k. n (inr k)) i (le_of_suc-le-suc h)

in_range : (end : ℕ) (us : List Setup) → Accepted end us → IsEnd end × ((i : ℕ) → i < length us → IsSetup (get_or us i no_setup))
in_range end us e =
    let given = (setup_numbers _ _ _ end us 0).0 e in
    let range = (past 2 0 _ _ (λ z. omega arith) (past 1 0 _ _ (λ z. omega arith) given).1).0 in
    (in_end end (λ k. range (inl k)), none_out us (λ k. range (inr k)))

-- ------------------------------------------------------------------ calls after it

inside : (end : ℕ) (us : List Setup) (i : ℕ) → i < length us → i < length (book end us)
inside end us i h = rw (length-map us (fresh end)) h

pub by_story : ByStory
unfolding fresh
by_story end us a cs i h =
    let ok = in_range end us a in
    let es = story end us cs i in
    let by = subst (λ s. Lawful counting s es × (now end us cs i ≡ left counting s es)) (get_or-map (fresh end) us i no_setup)
    (counting_by_history (blank end) (book end us) cs i (inside end us i h)) in (
      record { end_ok = ok.0; setup_ok = ok.1 i h; lawful = lawful_without _ es by.0 },
      ap (λ c. c.whole) by.1 ∙ left_without _ es,
      ap (λ c. c.totals) by.1,
    )

pub settled_alike : SettledAlike
settled_alike end us cs ds time a b m i h = counting_settled_alike (blank end) (book end us) cs ds time a b m i (inside end us i h)

-- ------------------------------------------------------------------ two stocks that were set up alike

module _ (end : ℕ) (us vs : List Setup) (i j : ℕ) (k : SetUpAlike us vs i j) where
  here : i < length (book end us)
  here = inside end us i k.first

  there : j < length (book end vs)
  there = inside end vs j k.second

  begun : stock counting (blank end) (book end us) i ≡ stock counting (blank end) (book end vs) j
  begun = get_or-map (fresh end) us i no_setup ∙ ap (fresh end) k.alike ∙ sym (get_or-map (fresh end) vs j no_setup)

  same : (cs ds : Calls counting) → (journal_of end us cs i ≡ journal_of end vs ds j) × (now end us cs i ≡ now end vs ds j) × (story end us cs i ≡ story end vs ds j)
      → SameStock end us vs cs ds i j
  same cs ds k = record { journals = k.0; stocks = k.1; stories = k.2 }

pub same_journal : SameJournal
same_journal end us vs cs ds i j k q =
    same end us vs i j k cs ds
    (by_journal counting (blank end) (book end us) (book end vs) i j (here end us vs i j k) (there end us vs i j k) (begun end us vs i j k) cs ds q)

pub replayed : Replayed
replayed end us vs cs ds es fs i j k q entries is p =
    let both = by_entries counting (blank end) (book end us) (book end vs) i j (here end us vs i j k) (there end us vs i j k) (begun end us vs i j k)
    cs ds es fs q entries is p in
    (both.0, same end us vs i j k (cs ++ es) (ds ++ fs) both.1)

pub settled_on : SettledOn
settled_on end time us vs cs ds es fs i j k q a n a' n' =
    same end us vs i j k (cs ++ es) (ds ++ fs)
    (by_settling counting (blank end) (book end us) (book end vs) i j (here end us vs i j k) (there end us vs i j k) (begun end us vs i j k)
    cs ds es fs q time a n a' n')
