-- That lines are what specs/Words.antt says.
-- Assumes nothing.
use Prim.Native.Nat.{ℕ, zero, suc, ◌≤◌, ◌<◌}
use mathlib.Core.Bool.{Bool, true, false, false≢true}
use mathlib.Core.List.{List, [], ◌∷◌, ◌++◌, map, append_assoc, append-nil}
use mathlib.Core.Logic.{inl, inr}
use mathlib.Core.Path.{◌≡◌, refl, sym, ap, ◌∙◌}
use native.Mathlib.Omega.{arith}
use borrow.Author.Tests.{eqb-true, eq-eqb}
use lib.Dec.{eqb}
use lib.ListN.{length, get_or, get_or-append, length-map}
use Rattle.std.proofs.lemmas.List.{get_or-map}
use Rattle.forms.specs.Choice.{if◌then◌otherwise◌}
use Rattle.forms.specs.Tables.{every}
use Rattle.forms.specs.Words.{◌or◌, ◌and◌, Gives}
use Rattle.forms.proofs.Choice.{all_empty}
use Rattle.forms.proofs.Decides.{Decides, and_more, is_true, one_number, choices, words}
use Rattle.tape.specs.Lines.{is_digit, spelt, is_number, parted, numbers_after, numbers_in, index_of, to_feed}
use Rattle.tape.specs.Printing.{ahead, printed}
use Rattle.tape.specs.Words.{Every, IsFeed, IsWord, spaced, counts}
use Rattle.tape.specs.Laws.{FeedIs, LineIs, ReadAs, DigitsAre, PrintedIs}
use Rattle.tape.proofs.Printing.{digits_low, digits_high}

-- ------------------------------------------------------------------ where a line ends

one_more : (c : ℕ) (text : List ℕ) (k : ℕ) (b : Bool) → eqb c 10 ≡ b → IsFeed text k → IsFeed (c ∷ text) (if b then 0 otherwise suc k)
unfolding if◌then◌otherwise◌
one_more c text k true e p = ((λ j l. absurd (omega arith)), inr (omega arith, eqb-true c 10 e))
one_more c text k false e p = (before, ends p.1)
  where
    before : (j : ℕ) → j < suc k → ¬ (get_or (c ∷ text) j 0 ≡ 10)
    before zero l q = false≢true (sym e ∙ eq-eqb c 10 q)
    before (suc j) l q = p.0 j (omega arith) q

    ends : k ≡ length text or (k < length text and get_or text k 0 ≡ 10) → suc k ≡ length (c ∷ text) or (suc k < length (c ∷ text) and get_or (c ∷ text) (suc k) 0 ≡ 10)
    ends (inl q) = inl (ap suc q)
    ends (inr q) = let l = q.0 in inr (omega arith, q.1)

pub feed_is : FeedIs
unfolding index_of
feed_is [] = ((λ j l. absurd (omega arith)), inl refl)
feed_is (c ∷ text) = one_more c text (to_feed text) (eqb c 10) refl (feed_is text)

-- ------------------------------------------------------------------ what a line is

parted_spaced : (ws : List (List ℕ)) → parted ws ≡ spaced ws
unfolding parted
parted_spaced [] = refl
parted_spaced (w ∷ ws) = ap (λ l. 32 ∷ (w ++ l)) (parted_spaced ws)

counts_are : (letter : ℕ) → Gives (counts letter) (numbers_after letter)
unfolding numbers_in
counts_are letter = search (choices, words) depth 30

each : {A : Type 0} (f : A → Bool) (P : A → Type 0) → ((x : A) → Decides (f x) (P x)) → (xs : List A) → Decides (every f xs) (Every P xs)
unfolding every
each f P d [] = record { holds = λ _. tt; fails = λ e _. false≢true (sym e ∙ all_empty) }
each f P d (x ∷ xs) = and_more (f x) (map f xs) (P x) (Every P xs) (d x) (each f P d xs)

digit_is : (c : ℕ) → Decides (is_digit c) (48 ≤ c and c ≤ 57)
unfolding is_digit
digit_is c = search words depth 10

digits_each : (w : List ℕ) → Decides (every is_digit w) (Every (λ c. 48 ≤ c and c ≤ 57) w)
digits_each w = each is_digit (λ c. 48 ≤ c and c ≤ 57) digit_is w

word_is : (w : List ℕ) → Decides (is_number w) (IsWord w)
unfolding is_number
word_is w = search (words, digits_each) depth 20

words_are : (ws : List (List ℕ)) → Decides (every is_number ws) (Every IsWord ws)
words_are ws = each is_number IsWord word_is ws

pub line_is : LineIs
line_is text letter ws = (
  (λ p. (p.written ∙ ap (λ l. letter ∷ l) (parted_spaced ws), ((words_are ws).holds p.numbers, (rw p.many p.known, rw p.many (counts_are letter))))),
  (λ k.
      let many : length ws ≡ numbers_after letter = one_number (counts letter) _ _ k.1.1.1 (counts_are letter) in
      record {
        written = k.0 ∙ ap (λ l. letter ∷ l) (sym (parted_spaced ws));
        numbers = is_true _ (words_are ws) k.1.0;
        many = many;
        known = (rw many at k).1.1.0;
      }),
)

-- ------------------------------------------------------------------ what is read of it

pub read_as : ReadAs
read_as letter ws = (refl, ((λ j l. get_or-append (map spelt ws) _ 0 j (simp length-map l) ∙ get_or-map spelt ws j [] 0 l), refl))

-- ------------------------------------------------------------------ what is printed

pub digits_are : DigitsAre
digits_are n = (digits_low n, digits_high n)

pub printed_is : PrintedIs
unfolding printed ahead parted
printed_is stock time letter numbers = simp (parted_spaced, append_assoc, append-nil)
