-- Lines in words (document 01, "The day program"): propositions over bytes, without the tests of Lines.antt. The laws `feed_is`, `line_is`,
-- `read_as`, `spelt_is`, `digits_are` and `printed_is` say that Lines.antt and Printing.antt compute this.
-- Assumes nothing.
use Rattle.std.specs.Prelude.{ℕ, ◌≤◌, ◌<◌, List, [], ◌∷◌, ◌++◌, ◌≡◌, length, get_or}
use Rattle.forms.specs.Words.{◌or◌, ◌and◌, Number}
use Rattle.forms.specs.Words.Number.{◌for◌}
use Rattle.tape.specs.Lines.{spelt}

-- the proposition holds for each of a list
abbrev pub Every : {A : Type 0} → (A → Type 0) → List A → Type 0
Every P [] = Unit {0}
Every P (x ∷ xs) = P x and Every P xs

-- no byte before k is a line feed, the code 10, and at k there is one, or the text ends
abbrev pub IsFeed : List ℕ → ℕ → Type 0
IsFeed text k = ((j : ℕ) → j < k → ¬ (get_or text j 0 ≡ 10)) and (k ≡ length text or (k < length text and get_or text k 0 ≡ 10))

-- 1 to 10 digits, the codes 48 to 57, which spell 4,294,967,295 at most
abbrev pub IsWord : List ℕ → Type 0
IsWord word = 1 ≤ length word and length word ≤ 10 and Every (λ c. 48 ≤ c and c ≤ 57) word and spelt word ≤ 4_294_967_295

-- a space, the code 32, ahead of each word
abbrev pub spaced : List (List ℕ) → List ℕ
spaced [] = []
spaced (word ∷ words) = 32 ∷ (word ++ spaced words)

-- how many numbers follow C, S, T, Q, O, P, R and X; no number follows any other letter
abbrev pub counts : ℕ → List Number
counts letter =
    3 for (letter ≡ 67) ∷
    4 for (letter ≡ 83) ∷
    3 for (letter ≡ 84) ∷
    5 for (letter ≡ 81) ∷
    4 for (letter ≡ 79) ∷
    3 for (letter ≡ 80) ∷
    4 for (letter ≡ 82) ∷
    4 for (letter ≡ 88) ∷
    []
