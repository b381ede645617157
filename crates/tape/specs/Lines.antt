-- What a line of the day's input is (document 01, "The day program").
-- Assumes nothing.
use Rattle.std.specs.Prelude.{ℕ, suc, ◌+◌, ◌-◌, ◌*◌, ◌<◌, Bool, true, ◌≡◌, leb, eqb, length, replicate, Option, Some, None}
use mathlib.Core.List.{List, [], ◌∷◌, ◌++◌, map, foldl}
use Rattle.forms.specs.Choice.{if◌then◌otherwise◌, all_of}
use Rattle.forms.specs.Tables.{every}
use Rattle.tape.specs.declared.Line.{Line}

-- ------------------------------------------------------------------ numbers

-- 0 to 9, as the codes 48 to 57
unfoldable pub is_digit : ℕ → Bool
is_digit c = all_of (leb 48 c ∷ leb c 57 ∷ [])

-- a number with one more digit
unfoldable pub further : ℕ → ℕ → ℕ
further n c = 10 * n + (c - 48)

-- the number that a word of digits spells
unfoldable pub spelt : List ℕ → ℕ
spelt word = foldl further 0 word

-- a number has one to ten digits, and is at most 4,294,967,295
unfoldable pub is_number : List ℕ → Bool
is_number word = all_of (leb 1 (length word) ∷ leb (length word) 10 ∷ every is_digit word ∷ leb (spelt word) 4_294_967_295 ∷ [])

-- ------------------------------------------------------------------ lines

-- words after one space each: a space, the code 32, and a word, for each word
unfoldable pub parted : List (List ℕ) → List ℕ
parted [] = []
parted (word ∷ words) = 32 ∷ (word ++ parted words)

-- a letter, and how many numbers follow it
pub record Row : Type 0 where
  pub letter : ℕ
  pub numbers : ℕ

-- how many numbers follow each letter: three in C (stocks, messages, E), four in S (a setup), and in a message stock, time and its own fields. The
-- codes are those of C, S, T, Q, O, P, R and X
abbrev pub table : List Row
table =
    record { letter = 67; numbers = 3 } ∷ record { letter = 83; numbers = 4 } ∷ record { letter = 84; numbers = 3 } ∷ record { letter = 81; numbers = 5 }
    ∷ record { letter = 79; numbers = 4 } ∷ record { letter = 80; numbers = 3 } ∷ record { letter = 82; numbers = 4 } ∷ record { letter = 88; numbers = 4 } ∷ []

-- what the row of a letter says, 0 where it has none
unfoldable pub numbers_in : List Row → ℕ → ℕ
numbers_in [] letter = 0
numbers_in (row ∷ rows) letter = if eqb letter row.letter then row.numbers otherwise numbers_in rows letter

-- how many numbers follow a letter, 0 where no line begins with it
abbrev pub numbers_after : ℕ → ℕ
numbers_after letter = numbers_in table letter

-- the text is the line, without its line feed, of a letter and of words that spell its numbers
pub record IsLine (text : List ℕ) (letter : ℕ) (words : List (List ℕ)) : Type 0 where
  pub written : text ≡ letter ∷ parted words
  pub numbers : every is_number words ≡ true
  pub many : length words ≡ numbers_after letter
  pub known : 0 < numbers_after letter

-- ------------------------------------------------------------------ what reading gives

-- the content of a line
abbrev pub line_of : ℕ → List (List ℕ) → Line
line_of letter words = record { letter = letter; numbers = map spelt words ++ replicate (5 - length words) 0 }

-- the result for a text that cannot be read
abbrev pub unread : Option Line
unread = None

-- the promise of `read`: the content of the line, or the result for a text that is no line
pub data Reads (text : List ℕ) (r : Option Line) : Type 0 where
  a_line : (letter : ℕ) (words : List (List ℕ)) → IsLine text letter words → r ≡ Some (line_of letter words) → Reads text r
  no_line : ((letter : ℕ) (words : List (List ℕ)) → IsLine text letter words → ⊥) → r ≡ unread → Reads text r

-- how many bytes stand before the first b, all where there is none
unfoldable pub index_of : ℕ → List ℕ → ℕ
index_of b [] = 0
index_of b (c ∷ text) = if eqb c b then 0 otherwise suc (index_of b text)

-- where a line ends: how many bytes stand before the first line feed, the code 10, all where there is none
abbrev pub to_feed : List ℕ → ℕ
to_feed text = index_of 10 text
