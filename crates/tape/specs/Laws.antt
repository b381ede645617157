-- What lines obey. Each field is a theorem: `laws` of proofs/Laws.antt proves the record.
-- Assumes nothing.
use Rattle.std.specs.Prelude.{ℕ, ◌+◌, ◌-◌, ◌*◌, ◌/◌, ◌%◌, ◌≤◌, ◌<◌, true, List, [], ◌∷◌, ◌++◌, map, ◌↔◌, ◌≡◌, length, get_or, Option, None}
use Rattle.forms.specs.Promises.{Determines}
use Rattle.forms.specs.Tables.{every}
use Rattle.forms.specs.Words.{◌and◌, Gives}
use Rattle.tape.specs.Examples.{right, words, AllRead, lines, ends, endings, FirstLine}
use Rattle.tape.specs.Lines.{is_number, spelt, IsLine, line_of, unread, Reads, to_feed}
use Rattle.tape.specs.Printing.{digits, printed, Printed, printing}
use Rattle.tape.specs.Words.{Every, IsFeed, IsWord, spaced, counts}
use Rattle.tape.specs.declared.Line.{Line}

-- ------------------------------------------------------------------ in words

-- where a line ends
abbrev pub FeedIs : Type 0
FeedIs = (text : List ℕ) → IsFeed text (to_feed text)

-- a line is a letter and as many words as follow that letter, each behind one space
abbrev pub LineIs : Type 0
LineIs = (text : List ℕ) (letter : ℕ) (words : List (List ℕ))
    → IsLine text letter words ↔ (text ≡ letter ∷ spaced words and Every IsWord words and 1 ≤ length words and Gives (counts letter) (length words))

-- a line is read as its letter and the numbers that its words spell, in their order; of a text that is no line nothing is read
abbrev pub ReadAs : Type 0
ReadAs = (letter : ℕ) (words : List (List ℕ)) → let l = line_of letter words in
    l.letter ≡ letter and ((j : ℕ) → j < length words → get_or l.numbers j 0 ≡ spelt (get_or words j [])) and unread ≡ None

-- a number with one more digit is ten times the number before it, plus the digit
abbrev pub SpeltIs : Type 0
SpeltIs = spelt [] ≡ 0 and ((word : List ℕ) (c : ℕ) → spelt (word ++ (c ∷ [])) ≡ 10 * spelt word + (c - 48))

-- a number below ten is printed as its digit, any other of 64 bits as a tenth of it and one digit more
abbrev pub DigitsAre : Type 0
DigitsAre = (n : ℕ) → (n < 10 → digits n ≡ (48 + n) ∷ []) and (10 ≤ n → n < 18_446_744_073_709_551_616 → digits n ≡ digits (n / 10) ++ ((48 + n % 10) ∷ []))

-- a printed line: stock, time, letter and all numbers, and a line feed
abbrev pub PrintedIs : Type 0
PrintedIs = (stock time letter : ℕ) (numbers : List ℕ)
    → printed stock time letter numbers ≡ digits stock ++ (spaced (digits time ∷ (letter ∷ []) ∷ map digits numbers) ++ (10 ∷ []))

-- ------------------------------------------------------------------ what follows from them

-- the digits that printing writes are a number, and reading them gives it back
pub record ReadsBack (n : ℕ) : Type 0 where
  pub number : is_number (digits n) ≡ true
  pub same : spelt (digits n) ≡ n

-- a text is a line in one way only
abbrev pub OneWay : Type 0
OneWay = (text : List ℕ) (l m : ℕ) (ws vs : List (List ℕ)) → IsLine text l ws → IsLine text m vs → (l ≡ m) × (map spelt ws ≡ map spelt vs)

-- a line ends where its line feed stands, whatever follows
abbrev pub EndsThere : Type 0
EndsThere = (text rest : List ℕ) (l : ℕ) (ws : List (List ℕ)) → IsLine text l ws → to_feed (text ++ 10 ∷ rest) ≡ length text

-- no line is longer than a letter and five fields of a space and ten digits
abbrev pub NoLonger : Type 0
NoLonger = (text : List ℕ) (l : ℕ) (ws : List (List ℕ)) → IsLine text l ws → length text ≤ 56

-- ------------------------------------------------------------------ all of them

pub record Laws : Type 0 where
  pub feed_is : FeedIs
  pub line_is : LineIs
  pub read_as : ReadAs
  pub spelt_is : SpeltIs
  pub digits_are : DigitsAre
  pub printed_is : PrintedIs
  pub read_back : (n : ℕ) → n ≤ 4_294_967_295 → ReadsBack n
  pub one_way : OneWay
  pub ends_there : EndsThere
  pub no_longer : NoLonger
  -- the computed examples
  pub words_are_right : every right words ≡ true
  pub lines_are_read : AllRead lines
  pub feeds_end_lines : every ends endings ≡ true
  pub first_line : FirstLine
  -- two results that a promise of src/lib.rt allows agree
  pub read_determined : (text : List ℕ) → Determines (λ r. Reads text r)
  pub feed_determined : (text : List ℕ) → Determines (λ (r : ℕ). r ≡ to_feed text)
  pub unread_determined : Determines (λ (r : Option Line). r ≡ unread)
  pub print_determined : (bytes : List ℕ) (at stock time letter : ℕ) (numbers : List ℕ)
      → Determines (λ (r : Printed). r ≡ printing bytes at stock time letter numbers)
