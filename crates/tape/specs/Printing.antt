-- What is printed of a call (document 01, "The day program").
-- Assumes nothing.
use Rattle.std.specs.Prelude.{ℕ, zero, suc, ◌+◌, ◌/◌, ◌%◌, List, [], ◌∷◌, ◌++◌, map, leb, ltb, length}
use Rattle.std.proofs.lemmas.List.Edits.{sets}
use Rattle.forms.specs.Choice.{if◌then◌otherwise◌, all_of}
use Rattle.tape.specs.Lines.{parted}

-- the digits of a number, without leading zeros; the first number says how many digits it has at most
unfoldable pub decimal : ℕ → ℕ → List ℕ
decimal zero n = []
decimal (suc most) n = (if ltb n 10 then [] otherwise decimal most (n / 10)) ++ ((48 + n % 10) ∷ [])

-- the digits of any 64-bit number
unfoldable pub digits : ℕ → List ℕ
digits n = decimal 20 n

-- the two digits of a number below 100
abbrev pub two : ℕ → List ℕ
two n = (48 + n / 10) ∷ (48 + n % 10) ∷ []

-- the beginning of a printed line: the stock, the time and a mark or letter
unfoldable pub ahead : ℕ → ℕ → ℕ → List ℕ
ahead stock time letter = digits stock ++ parted (digits time ∷ (letter ∷ []) ∷ [])

-- a whole printed line: its beginning, the numbers of the answer, and the line feed, which is 10
unfoldable pub printed : ℕ → ℕ → ℕ → List ℕ → List ℕ
printed stock time letter numbers = ahead stock time letter ++ parted (map digits numbers) ++ (10 ∷ [])

-- bytes with text put into them, and the place behind it
pub record Printed : Type 0 where
  pub to : ℕ
  pub bytes : List ℕ

-- the promise of `print`: the line is put from a place on where there is room for the longest, 20 digits, 21 bytes for the time and for each of at
-- most 16 numbers, 2 for the letter, and the line feed; otherwise nothing is
unfoldable pub printing : List ℕ → ℕ → ℕ → ℕ → ℕ → List ℕ → Printed
printing bytes at stock time letter numbers =
    let text = printed stock time letter numbers in
    if all_of (leb (length numbers) 16 ∷ leb (at + 380) (length bytes) ∷ []) then record { to = at + length text; bytes = sets bytes at text } otherwise record { to = at; bytes = bytes }
