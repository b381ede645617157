-- Words and lines at the edges of what is read and printed, computed (document 01, "The day program").
-- Assumes nothing.
use Rattle.std.specs.Prelude.{ℕ, Bool, true, false, not, List, [], ◌∷◌, ◌≡◌, eqb, Option, Some}
use Rattle.forms.specs.Choice.{if◌then◌otherwise◌, all_of}
use Rattle.tape.specs.Lines.{is_number, spelt, unread, Reads, to_feed}
use Rattle.tape.specs.Printing.{printed}
use Rattle.tape.specs.declared.Line.{Line}

-- ------------------------------------------------------------------ words

-- a word, and the number that it is, where it is one
pub record Word : Type 0 where
  pub bytes : List ℕ
  pub number : Bool
  pub value : ℕ

unfoldable pub right : Word → Bool
right w = if w.number then all_of (is_number w.bytes ∷ eqb (spelt w.bytes) w.value ∷ []) otherwise not (is_number w.bytes)

abbrev number : List ℕ → ℕ → Word
number bytes value = record { bytes = bytes; number = true; value = value }

abbrev none : List ℕ → Word
none bytes = record { bytes = bytes; number = false; value = 0 }

-- `0`, `7`, ten digits that are zeros but for the last, the highest number; no digit, one over the highest, eleven digits, the codes
-- before `0` and behind `9`, and a sign
abbrev pub words : List Word
words =
    number (48 ∷ []) 0 ∷ number (55 ∷ []) 7 ∷ number (48 ∷ 48 ∷ 48 ∷ 48 ∷ 48 ∷ 48 ∷ 48 ∷ 48 ∷ 48 ∷ 55 ∷ []) 7
    ∷ number (52 ∷ 50 ∷ 57 ∷ 52 ∷ 57 ∷ 54 ∷ 55 ∷ 50 ∷ 57 ∷ 53 ∷ []) 4_294_967_295 ∷ none [] ∷ none (52 ∷ 50 ∷ 57 ∷ 52 ∷ 57 ∷ 54 ∷ 55 ∷ 50 ∷ 57 ∷ 54 ∷ [])
    ∷ none (48 ∷ 48 ∷ 48 ∷ 48 ∷ 48 ∷ 48 ∷ 48 ∷ 48 ∷ 48 ∷ 48 ∷ 55 ∷ []) ∷ none (49 ∷ 47 ∷ []) ∷ none (49 ∷ 58 ∷ []) ∷ none (43 ∷ 49 ∷ []) ∷ []

-- ------------------------------------------------------------------ lines that are read

-- a text, and what is read in it
pub record Example : Type 0 where
  pub text : List ℕ
  pub line : Option Line

-- each text is read as its example says
abbrev pub AllRead : List Example → Type 0
AllRead [] = Unit {0}
AllRead (e ∷ es) = Reads e.text e.line × AllRead es

-- `C 1 7 23400000`, `S 2 1 2 115000`, `T 0 5000 92000`, `Q 0 2000 5 114900 115100`, `O 0 1000 2 115000`, `P 0 5000 2`, `R 0 319000 2 95000`, `X 0 5000 2 7`;
-- these are no lines: `Q 0 2000 5 114900`, `T 0 5000 92000 1`, `t 0 5000 92000`, `T  0 5000 92000`, `T 0 5000 92000 `, `T`, `T 0 5000 92000` and a carriage
-- return (13), the same with a tab (9) for its first space, and no byte
abbrev pub lines : List Example
lines =
    record { text = (67 ∷ 32 ∷ 49 ∷ 32 ∷ 55 ∷ 32 ∷ 50 ∷ 51 ∷ 52 ∷ 48 ∷ 48 ∷ 48 ∷ 48 ∷ 48 ∷ []); line = Some (record { letter = 67; numbers = 1 ∷ 7 ∷ 23_400_000 ∷ 0 ∷ 0 ∷ [] }) }
    ∷ record { text = (83 ∷ 32 ∷ 50 ∷ 32 ∷ 49 ∷ 32 ∷ 50 ∷ 32 ∷ 49 ∷ 49 ∷ 53 ∷ 48 ∷ 48 ∷ 48 ∷ []); line = Some (record { letter = 83; numbers = 2 ∷ 1 ∷ 2 ∷ 115_000 ∷ 0 ∷ [] }) }
    ∷ record { text = (84 ∷ 32 ∷ 48 ∷ 32 ∷ 53 ∷ 48 ∷ 48 ∷ 48 ∷ 32 ∷ 57 ∷ 50 ∷ 48 ∷ 48 ∷ 48 ∷ []); line = Some (record { letter = 84; numbers = 0 ∷ 5_000 ∷ 92_000 ∷ 0 ∷ 0 ∷ [] }) }
    ∷ record { text = (81 ∷ 32 ∷ 48 ∷ 32 ∷ 50 ∷ 48 ∷ 48 ∷ 48 ∷ 32 ∷ 53 ∷ 32 ∷ 49 ∷ 49 ∷ 52 ∷ 57 ∷ 48 ∷ 48 ∷ 32 ∷ 49 ∷ 49 ∷ 53 ∷ 49 ∷ 48 ∷ 48 ∷ []); line = Some (record { letter = 81; numbers = 0 ∷ 2_000 ∷ 5 ∷ 114_900 ∷ 115_100 ∷ [] }) }
    ∷ record { text = (79 ∷ 32 ∷ 48 ∷ 32 ∷ 49 ∷ 48 ∷ 48 ∷ 48 ∷ 32 ∷ 50 ∷ 32 ∷ 49 ∷ 49 ∷ 53 ∷ 48 ∷ 48 ∷ 48 ∷ []); line = Some (record { letter = 79; numbers = 0 ∷ 1_000 ∷ 2 ∷ 115_000 ∷ 0 ∷ [] }) }
    ∷ record { text = (80 ∷ 32 ∷ 48 ∷ 32 ∷ 53 ∷ 48 ∷ 48 ∷ 48 ∷ 32 ∷ 50 ∷ []); line = Some (record { letter = 80; numbers = 0 ∷ 5_000 ∷ 2 ∷ 0 ∷ 0 ∷ [] }) }
    ∷ record { text = (82 ∷ 32 ∷ 48 ∷ 32 ∷ 51 ∷ 49 ∷ 57 ∷ 48 ∷ 48 ∷ 48 ∷ 32 ∷ 50 ∷ 32 ∷ 57 ∷ 53 ∷ 48 ∷ 48 ∷ 48 ∷ []); line = Some (record { letter = 82; numbers = 0 ∷ 319_000 ∷ 2 ∷ 95_000 ∷ 0 ∷ [] }) }
    ∷ record { text = (88 ∷ 32 ∷ 48 ∷ 32 ∷ 53 ∷ 48 ∷ 48 ∷ 48 ∷ 32 ∷ 50 ∷ 32 ∷ 55 ∷ []); line = Some (record { letter = 88; numbers = 0 ∷ 5_000 ∷ 2 ∷ 7 ∷ 0 ∷ [] }) }
    ∷ record { text = (81 ∷ 32 ∷ 48 ∷ 32 ∷ 50 ∷ 48 ∷ 48 ∷ 48 ∷ 32 ∷ 53 ∷ 32 ∷ 49 ∷ 49 ∷ 52 ∷ 57 ∷ 48 ∷ 48 ∷ []); line = unread }
    ∷ record { text = (84 ∷ 32 ∷ 48 ∷ 32 ∷ 53 ∷ 48 ∷ 48 ∷ 48 ∷ 32 ∷ 57 ∷ 50 ∷ 48 ∷ 48 ∷ 48 ∷ 32 ∷ 49 ∷ []); line = unread }
    ∷ record { text = (116 ∷ 32 ∷ 48 ∷ 32 ∷ 53 ∷ 48 ∷ 48 ∷ 48 ∷ 32 ∷ 57 ∷ 50 ∷ 48 ∷ 48 ∷ 48 ∷ []); line = unread }
    ∷ record { text = (84 ∷ 32 ∷ 32 ∷ 48 ∷ 32 ∷ 53 ∷ 48 ∷ 48 ∷ 48 ∷ 32 ∷ 57 ∷ 50 ∷ 48 ∷ 48 ∷ 48 ∷ []); line = unread }
    ∷ record { text = (84 ∷ 32 ∷ 48 ∷ 32 ∷ 53 ∷ 48 ∷ 48 ∷ 48 ∷ 32 ∷ 57 ∷ 50 ∷ 48 ∷ 48 ∷ 48 ∷ 32 ∷ []); line = unread }
    ∷ record { text = (84 ∷ []); line = unread }
    ∷ record { text = (84 ∷ 32 ∷ 48 ∷ 32 ∷ 53 ∷ 48 ∷ 48 ∷ 48 ∷ 32 ∷ 57 ∷ 50 ∷ 48 ∷ 48 ∷ 48 ∷ 13 ∷ []); line = unread }
    ∷ record { text = (84 ∷ 9 ∷ 48 ∷ 32 ∷ 53 ∷ 48 ∷ 48 ∷ 48 ∷ 32 ∷ 57 ∷ 50 ∷ 48 ∷ 48 ∷ 48 ∷ []); line = unread }
    ∷ record { text = []; line = unread } ∷ []

-- ------------------------------------------------------------------ where a line ends

-- bytes, and how many of them stand before the first line feed
pub record Ending : Type 0 where
  pub bytes : List ℕ
  pub before : ℕ

unfoldable pub ends : Ending → Bool
ends e = eqb (to_feed e.bytes) e.before

-- `T 0 5000 9`, a carriage return (13), `1`, a line feed (10) and `T`; `9`, a carriage return and a line feed; the same without the line feed; a line
-- feed ahead of a carriage return; no byte
abbrev pub endings : List Ending
endings =
    record { bytes = (84 ∷ 32 ∷ 48 ∷ 32 ∷ 53 ∷ 48 ∷ 48 ∷ 48 ∷ 32 ∷ 57 ∷ 13 ∷ 49 ∷ 10 ∷ 84 ∷ []); before = 12 }
    ∷ record { bytes = (57 ∷ 13 ∷ 10 ∷ []); before = 2 }
    ∷ record { bytes = (57 ∷ 13 ∷ []); before = 2 }
    ∷ record { bytes = (10 ∷ 13 ∷ []); before = 0 }
    ∷ record { bytes = []; before = 0 } ∷ []

-- ------------------------------------------------------------------ a line that is printed

-- `0 1000 O 0 1 115000 92000 138000 0 0 0 0`, the first line that document 01's day prints
abbrev pub FirstLine : Type 0
FirstLine =
    printed 0 1000 79 (0 ∷ 1 ∷ 115_000 ∷ 92_000 ∷ 138_000 ∷ 0 ∷ 0 ∷ 0 ∷ 0 ∷ [])
    ≡ (48 ∷ 32 ∷ 49 ∷ 48 ∷ 48 ∷ 48 ∷ 32 ∷ 79 ∷ 32 ∷ 48 ∷ 32 ∷ 49 ∷ 32 ∷ 49 ∷ 49 ∷ 53 ∷ 48 ∷ 48 ∷ 48 ∷ 32 ∷ 57 ∷ 50 ∷ 48 ∷ 48 ∷ 48 ∷ 32 ∷ 49 ∷ 51 ∷ 56 ∷ 48
    ∷ 48 ∷ 48 ∷ 32 ∷ 48 ∷ 32 ∷ 48 ∷ 32 ∷ 48 ∷ 32 ∷ 48 ∷ 10 ∷ [])
