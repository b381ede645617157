-- How `read` scans a line after its letter, byte by byte. It need not be trusted: `Reads` states the result.
-- Assumes nothing.
use Rattle.std.specs.Prelude.{ℕ, ◌+◌, ◌-◌, not, leb, ltb, eqb, set, replicate, Option, Some, None}
use mathlib.Core.List.{List, [], ◌∷◌, foldl}
use Rattle.forms.specs.Choice.{if◌then◌otherwise◌, any_of}
use Rattle.tape.specs.Lines.{further, numbers_after, unread}
use Rattle.tape.specs.declared.Line.{Line}
use Rattle.tape.specs.declared.scan.Scan.{Scan}
use Rattle.tape.specs.declared.scan.Reading.{Reading}

-- ------------------------------------------------------------------ the number that is open

-- a space opens a number
unfoldable pub opened : Scan → Option Scan
opened s = if any_of (eqb s.digits 0 ∷ leb 5 s.count ∷ []) then None otherwise Some (record { count = s.count + 1; digits = 0; value = 0 })

-- a digit lengthens the open number
unfoldable pub digit : Scan → ℕ → Option Scan
digit s c =
    if any_of (eqb s.count 0 ∷ leb 10 s.digits ∷ ltb 4_294_967_295 (further s.value c) ∷ []) then None otherwise
    Some (record { count = s.count; digits = s.digits + 1; value = further s.value c })

-- the scan after the next byte: any byte but a space and a digit is wrong
unfoldable pub step : Scan → ℕ → Option Scan
step s c = if eqb c 32 then opened s otherwise if any_of (ltb c 48 ∷ ltb 57 c ∷ []) then None otherwise digit s c

-- ------------------------------------------------------------------ all numbers

-- the numbers with the open one, if there is one, in its place
unfoldable pub closed : List ℕ → Scan → List ℕ
closed numbers s = if any_of (eqb s.count 0 ∷ ltb 5 s.count ∷ []) then numbers otherwise set numbers (s.count - 1) s.value

-- the numbers after a byte: a space closes a number
unfoldable pub kept : Reading → ℕ → List ℕ
kept r c = if eqb c 32 then closed r.numbers r.scan otherwise r.numbers

-- the reading with another scan, if there is one
abbrev pub with_scan : List ℕ → Option Scan → Option Reading
with_scan numbers None = None
with_scan numbers (Some s) = Some (record { scan = s; numbers = numbers })

-- the reading right after the letter
abbrev pub begun : Reading
begun = record { scan = record { count = 0; digits = 1; value = 0 }; numbers = replicate 5 0 }

-- the reading after the next byte; what was wrong stays so
abbrev pub turn : Option Reading → ℕ → Option Reading
turn None c = None
turn (Some r) c = with_scan (kept r c) (step r.scan c)

-- how many numbers a line of that letter has, if there is one
unfoldable pub wanted : ℕ → Option ℕ
wanted letter = if eqb (numbers_after letter) 0 then None otherwise Some (numbers_after letter)

-- the line at its end, which closes a number as a space does, if as many numbers were read as are wanted
unfoldable pub finished : ℕ → ℕ → Reading → Option Line
finished letter want r =
    if any_of (not (eqb r.scan.count want) ∷ eqb r.scan.digits 0 ∷ []) then unread otherwise
    Some (record { letter = letter; numbers = closed r.numbers r.scan })

-- the same of a reading that may have failed
abbrev pub ended : ℕ → Option ℕ → Option Reading → Option Line
ended letter None r = unread
ended letter (Some want) None = unread
ended letter (Some want) (Some r) = finished letter want r

-- the line of a whole text
unfoldable pub scanned : List ℕ → Option Line
scanned [] = unread
scanned (letter ∷ rest) = ended letter (wanted letter) (foldl turn (Some begun) rest)
