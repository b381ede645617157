-- What is printed of an answer, and where in the output's block (document 01, "The day program").
-- Assumes nothing.
use Rattle.std.specs.Prelude.{ℕ, ◌-◌, ◌%◌, List, [], ◌∷◌, ltb, length}
use Rattle.forms.specs.Choice.{if◌then◌otherwise◌}
use Rattle.rules.specs.declared.Answer.{Answer}
use Rattle.tape.specs.Printing.{Printed, printing}

-- the letter of a moment's mark
abbrev pub mark_of : ℕ → ℕ
mark_of mark = mark % 256

-- the nine numbers of an answer, in the order in which a line prints them
abbrev pub printed_of : Answer → List ℕ
printed_of a =
    a.number ∷ a.state ∷ a.reference ∷ a.lower ∷ a.upper ∷ a.best.bid.price ∷ a.best.bid.flag ∷ a.best.offer.price
    ∷ a.best.offer.flag ∷ []

-- the place of the next line in a block of so many bytes: after the pending output, or, where the line might not fit there, at the front once
-- that is written
unfoldable pub place_of : ℕ → ℕ → ℕ
place_of size at = if ltb (size - at) 380 then 0 otherwise at

-- the block with the line of an answer in it
abbrev pub put_of : List ℕ → ℕ → ℕ → ℕ → ℕ → Answer → Printed
put_of bytes at stock time letter a = printing bytes (place_of (length bytes) at) stock time letter (printed_of a)
