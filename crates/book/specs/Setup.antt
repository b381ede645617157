-- The setup of a whole book, and what it promises (document 01, "What the book holds", "Numbers given back").
-- Assumes nothing.
use Rattle.std.specs.Prelude.{ℕ, List, map, ◌≡◌, eqb, length}
use Rattle.forms.specs.Choice.{if◌then◌otherwise◌}
use Rattle.rules.specs.Numbers.{zeros}
use Rattle.rules.specs.declared.Answer.{Answer}
use Rattle.window.specs.Places.{wiped}
use Rattle.calls.specs.Setup.{setups_of, record_of, setup_number}
use Rattle.book.specs.Lent.{Lent, lent, Given}

-- ------------------------------------------------------------------ what a setup gives and leaves

-- the number that answers a setup of this book
abbrev pub number_of : ℕ → List ℕ → Lent → ℕ
number_of end list b = setup_number (length b.records) (length b.times) (length b.prices) end list

-- either every record is written from its setup and every place is 0, or every byte is as it was; the answer is the number with zeros
unfoldable pub setting : ℕ → List ℕ → Lent → Given Answer
setting end list b = record {
  answer = zeros (number_of end list b);
  book =
      if eqb (number_of end list b) 0 then
      lent (map (record_of end) (setups_of list)) (wiped b.times) (wiped b.prices)
      otherwise b;
}

-- the promise of a setup
abbrev pub SetsUp : ℕ → List ℕ → Lent → Answer → Lent → Type 0
SetsUp end list b r b' = ◌≡◌ {A = Given Answer} (record { answer = r; book = b' }) (setting end list b)
