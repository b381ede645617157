-- A setup in words: which entries of its list are a stock's setup, and the table of its numbers (document 01, "What the book holds",
-- "Numbers given back"). Ranges are those of the rules' Words; the key of the rules' Demands.antt says how to read them.
-- Assumes nothing.
use Rattle.std.specs.Prelude.{ℕ, ◌+◌, ◌*◌, ◌<◌, List, [], ◌∷◌, ◌≡◌, length, get_or}
use Rattle.forms.specs.Words.{◌or◌, Number}
use Rattle.forms.specs.Words.Number.{◌for◌}
use Rattle.rules.specs.Words.{IsShape, IsEnd, IsSetup}
use Rattle.rules.specs.declared.Setup.{Setup}

-- the setup of stock i: tier, leverage, primary and close, the entries from 4 i on in this order
abbrev pub setup_in : List ℕ → ℕ → Setup
setup_in list i = record {
  tier = get_or list (4 * i) 0;
  leverage = get_or list (4 * i + 1) 0;
  primary = get_or list (4 * i + 2) 0;
  close = get_or list (4 * i + 3) 0;
}

-- the numbers of a setup: 1 for a wrong shape and for a list that does not have four numbers for each stock; 2 for an E or a setup out of range
abbrev pub setup_refusals : ℕ → ℕ → ℕ → ℕ → List ℕ → List Number
setup_refusals stocks times prices end list =
    1 for (¬ IsShape stocks times prices or ¬ (length list ≡ 4 * stocks)) ∷
    2 for (¬ IsEnd end or ((i : ℕ) × (i < stocks) × ¬ IsSetup (setup_in list i))) ∷
    []
