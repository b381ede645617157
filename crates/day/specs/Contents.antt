-- What the lines ahead of the messages say (document 01, "The day program").
-- Assumes nothing.
use Rattle.std.specs.Prelude.{ℕ, ◌+◌, ◌*◌, Bool, not, List, [], ◌∷◌, leb, ltb, eqb, get_or, set, Option, Some, None}
use Rattle.forms.specs.Choice.{if◌then◌otherwise◌, all_of}
use Rattle.rules.specs.Numbers.{bad_end, bad_setup}
use Rattle.rules.specs.declared.Setup.{Setup}
use Rattle.tape.specs.declared.Line.{Line}
use Rattle.day.specs.declared.Contents.{Contents}

-- the line "`C stocks messages E`", with 1 to 8 stocks and an E that setup accepts; 67 is the code of C
unfoldable pub contents_of : Line → Option Contents
contents_of line =
    let stocks = get_or line.numbers 0 0 in
    let end = get_or line.numbers 2 0 in
    if all_of (eqb line.letter 67 ∷ ltb 0 stocks ∷ leb stocks 8 ∷ not (bad_end end) ∷ []) then Some (record { stocks = stocks; messages = get_or line.numbers 1 0; end = end })
    otherwise None

-- the setup that "`S tier leverage primary close`" says
abbrev pub setup_of : List ℕ → Setup
setup_of numbers = record { tier = get_or numbers 0 0; leverage = get_or numbers 1 0; primary = get_or numbers 2 0; close = get_or numbers 3 0 }

-- whether a line is such a line, with numbers that setup accepts; 83 is the code of S
unfoldable pub is_setup : Line → Bool
is_setup line = all_of (eqb line.letter 83 ∷ not (bad_setup (setup_of line.numbers)) ∷ [])

-- the list of setups, four numbers for each stock, with that of stock i entered
unfoldable pub entered : List ℕ → ℕ → Setup → List ℕ
entered list i u = set (set (set (set list (4 * i) u.tier) (4 * i + 1) u.leverage) (4 * i + 2) u.primary) (4 * i + 3) u.close
