-- Which message a line is (document 01, "The day program").
-- Assumes nothing.
use Rattle.std.specs.Prelude.{ℕ, List, eqb, get_or, Option, Some, None}
use Rattle.forms.specs.Choice.{if◌then◌otherwise◌}
use Rattle.rules.specs.declared.Message.{Message}
use Rattle.rules.specs.declared.Message.TheVariants.{Trade, Quote, Opening, Pause, Reopening, Closing}
use Rattle.tape.specs.declared.Line.{Line}
use Rattle.day.specs.Blocks.{Blocks}
use Rattle.day.specs.Progress.{Progress}
use Rattle.day.specs.declared.Call.{Call}

-- the message of a line, by its numbers (stock, time, and then the letter's own) and the code of its letter, in this order: T, Q, O, P, R, X; any
-- other letter begins no message
unfoldable pub spoken_of : List ℕ → ℕ → Option Message
spoken_of numbers letter =
    let time = get_or numbers 1 0 in
    let third = get_or numbers 2 0 in
    let fourth = get_or numbers 3 0 in
    if eqb letter 84 then Some (Trade time third) otherwise
    if eqb letter 81 then Some (Quote time third fourth (get_or numbers 4 0)) otherwise
    if eqb letter 79 then Some (Opening time third fourth) otherwise
    if eqb letter 80 then Some (Pause time third) otherwise
    if eqb letter 82 then Some (Reopening time third fourth) otherwise
    if eqb letter 88 then Some (Closing time third fourth) otherwise None

-- the day at a line that says a message: "letter, stock, time"; it goes on while the output takes what is written
abbrev pub day_at : Line → Message → ℕ → ℕ → Blocks → Progress
day_at line message last left flow =
    let call : Call = record { letter = line.letter; stock = get_or line.numbers 0 0; time = get_or line.numbers 1 0; message = message } in
    record { flow = flow; next = (if flow.live then Some call otherwise None); last = last; left = left }

-- the day after its last line: no message is left, and it does not go on
abbrev pub ended_of : ℕ → Blocks → Progress
ended_of last flow = record { flow = flow; next = None; last = last; left = 0 }
