-- When a pause begins that no message declared (demand 3, its last sentence; document 01, "Moments": x), and since when a stock is in
-- Limit or in a pause.
-- Assumes nothing.
use Rattle.std.specs.Prelude.{ℕ, [], ◌∷◌, ◌≡◌, ltb}
use Rattle.forms.specs.Choice.{if◌then◌otherwise◌}
use Rattle.forms.specs.Words.{◌or◌, ◌and◌}
use Rattle.rules.specs.Stock.{Whole, Limit, Paused, Late, state_of}
use Rattle.rules.specs.Machine.{Event, message, moment, dated, becomes, Throughout, Since}
use Rattle.rules.specs.Book.{machine, Story}
use Rattle.rules.specs.Changes.{StartsPause, Enters}
use Rattle.rules.specs.declared.Notice.{Notice}
use Rattle.rules.specs.declared.Message.{Message}

-- the events before `time`
unfoldable pub before : ℕ → Story → Story
before time [] = []
before time (e ∷ es) = if ltb (dated machine e) time then e ∷ before time es otherwise []

-- in a pause of either kind
abbrev pub InPause : Whole → Type 0
InPause h = state_of h.stock ≡ Paused or state_of h.stock ≡ Late

-- a moment of the story, dated `time`, begins a pause
abbrev pub PauseAt : ℕ → Whole → Story → Type 0
PauseAt time h [] = ⊥
PauseAt time h (message m ∷ es) = PauseAt time (becomes machine h (message m)) es
PauseAt time h (moment n ∷ es) =
    (n.time ≡ time and ¬ InPause h and InPause (becomes machine h (moment n)))
    or PauseAt time (becomes machine h (moment n)) es

-- an event of the story, dated `time`, started a pause, and that pause has lasted to the story's end
abbrev pub PausedSince : ℕ → Whole → Story → Type 0
PausedSince time h es = Since machine (λ h e. StartsPause e) (Throughout machine InPause) time h es

-- the event enters Limit
abbrev pub EntersLimit : Whole → Event Message Notice → Type 0
EntersLimit h e = Enters h e (becomes machine h e).stock

-- the stock is in Limit throughout, and no event of the story enters it afresh
abbrev pub Lasts : Whole → Story → Type 0
Lasts h [] = state_of h.stock ≡ Limit
Lasts h (e ∷ es) = state_of h.stock ≡ Limit and ¬ EntersLimit h e and Lasts (becomes machine h e) es

-- an event of the story, dated `time`, entered Limit, and that stay has lasted to the story's end
abbrev pub LimitSince : ℕ → Whole → Story → Type 0
LimitSince time h es = Since machine EntersLimit Lasts time h es
