-- One stock as a machine, a book of such machines, and what demands 2 and 3 say of it (the mission's demands; document 01,
-- "What the book holds"). It uses two numbers of the rules: 3 for an unknown stock, and 14 where no moment is due.
-- Assumes nothing.
use Rattle.std.specs.Prelude.{ℕ, ◌≤◌, ◌<◌, List, [], ◌∷◌, ◌++◌, map, ◌⊎◌, ◌≡◌, ltb, eqb, length, get_or, set}
use Rattle.forms.specs.Choice.{if◌then◌otherwise◌}

-- ------------------------------------------------------------------ the machine

-- What one stock is, and what a call on it does.
pub record Machine : Type 1 where
  pub Stock : Type 0
  pub Message : Type 0
  pub Notice : Type 0
  pub time : Message → ℕ
  pub date : Notice → ℕ
  pub clock : Stock → ℕ
  -- a moment is still to come, and the earliest is at that time
  pub Due : Stock → ℕ → Type 0
  -- the numbers that answer a message and settling to a time; 0 means done
  pub tells : Message → Stock → ℕ
  pub settles : ℕ → Stock → ℕ
  -- the stock after an accepted message, and after its earliest moment; that moment's notice
  pub after : Message → Stock → Stock
  pub fire : Stock → Stock
  pub notice : Stock → Notice

-- What demand 3 needs of the rules.
pub record MachineLaws (𝓜 : Machine) : Type 0 where
  -- a message is accepted at the clock or later, before every moment still to come, and moves the clock to its time
  pub not_back : (m : 𝓜.Message) (s : 𝓜.Stock) → 𝓜.tells m s ≡ 0 → 𝓜.clock s ≤ 𝓜.time m
  pub none_due : (m : 𝓜.Message) (s : 𝓜.Stock) → 𝓜.tells m s ≡ 0 → (d : ℕ) → 𝓜.Due s d → 𝓜.time m < d
  pub at_message_lem : (m : 𝓜.Message) (s : 𝓜.Stock) → 𝓜.clock (𝓜.after m s) ≡ 𝓜.time m
  -- a moment is settled at its own time, not before the clock, and its notice bears that time
  pub its_time : (t : ℕ) (s : 𝓜.Stock) → 𝓜.settles t s ≡ 0 → 𝓜.Due s (𝓜.date (𝓜.notice s))
  pub forward : (t : ℕ) (s : 𝓜.Stock) → 𝓜.settles t s ≡ 0 → 𝓜.clock s ≤ 𝓜.date (𝓜.notice s)
  pub at_moment : (s : 𝓜.Stock) → 𝓜.clock (𝓜.fire s) ≡ 𝓜.date (𝓜.notice s)
  -- 14 is given where nothing is due
  pub nothing_due : (t : ℕ) (s : 𝓜.Stock) → 𝓜.settles t s ≡ 14 → (d : ℕ) → 𝓜.Due s d → t < d

-- ------------------------------------------------------------------ what has happened

-- a call on one stock: a message, or settling to a time
pub data Call (M : Type 0) : Type 0 where
  tell : M → Call M
  settle : ℕ → Call M

-- what happened to one stock: a message was accepted, or a moment was settled
pub data Event (M N : Type 0) : Type 0 where
  message : M → Event M N
  moment : N → Event M N

module _ {M N : Type 0} where
  -- the messages among events, and the notices of the moments
  abbrev pub messages : List (Event M N) → List M
  messages [] = []
  messages (message m ∷ es) = m ∷ messages es
  messages (moment n ∷ es) = messages es

  abbrev pub notices : List (Event M N) → List N
  notices [] = []
  notices (message m ∷ es) = notices es
  notices (moment n ∷ es) = n ∷ notices es

-- something about one stock of a book
pub record On (A : Type 0) : Type 0 where
  pub at : ℕ
  pub it : A

-- those about the stock i
unfoldable pub of : {A : Type 0} → ℕ → List (On A) → List A
of i [] = []
of i (x ∷ xs) = (if eqb i x.at then x.it ∷ [] otherwise []) ++ of i xs

-- the proposition holds for each of a list
abbrev pub Every : {A : Type 0} → (A → Type 0) → List A → Type 0
Every P [] = Unit {0}
Every P (x ∷ xs) = P x × Every P xs

-- the journal of calls, where a function gives each call's number: those that were answered 0, in order
abbrev pub journal : {A : Type 0} → (A → ℕ) → List A → List A
journal number [] = []
journal number (x ∷ xs) = if eqb (number x) 0 then x ∷ journal number xs otherwise journal number xs

-- a journal that may have refused calls too: all calls that were answered 0 and any of the others, in order
abbrev pub IsJournal : {A : Type 0} → (A → ℕ) → List A → List A → Type 0
IsJournal number [] es = es ≡ []
IsJournal {A = A} number (x ∷ xs) es =
    ((rest : List A) × (es ≡ x ∷ rest) × IsJournal number xs rest) ⊎ (¬ (number x ≡ 0) × IsJournal number xs es)

module _ (𝓜 : Machine) where
  open 𝓜 use {Stock, Message, Notice, time, date, clock, tells, settles, after, fire, notice}

  -- ---------------------------------------------------------------- one stock

  -- what happened to one stock, the earliest first
  abbrev pub History : Type 0
  History = List (Event Message Notice)

  -- the date of an event
  abbrev pub dated : Event Message Notice → ℕ
  dated (message m) = time m
  dated (moment n) = date n

  -- the events that the rules allow to happen to a stock in a row
  abbrev pub Lawful : Stock → History → Type 0
  Lawful s [] = Unit {0}
  Lawful s (message m ∷ es) = (tells m s ≡ 0) × Lawful (after m s) es
  Lawful s (moment n ∷ es) = ((t : ℕ) × (settles t s ≡ 0)) × (n ≡ notice s) × Lawful (fire s) es

  -- the stock after an event
  abbrev pub becomes : Stock → Event Message Notice → Stock
  becomes s (message m) = after m s
  becomes s (moment n) = fire s

  -- the stock after a history
  abbrev pub left : Stock → History → Stock
  left s [] = s
  left s (e ∷ es) = left (becomes s e) es

  -- the proposition holds for the stock, and after each event of a history
  abbrev pub Throughout : (Stock → Type 0) → Stock → History → Type 0
  Throughout P s [] = P s
  Throughout P s (e ∷ es) = P s × Throughout P (becomes s e) es

  -- an event of the history, dated `t`, began what has lasted to the history's end
  abbrev pub Since : (Stock → Event Message Notice → Type 0) → (Stock → History → Type 0) → ℕ → Stock → History → Type 0
  Since Began Lasts t s [] = ⊥
  Since Began Lasts t s (e ∷ es) = ((dated e ≡ t) × Began s e × Lasts (becomes s e) es) ⊎ Since Began Lasts t (becomes s e) es

  -- ---------------------------------------------------------------- a call on one stock

  -- the number that answers a call
  abbrev pub number : Call Message → Stock → ℕ
  number (tell m) s = tells m s
  number (settle t) s = settles t s

  -- the stock after an accepted call
  abbrev pub done : Call Message → Stock → Stock
  done (tell m) s = after m s
  done (settle t) s = fire s

  -- the event that an accepted call makes happen
  abbrev pub event : Call Message → Stock → Event Message Notice
  event (tell m) s = message m
  event (settle t) s = moment (notice s)

  -- a call on one stock, and the stock that it found
  pub record Asked : Type 0 where
    pub call : Call Message
    pub found : Stock

  -- the call's number; and the calls of a list, without the stocks
  abbrev pub number_of : Asked → ℕ
  number_of x = number x.call x.found

  abbrev pub called : List Asked → List (Call Message)
  called xs = map (λ x. x.call) xs

  -- ---------------------------------------------------------------- a book, and calls that name a stock

  -- the stocks of a book, by their numbers
  abbrev pub Book : Type 0
  Book = List Stock

  -- calls on the stocks of a book
  abbrev pub Calls : Type 0
  Calls = List (On (Call Message))

  -- `blank` is read past the end of a book, where nothing is done
  module _ (blank : Stock) where
    -- the stock of a number
    abbrev pub stock : Book → ℕ → Stock
    stock b i = get_or b i blank

    -- the number that answers a call: 3 where there is no such stock
    unfoldable pub number_in : Book → On (Call Message) → ℕ
    number_in b c = if ltb c.at (length b) then number c.it (stock b c.at) otherwise 3

    -- the book after a call: a refused call changes nothing, an accepted one changes only its stock
    unfoldable pub step_in : Book → On (Call Message) → Book
    step_in b c = if eqb (number_in b c) 0 then set b c.at (done c.it (stock b c.at)) otherwise b

    -- what a call makes happen: nothing where it is refused
    unfoldable pub happens : Book → On (Call Message) → List (On (Event Message Notice))
    happens b c = if eqb (number_in b c) 0 then record { at = c.at; it = event c.it (stock b c.at) } ∷ [] otherwise []

    -- the book after calls
    abbrev pub run : Book → Calls → Book
    run b [] = b
    run b (c ∷ cs) = run (step_in b c) cs

    -- what has happened, each with its stock, in the order of the calls
    abbrev pub log : Book → Calls → List (On (Event Message Notice))
    log b [] = []
    log b (c ∷ cs) = happens b c ++ log (step_in b c) cs

    -- the calls, each with the stock that it found
    abbrev pub asked : Book → Calls → List (On Asked)
    asked b [] = []
    asked b (c ∷ cs) = record { at = c.at; it = record { call = c.it; found = stock b c.at } } ∷ asked (step_in b c) cs

    -- settled to T: nothing is due at T, and nothing later was settled
    pub record SettledTo (T : ℕ) (b : Book) (cs : Calls) : Type 0 where
      pub nothing_left : (i : ℕ) → i < length b → settles T (stock (run b cs) i) ≡ 14
      pub nothing_later : (i : ℕ) → Every (λ n. date n ≤ T) (notices (of i (log b cs)))

    -- a stock is what its own history leaves, and the rules allow that history
    abbrev pub ByHistory : Type 0
    ByHistory = (b : Book) (cs : Calls) (i : ℕ) → i < length b
        → Lawful (stock b i) (of i (log b cs)) × (stock (run b cs) i ≡ left (stock b i) (of i (log b cs)))

    -- where the stocks get the same messages and both books are settled to one time, the stocks and the dated notices are equal
    abbrev pub Alike : Type 0
    Alike = (b : Book) (cs ds : Calls) (T : ℕ) → SettledTo T b cs → SettledTo T b ds
        → ((i : ℕ) → messages (of i (log b cs)) ≡ messages (of i (log b ds)))
        → (i : ℕ) → i < length b
        → (stock (run b cs) i ≡ stock (run b ds) i) × (notices (of i (log b cs)) ≡ notices (of i (log b ds)))
