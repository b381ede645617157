-- What the day program's lines obey (document 01, "The day program"). Each field is a theorem: `laws` of proofs/Laws.antt proves the record.
-- Assumes nothing.
use Rattle.std.specs.Prelude.{ℕ, ◌+◌, ◌*◌, ◌≤◌, ◌<◌, Bool, true, false, List, [], ◌∷◌, ◌++◌, ◌↔◌, ◌≡◌, length, get_or, drop, Option, Some, None, IsSome}
use Rattle.std.proofs.lemmas.List.Edits.{sets}
use Rattle.forms.specs.Words.{◌or◌, ◌and◌, IsOneOf}
use Rattle.rules.specs.Words.{IsEnd, IsSetup}
use Rattle.rules.specs.declared.Answer.{Answer}
use Rattle.rules.specs.declared.Message.{Message}
use Rattle.rules.specs.declared.Message.TheVariants.{Trade, Quote, Opening, Pause, Reopening, Closing}
use Rattle.tape.specs.Lines.{IsLine, line_of, Reads}
use Rattle.tape.specs.Printing.{printed}
use Rattle.tape.specs.declared.Line.{Line}
use Rattle.day.specs.Blocks.{Blocks}
use Rattle.day.specs.Progress.{Progress}
use Rattle.day.specs.Flow.{Sees, lowered, flushed, found_of, missing_of, with_flow}
use Rattle.day.specs.Spoken.{spoken_of, day_at, ended_of}
use Rattle.day.specs.Contents.{contents_of, setup_of, is_setup, entered}
use Rattle.day.specs.Printed.{mark_of, printed_of, place_of, put_of}
use Rattle.day.specs.declared.Contents.{Contents}
use Rattle.day.specs.declared.flow.Seen.{Seen}

-- ------------------------------------------------------------------ the lines of the input's block

-- a text of at most 56 bytes and its line feed are found whole, whatever follows, and the text is read
abbrev pub TextFound : Type 0
TextFound = (bytes text rest : List ℕ) (from to : ℕ) (r : Option Seen) → length text ≤ 56 → ((j : ℕ) → j < length text → ¬ (get_or text j 0 ≡ 10))
    → drop from bytes ≡ text ++ 10 ∷ rest → from + length text < to → Sees bytes from to r
    → (s : Seen) × (r ≡ Some s and Reads text s.line and s.next ≡ from + length text + 1)

-- no line is found where no line feed is among the next 57 bytes, or among all where there are fewer
abbrev pub NoneFound : Type 0
NoneFound = (bytes : List ℕ) (from to : ℕ) (r : Option Seen) → to ≤ length bytes
    → ((j : ℕ) → j < 57 → from + j < to → ¬ (get_or bytes (from + j) 0 ≡ 10)) → Sees bytes from to r
    → r ≡ None

-- a whole line with its line feed is found, with its letter and its numbers
abbrev pub LineFound : Type 0
LineFound = (bytes text rest : List ℕ) (from to letter : ℕ) (words : List (List ℕ)) (r : Option Seen) → IsLine text letter words
    → drop from bytes ≡ text ++ 10 ∷ rest → from + length text < to → Sees bytes from to r
    → r ≡ Some (record { line = Some (line_of letter words); next = from + length text + 1 })

-- a line that was found is the result, with the place after it; both blocks stay
abbrev pub LineTaken : Type 0
LineTaken = (line : Option Line) (next : ℕ) (f : Blocks) → let t = found_of line next f in
    t.line ≡ line and t.flow.from ≡ next and t.flow.to ≡ f.to and t.flow.at ≡ f.at and t.flow.input ≡ f.input and t.flow.output ≡ f.output
    and t.flow.live ≡ f.live

-- where no line was found, there is none in the result, and nothing changes
abbrev pub NoneTaken : Type 0
NoneTaken = (f : Blocks) → (missing_of f).line ≡ None and (missing_of f).flow ≡ f

-- after a flush nothing is left to be written, also where the output refuses it, and everything else stays
abbrev pub Flushes : Type 0
Flushes = (live : Bool) (f : Blocks) → let g = flushed live f in
    g.at ≡ 0 and g.from ≡ f.from and g.to ≡ f.to and g.input ≡ f.input and g.output ≡ f.output and g.live ≡ live

-- the bytes kept are those from a place on, in their order, and every other byte stays where it was
pub record Lowers (bytes after : List ℕ) (gone keep : ℕ) : Type 0 where
  pub kept_first : (j : ℕ) → j < keep → get_or after j 0 ≡ get_or bytes (gone + j) 0
  pub others_stay : (j : ℕ) → keep ≤ j → get_or after j 0 ≡ get_or bytes j 0
  pub as_long : length after ≡ length bytes

-- ------------------------------------------------------------------ the message of a line

-- `spoken_of numbers code`: the message of each letter. A line has stock and time; then T has a price, Q a participant with bid and offer, P a
-- participant, and O, R and X have a participant with a price
pub record Messages (stock time : ℕ) (rest : List ℕ) : Type 0 where
  pub t_is : (price : ℕ) → spoken_of (stock ∷ time ∷ price ∷ rest) 84 ≡ Some (Trade time price)
  pub q_is : (participant bid offer : ℕ) → spoken_of (stock ∷ time ∷ participant ∷ bid ∷ offer ∷ rest) 81 ≡ Some (Quote time participant bid offer)
  pub o_is : (participant price : ℕ) → spoken_of (stock ∷ time ∷ participant ∷ price ∷ rest) 79 ≡ Some (Opening time participant price)
  pub p_is : (participant : ℕ) → spoken_of (stock ∷ time ∷ participant ∷ rest) 80 ≡ Some (Pause time participant)
  pub r_is : (participant price : ℕ) → spoken_of (stock ∷ time ∷ participant ∷ price ∷ rest) 82 ≡ Some (Reopening time participant price)
  pub x_is : (participant price : ℕ) → spoken_of (stock ∷ time ∷ participant ∷ price ∷ rest) 88 ≡ Some (Closing time participant price)

-- no other letter begins a message: not C or S
abbrev pub NoOther : Type 0
NoOther = (numbers : List ℕ) (letter : ℕ) → ¬ IsOneOf letter (84 ∷ 81 ∷ 79 ∷ 80 ∷ 82 ∷ 88 ∷ []) → spoken_of numbers letter ≡ None

-- the letter, the stock, the time and the message with which the day goes on, while the output takes what is written, and what is left of it
abbrev pub AtMessage : Type 0
AtMessage = (letter stock time last left : ℕ) (rest : List ℕ) (m : Message) (f : Blocks)
    → let d = day_at (record { letter = letter; numbers = stock ∷ time ∷ rest }) m last left f in
    (f.live ≡ true → d.next ≡ Some (record { letter = letter; stock = stock; time = time; message = m })) and (f.live ≡ false → d.next ≡ None)
    and d.last ≡ last and d.left ≡ left and d.flow ≡ f

-- after the line of a moment the day goes on with the same message, with its letter, stock and time, while the output takes what is written
abbrev pub SameMessage : Type 0
SameMessage = (d : Progress) (f : Blocks) → let e = with_flow d f in
    (f.live ≡ true → e.next ≡ d.next) and (f.live ≡ false → e.next ≡ None) and e.last ≡ d.last and e.left ≡ d.left and e.flow ≡ f

-- a day that has ended does not go on, and no message is left
abbrev pub Ended : Type 0
Ended = (last : ℕ) (f : Blocks) → let d = ended_of last f in d.next ≡ None and d.left ≡ 0 and d.last ≡ last and d.flow ≡ f

-- whatever is read of `Q 0 2000 5 114900 115100` says the quote of participant 5 with this bid and this offer
abbrev pub QuoteHeard : Type 0
QuoteHeard = (r : Option Line)
    → Reads (81 ∷ 32 ∷ 48 ∷ 32 ∷ 50 ∷ 48 ∷ 48 ∷ 48 ∷ 32 ∷ 53 ∷ 32 ∷ 49 ∷ 49 ∷ 52 ∷ 57 ∷ 48 ∷ 48 ∷ 32 ∷ 49 ∷ 49 ∷ 53 ∷ 49 ∷ 48 ∷ 48 ∷ []) r
    → (l : Line) × (r ≡ Some l and spoken_of l.numbers l.letter ≡ Some (Quote 2_000 5 114_900 115_100))

-- ------------------------------------------------------------------ the lines ahead of the messages

-- `C stocks messages E` is good where there are 1 to 8 stocks and E is in range; 67 is the code of C
abbrev pub GoodContents : Type 0
GoodContents = (letter stocks messages end : ℕ) (rest : List ℕ)
    → IsSome (contents_of (record { letter = letter; numbers = stocks ∷ messages ∷ end ∷ rest }))
    ↔ (letter ≡ 67 and 1 ≤ stocks and stocks ≤ 8 and IsEnd end)

-- a first line gives these numbers
abbrev pub SaysContents : Type 0
SaysContents = (letter stocks messages end : ℕ) (rest : List ℕ) (c : Contents)
    → contents_of (record { letter = letter; numbers = stocks ∷ messages ∷ end ∷ rest }) ≡ Some c
    → c.stocks ≡ stocks and c.messages ≡ messages and c.end ≡ end

-- `S tier leverage primary close` is a setup where these are in range; 83 is the code of S
abbrev pub WhichSetup : Type 0
WhichSetup = (letter tier leverage primary close : ℕ) (rest : List ℕ)
    → (is_setup (record { letter = letter; numbers = tier ∷ leverage ∷ primary ∷ close ∷ rest }) ≡ true)
    ↔ (letter ≡ 83 and IsSetup (record { tier = tier; leverage = leverage; primary = primary; close = close }))

-- stock i has the places from 4 i on, which then hold its tier, leverage, primary and close; every other place is left as it was
pub record Enters (list after : List ℕ) (i tier leverage primary close : ℕ) : Type 0 where
  pub tier_first : get_or after (4 * i) 0 ≡ tier
  pub then_leverage : get_or after (4 * i + 1) 0 ≡ leverage
  pub then_primary : get_or after (4 * i + 2) 0 ≡ primary
  pub then_close : get_or after (4 * i + 3) 0 ≡ close
  pub others_stay : (j : ℕ) → j < 4 * i or 4 * i + 4 ≤ j → get_or after j 0 ≡ get_or list j 0
  pub as_long : length after ≡ length list

-- ------------------------------------------------------------------ what is printed

-- the nine numbers of an answer, in the order in which a line prints them
abbrev pub NineNumbers : Type 0
NineNumbers = (number state reference lower upper bid bid_flag offer offer_flag : ℕ)
    → printed_of (record {
      number = number;
      state = state;
      reference = reference;
      lower = lower;
      upper = upper;
      best = record { bid = record { price = bid; flag = bid_flag }; offer = record { price = offer; flag = offer_flag } };
    })
    ≡ (number ∷ state ∷ reference ∷ lower ∷ upper ∷ bid ∷ bid_flag ∷ offer ∷ offer_flag ∷ [])

-- a block of 380 bytes or more always takes the whole line: after the pending output where 380 bytes are left, else at the front
abbrev pub LineIsPut : Type 0
LineIsPut = (bytes : List ℕ) (at stock time letter : ℕ) (a : Answer) → 380 ≤ length bytes → at ≤ length bytes
    → let text = printed stock time letter (printed_of a) in
    let place = place_of (length bytes) at in
    (at + 380 ≤ length bytes → place ≡ at) and (length bytes < at + 380 → place ≡ 0)
    and put_of bytes at stock time letter a ≡ record { to = place + length text; bytes = sets bytes place text }

-- ------------------------------------------------------------------ the laws

pub record Laws : Type 0 where
  pub text_found : TextFound
  pub none_found : NoneFound
  pub line_found : LineFound
  pub line_taken : LineTaken
  pub none_taken : NoneTaken
  pub flushes : Flushes
  pub lowers : (bytes : List ℕ) (gone keep : ℕ) → gone + keep ≤ length bytes → Lowers bytes (lowered bytes gone keep) gone keep
  pub messages : (stock time : ℕ) (rest : List ℕ) → Messages stock time rest
  pub no_other : NoOther
  pub at_message_lem : AtMessage
  pub same_message : SameMessage
  pub ended : Ended
  pub quote_heard : QuoteHeard
  pub good_contents : GoodContents
  pub says_contents : SaysContents
  pub which_setup : WhichSetup
  pub enters : (list : List ℕ) (i tier leverage primary close : ℕ) (rest : List ℕ) → 4 * i + 4 ≤ length list
      → Enters list (entered list i (setup_of (tier ∷ leverage ∷ primary ∷ close ∷ rest))) i tier leverage primary close
  pub nine_numbers : NineNumbers
  pub line_is_put : LineIsPut
  -- a mark is a letter's code, and printed as it is
  pub mark_stays : (mark : ℕ) → mark < 256 → mark_of mark ≡ mark
