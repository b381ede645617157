-- Days as they are printed (document 01, "The day program", "Easy slips"), document 01's own first.
-- Assumes nothing.
use Rattle.std.specs.Prelude.{ℕ, zero, suc, ◌+◌, Bool, true, false, List, [], ◌∷◌, ◌++◌, map, eqb}
use Rattle.forms.specs.Choice.{if◌then◌otherwise◌}
use Rattle.rules.specs.Counted.{Counted}
use Rattle.rules.specs.Moments.{mark_z, mark_w, mark_x, mark_p, mark_c, mark_v, mark_f, mark_h}
use Rattle.rules.specs.Messages.{letter_t, letter_q, letter_o, letter_p, letter_r, letter_x, letter, time_of}
use Rattle.rules.specs.Machine.{Call, tell, settle, On, notices, step_in}
use Rattle.rules.specs.Book.{counting, blank, book, now, story, book_tells, book_settles}
use Rattle.rules.specs.Readings.{limit_pauses}
use Rattle.rules.specs.declared.Setup.{Setup}
use Rattle.rules.specs.declared.Totals.{Totals}
use Rattle.rules.specs.declared.Answer.{Answer}
use Rattle.rules.specs.declared.Notice.{Notice}
use Rattle.rules.specs.declared.Message.{Message}
use Rattle.rules.specs.declared.Message.TheVariants.{Trade as T, Quote as Q, Opening as O, Pause as P, Reopening as R, Closing as X}

-- a printed line without its stock: time, mark or letter, and the numbers of the answer in their order
unfoldable pub line : ℕ → ℕ → Answer → List ℕ
line time mark a =
    time ∷ mark ∷ a.number ∷ a.state ∷ a.reference ∷ a.lower ∷ a.upper ∷
    a.best.bid.price ∷ a.best.bid.flag ∷ a.best.offer.price ∷ a.best.offer.flag ∷ []

abbrev pub noticed : Notice → List ℕ
noticed n = line n.time n.mark n.answer

-- a call on the one stock of a book
abbrev pub on_0 : Call Message → On (Call Message)
on_0 c = record { at = 0; it = c }

-- what calls on a book of one stock print: a settling that does no moment prints nothing
unfoldable pub printed : ℕ → List Counted → List (Call Message) → List (List ℕ)
printed end b [] = []
printed end b (tell m ∷ cs) = line (time_of m) (letter m) (book_tells end b 512 512 0 m) ∷ printed end (step_in counting (blank end) b (on_0 (tell m))) cs
printed end b (settle time ∷ cs) =
    let n = book_settles end b 512 512 0 time in
    (if eqb n.answer.number 0 then noticed n ∷ [] otherwise []) ++ printed end (step_in counting (blank end) b (on_0 (settle time))) cs

unfoldable pub same_numbers : List ℕ → List ℕ → Bool
same_numbers [] [] = true
same_numbers [] (y ∷ ys) = false
same_numbers (x ∷ xs) [] = false
same_numbers (x ∷ xs) (y ∷ ys) = if eqb x y then same_numbers xs ys otherwise false

unfoldable pub same_lines : List (List ℕ) → List (List ℕ) → Bool
same_lines [] [] = true
same_lines [] (y ∷ ys) = false
same_lines (x ∷ xs) [] = false
same_lines (x ∷ xs) (y ∷ ys) = if same_numbers x y then same_lines xs ys otherwise false

pub record Day : Type 0 where
  pub end : ℕ
  pub setup : Setup
  pub calls : List (Call Message)
  pub prints : List (List ℕ)

unfoldable pub as_printed : Day → Bool
as_printed d = same_lines (printed d.end (book d.end (d.setup ∷ [])) d.calls) d.prints

-- a listed stock: its primary is 2 and it closed at 115,000
abbrev pub listed : ℕ → Setup
listed tier = record { tier = tier; leverage = 1; primary = 2; close = 115_000 }

-- document 01's day
abbrev pub the_day : Day
the_day = record {
  end = 23_400_000;
  setup = listed 2;
  calls =
      tell (O 1_000 2 115_000) ∷
      tell (Q 2_000 5 114_900 115_100) ∷
      tell (Q 3_000 7 0 92_000) ∷
      tell (Q 4_000 5 0 115_100) ∷
      tell (T 5_000 92_000) ∷
      settle 319_000 ∷ settle 319_000 ∷ settle 319_000 ∷ settle 319_000 ∷ settle 319_000 ∷
      tell (R 319_000 2 95_000) ∷
      settle 319_500 ∷
      tell (T 319_500 120_000) ∷
      [];
  prints =
      (1_000 ∷ letter_o ∷ 0 ∷ 1 ∷ 115_000 ∷ 92_000 ∷ 138_000 ∷ 0 ∷ 0 ∷ 0 ∷ 0 ∷ []) ∷
      (2_000 ∷ letter_q ∷ 0 ∷ 1 ∷ 115_000 ∷ 92_000 ∷ 138_000 ∷ 114_900 ∷ 1 ∷ 115_100 ∷ 1 ∷ []) ∷
      (3_000 ∷ letter_q ∷ 0 ∷ 1 ∷ 115_000 ∷ 92_000 ∷ 138_000 ∷ 114_900 ∷ 1 ∷ 92_000 ∷ 3 ∷ []) ∷
      (4_000 ∷ letter_q ∷ 0 ∷ 2 ∷ 115_000 ∷ 92_000 ∷ 138_000 ∷ 0 ∷ 0 ∷ 92_000 ∷ 3 ∷ []) ∷
      (5_000 ∷ letter_t ∷ 0 ∷ 2 ∷ 115_000 ∷ 92_000 ∷ 138_000 ∷ 0 ∷ 0 ∷ 92_000 ∷ 3 ∷ []) ∷
      (19_000 ∷ mark_x ∷ 0 ∷ 3 ∷ 115_000 ∷ 0 ∷ 0 ∷ 0 ∷ 0 ∷ 92_000 ∷ 1 ∷ []) ∷
      (31_000 ∷ mark_h ∷ 0 ∷ 3 ∷ 115_000 ∷ 0 ∷ 0 ∷ 0 ∷ 0 ∷ 92_000 ∷ 1 ∷ []) ∷
      (301_000 ∷ mark_v ∷ 0 ∷ 3 ∷ 115_000 ∷ 0 ∷ 0 ∷ 0 ∷ 0 ∷ 92_000 ∷ 1 ∷ []) ∷
      (305_000 ∷ mark_v ∷ 0 ∷ 3 ∷ 115_000 ∷ 0 ∷ 0 ∷ 0 ∷ 0 ∷ 92_000 ∷ 1 ∷ []) ∷
      (319_000 ∷ letter_r ∷ 0 ∷ 1 ∷ 95_000 ∷ 76_000 ∷ 114_000 ∷ 0 ∷ 0 ∷ 92_000 ∷ 1 ∷ []) ∷
      (319_500 ∷ letter_t ∷ 12 ∷ 1 ∷ 95_000 ∷ 76_000 ∷ 114_000 ∷ 0 ∷ 0 ∷ 92_000 ∷ 1 ∷ []) ∷
      [];
}

-- a stay in Limit: a bid across the limit offer does not end it, w does not move its bands, a trade only joins; leaving it takes the
-- mean, with the k of now and a new hold
abbrev pub a_limit : Day
a_limit = record {
  end = 23_400_000;
  setup = listed 2;
  calls =
      tell (O 100_000 2 100_000) ∷
      settle 890_000 ∷ settle 890_000 ∷
      tell (Q 890_000 5 0 80_000) ∷
      tell (Q 891_000 6 90_000 0) ∷
      settle 901_000 ∷
      tell (T 901_000 81_000) ∷
      tell (Q 902_000 5 0 85_000) ∷
      settle 932_000 ∷
      [];
  prints =
      (100_000 ∷ letter_o ∷ 0 ∷ 1 ∷ 100_000 ∷ 80_000 ∷ 120_000 ∷ 0 ∷ 0 ∷ 0 ∷ 0 ∷ []) ∷
      (130_000 ∷ mark_h ∷ 0 ∷ 1 ∷ 100_000 ∷ 80_000 ∷ 120_000 ∷ 0 ∷ 0 ∷ 0 ∷ 0 ∷ []) ∷
      (400_000 ∷ mark_v ∷ 0 ∷ 1 ∷ 100_000 ∷ 80_000 ∷ 120_000 ∷ 0 ∷ 0 ∷ 0 ∷ 0 ∷ []) ∷
      (890_000 ∷ letter_q ∷ 0 ∷ 2 ∷ 100_000 ∷ 80_000 ∷ 120_000 ∷ 0 ∷ 0 ∷ 80_000 ∷ 3 ∷ []) ∷
      (891_000 ∷ letter_q ∷ 0 ∷ 2 ∷ 100_000 ∷ 80_000 ∷ 120_000 ∷ 90_000 ∷ 1 ∷ 80_000 ∷ 3 ∷ []) ∷
      (900_000 ∷ mark_w ∷ 0 ∷ 2 ∷ 100_000 ∷ 80_000 ∷ 120_000 ∷ 90_000 ∷ 1 ∷ 80_000 ∷ 3 ∷ []) ∷
      (901_000 ∷ letter_t ∷ 0 ∷ 2 ∷ 100_000 ∷ 80_000 ∷ 120_000 ∷ 90_000 ∷ 1 ∷ 80_000 ∷ 3 ∷ []) ∷
      (902_000 ∷ letter_q ∷ 0 ∷ 1 ∷ 81_000 ∷ 72_900 ∷ 89_100 ∷ 0 ∷ 0 ∷ 85_000 ∷ 1 ∷ []) ∷
      (932_000 ∷ mark_h ∷ 0 ∷ 1 ∷ 81_000 ∷ 72_900 ∷ 89_100 ∷ 0 ∷ 0 ∷ 85_000 ∷ 1 ∷ []) ∷
      [];
}

-- the close decides the percent, whatever the reference; a message from another exchange is answered 8, before the table's 9
abbrev pub by_the_close : Day
by_the_close = record {
  end = 23_400_000;
  setup = listed 1;
  calls = tell (O 1_000 2 20_000) ∷ tell (R 2_000 3 20_000) ∷ tell (R 2_000 2 20_000) ∷ [];
  prints =
      (1_000 ∷ letter_o ∷ 0 ∷ 1 ∷ 20_000 ∷ 18_000 ∷ 22_000 ∷ 0 ∷ 0 ∷ 0 ∷ 0 ∷ []) ∷
      (2_000 ∷ letter_r ∷ 8 ∷ 1 ∷ 20_000 ∷ 18_000 ∷ 22_000 ∷ 0 ∷ 0 ∷ 0 ∷ 0 ∷ []) ∷
      (2_000 ∷ letter_r ∷ 9 ∷ 1 ∷ 20_000 ∷ 18_000 ∷ 22_000 ∷ 0 ∷ 0 ∷ 0 ∷ 0 ∷ []) ∷
      [];
}

-- a trade of time 0 leaves by v before f in the same millisecond; f happens with an empty window too; an opening is then too late (15),
-- and the next trade opens, with a look at the quotes; after it the table's 9 refuses an opening, whenever it comes
abbrev pub no_opening : Day
no_opening = record {
  end = 23_400_000;
  setup = listed 2;
  calls =
      tell (T 0 100_000) ∷
      settle 300_000 ∷ settle 300_000 ∷ settle 300_000 ∷
      tell (O 300_000 3 100_000) ∷
      tell (O 300_000 2 100_000) ∷
      tell (Q 300_000 5 0 80_000) ∷
      tell (T 300_000 100_000) ∷
      tell (O 300_000 2 100_000) ∷
      [];
  prints =
      (0 ∷ letter_t ∷ 0 ∷ 0 ∷ 0 ∷ 0 ∷ 0 ∷ 0 ∷ 0 ∷ 0 ∷ 0 ∷ []) ∷
      (300_000 ∷ mark_v ∷ 0 ∷ 0 ∷ 0 ∷ 0 ∷ 0 ∷ 0 ∷ 0 ∷ 0 ∷ 0 ∷ []) ∷
      (300_000 ∷ mark_f ∷ 0 ∷ 0 ∷ 0 ∷ 0 ∷ 0 ∷ 0 ∷ 0 ∷ 0 ∷ 0 ∷ []) ∷
      (300_000 ∷ letter_o ∷ 8 ∷ 0 ∷ 0 ∷ 0 ∷ 0 ∷ 0 ∷ 0 ∷ 0 ∷ 0 ∷ []) ∷
      (300_000 ∷ letter_o ∷ 15 ∷ 0 ∷ 0 ∷ 0 ∷ 0 ∷ 0 ∷ 0 ∷ 0 ∷ 0 ∷ []) ∷
      (300_000 ∷ letter_q ∷ 0 ∷ 0 ∷ 0 ∷ 0 ∷ 0 ∷ 0 ∷ 0 ∷ 80_000 ∷ 1 ∷ []) ∷
      (300_000 ∷ letter_t ∷ 0 ∷ 2 ∷ 100_000 ∷ 80_000 ∷ 120_000 ∷ 0 ∷ 0 ∷ 80_000 ∷ 3 ∷ []) ∷
      (300_000 ∷ letter_o ∷ 9 ∷ 2 ∷ 100_000 ∷ 80_000 ∷ 120_000 ∷ 0 ∷ 0 ∷ 80_000 ∷ 3 ∷ []) ∷
      [];
}

-- v and h in one millisecond: v makes no Test, since the hold ends with h
abbrev pub one_millisecond : Day
one_millisecond = record {
  end = 23_400_000;
  setup = listed 2;
  calls =
      tell (O 1_000 2 100_000) ∷
      tell (T 10_000 100_000) ∷
      settle 280_000 ∷
      tell (T 280_000 110_000) ∷
      settle 310_000 ∷ settle 310_000 ∷ settle 310_000 ∷
      [];
  prints =
      (1_000 ∷ letter_o ∷ 0 ∷ 1 ∷ 100_000 ∷ 80_000 ∷ 120_000 ∷ 0 ∷ 0 ∷ 0 ∷ 0 ∷ []) ∷
      (10_000 ∷ letter_t ∷ 0 ∷ 1 ∷ 100_000 ∷ 80_000 ∷ 120_000 ∷ 0 ∷ 0 ∷ 0 ∷ 0 ∷ []) ∷
      (31_000 ∷ mark_h ∷ 0 ∷ 1 ∷ 100_000 ∷ 80_000 ∷ 120_000 ∷ 0 ∷ 0 ∷ 0 ∷ 0 ∷ []) ∷
      (280_000 ∷ letter_t ∷ 0 ∷ 1 ∷ 103_333 ∷ 82_700 ∷ 124_000 ∷ 0 ∷ 0 ∷ 0 ∷ 0 ∷ []) ∷
      (301_000 ∷ mark_v ∷ 0 ∷ 1 ∷ 103_333 ∷ 82_700 ∷ 124_000 ∷ 0 ∷ 0 ∷ 0 ∷ 0 ∷ []) ∷
      (310_000 ∷ mark_v ∷ 0 ∷ 1 ∷ 103_333 ∷ 82_700 ∷ 124_000 ∷ 0 ∷ 0 ∷ 0 ∷ 0 ∷ []) ∷
      (310_000 ∷ mark_h ∷ 0 ∷ 1 ∷ 110_000 ∷ 88_000 ∷ 132_000 ∷ 0 ∷ 0 ∷ 0 ∷ 0 ∷ []) ∷
      [];
}

-- a Late pause: no p ends it, X not before E, c at E + 300,000
abbrev pub a_late_pause : Day
a_late_pause = record {
  end = 3_600_000;
  setup = listed 2;
  calls =
      tell (O 1_000 2 100_000) ∷
      settle 2_990_000 ∷ settle 2_990_000 ∷ settle 2_990_000 ∷ settle 2_990_000 ∷
      tell (Q 2_990_000 5 0 80_000) ∷
      settle 3_599_999 ∷ settle 3_599_999 ∷
      tell (X 3_599_999 2 100_000) ∷
      settle 3_900_000 ∷ settle 3_900_000 ∷
      tell (Q 3_900_000 5 0 80_000) ∷
      [];
  prints =
      (1_000 ∷ letter_o ∷ 0 ∷ 1 ∷ 100_000 ∷ 80_000 ∷ 120_000 ∷ 0 ∷ 0 ∷ 0 ∷ 0 ∷ []) ∷
      (31_000 ∷ mark_h ∷ 0 ∷ 1 ∷ 100_000 ∷ 80_000 ∷ 120_000 ∷ 0 ∷ 0 ∷ 0 ∷ 0 ∷ []) ∷
      (301_000 ∷ mark_v ∷ 0 ∷ 1 ∷ 100_000 ∷ 80_000 ∷ 120_000 ∷ 0 ∷ 0 ∷ 0 ∷ 0 ∷ []) ∷
      (900_000 ∷ mark_w ∷ 0 ∷ 1 ∷ 100_000 ∷ 90_000 ∷ 110_000 ∷ 0 ∷ 0 ∷ 0 ∷ 0 ∷ []) ∷
      (2_100_000 ∷ mark_w ∷ 0 ∷ 1 ∷ 100_000 ∷ 80_000 ∷ 120_000 ∷ 0 ∷ 0 ∷ 0 ∷ 0 ∷ []) ∷
      (2_990_000 ∷ letter_q ∷ 0 ∷ 2 ∷ 100_000 ∷ 80_000 ∷ 120_000 ∷ 0 ∷ 0 ∷ 80_000 ∷ 3 ∷ []) ∷
      (3_005_000 ∷ mark_x ∷ 0 ∷ 4 ∷ 100_000 ∷ 0 ∷ 0 ∷ 0 ∷ 0 ∷ 80_000 ∷ 1 ∷ []) ∷
      (3_599_999 ∷ letter_x ∷ 10 ∷ 4 ∷ 100_000 ∷ 0 ∷ 0 ∷ 0 ∷ 0 ∷ 80_000 ∷ 1 ∷ []) ∷
      (3_900_000 ∷ mark_c ∷ 0 ∷ 5 ∷ 100_000 ∷ 0 ∷ 0 ∷ 0 ∷ 0 ∷ 0 ∷ 0 ∷ []) ∷
      (3_900_000 ∷ letter_q ∷ 7 ∷ 5 ∷ 100_000 ∷ 0 ∷ 0 ∷ 0 ∷ 0 ∷ 0 ∷ 0 ∷ []) ∷
      [];
}

-- a pause: another exchange does not reopen the stock, nor the primary too early, nothing trades; p resumes on the same reference,
-- whose quotes are looked at
abbrev pub a_pause : Day
a_pause = record {
  end = 23_400_000;
  setup = listed 2;
  calls =
      tell (O 1_000 2 115_000) ∷
      tell (Q 4_000 5 0 92_000) ∷
      settle 20_000 ∷
      tell (R 20_000 3 95_000) ∷
      tell (R 20_000 2 95_000) ∷
      tell (T 20_000 115_000) ∷
      settle 634_000 ∷ settle 634_000 ∷ settle 634_000 ∷ settle 634_000 ∷
      [];
  prints =
      (1_000 ∷ letter_o ∷ 0 ∷ 1 ∷ 115_000 ∷ 92_000 ∷ 138_000 ∷ 0 ∷ 0 ∷ 0 ∷ 0 ∷ []) ∷
      (4_000 ∷ letter_q ∷ 0 ∷ 2 ∷ 115_000 ∷ 92_000 ∷ 138_000 ∷ 0 ∷ 0 ∷ 92_000 ∷ 3 ∷ []) ∷
      (19_000 ∷ mark_x ∷ 0 ∷ 3 ∷ 115_000 ∷ 0 ∷ 0 ∷ 0 ∷ 0 ∷ 92_000 ∷ 1 ∷ []) ∷
      (20_000 ∷ letter_r ∷ 8 ∷ 3 ∷ 115_000 ∷ 0 ∷ 0 ∷ 0 ∷ 0 ∷ 92_000 ∷ 1 ∷ []) ∷
      (20_000 ∷ letter_r ∷ 10 ∷ 3 ∷ 115_000 ∷ 0 ∷ 0 ∷ 0 ∷ 0 ∷ 92_000 ∷ 1 ∷ []) ∷
      (20_000 ∷ letter_t ∷ 11 ∷ 3 ∷ 115_000 ∷ 0 ∷ 0 ∷ 0 ∷ 0 ∷ 92_000 ∷ 1 ∷ []) ∷
      (31_000 ∷ mark_h ∷ 0 ∷ 3 ∷ 115_000 ∷ 0 ∷ 0 ∷ 0 ∷ 0 ∷ 92_000 ∷ 1 ∷ []) ∷
      (301_000 ∷ mark_v ∷ 0 ∷ 3 ∷ 115_000 ∷ 0 ∷ 0 ∷ 0 ∷ 0 ∷ 92_000 ∷ 1 ∷ []) ∷
      (619_000 ∷ mark_p ∷ 0 ∷ 2 ∷ 115_000 ∷ 92_000 ∷ 138_000 ∷ 0 ∷ 0 ∷ 92_000 ∷ 3 ∷ []) ∷
      (634_000 ∷ mark_x ∷ 0 ∷ 3 ∷ 115_000 ∷ 0 ∷ 0 ∷ 0 ∷ 0 ∷ 92_000 ∷ 1 ∷ []) ∷
      [];
}

-- the primary's own pause needs a straddle; refusals 4, 5 and 6 on the way; at E there is z, and neither the x nor the v of the same
-- millisecond
abbrev pub a_straddle : Day
a_straddle = record {
  end = 3_600_000;
  setup = listed 2;
  calls =
      tell (O 1_000 2 115_000) ∷
      tell (P 2_000 2) ∷
      tell (T 2_000 0) ∷
      tell (T 999 115_000) ∷
      tell (T 31_000 115_000) ∷
      tell (Q 3_000 5 91_000 0) ∷
      tell (P 4_000 2) ∷
      settle 304_000 ∷ settle 304_000 ∷
      tell (R 304_000 2 115_000) ∷
      settle 3_300_000 ∷ settle 3_300_000 ∷ settle 3_300_000 ∷ settle 3_300_000 ∷
      tell (T 3_300_000 115_000) ∷
      tell (Q 3_585_000 6 138_000 0) ∷
      settle 3_600_000 ∷ settle 3_600_000 ∷
      [];
  prints =
      (1_000 ∷ letter_o ∷ 0 ∷ 1 ∷ 115_000 ∷ 92_000 ∷ 138_000 ∷ 0 ∷ 0 ∷ 0 ∷ 0 ∷ []) ∷
      (2_000 ∷ letter_p ∷ 16 ∷ 1 ∷ 115_000 ∷ 92_000 ∷ 138_000 ∷ 0 ∷ 0 ∷ 0 ∷ 0 ∷ []) ∷
      (2_000 ∷ letter_t ∷ 4 ∷ 1 ∷ 115_000 ∷ 92_000 ∷ 138_000 ∷ 0 ∷ 0 ∷ 0 ∷ 0 ∷ []) ∷
      (999 ∷ letter_t ∷ 5 ∷ 1 ∷ 115_000 ∷ 92_000 ∷ 138_000 ∷ 0 ∷ 0 ∷ 0 ∷ 0 ∷ []) ∷
      (31_000 ∷ letter_t ∷ 6 ∷ 1 ∷ 115_000 ∷ 92_000 ∷ 138_000 ∷ 0 ∷ 0 ∷ 0 ∷ 0 ∷ []) ∷
      (3_000 ∷ letter_q ∷ 0 ∷ 1 ∷ 115_000 ∷ 92_000 ∷ 138_000 ∷ 91_000 ∷ 2 ∷ 0 ∷ 0 ∷ []) ∷
      (4_000 ∷ letter_p ∷ 0 ∷ 3 ∷ 115_000 ∷ 0 ∷ 0 ∷ 91_000 ∷ 1 ∷ 0 ∷ 0 ∷ []) ∷
      (31_000 ∷ mark_h ∷ 0 ∷ 3 ∷ 115_000 ∷ 0 ∷ 0 ∷ 91_000 ∷ 1 ∷ 0 ∷ 0 ∷ []) ∷
      (301_000 ∷ mark_v ∷ 0 ∷ 3 ∷ 115_000 ∷ 0 ∷ 0 ∷ 91_000 ∷ 1 ∷ 0 ∷ 0 ∷ []) ∷
      (304_000 ∷ letter_r ∷ 0 ∷ 1 ∷ 115_000 ∷ 92_000 ∷ 138_000 ∷ 91_000 ∷ 2 ∷ 0 ∷ 0 ∷ []) ∷
      (334_000 ∷ mark_h ∷ 0 ∷ 1 ∷ 115_000 ∷ 92_000 ∷ 138_000 ∷ 91_000 ∷ 2 ∷ 0 ∷ 0 ∷ []) ∷
      (604_000 ∷ mark_v ∷ 0 ∷ 1 ∷ 115_000 ∷ 92_000 ∷ 138_000 ∷ 91_000 ∷ 2 ∷ 0 ∷ 0 ∷ []) ∷
      (900_000 ∷ mark_w ∷ 0 ∷ 1 ∷ 115_000 ∷ 103_500 ∷ 126_500 ∷ 91_000 ∷ 2 ∷ 0 ∷ 0 ∷ []) ∷
      (2_100_000 ∷ mark_w ∷ 0 ∷ 1 ∷ 115_000 ∷ 92_000 ∷ 138_000 ∷ 91_000 ∷ 2 ∷ 0 ∷ 0 ∷ []) ∷
      (3_300_000 ∷ letter_t ∷ 0 ∷ 1 ∷ 115_000 ∷ 92_000 ∷ 138_000 ∷ 91_000 ∷ 2 ∷ 0 ∷ 0 ∷ []) ∷
      (3_585_000 ∷ letter_q ∷ 0 ∷ 2 ∷ 115_000 ∷ 92_000 ∷ 138_000 ∷ 138_000 ∷ 3 ∷ 0 ∷ 0 ∷ []) ∷
      (3_600_000 ∷ mark_z ∷ 0 ∷ 5 ∷ 115_000 ∷ 0 ∷ 0 ∷ 0 ∷ 0 ∷ 0 ∷ 0 ∷ []) ∷
      [];
}

-- the flags: a quote at its own band is plain, one tick beyond it not executable, at the other band limit, and beyond that left out
abbrev pub the_flags : Day
the_flags = record {
  end = 23_400_000;
  setup = listed 2;
  calls =
      tell (O 1_000 2 115_000) ∷
      tell (Q 2_000 5 92_000 138_000) ∷
      tell (Q 3_000 5 91_999 138_001) ∷
      tell (Q 4_000 6 138_001 91_999) ∷
      tell (Q 5_000 5 0 0) ∷
      tell (Q 6_000 7 138_000 138_000) ∷
      [];
  prints =
      (1_000 ∷ letter_o ∷ 0 ∷ 1 ∷ 115_000 ∷ 92_000 ∷ 138_000 ∷ 0 ∷ 0 ∷ 0 ∷ 0 ∷ []) ∷
      (2_000 ∷ letter_q ∷ 0 ∷ 1 ∷ 115_000 ∷ 92_000 ∷ 138_000 ∷ 92_000 ∷ 1 ∷ 138_000 ∷ 1 ∷ []) ∷
      (3_000 ∷ letter_q ∷ 0 ∷ 1 ∷ 115_000 ∷ 92_000 ∷ 138_000 ∷ 91_999 ∷ 2 ∷ 138_001 ∷ 2 ∷ []) ∷
      (4_000 ∷ letter_q ∷ 0 ∷ 1 ∷ 115_000 ∷ 92_000 ∷ 138_000 ∷ 91_999 ∷ 2 ∷ 138_001 ∷ 2 ∷ []) ∷
      (5_000 ∷ letter_q ∷ 0 ∷ 1 ∷ 115_000 ∷ 92_000 ∷ 138_000 ∷ 0 ∷ 0 ∷ 0 ∷ 0 ∷ []) ∷
      (6_000 ∷ letter_q ∷ 0 ∷ 2 ∷ 115_000 ∷ 92_000 ∷ 138_000 ∷ 138_000 ∷ 3 ∷ 138_000 ∷ 1 ∷ []) ∷
      [];
}

-- f takes the mean, and looks at the quotes that stand there; two trades of one millisecond leave by one v
abbrev pub opened_by_f : Day
opened_by_f = record {
  end = 23_400_000;
  setup = listed 2;
  calls =
      tell (T 1_000 100_000) ∷
      tell (T 1_000 102_000) ∷
      tell (Q 3_000 5 0 80_800) ∷
      settle 330_000 ∷ settle 330_000 ∷ settle 330_000 ∷ settle 330_000 ∷
      [];
  prints =
      (1_000 ∷ letter_t ∷ 0 ∷ 0 ∷ 0 ∷ 0 ∷ 0 ∷ 0 ∷ 0 ∷ 0 ∷ 0 ∷ []) ∷
      (1_000 ∷ letter_t ∷ 0 ∷ 0 ∷ 0 ∷ 0 ∷ 0 ∷ 0 ∷ 0 ∷ 0 ∷ 0 ∷ []) ∷
      (3_000 ∷ letter_q ∷ 0 ∷ 0 ∷ 0 ∷ 0 ∷ 0 ∷ 0 ∷ 0 ∷ 80_800 ∷ 1 ∷ []) ∷
      (300_000 ∷ mark_f ∷ 0 ∷ 2 ∷ 101_000 ∷ 80_800 ∷ 121_200 ∷ 0 ∷ 0 ∷ 80_800 ∷ 3 ∷ []) ∷
      (301_000 ∷ mark_v ∷ 0 ∷ 2 ∷ 101_000 ∷ 80_800 ∷ 121_200 ∷ 0 ∷ 0 ∷ 80_800 ∷ 3 ∷ []) ∷
      (315_000 ∷ mark_x ∷ 0 ∷ 3 ∷ 101_000 ∷ 0 ∷ 0 ∷ 0 ∷ 0 ∷ 80_800 ∷ 1 ∷ []) ∷
      (330_000 ∷ mark_h ∷ 0 ∷ 3 ∷ 101_000 ∷ 0 ∷ 0 ∷ 0 ∷ 0 ∷ 80_800 ∷ 1 ∷ []) ∷
      [];
}

-- the Test, after a trade once the hold has ended, and by v when the oldest trade leaves
abbrev pub the_test : Day
the_test = record {
  end = 23_400_000;
  setup = listed 2;
  calls =
      tell (O 1_000 2 100_000) ∷
      settle 32_000 ∷
      tell (T 32_000 110_000) ∷
      settle 332_000 ∷ settle 332_000 ∷ settle 332_000 ∷ settle 332_000 ∷
      [];
  prints =
      (1_000 ∷ letter_o ∷ 0 ∷ 1 ∷ 100_000 ∷ 80_000 ∷ 120_000 ∷ 0 ∷ 0 ∷ 0 ∷ 0 ∷ []) ∷
      (31_000 ∷ mark_h ∷ 0 ∷ 1 ∷ 100_000 ∷ 80_000 ∷ 120_000 ∷ 0 ∷ 0 ∷ 0 ∷ 0 ∷ []) ∷
      (32_000 ∷ letter_t ∷ 0 ∷ 1 ∷ 105_000 ∷ 84_000 ∷ 126_000 ∷ 0 ∷ 0 ∷ 0 ∷ 0 ∷ []) ∷
      (62_000 ∷ mark_h ∷ 0 ∷ 1 ∷ 105_000 ∷ 84_000 ∷ 126_000 ∷ 0 ∷ 0 ∷ 0 ∷ 0 ∷ []) ∷
      (301_000 ∷ mark_v ∷ 0 ∷ 1 ∷ 110_000 ∷ 88_000 ∷ 132_000 ∷ 0 ∷ 0 ∷ 0 ∷ 0 ∷ []) ∷
      (331_000 ∷ mark_h ∷ 0 ∷ 1 ∷ 110_000 ∷ 88_000 ∷ 132_000 ∷ 0 ∷ 0 ∷ 0 ∷ 0 ∷ []) ∷
      (332_000 ∷ mark_v ∷ 0 ∷ 1 ∷ 110_000 ∷ 88_000 ∷ 132_000 ∷ 0 ∷ 0 ∷ 0 ∷ 0 ∷ []) ∷
      [];
}

-- document 02's own example (R-3): trades of 100,999 and 101,000 leave the reference at 100,000; a third, of 101,001, makes the mean 101,000
abbrev pub the_exact_mean : Day
the_exact_mean = record {
  end = 23_400_000;
  setup = listed 2;
  calls =
      tell (O 0 2 100_000) ∷
      settle 300_000 ∷ settle 300_000 ∷
      tell (T 300_000 100_999) ∷
      tell (T 300_001 101_000) ∷
      tell (T 300_002 101_001) ∷
      [];
  prints =
      (0 ∷ letter_o ∷ 0 ∷ 1 ∷ 100_000 ∷ 80_000 ∷ 120_000 ∷ 0 ∷ 0 ∷ 0 ∷ 0 ∷ []) ∷
      (30_000 ∷ mark_h ∷ 0 ∷ 1 ∷ 100_000 ∷ 80_000 ∷ 120_000 ∷ 0 ∷ 0 ∷ 0 ∷ 0 ∷ []) ∷
      (300_000 ∷ mark_v ∷ 0 ∷ 1 ∷ 100_000 ∷ 80_000 ∷ 120_000 ∷ 0 ∷ 0 ∷ 0 ∷ 0 ∷ []) ∷
      (300_000 ∷ letter_t ∷ 0 ∷ 1 ∷ 100_000 ∷ 80_000 ∷ 120_000 ∷ 0 ∷ 0 ∷ 0 ∷ 0 ∷ []) ∷
      (300_001 ∷ letter_t ∷ 0 ∷ 1 ∷ 100_000 ∷ 80_000 ∷ 120_000 ∷ 0 ∷ 0 ∷ 0 ∷ 0 ∷ []) ∷
      (300_002 ∷ letter_t ∷ 0 ∷ 1 ∷ 101_000 ∷ 80_800 ∷ 121_200 ∷ 0 ∷ 0 ∷ 0 ∷ 0 ∷ []) ∷
      [];
}

-- four moments at 900,000: w, x, v, h
abbrev pub the_ties : Day
the_ties = record {
  end = 23_400_000;
  setup = listed 2;
  calls =
      tell (O 100_000 2 100_000) ∷
      settle 600_000 ∷ settle 600_000 ∷
      tell (T 600_000 100_000) ∷
      tell (T 870_000 110_000) ∷
      tell (Q 885_000 5 0 84_000) ∷
      settle 900_000 ∷ settle 900_000 ∷ settle 900_000 ∷ settle 900_000 ∷ settle 900_000 ∷
      [];
  prints =
      (100_000 ∷ letter_o ∷ 0 ∷ 1 ∷ 100_000 ∷ 80_000 ∷ 120_000 ∷ 0 ∷ 0 ∷ 0 ∷ 0 ∷ []) ∷
      (130_000 ∷ mark_h ∷ 0 ∷ 1 ∷ 100_000 ∷ 80_000 ∷ 120_000 ∷ 0 ∷ 0 ∷ 0 ∷ 0 ∷ []) ∷
      (400_000 ∷ mark_v ∷ 0 ∷ 1 ∷ 100_000 ∷ 80_000 ∷ 120_000 ∷ 0 ∷ 0 ∷ 0 ∷ 0 ∷ []) ∷
      (600_000 ∷ letter_t ∷ 0 ∷ 1 ∷ 100_000 ∷ 80_000 ∷ 120_000 ∷ 0 ∷ 0 ∷ 0 ∷ 0 ∷ []) ∷
      (870_000 ∷ letter_t ∷ 0 ∷ 1 ∷ 105_000 ∷ 84_000 ∷ 126_000 ∷ 0 ∷ 0 ∷ 0 ∷ 0 ∷ []) ∷
      (885_000 ∷ letter_q ∷ 0 ∷ 2 ∷ 105_000 ∷ 84_000 ∷ 126_000 ∷ 0 ∷ 0 ∷ 84_000 ∷ 3 ∷ []) ∷
      (900_000 ∷ mark_w ∷ 0 ∷ 2 ∷ 105_000 ∷ 84_000 ∷ 126_000 ∷ 0 ∷ 0 ∷ 84_000 ∷ 3 ∷ []) ∷
      (900_000 ∷ mark_x ∷ 0 ∷ 3 ∷ 105_000 ∷ 0 ∷ 0 ∷ 0 ∷ 0 ∷ 84_000 ∷ 1 ∷ []) ∷
      (900_000 ∷ mark_v ∷ 0 ∷ 3 ∷ 105_000 ∷ 0 ∷ 0 ∷ 0 ∷ 0 ∷ 84_000 ∷ 1 ∷ []) ∷
      (900_000 ∷ mark_h ∷ 0 ∷ 3 ∷ 105_000 ∷ 0 ∷ 0 ∷ 0 ∷ 0 ∷ 84_000 ∷ 1 ∷ []) ∷
      [];
}

-- w narrows the bands of a Trading stock, and a quote that was plain is at the band: Limit
abbrev pub narrowed : Day
narrowed = record {
  end = 23_400_000;
  setup = listed 2;
  calls =
      tell (O 100_000 2 100_000) ∷
      settle 200_000 ∷
      tell (Q 200_000 5 0 90_000) ∷
      settle 900_000 ∷ settle 900_000 ∷
      [];
  prints =
      (100_000 ∷ letter_o ∷ 0 ∷ 1 ∷ 100_000 ∷ 80_000 ∷ 120_000 ∷ 0 ∷ 0 ∷ 0 ∷ 0 ∷ []) ∷
      (130_000 ∷ mark_h ∷ 0 ∷ 1 ∷ 100_000 ∷ 80_000 ∷ 120_000 ∷ 0 ∷ 0 ∷ 0 ∷ 0 ∷ []) ∷
      (200_000 ∷ letter_q ∷ 0 ∷ 1 ∷ 100_000 ∷ 80_000 ∷ 120_000 ∷ 0 ∷ 0 ∷ 90_000 ∷ 1 ∷ []) ∷
      (400_000 ∷ mark_v ∷ 0 ∷ 1 ∷ 100_000 ∷ 80_000 ∷ 120_000 ∷ 0 ∷ 0 ∷ 90_000 ∷ 1 ∷ []) ∷
      (900_000 ∷ mark_w ∷ 0 ∷ 2 ∷ 100_000 ∷ 90_000 ∷ 110_000 ∷ 0 ∷ 0 ∷ 90_000 ∷ 3 ∷ []) ∷
      [];
}

-- leaving Limit, and entering it again in the same call: by the new bands the other side is at the band, and 15,000 count from now
abbrev pub limit_again : Day
limit_again = record {
  end = 23_400_000;
  setup = listed 2;
  calls =
      tell (O 100_000 2 100_000) ∷
      settle 450_000 ∷ settle 450_000 ∷
      tell (Q 450_000 5 0 80_000) ∷
      tell (T 451_000 81_000) ∷
      tell (Q 452_000 6 97_200 0) ∷
      tell (Q 453_000 5 0 0) ∷
      settle 468_000 ∷
      [];
  prints =
      (100_000 ∷ letter_o ∷ 0 ∷ 1 ∷ 100_000 ∷ 80_000 ∷ 120_000 ∷ 0 ∷ 0 ∷ 0 ∷ 0 ∷ []) ∷
      (130_000 ∷ mark_h ∷ 0 ∷ 1 ∷ 100_000 ∷ 80_000 ∷ 120_000 ∷ 0 ∷ 0 ∷ 0 ∷ 0 ∷ []) ∷
      (400_000 ∷ mark_v ∷ 0 ∷ 1 ∷ 100_000 ∷ 80_000 ∷ 120_000 ∷ 0 ∷ 0 ∷ 0 ∷ 0 ∷ []) ∷
      (450_000 ∷ letter_q ∷ 0 ∷ 2 ∷ 100_000 ∷ 80_000 ∷ 120_000 ∷ 0 ∷ 0 ∷ 80_000 ∷ 3 ∷ []) ∷
      (451_000 ∷ letter_t ∷ 0 ∷ 2 ∷ 100_000 ∷ 80_000 ∷ 120_000 ∷ 0 ∷ 0 ∷ 80_000 ∷ 3 ∷ []) ∷
      (452_000 ∷ letter_q ∷ 0 ∷ 2 ∷ 100_000 ∷ 80_000 ∷ 120_000 ∷ 97_200 ∷ 1 ∷ 80_000 ∷ 3 ∷ []) ∷
      (453_000 ∷ letter_q ∷ 0 ∷ 2 ∷ 81_000 ∷ 64_800 ∷ 97_200 ∷ 97_200 ∷ 3 ∷ 0 ∷ 0 ∷ []) ∷
      (468_000 ∷ mark_x ∷ 0 ∷ 3 ∷ 81_000 ∷ 0 ∷ 0 ∷ 97_200 ∷ 1 ∷ 0 ∷ 0 ∷ []) ∷
      [];
}

-- the quotes are looked at after O, after a Test that moved the reference, and after R
abbrev pub the_looks : Day
the_looks = record {
  end = 23_400_000;
  setup = listed 2;
  calls =
      tell (Q 500 5 0 92_000) ∷
      tell (O 1_000 2 115_000) ∷
      tell (Q 2_000 5 0 93_000) ∷
      settle 33_000 ∷
      tell (T 33_000 117_500) ∷
      settle 348_000 ∷ settle 348_000 ∷ settle 348_000 ∷ settle 348_000 ∷
      tell (R 348_000 2 116_250) ∷
      [];
  prints =
      (500 ∷ letter_q ∷ 0 ∷ 0 ∷ 0 ∷ 0 ∷ 0 ∷ 0 ∷ 0 ∷ 92_000 ∷ 1 ∷ []) ∷
      (1_000 ∷ letter_o ∷ 0 ∷ 2 ∷ 115_000 ∷ 92_000 ∷ 138_000 ∷ 0 ∷ 0 ∷ 92_000 ∷ 3 ∷ []) ∷
      (2_000 ∷ letter_q ∷ 0 ∷ 1 ∷ 115_000 ∷ 92_000 ∷ 138_000 ∷ 0 ∷ 0 ∷ 93_000 ∷ 1 ∷ []) ∷
      (32_000 ∷ mark_h ∷ 0 ∷ 1 ∷ 115_000 ∷ 92_000 ∷ 138_000 ∷ 0 ∷ 0 ∷ 93_000 ∷ 1 ∷ []) ∷
      (33_000 ∷ letter_t ∷ 0 ∷ 2 ∷ 116_250 ∷ 93_000 ∷ 139_500 ∷ 0 ∷ 0 ∷ 93_000 ∷ 3 ∷ []) ∷
      (48_000 ∷ mark_x ∷ 0 ∷ 3 ∷ 116_250 ∷ 0 ∷ 0 ∷ 0 ∷ 0 ∷ 93_000 ∷ 1 ∷ []) ∷
      (63_000 ∷ mark_h ∷ 0 ∷ 3 ∷ 116_250 ∷ 0 ∷ 0 ∷ 0 ∷ 0 ∷ 93_000 ∷ 1 ∷ []) ∷
      (301_000 ∷ mark_v ∷ 0 ∷ 3 ∷ 116_250 ∷ 0 ∷ 0 ∷ 0 ∷ 0 ∷ 93_000 ∷ 1 ∷ []) ∷
      (333_000 ∷ mark_v ∷ 0 ∷ 3 ∷ 116_250 ∷ 0 ∷ 0 ∷ 0 ∷ 0 ∷ 93_000 ∷ 1 ∷ []) ∷
      (348_000 ∷ letter_r ∷ 0 ∷ 2 ∷ 116_250 ∷ 93_000 ∷ 139_500 ∷ 0 ∷ 0 ∷ 93_000 ∷ 3 ∷ []) ∷
      [];
}

-- a straddle by the offer alone, and w before p: the bands of p are those of the k after 900,000
abbrev pub offer_straddle : Day
offer_straddle = record {
  end = 23_400_000;
  setup = listed 2;
  calls =
      tell (O 1_000 2 115_000) ∷
      tell (Q 3_000 5 0 139_000) ∷
      settle 300_000 ∷
      tell (P 300_000 2) ∷
      settle 900_000 ∷ settle 900_000 ∷ settle 900_000 ∷
      [];
  prints =
      (1_000 ∷ letter_o ∷ 0 ∷ 1 ∷ 115_000 ∷ 92_000 ∷ 138_000 ∷ 0 ∷ 0 ∷ 0 ∷ 0 ∷ []) ∷
      (3_000 ∷ letter_q ∷ 0 ∷ 1 ∷ 115_000 ∷ 92_000 ∷ 138_000 ∷ 0 ∷ 0 ∷ 139_000 ∷ 2 ∷ []) ∷
      (31_000 ∷ mark_h ∷ 0 ∷ 1 ∷ 115_000 ∷ 92_000 ∷ 138_000 ∷ 0 ∷ 0 ∷ 139_000 ∷ 2 ∷ []) ∷
      (300_000 ∷ letter_p ∷ 0 ∷ 3 ∷ 115_000 ∷ 0 ∷ 0 ∷ 0 ∷ 0 ∷ 139_000 ∷ 1 ∷ []) ∷
      (301_000 ∷ mark_v ∷ 0 ∷ 3 ∷ 115_000 ∷ 0 ∷ 0 ∷ 0 ∷ 0 ∷ 139_000 ∷ 1 ∷ []) ∷
      (900_000 ∷ mark_w ∷ 0 ∷ 3 ∷ 115_000 ∷ 0 ∷ 0 ∷ 0 ∷ 0 ∷ 139_000 ∷ 1 ∷ []) ∷
      (900_000 ∷ mark_p ∷ 0 ∷ 1 ∷ 115_000 ∷ 103_500 ∷ 126_500 ∷ 0 ∷ 0 ∷ 139_000 ∷ 2 ∷ []) ∷
      [];
}

-- why a pause is refused: 9 in a state that takes none, 8 from another exchange, 16 without straddle; 9 in Limit, though there is a straddle, and
-- in the pause that follows, of which the primary's own message comes after x
abbrev pub refused_pauses : Day
refused_pauses = record {
  end = 23_400_000;
  setup = listed 2;
  calls =
      tell (P 0 2) ∷
      tell (O 1_000 2 115_000) ∷
      tell (P 2_000 3) ∷
      tell (P 2_000 2) ∷
      tell (Q 3_000 5 91_000 0) ∷
      tell (Q 3_000 6 0 92_000) ∷
      tell (P 4_000 2) ∷
      settle 18_000 ∷
      tell (P 18_000 2) ∷
      [];
  prints =
      (0 ∷ letter_p ∷ 9 ∷ 0 ∷ 0 ∷ 0 ∷ 0 ∷ 0 ∷ 0 ∷ 0 ∷ 0 ∷ []) ∷
      (1_000 ∷ letter_o ∷ 0 ∷ 1 ∷ 115_000 ∷ 92_000 ∷ 138_000 ∷ 0 ∷ 0 ∷ 0 ∷ 0 ∷ []) ∷
      (2_000 ∷ letter_p ∷ 8 ∷ 1 ∷ 115_000 ∷ 92_000 ∷ 138_000 ∷ 0 ∷ 0 ∷ 0 ∷ 0 ∷ []) ∷
      (2_000 ∷ letter_p ∷ 16 ∷ 1 ∷ 115_000 ∷ 92_000 ∷ 138_000 ∷ 0 ∷ 0 ∷ 0 ∷ 0 ∷ []) ∷
      (3_000 ∷ letter_q ∷ 0 ∷ 1 ∷ 115_000 ∷ 92_000 ∷ 138_000 ∷ 91_000 ∷ 2 ∷ 0 ∷ 0 ∷ []) ∷
      (3_000 ∷ letter_q ∷ 0 ∷ 2 ∷ 115_000 ∷ 92_000 ∷ 138_000 ∷ 91_000 ∷ 2 ∷ 92_000 ∷ 3 ∷ []) ∷
      (4_000 ∷ letter_p ∷ 9 ∷ 2 ∷ 115_000 ∷ 92_000 ∷ 138_000 ∷ 91_000 ∷ 2 ∷ 92_000 ∷ 3 ∷ []) ∷
      (18_000 ∷ mark_x ∷ 0 ∷ 3 ∷ 115_000 ∷ 0 ∷ 0 ∷ 91_000 ∷ 1 ∷ 92_000 ∷ 1 ∷ []) ∷
      (18_000 ∷ letter_p ∷ 9 ∷ 3 ∷ 115_000 ∷ 0 ∷ 0 ∷ 91_000 ∷ 1 ∷ 92_000 ∷ 1 ∷ []) ∷
      [];
}

-- limit pauses as soon as they can come: R 300,000 after the first pause's start finds the offer at the band, and x comes 15,000 after that;
-- then one with the primary's own pause before it
abbrev pub soonest_again : Day
soonest_again = record {
  end = 23_400_000;
  setup = listed 2;
  calls =
      tell (O 0 2 115_000) ∷
      tell (Q 0 5 0 92_000) ∷
      settle 315_000 ∷ settle 315_000 ∷ settle 315_000 ∷
      tell (R 315_000 2 115_000) ∷
      settle 630_000 ∷ settle 630_000 ∷ settle 630_000 ∷
      tell (R 630_000 2 70_000) ∷
      tell (P 630_000 2) ∷
      settle 930_000 ∷ settle 930_000 ∷ settle 930_000 ∷
      tell (R 930_000 2 102_200) ∷
      settle 945_000 ∷
      [];
  prints =
      (0 ∷ letter_o ∷ 0 ∷ 1 ∷ 115_000 ∷ 92_000 ∷ 138_000 ∷ 0 ∷ 0 ∷ 0 ∷ 0 ∷ []) ∷
      (0 ∷ letter_q ∷ 0 ∷ 2 ∷ 115_000 ∷ 92_000 ∷ 138_000 ∷ 0 ∷ 0 ∷ 92_000 ∷ 3 ∷ []) ∷
      (15_000 ∷ mark_x ∷ 0 ∷ 3 ∷ 115_000 ∷ 0 ∷ 0 ∷ 0 ∷ 0 ∷ 92_000 ∷ 1 ∷ []) ∷
      (30_000 ∷ mark_h ∷ 0 ∷ 3 ∷ 115_000 ∷ 0 ∷ 0 ∷ 0 ∷ 0 ∷ 92_000 ∷ 1 ∷ []) ∷
      (300_000 ∷ mark_v ∷ 0 ∷ 3 ∷ 115_000 ∷ 0 ∷ 0 ∷ 0 ∷ 0 ∷ 92_000 ∷ 1 ∷ []) ∷
      (315_000 ∷ letter_r ∷ 0 ∷ 2 ∷ 115_000 ∷ 92_000 ∷ 138_000 ∷ 0 ∷ 0 ∷ 92_000 ∷ 3 ∷ []) ∷
      (330_000 ∷ mark_x ∷ 0 ∷ 3 ∷ 115_000 ∷ 0 ∷ 0 ∷ 0 ∷ 0 ∷ 92_000 ∷ 1 ∷ []) ∷
      (345_000 ∷ mark_h ∷ 0 ∷ 3 ∷ 115_000 ∷ 0 ∷ 0 ∷ 0 ∷ 0 ∷ 92_000 ∷ 1 ∷ []) ∷
      (615_000 ∷ mark_v ∷ 0 ∷ 3 ∷ 115_000 ∷ 0 ∷ 0 ∷ 0 ∷ 0 ∷ 92_000 ∷ 1 ∷ []) ∷
      (630_000 ∷ letter_r ∷ 0 ∷ 1 ∷ 70_000 ∷ 56_000 ∷ 84_000 ∷ 0 ∷ 0 ∷ 92_000 ∷ 2 ∷ []) ∷
      (630_000 ∷ letter_p ∷ 0 ∷ 3 ∷ 70_000 ∷ 0 ∷ 0 ∷ 0 ∷ 0 ∷ 92_000 ∷ 1 ∷ []) ∷
      (660_000 ∷ mark_h ∷ 0 ∷ 3 ∷ 70_000 ∷ 0 ∷ 0 ∷ 0 ∷ 0 ∷ 92_000 ∷ 1 ∷ []) ∷
      (900_000 ∷ mark_w ∷ 0 ∷ 3 ∷ 70_000 ∷ 0 ∷ 0 ∷ 0 ∷ 0 ∷ 92_000 ∷ 1 ∷ []) ∷
      (930_000 ∷ mark_v ∷ 0 ∷ 3 ∷ 70_000 ∷ 0 ∷ 0 ∷ 0 ∷ 0 ∷ 92_000 ∷ 1 ∷ []) ∷
      (930_000 ∷ letter_r ∷ 0 ∷ 2 ∷ 102_200 ∷ 92_000 ∷ 112_400 ∷ 0 ∷ 0 ∷ 92_000 ∷ 3 ∷ []) ∷
      (945_000 ∷ mark_x ∷ 0 ∷ 3 ∷ 102_200 ∷ 0 ∷ 0 ∷ 0 ∷ 0 ∷ 92_000 ∷ 1 ∷ []) ∷
      [];
}

unfoldable pub days : List Day
days =
    the_day ∷ a_limit ∷ by_the_close ∷ no_opening ∷ one_millisecond ∷ a_late_pause ∷ a_pause ∷ a_straddle ∷
    the_flags ∷ opened_by_f ∷ the_test ∷ the_exact_mean ∷ the_ties ∷ narrowed ∷ limit_again ∷ the_looks ∷ offer_straddle ∷ refused_pauses ∷
    soonest_again ∷ []

-- ------------------------------------------------------------------ limit pauses (R-2)

-- the starts of the limit pauses that calls on a book of one stock lead to
unfoldable pub pauses_by : ℕ → Setup → List (Call Message) → List ℕ
pauses_by end u cs = limit_pauses (notices (story end (u ∷ []) (map on_0 cs) 0))

abbrev pub pauses_of : Day → List ℕ
pauses_of d = pauses_by d.end d.setup d.calls

-- n reopenings at a price, the first at `time` and each 315,000 after the one before, with the moments that are due by then
unfoldable pub reopened : (time price n : ℕ) → List (Call Message)
reopened time price zero = []
reopened time price (suc n) = settle time ∷ settle time ∷ settle time ∷ settle time ∷ tell (R time 2 price) ∷ reopened (time + 315_000) price n

-- n dates, the first at `time` and each d after the one before
unfoldable pub evenly : (d time n : ℕ) → List ℕ
evenly d time zero = []
evenly d time (suc n) = time ∷ evenly d (time + d) n

-- one limit pause after another, from the opening to the end: each is reopened 300,000 after its start, at a price whose band is at the offer
abbrev pub all_day : List (Call Message)
all_day =
    tell (O 0 2 115_000) ∷
    tell (Q 0 5 0 92_000) ∷
    reopened 315_000 115_000 2 ++ reopened 945_000 102_200 67 ++ reopened 22_050_000 115_000 4 ++
    settle 23_010_000 ∷ []

-- ------------------------------------------------------------------ day totals (R-4)

-- the six times, limit states, pauses, highest and lowest
abbrev pub total_numbers : Totals → List ℕ
total_numbers t =
    let s = t.spent in
    s.waiting ∷ s.trading ∷ s.limit ∷ s.paused ∷ s.late ∷ s.closed ∷ t.limits ∷ t.pauses ∷ t.highest ∷ t.lowest ∷ []

-- the totals that a day leaves
unfoldable pub totals_of : Day → List ℕ
totals_of d = total_numbers (now d.end (d.setup ∷ []) (map on_0 d.calls) 0).totals
