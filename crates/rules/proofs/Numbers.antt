-- Every call gives the number that the words give, and no other.
-- Assumes nothing.
use Prim.Native.Nat.{ℕ, ◌≤◌, ◌<◌}
use mathlib.Core.Bool.{true, not}
use mathlib.Core.List.{List, [], ◌∷◌}
use mathlib.Core.Logic.{inl, inr}
use mathlib.Core.Path.{◌≡◌, refl}
use native.Mathlib.Omega.{arith}
use lib.Dec.{eqb}
use lib.ListN.{length}
use Rattle.forms.specs.Choice.{if◌then◌otherwise◌, any_of}
use Rattle.forms.specs.Checks.{first}
use Rattle.forms.specs.Checks.Check.{◌when◌}
use Rattle.forms.specs.Words.{◌or◌, Number, Gives}
use Rattle.forms.specs.Words.Number.{◌for◌}
use Rattle.forms.proofs.Decides.{Decides, words, eq_stable, by_lt, row, passed_over, own_table, choices, numbers as tables, exactly, past, once, below, cells}
use Rattle.rules.specs.Stock.{Whole, Waiting, Trading, Limit, Paused, Late, Closed, state_of}
use Rattle.rules.specs.Messages.{kind, time_of, taken}
use Rattle.rules.specs.Numbers.{rubbish, not_primary, own_checks, table_check, message_checks, checks, tells, time_checks, settle_checks, settles, read_checks, reads, setup_checks, sets_up}
use Rattle.rules.specs.Words.{Due, Rubbish, OutOfRange, own_refusals, refusals, settle_refusals, read_refusals, setup_refusals}
use Rattle.rules.specs.Demands.{NumbersAre, SetupNumbersAre}
use Rattle.rules.specs.declared.Message.{Message}
use Rattle.rules.specs.declared.Setup.{Setup}
use Rattle.rules.specs.declared.Message.TheVariants.{Trade as T, Quote as Q, Opening as O, Pause as P, Reopening as R, Closing as X}
use Rattle.rules.proofs.BestQuotes.{outside_is, straddle_is}
use Rattle.rules.proofs.Coming.{due_is, past_is}
use Rattle.rules.proofs.Ranges.{shape_is, end_is, setups_are, range_is, stock_is, trades_are}

-- ------------------------------------------------------------------ rubbish

pub rubbish_is : (h : Whole) → Decides (rubbish h) (Rubbish h)
unfolding rubbish
rubbish_is h = search (words, stock_is, trades_are, past_is) depth 20

pub state_below : (h : Whole) → ¬ Rubbish h → state_of h.stock < 6
state_below h n = let k : ¬ (5 < state_of h.stock) = λ l. n (inl (inl l)) in omega arith

-- ------------------------------------------------------------------ the table of message by state

-- a row of the table by tests; every cell is compared with these by computation
taken_t : ℕ → ℕ
taken_t state = if eqb state 5 then 7 otherwise if any_of (eqb state 3 ∷ eqb state 4 ∷ []) then 11 otherwise 0

taken_q : ℕ → ℕ
taken_q state = if eqb state 5 then 7 otherwise 0

taken_in : ℕ → ℕ → ℕ
taken_in there state = if eqb state 5 then 7 otherwise if not (eqb state there) then 9 otherwise 0

by_taken_t : (state : ℕ) → Gives (7 for (state ≡ Closed) ∷ 11 for (state ≡ Paused or state ≡ Late) ∷ []) (taken_t state)
unfolding taken_t
by_taken_t state = search (words, choices)

by_taken_q : (state : ℕ) → Gives (7 for (state ≡ Closed) ∷ []) (taken_q state)
unfolding taken_q
by_taken_q state = search (words, choices)

by_taken_in : (there state : ℕ) → Gives (7 for (state ≡ Closed) ∷ 9 for (¬ (state ≡ there)) ∷ []) (taken_in there state)
unfolding taken_in
by_taken_in there state = search (words, choices)

row_t : (state : ℕ) → state < 6 → Gives (7 for (state ≡ Closed) ∷ 11 for (state ≡ Paused or state ≡ Late) ∷ []) (taken 0 state)
unfolding taken taken_t below if◌then◌otherwise◌ any_of
row_t state l = rw (cells 6 (taken 0) taken_t refl state l) (by_taken_t state)

row_q : (state : ℕ) → state < 6 → Gives (7 for (state ≡ Closed) ∷ []) (taken 1 state)
unfolding taken taken_q below if◌then◌otherwise◌
row_q state l = rw (cells 6 (taken 1) taken_q refl state l) (by_taken_q state)

-- O, P, R and X are each taken in one state
row_in : (k there : ℕ) → below 6 (λ state. eqb (taken k state) (taken_in there state)) ≡ true
    → (state : ℕ) → state < 6 → Gives (7 for (state ≡ Closed) ∷ 9 for (¬ (state ≡ there)) ∷ []) (taken k state)
row_in k there e state l = rw (cells 6 (taken k) (taken_in there) e state l) (by_taken_in there state)

-- ------------------------------------------------------------------ a call on a stock

-- the checks from 8 on: the primary, the table, and the message's own
own_given : (m : Message) (h : Whole) → let s = h.stock in state_of s < 6
    → Gives (own_refusals m h) (first (8 when not_primary s.setup.primary m ∷ table_check (taken (kind m) (state_of s)) (own_checks m (length h.window) s)))
unfolding not_primary own_checks taken taken_in below if◌then◌otherwise◌
own_given (T time price) h l = passed_over 8 _ _ (own_table _ _ _ _ refl (row_t _ l) (search (words, tables, outside_is)))
own_given (Q time participant bid offer) h l = passed_over 8 _ _ (own_table _ _ _ _ refl (row_q _ l) (search tables))
own_given (O time participant price) h l = row 8 _ _ _ _ (search words) (λ _. own_table _ _ _ _ refl (row_in 2 Waiting refl _ l) (search (words, tables)))
own_given (P time participant) h l = row 8 _ _ _ _ (search words) (λ _. own_table _ _ _ _ refl (row_in 3 Trading refl _ l) (search (words, tables, straddle_is)))
own_given (R time participant price) h l = row 8 _ _ _ _ (search words) (λ _. own_table _ _ _ _ refl (row_in 4 Paused refl _ l) (search (words, tables)))
own_given (X time participant price) h l = row 8 _ _ _ _ (search words) (λ _. own_table _ _ _ _ refl (row_in 5 Late refl _ l) (search (words, tables)))

pub told : (m : Message) (h : Whole) → Gives (refusals m h) (tells m h)
unfolding tells checks message_checks
told m h = row 1 _ _ _ _ (rubbish_is h) (λ sound.
    row 4 _ _ _ _ (range_is _ m) (λ _.
    row 5 _ _ _ _ (by_lt _ _) (λ _.
    row 6 _ _ _ _ (due_is _ h) (λ _.
    own_given m h (state_below h sound)))))

pub settled : (time : ℕ) (h : Whole) → Gives (settle_refusals time h) (settles time h)
unfolding settles settle_checks time_checks
settled time h = search (words, tables, rubbish_is, due_is) depth 20

pub was_read : (h : Whole) → Gives (read_refusals h) (reads h)
unfolding reads read_checks
was_read h = search (words, tables, rubbish_is) depth 20

pub numbers : NumbersAre
numbers h n = ((λ m. exactly _ _ n (told m h)), (λ time. exactly _ _ n (settled time h)), exactly _ _ n (was_read h))

pub set_up : (stocks times prices end : ℕ) (us : List Setup) → Gives (setup_refusals stocks times prices end us) (sets_up stocks times prices end us)
unfolding sets_up setup_checks
set_up stocks times prices end us = search (words, tables, shape_is, end_is, setups_are) depth 20

pub setup_numbers : SetupNumbersAre
setup_numbers stocks times prices end us n = exactly _ _ n (set_up stocks times prices end us)

-- ------------------------------------------------------------------ what a call that is done has passed, in words

pub record Taken (m : Message) (h : Whole) : Type 0 where
  pub sound : ¬ Rubbish h
  pub in_range : ¬ OutOfRange h.stock.end m
  pub none_due : ¬ Due (time_of m) h
  pub own_passed : Gives (own_refusals m h) 0

pub taken_words : (m : Message) (h : Whole) → tells m h ≡ 0 → Taken m h
taken_words m h e =
    let a = past 1 0 _ _ (λ z. omega arith) (((numbers h 0).0 m).0 e) in
    let b = past 4 0 _ _ (λ z. omega arith) a.1 in
    let c = past 5 0 _ _ (λ z. omega arith) b.1 in
    let d = past 6 0 _ _ (λ z. omega arith) c.1 in
    record { sound = a.0; in_range = b.0; none_due = d.0; own_passed = d.1 }

pub settled_sound : (time : ℕ) (h : Whole) → settles time h ≡ 0 → ¬ Rubbish h
settled_sound time h e = (past 1 0 _ _ (λ z. omega arith) (((numbers h 0).1 time).0 e)).0

-- the states that take a message
abbrev pub Takes : Message → ℕ → Type 0
Takes (T time price) state = state ≤ Limit
Takes (Q time participant bid offer) state = state ≤ Late
Takes (O time participant price) state = state ≡ Waiting
Takes (P time participant) state = state ≡ Trading
Takes (R time participant price) state = state ≡ Paused
Takes (X time participant price) state = state ≡ Late

pub takes_in : (m : Message) (h : Whole) → tells m h ≡ 0 → Takes m (state_of h.stock)
takes_in m h e = go m (taken_words m h e).own_passed
  where
    state : ℕ
    state = state_of h.stock

    low : state < 6
    low = state_below h (taken_words m h e).sound

    primary : (A B : Type 0) (there : ℕ) (rest : List Number) → Gives (8 for A ∷ 7 for B ∷ 9 for (¬ (state ≡ there)) ∷ rest) 0 → state ≡ there
    primary A B there rest g = (eq_stable _ _).undenied (past 9 0 _ _ (λ z. omega arith) (past 7 0 _ _ (λ z. omega arith) (past 8 0 _ _ (λ z. omega arith) g).1).1).0

    go : (m : Message) → Gives (own_refusals m h) 0 → Takes m state
    go (T time price) g =
        let a = past 7 0 _ _ (λ z. omega arith) g in
        let b = (past 11 0 _ _ (λ z. omega arith) a.1).0 in
        let c : ¬ (state ≡ Paused) = λ k. b (inl k) in
        let d : ¬ (state ≡ Late) = λ k. b (inr k) in
        omega (arith, low)
    go (Q time participant bid offer) g = omega (arith, low, (past 7 0 _ _ (λ z. omega arith) g).0)
    go (O time participant price) g = primary _ _ _ _ g
    go (P time participant) g = primary _ _ _ _ g
    go (R time participant price) g = primary _ _ _ _ g
    go (X time participant price) g = primary _ _ _ _ g

-- ------------------------------------------------------------------ where a call on a stock gives 1

pub told_1 : (m : Message) (h : Whole) → tells m h ≡ 1 → Rubbish h
told_1 (T time price) h e = ((once [] 1 _ _ refl refl).0 (((numbers h 1).0 (T time price)).0 e)).1
told_1 (Q time participant bid offer) h e = ((once [] 1 _ _ refl refl).0 (((numbers h 1).0 (Q time participant bid offer)).0 e)).1
told_1 (O time participant price) h e = ((once [] 1 _ _ refl refl).0 (((numbers h 1).0 (O time participant price)).0 e)).1
told_1 (P time participant) h e = ((once [] 1 _ _ refl refl).0 (((numbers h 1).0 (P time participant)).0 e)).1
told_1 (R time participant price) h e = ((once [] 1 _ _ refl refl).0 (((numbers h 1).0 (R time participant price)).0 e)).1
told_1 (X time participant price) h e = ((once [] 1 _ _ refl refl).0 (((numbers h 1).0 (X time participant price)).0 e)).1

pub settled_1 : (time : ℕ) (h : Whole) → settles time h ≡ 1 → Rubbish h
settled_1 time h e = ((once [] 1 _ _ refl refl).0 (((numbers h 1).1 time).0 e)).1

pub read_1 : (h : Whole) → reads h ≡ 1 → Rubbish h
read_1 h e = ((once [] 1 _ _ refl refl).0 ((numbers h 1).2.0 e)).1
