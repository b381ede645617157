-- Why a message is refused by 9, 15 and 16.
-- Assumes nothing.
use Prim.Native.Nat.{ℕ, ◌≤◌, ◌<◌}
use mathlib.Core.Bool.{false}
use mathlib.Core.List.{List, [], ◌∷◌}
use mathlib.Core.Logic.Iff
use mathlib.Core.Logic.{inl, inr, ⊎_elim, ◌↔◌}
use mathlib.Core.Path.{◌≡◌, refl, ap, subst}
use native.Mathlib.Omega.{arith}
use Rattle.forms.specs.Words.{◌or◌, ◌and◌, Number, Gives}
use Rattle.forms.specs.Words.Number.{◌for◌}
use Rattle.forms.proofs.Decides.{has, numbers_in, eq_stable, take, not_given, None, once}
use Rattle.rules.specs.Stock.{Whole, Waiting, Trading, Closed}
use Rattle.rules.specs.Messages.{kind}
use Rattle.rules.specs.Words.{Straddle, BidShown, OfferShown, time_in, refusals, ReachesTable, WrongState, TooLate, NoStraddle}
use Rattle.rules.specs.Demands.{WrongStateIs, TooLateIs, NoStraddleIs}
use Rattle.rules.specs.declared.Stock.{Stock}
use Rattle.rules.specs.declared.Side.{Side}
use Rattle.rules.specs.declared.Message.{Message}
use Rattle.rules.specs.declared.Message.TheVariants.{Trade as T, Quote as Q, Opening as O, Pause as P, Reopening as R, Closing as X}
use Rattle.rules.proofs.Numbers.{numbers}

-- ------------------------------------------------------------------ the tables of O, P, R and X

-- the words for 1, 4 and 6, the times of the message and of the clock, the participant and the primary, the state and the one that takes the
-- message
module _ (Bad Outside Unsettled : Type 0) (time clock participant primary state there : ℕ) where
  abbrev Reaches : Type 0
  Reaches = ¬ Bad and ¬ Outside and clock ≤ time and ¬ Unsettled and participant ≡ primary

  -- the rows from 1 to 7, and more
  abbrev until : List Number → List Number
  until more =
      1 for Bad ∷ 4 for Outside ∷ 5 for (time < clock) ∷ 6 for Unsettled ∷ 8 for (¬ (participant ≡ primary)) ∷ 7 for (state ≡ Closed) ∷ more

  -- none of them applies
  passed : (more : List Number) → None (until more) ↔ (Reaches and ¬ (state ≡ Closed) and None more)
  passed more = (
    (λ (bad, (outside, (before, (unsettled, (other, rest))))).
        ((bad, (outside, (omega arith, (unsettled, (eq_stable _ _).undenied other)))), rest)),
    (λ ((bad, (outside, (reached, (unsettled, from)))), rest).
        (bad, (outside, ((λ l. omega arith), (unsettled, ((λ n. n from), rest)))))),
  )

  -- the table's 9, and a number of the row behind it
  by_table : (rest : List Number) → has (0 ∷ numbers_in rest) 9 ≡ false
      → Gives (until (9 for (¬ (state ≡ there)) ∷ rest)) 9 ↔ (Reaches and ¬ (state ≡ Closed) and ¬ (state ≡ there))
  by_table rest none =
      let e = once (until []) 9 (¬ (state ≡ there)) rest refl none in (
        (λ g. let k = (passed []).0 (e.0 g).0 in (k.0, (k.1.0, (e.0 g).1))),
        (λ k. e.1 ((passed []).1 (k.0, (k.1.0, tt)), k.1.1)),
      )

  by_itself : (n : ℕ) (Own : Type 0) → has (1 ∷ 4 ∷ 5 ∷ 6 ∷ 8 ∷ 7 ∷ 9 ∷ []) n ≡ false → has (0 ∷ []) n ≡ false → there < Closed
      → Gives (until (9 for (¬ (state ≡ there)) ∷ n for Own ∷ [])) n ↔ (Reaches and state ≡ there and Own)
  by_itself n Own above zero before_closed =
      let table : List Number = 9 for (¬ (state ≡ there)) ∷ [] in
      let e = once (until table) n Own [] above zero in (
        (λ g. let k = (passed table).0 (e.0 g).0 in (k.0, ((eq_stable _ _).undenied k.1.1.0, (e.0 g).1))),
        (λ k. let here = k.1.0 in e.1 ((passed table).1 (k.0, ((λ c. omega arith), ((λ n. n here), tt))), k.1.1)),
      )

-- ------------------------------------------------------------------ each message

-- a number that is not in a message's table
nowhere : (table : List Number) (n : ℕ) (A B : Type 0) → has (0 ∷ numbers_in table) n ≡ false → ¬ B → Gives table n ↔ (A and B)
nowhere table n A B none never = ((λ g. absurd (not_given table n none g)), (λ k. absurd (never k.1)))

pub gives_9 : (m : Message) (h : Whole) → Gives (refusals m h) 9 ↔ (ReachesTable m h and WrongState h.stock m)
gives_9 (T time price) h = nowhere _ 9 _ _ refl (λ k. k)
gives_9 (Q time participant bid offer) h = nowhere _ 9 _ _ refl (λ k. k)
gives_9 (O time participant price) h = by_table _ _ _ _ _ _ _ _ _ _ refl
gives_9 (P time participant) h = by_table _ _ _ _ _ _ _ _ _ _ refl
gives_9 (R time participant price) h = by_table _ _ _ _ _ _ _ _ _ _ refl
gives_9 (X time participant price) h = by_table _ _ _ _ _ _ _ _ _ _ refl

an_opening : (h : Whole) (m : Message) → TooLate h.stock m → kind m ≡ 2
an_opening h m (time, participant, price, (e, _)) = ap kind e

pub gives_15 : (m : Message) (h : Whole) → Gives (refusals m h) 15 ↔ (ReachesTable m h and TooLate h.stock m)
gives_15 (T time price) h = nowhere _ 15 _ _ refl (λ k. omega (arith, an_opening h (T time price) k))
gives_15 (Q time participant bid offer) h = nowhere _ 15 _ _ refl (λ k. omega (arith, an_opening h (Q time participant bid offer) k))
gives_15 (O time participant price) h =
    let e = by_itself _ _ _ _ _ _ _ _ Waiting 15 _ refl refl (omega arith) in (
      (λ g. ((e.0 g).0, (time, participant, price, (refl, (e.0 g).1)))),
      (λ (reaches, (_, _, _, (same, (here, late)))). let at = ap time_in same in e.1 (reaches, (here, omega arith))),
    )
gives_15 (P time participant) h = nowhere _ 15 _ _ refl (λ k. omega (arith, an_opening h (P time participant) k))
gives_15 (R time participant price) h = nowhere _ 15 _ _ refl (λ k. omega (arith, an_opening h (R time participant price) k))
gives_15 (X time participant price) h = nowhere _ 15 _ _ refl (λ k. omega (arith, an_opening h (X time participant price) k))

a_pause_lem : (h : Whole) (m : Message) → NoStraddle h.stock m → kind m ≡ 3
a_pause_lem h m (time, participant, (e, _)) = ap kind e

-- a side that is shown with flag 2 is a best quote beyond a band
beyond : (Absent Best Beyond : Type 0) (price flag : ℕ) (rest : List Number) → has (0 ∷ numbers_in rest) 2 ≡ false → flag ≡ 2
    → ((Absent and price ≡ 0 and flag ≡ 0) or (Best and Gives (2 for Beyond ∷ rest) flag)) → Best × Beyond
beyond Absent Best Beyond price flag rest none two (inl (_, (_, zero))) = absurd (omega (arith, two, zero))
beyond Absent Best Beyond price flag rest none two (inr (best, g)) = (best, ((once [] 2 Beyond rest refl none).0 (subst (Gives _) two g)).1)

-- there is no straddle exactly where no side is shown with flag 2
no_flag : (s : Stock)
    → (¬ Straddle s) ↔ (((bid : Side) → BidShown s bid → ¬ (bid.flag ≡ 2)) and ((offer : Side) → OfferShown s offer → ¬ (offer.flag ≡ 2)))
no_flag s = (
  (λ none. (
    (λ bid shown two. let k = beyond _ _ _ _ _ _ refl two shown in none (k.1.0, k.1.1, inl (bid.price, k.0, k.1.2))),
    (λ offer shown two. let k = beyond _ _ _ _ _ _ refl two shown in none (k.1.0, k.1.1, inr (offer.price, k.0, k.1.2))),
  )),
  (λ (bids, offers) (l, bands, k). ⊎_elim
      (λ (bid, best, below). bids (record { price = bid; flag = 2 }) (inr (best, take 2 2 _ _ (l, bands, below) refl)) refl)
      (λ (offer, best, above). offers (record { price = offer; flag = 2 }) (inr (best, take 2 2 _ _ (l, bands, above) refl)) refl)
      k),
)

pub gives_16 : (m : Message) (h : Whole) → Gives (refusals m h) 16 ↔ (ReachesTable m h and NoStraddle h.stock m)
gives_16 (T time price) h = nowhere _ 16 _ _ refl (λ k. omega (arith, a_pause_lem h (T time price) k))
gives_16 (Q time participant bid offer) h = nowhere _ 16 _ _ refl (λ k. omega (arith, a_pause_lem h (Q time participant bid offer) k))
gives_16 (O time participant price) h = nowhere _ 16 _ _ refl (λ k. omega (arith, a_pause_lem h (O time participant price) k))
gives_16 (P time participant) h =
    let e = by_itself _ _ _ _ _ _ _ _ Trading 16 _ refl refl (omega arith) in (
      (λ g. let k = (e.0 g).1 in ((e.0 g).0, (time, participant, (refl, (k.0, (no_flag h.stock).0 k.1))))),
      (λ (reaches, (_, _, (_, (here, flags)))). e.1 (reaches, (here, (no_flag h.stock).1 flags))),
    )
gives_16 (R time participant price) h = nowhere _ 16 _ _ refl (λ k. omega (arith, a_pause_lem h (R time participant price) k))
gives_16 (X time participant price) h = nowhere _ 16 _ _ refl (λ k. omega (arith, a_pause_lem h (X time participant price) k))

-- ------------------------------------------------------------------ the numbers

pub wrong_state : WrongStateIs
wrong_state m h = Iff.trans ((numbers h 9).0 m) (gives_9 m h)

pub too_late : TooLateIs
too_late m h = Iff.trans ((numbers h 15).0 m) (gives_15 m h)

pub no_straddle : NoStraddleIs
no_straddle m h = Iff.trans ((numbers h 16).0 m) (gives_16 m h)
