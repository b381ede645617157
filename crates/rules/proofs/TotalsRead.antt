-- The totals that are kept along a story are those that are read off it.
-- Assumes nothing.
use Prim.Native.Nat.{ℕ, zero, suc, ◌+◌, ◌-◌, ◌≤◌, ◌<◌}
use mathlib.Core.Bool.{Bool, true, false}
use mathlib.Core.List.{List, [], ◌∷◌}
use mathlib.Core.Logic.{◌⊎◌, inl, inr, ⊎_elim, ⊎_map}
use mathlib.Core.Path.{◌≡◌, refl, sym, ap, ◌∙◌, subst}
use native.Mathlib.Omega.{arith}
use lib.Dec.{ltb, eqb}
use Rattle.forms.specs.Choice.{if◌then◌otherwise◌}
use Rattle.forms.specs.Words.{◌or◌, ◌and◌, IsOneOf}
use Rattle.forms.proofs.Choice.{if_true, if_false}
use Rattle.forms.proofs.Decides.{is_true, is_false, either_way, by_eq, by_lt}
use Rattle.rules.specs.Stock.{Whole, Waiting, Trading, Limit, Paused, Late, Closed, state_of, clock_of}
use Rattle.rules.specs.Numbers.{fresh}
use Rattle.rules.specs.Machine.{Event, message, moment, dated, becomes, Lawful, left, Every}
use Rattle.rules.specs.Totals.{spent_in_all, traded_by}
use Rattle.rules.specs.Counted as counted
use Rattle.rules.specs.Counted.{Counted}
use Rattle.rules.specs.Book.{machine, counting, Story}
use Rattle.rules.specs.Words.{IsPrice, IsSide}
use Rattle.rules.specs.Changes.{date_of, IsNew, StartsPause, Enters}
use Rattle.rules.specs.TotalsWords.{CountAfter, Trades, NoTrade, TotalsAfter, Wrong}
use Rattle.rules.specs.Readings.{last_date, up_to, state_at, how_many, milliseconds_in, Counts, KeptCount, trade_prices, IsHighest, IsLowest}
use Rattle.rules.specs.Pauses.{EntersLimit}
use Rattle.rules.specs.Demands.{CanHappen, Allowed, leaves, keeps, TimesAre, TimesAddUp, CountsAre, OneCount, PricesAre, NeverWrong}
use Rattle.rules.specs.declared.Setup.{Setup}
use Rattle.rules.specs.declared.StateTimes.{StateTimes}
use Rattle.rules.specs.declared.Totals.{Totals}
use Rattle.rules.specs.declared.Notice.{Notice}
use Rattle.rules.specs.declared.Message.{Message}
use Rattle.rules.specs.declared.Message.TheVariants.{Trade as T, Quote as Q, Opening as O, Pause as P, Reopening as R, Closing as X}
use Rattle.rules.proofs.Events.{first_lawful, rest_lawful, event_clock, event_forward}
use Rattle.rules.proofs.Counted.{left_without}
use Rattle.rules.proofs.TotalsAfter.{totals_after, limit_is, pause_is, price_taken, state_low, is_trade, no_trade_lem}

-- ------------------------------------------------------------------ an event of a story

-- the date of an event, in both words
same_date : (e : Event Message Notice) → date_of e ≡ dated machine e
same_date (message (T time price)) = refl
same_date (message (Q time participant bid offer)) = refl
same_date (message (O time participant price)) = refl
same_date (message (P time participant)) = refl
same_date (message (R time participant price)) = refl
same_date (message (X time participant price)) = refl
same_date (moment n) = refl

-- what each event of a story does to the totals, by the first event and the rest
module _ (c : Counted) (e : Event Message Notice) (es : Story) (v : Lawful machine c.whole (e ∷ es)) where
  abbrev c' : Counted
  c' = becomes counting c e

  can : CanHappen c.whole e
  can = first_lawful c.whole e es v

  step : TotalsAfter c.whole e c'.whole.stock c.totals c'.totals
  step = (totals_after c e can).1

  same_whole : c'.whole ≡ becomes machine c.whole e
  same_whole = (totals_after c e can).0

  rest : Lawful machine c'.whole es
  rest = rw same_whole (rest_lawful c.whole e es v)

  clock_after : clock_of c'.whole.stock ≡ dated machine e
  clock_after = rw same_whole (event_clock c.whole e es v)

-- dates do not go back
last_after : (h : Whole) (es : Story) → Lawful machine h es → clock_of h.stock ≤ last_date (clock_of h.stock) es
last_after h [] v = omega arith
last_after h (e ∷ es) v =
    let f = event_forward h e es v in
    let r = last_after (becomes machine h e) es (rest_lawful h e es v) in
    let k = event_clock h e es v in
    let r' : dated machine e ≤ last_date (dated machine e) es = rw k at r in
    omega arith

-- ------------------------------------------------------------------ how many numbers are such

many_const : (p : ℕ → Bool) (b : Bool) (n : ℕ) → ((i : ℕ) → i < n → p i ≡ b) → how_many p n ≡ (if b then n otherwise 0)
unfolding how_many if◌then◌otherwise◌
many_const p true zero e = refl
many_const p false zero e = refl
many_const p true (suc n) e = rw (e n (omega arith)) (omega (arith, many_const p true n (λ i l. e i (omega arith))))
many_const p false (suc n) e = rw (e n (omega arith)) (omega (arith, many_const p false n (λ i l. e i (omega arith))))

many_same : (p q : ℕ → Bool) (n : ℕ) → ((i : ℕ) → i < n → p i ≡ q i) → how_many p n ≡ how_many q n
unfolding how_many
many_same p q zero e = refl
many_same p q (suc n) e = rw (e n (omega arith), many_same p q n (λ i l. e i (omega arith)))

many_split : (p : ℕ → Bool) (a b : ℕ) → how_many p (a + b) ≡ how_many p a + how_many (λ i. p (a + i)) b
unfolding how_many
many_split p a zero = let z : a + 0 ≡ a = omega arith in let k : how_many p (a + 0) ≡ how_many p a = ap (how_many p) z in omega (arith, k)
many_split p a (suc b) =
    let z : a + suc b ≡ suc (a + b) = omega arith in
    let k : how_many p (a + suc b) ≡ how_many p (suc (a + b)) = ap (how_many p) z in
    omega (arith, k, many_split p a b)

-- ------------------------------------------------------------------ the six times

module _ (state : ℕ) (its : StateTimes → ℕ) (after : (c : Counted) (e : Event Message Notice) → CanHappen c.whole e
    → IsNew (state_of c.whole.stock ≡ state) (its (becomes counting c e).totals.spent)
    (its c.totals.spent + (date_of e - clock_of c.whole.stock)) (its c.totals.spent)) where
  -- from a clock on: whether the stock is in the state at so many milliseconds after it
  in_state : Whole → Story → ℕ → Bool
  in_state h es i = eqb (state_at h es (clock_of h.stock + i)) state

  module _ (c : Counted) (e : Event Message Notice) (es : Story) (v : Lawful machine c.whole (e ∷ es)) where
    abbrev h : Whole
    h = c.whole

    abbrev clock : ℕ
    clock = clock_of h.stock

    abbrev date : ℕ
    date = dated machine e

    -- up to the event's date, the state before it
    early : (i : ℕ) → i < date - clock → in_state h (e ∷ es) i ≡ eqb (state_of h.stock) state
    unfolding in_state up_to
    early i l = ap (λ es. eqb (state_of (left machine h es).stock) state) (if_true (ltb (clock + i) date) [] (e ∷ up_to (clock + i) es) (is_true _ (by_lt (clock + i) date) (omega arith)))

    -- from then on, the state in the rest of the story
    late : (i : ℕ) → in_state h (e ∷ es) (date - clock + i) ≡ in_state (becomes machine h e) es i
    unfolding in_state up_to
    late i =
        let f = event_forward h e es v in
        let at : clock + (date - clock + i) ≡ clock_of (becomes machine h e).stock + i = omega (arith, event_clock h e es v) in
        let t = clock_of (becomes machine h e).stock + i in
        ap (λ t. eqb (state_at h (e ∷ es) t) state) at
        ∙ ap (λ es. eqb (state_of (left machine h es).stock) state)
        (if_false (ltb t date) [] (e ∷ up_to t es) (is_false _ (by_lt t date) (λ l. omega (arith, event_clock h e es v))))

    spent_by : its (becomes counting c e).totals.spent ≡ its c.totals.spent + (if eqb (state_of h.stock) state then date - clock otherwise 0)
    spent_by = go (after c e (first_lawful h e es v))
      where
        go : IsNew (state_of h.stock ≡ state) (its (becomes counting c e).totals.spent) (its c.totals.spent + (date_of e - clock)) (its c.totals.spent)
            → its (becomes counting c e).totals.spent ≡ its c.totals.spent + (if eqb (state_of h.stock) state then date - clock otherwise 0)
        go (inl k) = rw (if_true (eqb (state_of h.stock) state) (date - clock) 0 (is_true _ (by_eq _ _) k.0), ← same_date e) k.1
        go (inr k) = rw (if_false (eqb (state_of h.stock) state) (date - clock) 0 (is_false _ (by_eq _ _) k.0)) (omega (arith, k.1))

  spent_read : (c : Counted) (es : Story) → Lawful machine c.whole es
      → its (left counting c es).totals.spent
      ≡ its c.totals.spent + how_many (in_state c.whole es) (last_date (clock_of c.whole.stock) es - clock_of c.whole.stock)
  unfolding how_many
  spent_read c [] v =
      let z : clock_of c.whole.stock - clock_of c.whole.stock ≡ 0 = omega arith in
      rw z (omega arith)
  spent_read c (e ∷ es) v =
      let h = c.whole in
      let clock = clock_of h.stock in
      let date = dated machine e in
      let f = event_forward h e es v in
      let h' = becomes machine h e in
      let k : clock_of h'.stock ≡ date = event_clock h e es v in
      let r : its (left counting (becomes counting c e) es).totals.spent
      ≡ its (becomes counting c e).totals.spent + how_many (in_state h' es) (last_date date es - date) =
      subst (λ x. its (left counting (becomes counting c e) es).totals.spent ≡ its (becomes counting c e).totals.spent + how_many (in_state x es) (last_date (clock_of x.stock) es - clock_of x.stock))
      (same_whole c e es v) (spent_read (becomes counting c e) es (rest c e es v)) ∙ ap (λ d. its (becomes counting c e).totals.spent + how_many (in_state h' es) (last_date d es - d)) k in
      let last = last_after h' es (rest_lawful h e es v) in
      let long : last_date date es - clock ≡ (date - clock) + (last_date date es - date) = omega (arith, rw k at last) in
      let first = many_const (in_state h (e ∷ es)) _ (date - clock) (early c e es v) in
      let second = many_same (λ i. in_state h (e ∷ es) (date - clock + i)) (in_state h' es) (last_date date es - date) (λ i _. late c e es v i) in
      let split = many_split (in_state h (e ∷ es)) (date - clock) (last_date date es - date) in
      rw long (omega (arith, r, spent_by c e es v, split, first, second))

  -- from the beginning of a day, with no time spent yet
  from_0 : (c : Counted) (es : Story) → Lawful machine c.whole es → clock_of c.whole.stock ≡ 0 → its c.totals.spent ≡ 0
      → its (left counting c es).totals.spent ≡ milliseconds_in state c.whole es
  unfolding in_state
  from_0 c es v z none =
      let same = many_same (in_state c.whole es) (λ time. eqb (state_at c.whole es time) state) (last_date 0 es)
      (λ i _. ap (λ t. eqb (state_at c.whole es t) state) (omega (arith, z))) in
      let all : last_date (clock_of c.whole.stock) es - clock_of c.whole.stock ≡ last_date 0 es = rw z (omega arith) in
      spent_read c es v ∙ ap (λ n. its c.totals.spent + how_many (in_state c.whole es) n) all ∙ omega (arith, none, same)

pub times : TimesAre
unfolding fresh counted.fresh
times end u es a =
    let c = counted.fresh end u in
    let v = a.lawful in (
      from_0 Waiting (λ t. t.waiting) (λ c e k. (totals_after c e k).1.0.0) c es v refl refl,
      (
        from_0 Trading (λ t. t.trading) (λ c e k. (totals_after c e k).1.0.1.0) c es v refl refl,
        (
          from_0 Limit (λ t. t.limit) (λ c e k. (totals_after c e k).1.0.1.1.0) c es v refl refl,
          (
            from_0 Paused (λ t. t.paused) (λ c e k. (totals_after c e k).1.0.1.1.1.0) c es v refl refl,
            (
              from_0 Late (λ t. t.late) (λ c e k. (totals_after c e k).1.0.1.1.1.1.0) c es v refl refl,
              from_0 Closed (λ t. t.closed) (λ c e k. (totals_after c e k).1.0.1.1.1.1.1) c es v refl refl,
            ),
          ),
        ),
      ),
    )

-- ------------------------------------------------------------------ their sum

-- what a new time adds, where it is one
abbrev adds : (state k more : ℕ) → ℕ
adds state k more = if eqb state k then more otherwise 0

added : (state k more n n' : ℕ) → IsNew (state ≡ k) n' (n + more) n → n' ≡ n + adds state k more
added state k more n n' (inl x) = rw (if_true (eqb state k) more 0 (is_true _ (by_eq state k) x.0)) x.1
added state k more n n' (inr x) = rw (if_false (eqb state k) more 0 (is_false _ (by_eq state k) x.0)) (omega (arith, x.1))

-- one of the six states is added to
added_once : (state more : ℕ) → state < 6
    → adds state Waiting more + adds state Trading more + adds state Limit more + adds state Paused more + adds state Late more + adds state Closed more ≡ more
unfolding if◌then◌otherwise◌
added_once zero more l = omega arith
added_once (suc zero) more l = omega arith
added_once (suc (suc zero)) more l = omega arith
added_once (suc (suc (suc zero))) more l = omega arith
added_once (suc (suc (suc (suc zero)))) more l = omega arith
added_once (suc (suc (suc (suc (suc zero))))) more l = omega arith
added_once (suc (suc (suc (suc (suc (suc n)))))) more l = absurd (omega arith)

-- the six times are the clock, before an event and after it
sum_after : (c : Counted) (e : Event Message Notice) → CanHappen c.whole e → spent_in_all c.totals.spent ≡ clock_of c.whole.stock
    → spent_in_all (becomes counting c e).totals.spent ≡ clock_of (becomes counting c e).whole.stock
sum_after c e v sum =
    let state = state_of c.whole.stock in
    let more = date_of e - clock_of c.whole.stock in
    let t = c.totals.spent in
    let t' = (becomes counting c e).totals.spent in
    let k = (totals_after c e v).1.0 in
    let clock : clock_of (becomes counting c e).whole.stock ≡ dated machine e = ap (λ h. clock_of h.stock) (totals_after c e v).0 ∙ event_clock c.whole e [] v in
    omega (
      arith,
      sum,
      clock,
      same_date e,
      event_forward c.whole e [] v,
      added_once state more (state_low c.whole e v),
      added state Waiting more t.waiting t'.waiting k.0,
      added state Trading more t.trading t'.trading k.1.0,
      added state Limit more t.limit t'.limit k.1.1.0,
      added state Paused more t.paused t'.paused k.1.1.1.0,
      added state Late more t.late t'.late k.1.1.1.1.0,
      added state Closed more t.closed t'.closed k.1.1.1.1.1,
    )

sum_left : (c : Counted) (es : Story) → Lawful machine c.whole es → spent_in_all c.totals.spent ≡ clock_of c.whole.stock
    → spent_in_all (left counting c es).totals.spent ≡ clock_of (left counting c es).whole.stock
sum_left c [] v sum = sum
sum_left c (e ∷ es) v sum =
    sum_left (becomes counting c e) es (rest c e es v) (sum_after c e (first_lawful c.whole e es v) sum)

kept_sum : (end : ℕ) (u : Setup) (es : Story) → Allowed end u es → spent_in_all (keeps end u es).spent ≡ clock_of (leaves end u es).stock
unfolding fresh counted.fresh
kept_sum end u es a = sum_left (counted.fresh end u) es a.lawful refl ∙ ap (λ h. clock_of h.stock) (left_without (counted.fresh end u) es)

pub times_add_up : TimesAddUp
times_add_up end u es a =
    let t = times end u es a in
    omega (arith, kept_sum end u es a, t.0, t.1.0, t.1.1.0, t.1.1.1.0, t.1.1.1.1.0, t.1.1.1.1.1)

-- ------------------------------------------------------------------ the two counts

-- a count that has stopped stays where it is
stopped : (n n' more k : ℕ) → n ≡ 4_294_967_295 → n' ≡ n → KeptCount (n' + more) k → KeptCount (n + suc more) k
stopped n n' more k full same (inl x) = inr (omega (arith, x.0), omega (arith, x.0, x.1))
stopped n n' more k full same (inr x) = inr (omega arith, x.1)

module _ (Such : Whole → Event Message Notice → Type 0) (its : Totals → ℕ)
    (known : (h : Whole) (e : Event Message Notice) → CanHappen h e → Such h e ⊎ (¬ Such h e))
    (after : (c : Counted) (e : Event Message Notice) → CanHappen c.whole e → CountAfter (Such c.whole e) (its c.totals) (its (becomes counting c e).totals)) where
  -- so many more were counted, up to the most
  abbrev CountedOn : Counted → Story → Type 0
  CountedOn c es = (n : ℕ) × Counts Such c.whole es n × KeptCount (its c.totals + n) (its (left counting c es).totals)

  counts_read : (c : Counted) (es : Story) → Lawful machine c.whole es → its c.totals ≤ 4_294_967_295 → CountedOn c es
  counts_read c [] v l = (0, refl, inl (omega arith, omega arith))
  counts_read c (e ∷ es) v l =
      go (counts_read (becomes counting c e) es (rest c e es v)) (known c.whole e (first_lawful c.whole e es v))
      (after c e (first_lawful c.whole e es v))
    where
      counts : (n : ℕ) → Counts Such (becomes counting c e).whole es n → Counts Such (becomes machine c.whole e) es n
      counts n k = subst (λ h. Counts Such h es n) (same_whole c e es v) k

      go : (its (becomes counting c e).totals ≤ 4_294_967_295 → CountedOn (becomes counting c e) es) → Such c.whole e ⊎ (¬ Such c.whole e) → CountAfter (Such c.whole e) (its c.totals) (its (becomes counting c e).totals) → CountedOn c (e ∷ es)
      go on (inl s) (inl k) =
          let r = on (omega (arith, k.0.1, k.1)) in
          let more : its (becomes counting c e).totals + r.0 ≡ its c.totals + suc r.0 = omega (arith, k.1) in
          (suc r.0, inl (s, (r.0, refl, counts r.0 r.1)), subst (λ x. KeptCount x (its (left counting (becomes counting c e) es).totals)) more r.2)
      go on (inl s) (inr k) =
          let full : ¬ (its c.totals < 4_294_967_295) = λ l. k.0 (s, l) in
          let r = on (omega (arith, k.1, l)) in
          (suc r.0, inl (s, (r.0, refl, counts r.0 r.1)), stopped (its c.totals) _ r.0 _ (omega arith) k.1 r.2)
      go on (inr n) (inl k) = absurd (n k.0.0)
      go on (inr n) (inr k) =
          let r = on (omega (arith, k.1, l)) in
          (r.0, inr (n, counts r.0 r.1), subst (λ x. KeptCount (x + r.0) (its (left counting (becomes counting c e) es).totals)) k.1 r.2)

pub one_count : OneCount
one_count Such h [] n m a b = a ∙ sym b
one_count Such h (e ∷ es) n m (inl a) (inl b) = a.1.1 ∙ ap suc (one_count Such (becomes machine h e) es _ _ a.1.2 b.1.2) ∙ sym b.1.1
one_count Such h (e ∷ es) n m (inl a) (inr b) = absurd (b.0 a.0)
one_count Such h (e ∷ es) n m (inr a) (inl b) = absurd (a.0 b.0)
one_count Such h (e ∷ es) n m (inr a) (inr b) = one_count Such (becomes machine h e) es n m a.1 b.1

pub counts : CountsAre
unfolding fresh counted.fresh
counts end u es a =
    let c = counted.fresh end u in (
      from_none (counts_read EntersLimit (λ t. t.limits) (λ h e v. either_way _ (limit_is h e v)) limits_after c es a.lawful (omega arith)),
      from_none (counts_read (λ h e. StartsPause e) (λ t. t.pauses) (λ h e v. either_way _ (pause_is h e v)) (λ c e v. (totals_after c e v).1.1.1.0)
          c es a.lawful (omega arith)),
    )
  where
    from_none : {Are : ℕ → Type 0} {k : ℕ} → (n : ℕ) × Are n × KeptCount (0 + n) k → (n : ℕ) × Are n × KeptCount n k
    from_none {Are = Are} {k = k} (n, are, up) = let z : 0 + n ≡ n = omega arith in (n, are, subst (λ n. KeptCount n k) z up)

    limits_after : (c : Counted) (e : Event Message Notice) → CanHappen c.whole e
        → CountAfter (EntersLimit c.whole e) c.totals.limits (becomes counting c e).totals.limits
    limits_after c e v = subst (λ h. CountAfter (Enters c.whole e h.stock) c.totals.limits (becomes counting c e).totals.limits)
        (totals_after c e v).0 (totals_after c e v).1.1.0

-- ------------------------------------------------------------------ the highest and the lowest

-- every T of a story has a price in range
prices_in_range : (h : Whole) (es : Story) → Lawful machine h es → Every IsPrice (trade_prices es)
prices_in_range h [] v = tt
prices_in_range h (message (T time price) ∷ es) v = (price_taken time price h (v.0, tt), prices_in_range (becomes machine h (message (T time price))) es v.1)
prices_in_range h (message (Q time participant bid offer) ∷ es) v = prices_in_range (becomes machine h (message (Q time participant bid offer))) es v.1
prices_in_range h (message (O time participant price) ∷ es) v = prices_in_range (becomes machine h (message (O time participant price))) es v.1
prices_in_range h (message (P time participant) ∷ es) v = prices_in_range (becomes machine h (message (P time participant))) es v.1
prices_in_range h (message (R time participant price) ∷ es) v = prices_in_range (becomes machine h (message (R time participant price))) es v.1
prices_in_range h (message (X time participant price) ∷ es) v = prices_in_range (becomes machine h (message (X time participant price))) es v.1
prices_in_range h (moment n ∷ es) v = prices_in_range (becomes machine h (moment n)) es v.2

-- k is the highest of n and the prices
abbrev High : ℕ → List ℕ → ℕ → Type 0
High n prices k = (k ≡ n or IsOneOf k prices) and n ≤ k and Every (λ price. price ≤ k) prices

-- k is the lowest of n, where that is not 0, and the prices
abbrev Low : ℕ → List ℕ → ℕ → Type 0
Low n prices k = (((1 ≤ n or prices ≡ []) and k ≡ n) or IsOneOf k prices) and (1 ≤ n → k ≤ n) and Every (λ price. k ≤ price) prices

-- one more price in front
more_high : (n price n' k : ℕ) (prices : List ℕ) → IsNew (n < price) n' price n → High n' prices k → High n (price ∷ prices) k
more_high n price n' k prices (inl x) (at, (up, all)) = (inr (⊎_map (λ q. q ∙ x.1) (λ m. m) at), (omega (arith, x.0, x.1), (omega (arith, x.1), all)))
more_high n price n' k prices (inr x) (at, (up, all)) = (⊎_map (λ q. q ∙ x.1) inr at, (omega (arith, x.1), (omega (arith, x.0, x.1), all)))

more_low : (n price n' k : ℕ) (prices : List ℕ) → 1 ≤ price → IsNew (n ≡ 0 or price < n) n' price n → Low n' prices k → Low n (price ∷ prices) k
more_low n price n' k prices some (inl x) (at, (down, all)) =
    let below : k ≤ price = omega (arith, down (omega (arith, x.1)), x.1) in (
      inr (⊎_map (λ q. q.1 ∙ x.1) (λ m. m) at),
      ((λ l. ⊎_elim (λ z. absurd (omega arith)) (λ z. omega arith) x.0), (below, all)),
    )
more_low n price n' k prices some (inr x) (at, (down, all)) =
    let some_n : ¬ (n ≡ 0) = λ z. x.0 (inl z) in
    let above : ¬ (price < n) = λ l. x.0 (inr l) in
    let below : k ≤ n = omega (arith, down (omega (arith, x.1)), x.1) in
    (⊎_map (λ q. (inl (omega arith), q.1 ∙ x.1)) inr at, ((λ l. below), (omega arith, all)))

-- what an event that is a T does, and one that is none
one_price : (Words : ℕ → Type 0) (time price n n' : ℕ)
    → ((p : ℕ) × Trades (message (T time price)) p × IsNew (Words p) n' p n) or (NoTrade (message (T time price)) and n' ≡ n)
    → IsNew (Words price) n' price n
one_price Words time price n n' (inl (p, q, x)) = subst (λ p. IsNew (Words p) n' p n) (sym (ap traded_by q.1)) x
one_price Words time price n n' (inr (not, x)) = absurd (not price (time, refl))

unpriced : (e : Event Message Notice) (Words : ℕ → Type 0) (n n' : ℕ) → is_trade e ≡ 0
    → ((p : ℕ) × Trades e p × IsNew (Words p) n' p n) or (NoTrade e and n' ≡ n) → n' ≡ n
unpriced e Words n n' z (inl (p, q, x)) = absurd (no_trade_lem e z p q)
unpriced e Words n n' z (inr (not, x)) = x

module _ (c : Counted) (e : Event Message Notice) (es : Story) (v : Lawful machine c.whole (e ∷ es)) (z : is_trade e ≡ 0) where
  abbrev next : Totals
  next = (left counting (becomes counting c e) es).totals

  high_on : High (becomes counting c e).totals.highest (trade_prices es) next.highest → High c.totals.highest (trade_prices es) next.highest
  high_on k = subst (λ n. High n (trade_prices es) next.highest) (unpriced e (λ p. c.totals.highest < p) _ _ z (step c e es v).1.1.1.0) k

  low_on : Low (becomes counting c e).totals.lowest (trade_prices es) next.lowest → Low c.totals.lowest (trade_prices es) next.lowest
  low_on k = subst (λ n. Low n (trade_prices es) next.lowest)
      (unpriced e (λ p. c.totals.lowest ≡ 0 or p < c.totals.lowest) _ _ z (step c e es v).1.1.1.1) k

high : (c : Counted) (es : Story) → Lawful machine c.whole es → High c.totals.highest (trade_prices es) (left counting c es).totals.highest
high c [] v = (inl refl, (omega arith, tt))
high c (message (T time price) ∷ es) v =
    let e : Event Message Notice = message (T time price) in
    more_high c.totals.highest price _ _ (trade_prices es) (one_price (λ p. c.totals.highest < p) time price _ _ (step c e es v).1.1.1.0)
    (high (becomes counting c e) es (rest c e es v))
high c (message (Q time participant bid offer) ∷ es) v = high_on c (message (Q time participant bid offer)) es v refl (high (becomes counting c (message (Q time participant bid offer))) es (rest c (message (Q time participant bid offer)) es v))
high c (message (O time participant price) ∷ es) v = high_on c (message (O time participant price)) es v refl (high (becomes counting c (message (O time participant price))) es (rest c (message (O time participant price)) es v))
high c (message (P time participant) ∷ es) v = high_on c (message (P time participant)) es v refl (high (becomes counting c (message (P time participant))) es (rest c (message (P time participant)) es v))
high c (message (R time participant price) ∷ es) v = high_on c (message (R time participant price)) es v refl (high (becomes counting c (message (R time participant price))) es (rest c (message (R time participant price)) es v))
high c (message (X time participant price) ∷ es) v = high_on c (message (X time participant price)) es v refl (high (becomes counting c (message (X time participant price))) es (rest c (message (X time participant price)) es v))
high c (moment n ∷ es) v = high_on c (moment n) es v refl (high (becomes counting c (moment n)) es (rest c (moment n) es v))

low : (c : Counted) (es : Story) → Lawful machine c.whole es → Low c.totals.lowest (trade_prices es) (left counting c es).totals.lowest
low c [] v = (inl (inr refl, refl), ((λ l. omega arith), tt))
low c (message (T time price) ∷ es) v =
    let e : Event Message Notice = message (T time price) in
    more_low c.totals.lowest price _ _ (trade_prices es) (price_taken time price c.whole (v.0, tt)).0
    (one_price (λ p. c.totals.lowest ≡ 0 or p < c.totals.lowest) time price _ _ (step c e es v).1.1.1.1)
    (low (becomes counting c e) es (rest c e es v))
low c (message (Q time participant bid offer) ∷ es) v = low_on c (message (Q time participant bid offer)) es v refl (low (becomes counting c (message (Q time participant bid offer))) es (rest c (message (Q time participant bid offer)) es v))
low c (message (O time participant price) ∷ es) v = low_on c (message (O time participant price)) es v refl (low (becomes counting c (message (O time participant price))) es (rest c (message (O time participant price)) es v))
low c (message (P time participant) ∷ es) v = low_on c (message (P time participant)) es v refl (low (becomes counting c (message (P time participant))) es (rest c (message (P time participant)) es v))
low c (message (R time participant price) ∷ es) v = low_on c (message (R time participant price)) es v refl (low (becomes counting c (message (R time participant price))) es (rest c (message (R time participant price)) es v))
low c (message (X time participant price) ∷ es) v = low_on c (message (X time participant price)) es v refl (low (becomes counting c (message (X time participant price))) es (rest c (message (X time participant price)) es v))
low c (moment n ∷ es) v = low_on c (moment n) es v refl (low (becomes counting c (moment n)) es (rest c (moment n) es v))

-- the highest of no number and prices that are not 0 is one of them, if there is one
highest_of : (prices : List ℕ) (k : ℕ) → Every IsPrice prices → High 0 prices k → IsHighest k prices
highest_of [] k r (inl q, _) = inl (refl, q)
highest_of [] k r (inr m, _) = absurd m
highest_of (p ∷ ps) k r (inl q, (_, all)) = absurd (omega (arith, r.0.0, all.0))
highest_of (p ∷ ps) k r (inr m, (_, all)) = inr (m, all)

lowest_of : (prices : List ℕ) (k : ℕ) → Low 0 prices k → IsLowest k prices
lowest_of prices k (inl (inl l, q), _) = absurd (omega arith)
lowest_of prices k (inl (inr none, q), _) = inl (none, q)
lowest_of prices k (inr m, (_, all)) = inr (m, all)

pub prices : PricesAre
unfolding fresh counted.fresh
prices end u es a =
    let c = counted.fresh end u in (
      highest_of (trade_prices es) _ (prices_in_range (fresh end u) es a.lawful) (high c es a.lawful),
      lowest_of (trade_prices es) _ (low c es a.lawful),
    )

-- ------------------------------------------------------------------ never wrong

one_in_range : (n : ℕ) (prices : List ℕ) → Every IsPrice prices → IsOneOf n prices → IsSide n
one_in_range n [] r m = absurd m
one_in_range n (p ∷ ps) r (inl q) = omega (arith, r.0.1)
one_in_range n (p ∷ ps) r (inr m) = one_in_range n ps r.1 m

pub never_wrong : NeverWrong
never_wrong end u es a = go
  where
    in_range : Every IsPrice (trade_prices es)
    in_range = prices_in_range (fresh end u) es a.lawful

    side : (n : ℕ) {All : Type 0} → (trade_prices es ≡ [] and n ≡ 0) or (IsOneOf n (trade_prices es) and All) → IsSide n
    side n (inl k) = omega (arith, k.1)
    side n (inr k) = one_in_range n (trade_prices es) in_range k.0

    go : ¬ Wrong (record { whole = leaves end u es; totals = keeps end u es })
    go (inl n) = n (kept_sum end u es a)
    go (inr (inl n)) = n (side _ (prices end u es a).0)
    go (inr (inr n)) = n (side _ (prices end u es a).1)
