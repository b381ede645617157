-- What a call gives and leaves, from what its parts promise.
-- Assumes nothing.
use Prim.Native.Nat.{ℕ, ◌≤◌, ◌<◌, max}
use mathlib.Core.Bool.{Bool, true, false, not, true≢false}
use mathlib.Core.List.{List, [], ◌∷◌, map}
use mathlib.Core.Logic.{◌⊎◌, inl, inr}
use mathlib.Core.Path.{◌≡◌, refl, sym, ap, ◌∙◌, subst}
use native.Mathlib.Nat.{max-le}
use native.Mathlib.Omega.{arith}
use borrow.Author.Tests.{eq-eqb, ne_eqb, le-leb, ltb-false, leb-false, leb-true, eqb-true, not-true}
use lib.Dec.{eqb}
use lib.ListN.{length, length-append, length-map}
use Rattle.std.proofs.Common.{Option, Some, None}
use Rattle.forms.specs.Choice.{if◌then◌otherwise◌, any_of}
use Rattle.forms.proofs.Choice.{if_true, if_false, if_arms, all_head, all_tail, all_yes, all_empty, any_head, any_tail}
use Rattle.forms.specs.Checks.{first}
use Rattle.forms.proofs.Checks.{beyond}
use Rattle.forms.proofs.Decides.{is_false}
use Rattle.band.specs.Words as arithmetic
use Rattle.band.specs.declared.Mean.{Mean}
use Rattle.band.proofs.Laws.{printed_most}
use Rattle.rules.specs.Stock.{Trade, Whole, clock_of, figures_of, staying}
use Rattle.rules.specs.Moments.{no_moment, due_by, window_after, come, next_of, fire}
use Rattle.rules.specs.Messages.{does, after}
use Rattle.rules.specs.Numbers.{bad_trades, rubbish, own_checks, tells, settles, zeros, beside, answer, notice, read_checks, reads, none_coming}
use Rattle.rules.specs.Machine.{message, moment}
use Rattle.rules.specs.Totals.{traded_by, begins_limit, in_pause, begins_pause, brought, wrong_totals}
use Rattle.rules.specs.Counted as counted
use Rattle.rules.specs.Counted.{wrong, no_summary}
use Rattle.rules.specs.TotalsWords.{Wrong}
use Rattle.rules.specs.Words.{IsReference}
use Rattle.rules.specs.declared.Answer.{Answer}
use Rattle.rules.specs.declared.Message.{Message}
use Rattle.rules.specs.declared.Message.TheVariants.{Trade as T, Quote as Q, Opening as O, Pause as P, Reopening as R, Closing as X}
use Rattle.rules.specs.declared.Moment.{Moment}
use Rattle.rules.specs.declared.Notice.{Notice}
use Rattle.rules.specs.declared.Stock.{Stock}
use Rattle.rules.proofs.Counted.{wrong_is, wrong_or_not, if_wrong, if_right, accepted}
use Rattle.rules.proofs.Fits.{bands_fit}
use Rattle.rules.proofs.Numbers.{rubbish_is}
use Rattle.rules.specs.declared.Summary.{Summary}
use Rattle.rules.specs.declared.Totals.{Totals}
use Rattle.rules.specs.declared.Upcoming.{Upcoming}
use Rattle.rules.proofs.Next.{next_fits}
use Rattle.rules.proofs.Passed.{told, settled}
use Rattle.rules.proofs.Sound.{fewer, price_found, price_after}
use Rattle.quotes.specs.Parts.{stock_of, kept_of, bare, Room}
use Rattle.quotes.specs.Shown.{shown_of}
use Rattle.quotes.specs.declared.Kept.{Kept}
use Rattle.judge.proofs.Laws as judge
use Rattle.states.specs.After.{after_of}
use Rattle.totals.specs.Bringing.{bringing}
use Rattle.totals.proofs.Laws.{bringing_is}
use Rattle.states.specs.declared.After.{After}
use Rattle.window.specs.Places.{trades, whole, laid, Written}
use Rattle.window.proofs.Window.{length_trades, placed_fits, rest_most}
use Rattle.stock.proofs.Sights.{SeenOf, Found, found, missed, message_number_is, settle_number_is, some_unless}
use Rattle.stock.specs.View.{Bytes, bytes, holding, view, lay, in_shape, shaped, Outcome, made, telling, settling, Tells, Settles, asked, reading, coming, totalling}
use Rattle.stock.specs.Window.{Held}
use Rattle.stock.specs.Steps.{record_of, seen_of, message_number, settle_number, Fits, answer_by, Makes}
use Rattle.stock.specs.declared.Record.{Record}
use Rattle.stock.specs.declared.sight.Sight.{Sight}
use Rattle.stock.specs.declared.steps.Effect.{Effect}

-- ------------------------------------------------------------------ the window has room

pub held_few : (h : Whole) → rubbish h ≡ false → length h.window ≤ 512
unfolding rubbish
held_few h e = ltb-false 512 (length h.window) (any_head _ _ (any_tail _ _ e))

all_good : (h : Whole) → rubbish h ≡ false → bad_trades (clock_of h.stock) h.window ≡ false
unfolding rubbish
all_good h e = any_head _ _ (any_tail _ _ (any_tail _ _ e))

-- after an accepted message no more than 512 trades are held
pub room : (m : Message) (h : Whole) → tells m h ≡ 0 → length (after m h).window ≤ 512
unfolding after does own_checks
room (T time price) h e =
    let own = (beyond 0 _ 13 _ tt (beyond 0 _ 12 _ tt (told (T time price) h e).own_passes).1).0 in
    simp length-append (omega (arith, leb-false 512 (length h.window) own))
room (Q time participant bid offer) h e = held_few h (told (Q time participant bid offer) h e).sound
room (O time participant price) h e = omega arith
room (P time participant) h e = held_few h (told (P time participant) h e).sound
room (R time participant price) h e = omega arith
room (X time participant price) h e = omega arith

-- nor after a moment
no_more : (m : Moment) (w : List Trade) → length (window_after m w) ≤ length w
unfolding window_after
no_more m w = if_arms (λ l. length l ≤ length w) _ {x = staying m.time w} {y = if any_of (eqb m.mark 122 ∷ eqb m.mark 99 ∷ []) then [] otherwise w}
    (λ _. fewer m.time w) (λ _. if_arms (λ l. length l ≤ length w) _ {x = []} {y = w} (λ _. omega arith) (λ _. omega arith))

pub fired_few : (h : Whole) → rubbish h ≡ false → length (fire h).window ≤ 512
unfolding fire come
fired_few h e = omega (arith, no_more (next_of h) h.window, held_few h e)

-- ------------------------------------------------------------------ what is seen holds of the places

module _ (b : Bytes) (g : Sight) (k : Found b g) where
  in_shape_lem : shaped b ≡ true
  in_shape_lem = all_head _ _ k.tests

  no_rubbish : rubbish (view b).whole ≡ false
  no_rubbish = not-true _ (all_head _ _ (all_tail _ _ k.tests))

  not_wrong : ¬ Wrong (view b)
  not_wrong = (wrong_is _ b.kept.totals).fails (not-true _ (all_head _ _ (all_tail _ _ (all_tail _ _ k.tests))))

  times_512 : length b.times ≡ 512
  unfolding in_shape
  times_512 = eqb-true _ _ (all_head _ _ in_shape_lem)

  prices_512 : length b.prices ≡ 512
  unfolding in_shape
  prices_512 = eqb-true _ _ (all_head _ _ (all_tail _ _ in_shape_lem))

  count_512 : b.kept.count ≤ 512
  count_512 = omega (arith, held_few (view b).whole no_rubbish, length_trades b.kept.count b.times b.prices)

  same_count : g.figures.count ≡ b.kept.count
  unfolding figures_of
  same_count = ap (λ f. f.count) k.figures ∙ length_trades b.kept.count b.times b.prices

  pub held : Held g.figures b.times b.prices
  unfolding whole
  held = record {
    places = rw same_count (all_yes _ _ (eq-eqb _ _ times_512) (all_yes _ _ (eq-eqb _ _ prices_512) (all_yes _ _ (le-leb _ _ count_512) all_empty)));
    figures = k.figures ∙ ap (λ n. figures_of (trades n b.times b.prices)) (sym same_count);
    good = λ gone. rest_most (clock_of b.kept.stock) gone _ (rw same_count (all_good (view b).whole no_rubbish));
  }

  -- ---------------------------------------------------------------- what is laid out

  laid_out : (rule : Whole → Whole) (step : Effect) (totals : Totals) (next : Record) (us qs : List ℕ) → length (rule (view b).whole).window ≤ 512 → Makes rule (view b).whole step
      → next ≡ record_of step.after.kept step.after.quotes step.count totals → Written step.change b.kept.count b.times b.prices us qs
      → bytes next us qs ≡ lay (record { whole = rule (view b).whole; totals = totals }) b
  laid_out rule step totals next us qs l m e w =
      let times : us ≡ laid b.kept.count (map (λ t. t.at) (rule (view b).whole).window) b.times =
      w.times ∙ rw m.window (placed_fits _ _ _ (fits (λ t. t.at) b.times times_512)) in
      let prices : qs ≡ laid b.kept.count (map (λ t. t.price) (rule (view b).whole).window) b.prices =
      w.prices ∙ rw m.window (placed_fits _ _ _ (fits (λ t. t.price) b.prices prices_512)) in
      simp (e, m.after, m.count, times, prices)
    where
      fits : (f : Trade → ℕ) (xs : List ℕ) → length xs ≡ 512 → max b.kept.count (length (map f (rule (view b).whole).window)) ≤ length xs
      fits f xs e = max-le (omega (arith, count_512)) (simp length-map (omega arith))

-- ------------------------------------------------------------------ a call, done or refused

outcome_is : {A : Type 0} (a a' : A) (x y : Bytes) → a ≡ a' → x ≡ y
    → ◌≡◌ {A = Outcome A} (record { answer = a; bytes = x }) (record { answer = a'; bytes = y })
outcome_is a a' x y e f = rw (e, f)

-- beside 1 there are zeros
one_zeros : (s : Stock) → answer 1 s ≡ zeros 1
unfolding answer any_of if◌then◌otherwise◌
one_zeros s = refl

-- a number with what is shown of a stock that a step left
answer_is : (step : After) (s : Stock) (a : Answer) → step ≡ after_of s → a ≡ answer_by 0 step.kept step.shown → a ≡ answer 0 s
unfolding answer any_of if◌then◌otherwise◌
answer_is step s a e f = rw (f, e)

-- for a reference in range band has room
pub in_room : (m : Mean) → IsReference m → arithmetic.Fits m
in_room m (n, (l, u)) = (omega arith, omega arith)

-- what is shown of it fits
pub shown_fits : (s : Stock) → IsReference s.reference.price → Fits (kept_of s) (shown_of s)
shown_fits s l =
    let k = bands_fit s l in
    let printed = printed_most s.reference.price.sum s.reference.price.count 999_999_999 l.1.1 in
    (omega arith, omega arith, omega arith)

left_fits : (step : After) (s : Stock) → step ≡ after_of s → IsReference s.reference.price → Fits step.kept step.shown
left_fits step s e l = rw e (shown_fits s l)

-- a call takes its stock apart
module _ (r : Record) (ts ps : List ℕ) (p : Kept) (ep : p ≡ kept_of r.stock) where
  abbrev b : Bytes
  b = bytes r ts ps

  abbrev apart : Stock
  apart = stock_of p b.kept.stock.quotes

  same_stock : apart ≡ b.kept.stock
  same_stock = rw ep

  own_settling : (time : ℕ) (o : Option Sight) → settle_number time o (bare p) ≡ settle_number time o b.kept.stock
  own_settling time None = refl
  own_settling time (Some g) = rw ((judge.laws).settling_asks_no_quotes time g.earliest p b.kept.stock.quotes, ep) refl

  module _ (w : Bool) (ew : w ≡ wrong_totals p.course.clock b.kept.totals) (o : Option Sight) (v : o ≡ seen_of w apart b.kept.count b.times b.prices) where
    k : SeenOf b o
    k = subst (λ s. o ≡ seen_of (wrong_totals (clock_of s) b.kept.totals) s b.kept.count b.times b.prices) same_stock
        (subst (λ w. o ≡ seen_of w apart b.kept.count b.times b.prices) ew v)

    -- -------------------------------------------------------------- where something was seen

    module _ (g : Sight) (s : o ≡ Some g) where
      f : Found b g
      f = found b g (sym s ∙ k)

      abbrev h : Whole
      h = holding apart g.figures.count b.times b.prices

      -- the reference of the stock is in range
      pub in_range : IsReference p.reference.price
      in_range = rw ep (price_found (view b).whole ((rubbish_is (view b).whole).fails (no_rubbish b g f)))

      pub sound_room : Room p
      sound_room = in_room _ in_range

      pub window_held : Held g.figures b.times b.prices
      window_held = held b g f

      -- the window that the figures count is the one that is held
      same : h ≡ (view b).whole
      same = rw (ep, same_count b g f)

      -- the totals that a step brings up to date are those of the rules
      brought_by : (price : ℕ) (s' : Stock) (brought' : Totals) → brought' ≡ bringing price (bare p) (bare (kept_of s')) b.kept.totals
          → brought' ≡ brought price b.kept.stock s' b.kept.totals
      unfolding brought begins_limit begins_pause in_pause
      brought_by price s' brought' e =
          let right : ¬ Wrong (view b) = not_wrong b g f in
          e ∙ rw ep ((bringing_is price (bare (kept_of b.kept.stock)) (bare (kept_of s')) b.kept.totals).0 right)

      -- a message that is taken
      module _ (m : Message) (z : message_number m o b.kept.count apart ≡ 0) where
        told_zero : counted.tells m (view b) ≡ 0
        told_zero = sym (ap (message_number m o b.kept.count) same_stock ∙ message_number_is b o k m ∙ simp (in_shape_lem b g f, if_true)) ∙ z

        told_whole : tells m (view b).whole ≡ 0
        told_whole = accepted (view b) _ told_zero

        module _ (step : Effect) (makes : Makes (after m) h step) where
          made_told : Makes (after m) (view b).whole step
          made_told = rw same at makes

          -- the stock that it leaves is in range
          pub told_fits : Fits step.after.kept step.after.shown
          told_fits = left_fits _ _ made_told.after (price_after (view b).whole (message m) (told_whole, tt))

          pub told_done : (us qs : List ℕ) (a : Answer) (price : ℕ) (brought' : Totals) (next : Record)
              → Written step.change b.kept.count b.times b.prices us qs → a ≡ answer_by 0 step.after.kept step.after.shown
              → price ≡ traded_by (message m) → brought' ≡ bringing price (bare p) (bare step.after.kept) b.kept.totals
              → next ≡ record_of step.after.kept step.after.quotes step.count brought' → Tells m b (record { answer = a; next = next }) us qs
          unfolding made counted.tell_answer counted.after_telling counted.after
          told_done us qs a price brought' next writes ea ek et en =
              let in_shape_lem = in_shape_lem b g f in
              let done = told_zero in
              let m' = made_told in
              let totals : brought' ≡ brought (traded_by (message m)) b.kept.stock (after m (view b).whole).stock b.kept.totals =
              brought_by (traded_by (message m)) (after m (view b).whole).stock brought' (et ∙ rw (ek, m'.after)) in
              let out = laid_out b g f (after m) step brought' next us qs (room m (view b).whole told_whole) m' en writes in
              let all : telling m b ≡ record { answer = answer 0 (after m (view b).whole).stock; bytes = lay (counted.after m (view b)) b } =
              simp (in_shape_lem, done, eq-eqb 0 0 refl, if_true) in
              outcome_is _ _ _ _ (answer_is _ _ a m'.after ea) (out ∙ ap (λ t. lay (record { whole = after m (view b).whole; totals = t }) b) totals) ∙ sym all

      -- a moment that is due
      module _ (time : ℕ) (z : settle_number time o (bare p) ≡ 0) where
        settled_zero : counted.settles time (view b) ≡ 0
        settled_zero = sym (own_settling time o ∙ settle_number_is b o k time ∙ simp (in_shape_lem b g f, if_true)) ∙ z

        settled_whole : settles time (view b).whole ≡ 0
        settled_whole = accepted (view b) _ settled_zero

        -- it is not after the time
        pub moment_due : Room p × (g.earliest.time ≤ time)
        unfolding due_by
        moment_due =
            let due = (settled time (view b).whole settled_whole).due in
            (sound_room, rw f.earliest (leb-true _ _ (all_head _ _ (all_tail _ _ due))))

        module _ (step : Effect) (makes : Makes (come g.earliest) h step) where
          made_settled : Makes (come (next_of (view b).whole)) (view b).whole step
          made_settled = rw (same, f.earliest) at makes

          -- the stock that it leaves is in range
          pub settled_fits : Fits step.after.kept step.after.shown
          unfolding fire
          settled_fits = left_fits _ _ made_settled.after (price_after (view b).whole (moment (notice (view b).whole)) ((time, settled_whole), refl, tt))

          pub settled_done : (us qs : List ℕ) (a : Answer) (own : ℕ) (brought' : Totals) (next : Record) → own ≡ g.earliest.time
              → Written step.change b.kept.count b.times b.prices us qs → a ≡ answer_by 0 step.after.kept step.after.shown
              → brought' ≡ bringing 0 (bare p) (bare step.after.kept) b.kept.totals
              → next ≡ record_of step.after.kept step.after.quotes step.count brought'
              → Settles time b (record { answer = record { answer = a; mark = g.earliest.mark; time = own }; next = next }) us qs
          unfolding made counted.settle_answer counted.fire notice fire come
          settled_done us qs a own brought' next eo writes ea et en =
              let in_shape_lem = in_shape_lem b g f in
              let done = settled_zero in
              let m' = made_settled in
              let totals : brought' ≡ brought 0 b.kept.stock (fire (view b).whole).stock b.kept.totals =
              brought_by 0 (fire (view b).whole).stock brought' (et ∙ rw m'.after) in
              let out = laid_out b g f (come (next_of (view b).whole)) step brought' next us qs (fired_few (view b).whole (no_rubbish b g f)) m' en writes in
              let all : settling time b ≡ record { answer = notice (view b).whole; bytes = lay (counted.fire (view b)) b } =
              simp (in_shape_lem, done, eq-eqb 0 0 refl, if_true) in
              outcome_is _ _ _ _ (simp (answer_is _ _ a m'.after ea, eo, f.earliest))
              (out ∙ ap (λ t. lay (record { whole = fire (view b).whole; totals = t }) b) totals) ∙ sym all

      -- reading's number is 0
      read_0 : counted.reads (view b) ≡ 0
      unfolding reads read_checks first
      read_0 = if_right (view b) _ (not_wrong b g f) ∙ simp (no_rubbish b g f, if_false)

      pub read_sound : (a : Answer) → a ≡ answer 0 apart → a ≡ reading b
      unfolding asked counted.read_answer
      read_sound a ea = ea ∙ simp (ep, in_shape_lem b g f, read_0, if_true)

      -- the time of what comes next is a number of 32 bits
      pub time_fits : g.earliest.time < 4_294_967_296
      time_fits = rw f.earliest (next_fits (view b).whole (no_rubbish b g f))

      pub next_sound : ◌≡◌ {A = Upcoming} (record { number = 0; mark = g.earliest.mark; time = g.earliest.time }) (coming b)
      unfolding asked counted.next_answer
      next_sound = simp (in_shape_lem b g f, read_0, f.earliest, eq-eqb 0 0 refl, if_true)

      pub summary_sound : ◌≡◌ {A = Summary} (record { number = 0; totals = b.kept.totals }) (totalling b)
      unfolding asked counted.totals_answer
      summary_sound = simp (in_shape_lem b g f, read_0, eq-eqb 0 0 refl, if_true)

    -- -------------------------------------------------------------- a refusal

    -- where another number than 1 is given the reference of the stock is in range
    module _ (m : Message) (n : ℕ) (e : n ≡ message_number m o b.kept.count apart) where
      pub refused_in_range : ¬ (n ≡ 1) → IsReference p.reference.price
      refused_in_range z =
          let g = some_unless (λ o. message_number m o b.kept.count apart) o (λ q. z (e ∙ q)) in
          in_range g.0 g.1

      pub told_refused : (a : Answer) → (n ≡ 0 → ⊥) → a ≡ answer n apart
          → Tells m b (record { answer = a; next = b.kept }) b.times b.prices
      unfolding made counted.tell_answer counted.after_telling
      told_refused a z ea = go (shaped b) refl
        where
          is : n ≡ (if shaped b then counted.tells m (view b) otherwise 1)
          is = e ∙ ap (message_number m o b.kept.count) same_stock ∙ message_number_is b o k m

          go : (x : Bool) → shaped b ≡ x → Tells m b (record { answer = a; next = b.kept }) b.times b.prices
          go true q =
              let n_is : counted.tells m (view b) ≡ n = sym (is ∙ simp (q, if_true)) in
              simp (q, if_true, n_is, ne_eqb n 0 z, if_false, ea, ep)
          go false q =
              let n_is : n ≡ 1 = is ∙ simp (q, if_false) in
              simp (q, if_false, ea, n_is, one_zeros)

    module _ (time n : ℕ) (e : n ≡ settle_number time o (bare p)) where
      pub unsettled_in_range : ¬ (n ≡ 1) → IsReference p.reference.price
      unsettled_in_range z =
          let g = some_unless (λ o. settle_number time o (bare p)) o (λ q. z (e ∙ q)) in
          in_range g.0 g.1

      pub settled_refused : (a : Answer) (given : Notice) → (n ≡ 0 → ⊥) → a ≡ answer n apart → given ≡ beside no_moment a
          → Settles time b (record { answer = given; next = b.kept }) b.times b.prices
      unfolding made counted.settle_answer
      settled_refused a given z ea eg = go (shaped b) refl
        where
          is : n ≡ (if shaped b then counted.settles time (view b) otherwise 1)
          is = e ∙ own_settling time o ∙ settle_number_is b o k time

          go : (x : Bool) → shaped b ≡ x
              → Settles time b (record { answer = given; next = b.kept }) b.times b.prices
          go true q =
              let n_is : counted.settles time (view b) ≡ n = sym (is ∙ simp (q, if_true)) in
              simp (q, if_true, n_is, ne_eqb n 0 z, if_false, eg, ea, ep)
          go false q =
              let n_is : n ≡ 1 = is ∙ simp (q, if_false) in
              simp (q, if_false, eg, ea, n_is, one_zeros)

    -- -------------------------------------------------------------- where nothing was seen

    module _ (s : o ≡ None) where
      -- the parts are of another length or reading's number is 1
      unsound : {A : Type 0} (x y : A) → (shaped b ≡ false → x ≡ y) → (shaped b ≡ true → counted.reads (view b) ≡ 1 → x ≡ y) → x ≡ y
      unfolding reads read_checks first
      unsound x y odd bad = go (shaped b) refl (rubbish (view b).whole) refl (wrong_or_not (view b))
        where
          go : (c : Bool) → shaped b ≡ c → (d : Bool) → rubbish (view b).whole ≡ d → Wrong (view b) ⊎ (¬ Wrong (view b)) → x ≡ y
          go false e d q w = odd e
          go true e d q (inl w) = bad e (if_wrong (view b) _ w)
          go true e true q (inr r) = bad e (if_right (view b) _ r ∙ simp (q, if_true))
          go true e false q (inr r) =
              let right : wrong (view b) ≡ false = is_false _ (wrong_is _ b.kept.totals) r in
              absurd (true≢false (sym (all_yes _ _ e (all_yes _ _ (ap not q) (all_yes _ _ (ap not right) all_empty))) ∙ missed b (sym s ∙ k)))

      pub read_unsound : (a : Answer) → a ≡ zeros 1 → a ≡ reading b
      unfolding asked counted.read_answer
      read_unsound a ea = unsound a (reading b) (λ e. ea ∙ simp (e, if_false)) (λ e q. ea ∙ simp (e, q, if_true, one_zeros))

      pub next_unsound : (u : Upcoming) → u ≡ none_coming 1 → u ≡ coming b
      unfolding asked counted.next_answer
      next_unsound u eu = unsound u (coming b) (λ e. eu ∙ simp (e, if_false)) (λ e q. eu ∙ simp (e, q, if_true, ne_eqb 1 0 (λ z. omega arith), if_false))

      pub summary_unsound : (x : Summary) → x ≡ no_summary 1 → x ≡ totalling b
      unfolding asked counted.totals_answer
      summary_unsound x ex = unsound x (totalling b) (λ e. ex ∙ simp (e, if_false)) (λ e q. ex ∙ simp (e, q, if_true, ne_eqb 1 0 (λ z. omega arith), if_false))
