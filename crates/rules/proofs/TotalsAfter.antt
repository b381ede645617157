-- What an event makes of the day totals: the rule does what the words say.
-- Assumes nothing.
use Prim.Native.Nat.{ℕ, ◌+◌, ◌-◌, ◌<◌}
use mathlib.Core.Bool.{Bool, true, false, not}
use mathlib.Core.List.{[], ◌∷◌}
use mathlib.Core.Logic.{◌⊎◌, inl, inr, ⊎_elim, ◌↔◌}
use mathlib.Core.Path.{◌≡◌, refl, sym, ap, ◌∙◌, subst}
use native.Mathlib.Omega.{arith}
use lib.Dec.{ltb, eqb}
use Rattle.forms.specs.Choice.{if◌then◌otherwise◌, all_of, any_of}
use Rattle.forms.specs.Words.{◌or◌, ◌and◌}
use Rattle.forms.proofs.Choice.{if_false}
use Rattle.forms.proofs.Decides.{Decides, words, is_true, is_false, either_way, by_eq, by_lt, reworded, and_more, all_one, has, not_among}
use Rattle.rules.specs.Stock.{Whole, Waiting, Trading, Limit, Paused, Late, Closed, state_of, clock_of, with_quotes, figures_of}
use Rattle.rules.specs.Quotes.{in_force, k_time, bands_in, best_of, flagged}
use Rattle.rules.specs.Moments.{mark_z, mark_x, mark_p, mark_c, mark_f}
use Rattle.rules.specs.Messages.{letter_p, letter_x, does, after}
use Rattle.rules.specs.Machine.{Event, message, moment, becomes}
use Rattle.rules.specs.Totals.{longer, spend, one_more, begins_limit, in_pause, begins_pause, traded_by, highest_with, lowest_with, brought}
use Rattle.rules.specs.Counted as counted
use Rattle.rules.specs.Counted.{Counted}
use Rattle.rules.specs.Book.{machine, counting}
use Rattle.rules.specs.Words.{IsPrice, its_moment}
use Rattle.rules.specs.Changes.{date_of, IsNew, StartsOne, LeavesLimit, quotes_with, ReferenceAfter, Closes, StartsPause, Looks, Enters}
use Rattle.rules.specs.TotalsWords.{CountAfter, NoTrade, HighestAfter, LowestAfter, SpentAfter}
use Rattle.rules.specs.Demands.{CanHappen, TotalsAre}
use Rattle.rules.specs.declared.Stock.{Stock}
use Rattle.rules.specs.declared.StateTimes.{StateTimes}
use Rattle.rules.specs.declared.Notice.{Notice}
use Rattle.rules.specs.declared.Message.{Message}
use Rattle.rules.specs.declared.Message.TheVariants.{Trade as T, Quote as Q, Opening as O, Pause as P, Reopening as R, Closing as X}
use Rattle.rules.proofs.After.{After, closes, pauses, enters, trades, stays, state_after_lem}
use Rattle.rules.proofs.BestQuotes.{at_band_is}
use Rattle.rules.proofs.Changed.{reference, kept}
use Rattle.rules.proofs.Kept.{quote_stands}
use Rattle.rules.proofs.MomentRows.{IsRow, row_z, row_w_early, row_w_late, row_x, row_p, row_c, row_v, row_f, row_h, notice_row}
use Rattle.rules.proofs.Numbers.{state_below, taken_words, takes_in, settled_sound}
use Rattle.rules.proofs.Ranges.{in_price}

-- ------------------------------------------------------------------ a choice, in words

-- what a test chooses
new_by : {A : Type 0} (b : Bool) (Words : Type 0) (x y : A) → Decides b Words → IsNew Words (if b then x otherwise y) x y
unfolding if◌then◌otherwise◌
new_by true Words x y d = inl (d.holds refl, refl)
new_by false Words x y d = inr (d.fails refl, refl)

-- ------------------------------------------------------------------ whether a pause began

module _ (h : Whole) where
  -- P and x start a pause from Trading and from Limit
  pause_from : (e : Event Message Notice) → CanHappen h e → StartsPause e → state_of h.stock < Paused
  pause_from (message (T time price)) v p = absurd (not_among (letter_p ∷ mark_x ∷ []) _ 84 refl refl p)
  pause_from (message (Q time participant bid offer)) v p = absurd (not_among (letter_p ∷ mark_x ∷ []) _ 81 refl refl p)
  pause_from (message (O time participant price)) v p = absurd (not_among (letter_p ∷ mark_x ∷ []) _ 79 refl refl p)
  pause_from (message (P time participant)) v p = omega (arith, takes_in (P time participant) h v.0)
  pause_from (message (R time participant price)) v p = absurd (not_among (letter_p ∷ mark_x ∷ []) _ 82 refl refl p)
  pause_from (message (X time participant price)) v p = absurd (not_among (letter_p ∷ mark_x ∷ []) _ 88 refl refl p)
  pause_from (moment n) v p = go (notice_row h n v)
    where
      other : (l : ℕ) → n.mark ≡ l → has (letter_p ∷ mark_x ∷ []) l ≡ false → ⊥
      other l k g = not_among (letter_p ∷ mark_x ∷ []) _ l k g p

      go : IsRow (figures_of h.window) h.stock (its_moment n) → state_of h.stock < Paused
      go (row_z k t a) = absurd (other _ k refl)
      go (row_w_early k t c a) = absurd (other _ k refl)
      go (row_w_late k t c a) = absurd (other _ k refl)
      go (row_x k t a) = omega arith
      go (row_p k t a) = absurd (other _ k refl)
      go (row_c k t a) = absurd (other _ k refl)
      go (row_v k t a c) = absurd (other _ k refl)
      go (row_f k t a c) = absurd (other _ k refl)
      go (row_h k t a b c) = absurd (other _ k refl)

  no_closing : (e : Event Message Notice) → StartsPause e → ¬ Closes e
  no_closing e (inl p) = not_among (letter_x ∷ mark_z ∷ mark_c ∷ []) _ letter_p p refl
  no_closing e (inr (inl p)) = not_among (letter_x ∷ mark_z ∷ mark_c ∷ []) _ mark_x p refl
  no_closing e (inr (inr z)) = absurd z

  -- in a pause after the event, and in none before it: exactly where the event starts one
  paused_by : (e : Event Message Notice) → CanHappen h e
      → let s' = (becomes machine h e).stock in
      ((state_of s' ≡ Paused or state_of s' ≡ Late) and ¬ (state_of h.stock ≡ Paused or state_of h.stock ≡ Late)) ↔ StartsPause e
  paused_by e v = ((λ k. to (state_after_lem h e v) k), from)
    where
      s' : Stock
      s' = (becomes machine h e).stock

      to : After h e → (state_of s' ≡ Paused or state_of s' ≡ Late) and ¬ (state_of h.stock ≡ Paused or state_of h.stock ≡ Late) → StartsPause e
      to (closes c q) k = absurd (⊎_elim (λ z. omega arith) (λ z. omega arith) k.0)
      to (pauses p q) k = p
      to (enters p n q) k = absurd (⊎_elim (λ z. omega arith) (λ z. omega arith) k.0)
      to (trades p n l q) k = absurd (⊎_elim (λ z. omega arith) (λ z. omega arith) k.0)
      to (stays c p n l q) k = absurd (k.1 (⊎_elim (λ z. inl (sym q ∙ z)) (λ z. inr (sym q ∙ z)) k.0))

      in_one : StartsPause e → After h e → state_of s' ≡ Paused or state_of s' ≡ Late
      in_one p (closes c q) = absurd (no_closing e p c)
      in_one p (pauses _ q) = q
      in_one p (enters n _ _) = absurd (n p)
      in_one p (trades n _ _ _) = absurd (n p)
      in_one p (stays _ n _ _ _) = absurd (n p)

      from : StartsPause e → (state_of s' ≡ Paused or state_of s' ≡ Late) and ¬ (state_of h.stock ≡ Paused or state_of h.stock ≡ Late)
      from p = let l = pause_from e v p in (in_one p (state_after_lem h e v), ⊎_elim (λ z. omega arith) (λ z. omega arith))

pub pause_is : (h : Whole) (e : Event Message Notice) → CanHappen h e → Decides (begins_pause h.stock (becomes machine h e).stock) (StartsPause e)
unfolding begins_pause in_pause
pause_is h e v = reworded (paused_by h e v) (search words depth 20)

-- ------------------------------------------------------------------ whether a Limit began

-- in Limit with the same entry and the same reference, the best quotes are the same
best_alike : (s s' : Stock) → state_of s ≡ Limit → state_of s' ≡ Limit → s'.course.entry ≡ s.course.entry → s'.reference.price.sum ≡ s.reference.price.sum
    → s'.reference.price.count ≡ s.reference.price.count → s'.setup ≡ s.setup → s'.end ≡ s.end → s'.quotes ≡ s.quotes → best_of s' ≡ best_of s
unfolding best_of bands_in in_force k_time any_of if◌then◌otherwise◌
best_alike s s' l l' c a n u e q = rw (l, l', c, a, n, u, e, q)

-- the quotes that a Q sets
quotes_set : (time participant bid offer : ℕ) (h : Whole)
    → (after (Q time participant bid offer) h).stock.quotes ≡ quotes_with h.stock.quotes participant bid offer
unfolding after does
quotes_set time participant bid offer h =
    quote_stands {F = λ s. s.quotes ≡ quotes_with h.stock.quotes participant bid offer}
    (record { in_limit = λ s e. e; referred = λ r s e. e; in_trading = λ r s e. e }) _ _ refl

-- the words of `begins_limit`
abbrev Differs : Stock → Stock → Type 0
Differs s s' =
    ¬ (state_of s ≡ Limit) or ¬ (s'.course.entry ≡ s.course.entry) or ¬ (s'.reference.price.sum ≡ s.reference.price.sum)
    or ¬ (s'.reference.price.count ≡ s.reference.price.count)

module _ (h : Whole) (e : Event Message Notice) (v : CanHappen h e) where
  abbrev s : Stock
  s = h.stock

  abbrev s' : Stock
  s' = (becomes machine h e).stock

  -- an event that enters Limit ends in it
  in_limit : Enters h e s' → state_of s' ≡ Limit
  in_limit n = go (state_after_lem h e v)
    where
      no_bands : Limit < state_of s' → ⊥
      no_bands l = ⊎_elim (λ b. omega (arith, b.0)) (λ b. omega (arith, b.0)) n.1.0.1

      go : After h e → state_of s' ≡ Limit
      go (closes c q) = absurd (no_bands (omega arith))
      go (pauses p (inl q)) = absurd (no_bands (omega arith))
      go (pauses p (inr q)) = absurd (no_bands (omega arith))
      go (enters p k q) = q
      go (trades p k l q) = absurd (k n)
      go (stays c p k l q) = absurd (k n)

  -- a stay keeps its entry and its reference
  to_enters : After h e → ReferenceAfter h e s' → state_of s' ≡ Limit and Differs s s' → Enters h e s'
  to_enters (closes c q) r k = absurd (omega (arith, k.0))
  to_enters (pauses p (inl q)) r k = absurd (omega (arith, k.0))
  to_enters (pauses p (inr q)) r k = absurd (omega (arith, k.0))
  to_enters (enters p n q) r k = n
  to_enters (trades p n l q) r k = absurd (omega (arith, k.0))
  to_enters (stays c p n l q) (inl r) k = absurd (l (inl (s'.reference.price, r.0)))
  to_enters (stays c p n l q) (inr r) k = absurd (go k.1 (kept h e v).1.1.1.0)
    where
      go : Differs s s' → IsNew (Enters h e s') s'.course.entry (date_of e) s.course.entry → ⊥
      go d (inl x) = n x.0
      go (inl d) (inr x) = d (sym q ∙ k.0)
      go (inr (inl d)) (inr x) = d x.1
      go (inr (inr (inl d))) (inr x) = d (ap (λ m. m.sum) r.1.0)
      go (inr (inr (inr d))) (inr x) = d (ap (λ m. m.count) r.1.0)

  -- a Q that ends a Limit and begins one has another entry or another reference: with the same bands the quotes would still not be at one
  afresh : (time participant bid offer : ℕ) → e ≡ message (Q time participant bid offer) → Enters h e s' → state_of s ≡ Limit
      → LeavesLimit h participant bid offer → Differs s s'
  afresh time participant bid offer is n l k =
      go (either_way _ (by_eq s'.course.entry s.course.entry)) (either_way _ (by_eq s'.reference.price.sum s.reference.price.sum))
      (either_way _ (by_eq s'.reference.price.count s.reference.price.count))
    where
      old : Stock
      old = with_quotes (quotes_with s.quotes participant bid offer) s

      quotes_are : s'.quotes ≡ old.quotes
      quotes_are = subst (λ e. (becomes machine h e).stock.quotes ≡ old.quotes) (sym is) (quotes_set time participant bid offer h)

      go : (s'.course.entry ≡ s.course.entry) ⊎ (¬ (s'.course.entry ≡ s.course.entry))
          → (s'.reference.price.sum ≡ s.reference.price.sum) ⊎ (¬ (s'.reference.price.sum ≡ s.reference.price.sum))
          → (s'.reference.price.count ≡ s.reference.price.count) ⊎ (¬ (s'.reference.price.count ≡ s.reference.price.count)) → Differs s s'
      go (inr d) a c = inr (inl d)
      go (inl d) (inr a) c = inr (inr (inl a))
      go (inl d) (inl a) (inr c) = inr (inr (inr c))
      go (inl d) (inl a) (inl c) =
          let same = best_alike old s' l (in_limit n) d a c (kept h e v).1.0 (kept h e v).1.1.0 quotes_are in
          absurd (k.1 ((at_band_is old).holds (sym (ap (flagged 3) same) ∙ is_true _ (at_band_is s') n.1.0)))

-- neither p nor f comes to a stock in Limit
no_p_or_f : (h : Whole) (n : Notice) → CanHappen h (moment n) → state_of h.stock ≡ Limit → ¬ (n.mark ≡ mark_p or n.mark ≡ mark_f)
no_p_or_f h n v l k = go (notice_row h n v)
  where
    other : (m : ℕ) → (its_moment n).mark ≡ m → ¬ (m ≡ mark_p) → ¬ (m ≡ mark_f) → ⊥
    other m is p f = ⊎_elim (λ e. p (sym is ∙ e)) (λ e. f (sym is ∙ e)) k

    go : ¬ IsRow (figures_of h.window) h.stock (its_moment n)
    go (row_z m t a) = other _ m (λ e. omega arith) (λ e. omega arith)
    go (row_w_early m t c a) = other _ m (λ e. omega arith) (λ e. omega arith)
    go (row_w_late m t c a) = other _ m (λ e. omega arith) (λ e. omega arith)
    go (row_x m t a) = other _ m (λ e. omega arith) (λ e. omega arith)
    go (row_p m t a) = omega arith
    go (row_c m t a) = other _ m (λ e. omega arith) (λ e. omega arith)
    go (row_v m t a c) = other _ m (λ e. omega arith) (λ e. omega arith)
    go (row_f m t a c) = omega arith
    go (row_h m t a b c) = other _ m (λ e. omega arith) (λ e. omega arith)

-- in Limit only a Q starts a reference
starts_in_limit : (h : Whole) (e : Event Message Notice) → CanHappen h e → state_of h.stock ≡ Limit → StartsOne h e
    → (time participant bid offer : ℕ) × (e ≡ message (Q time participant bid offer)) × LeavesLimit h participant bid offer
starts_in_limit h (message (T time price)) v l (r, inl k) = absurd (omega (arith, k.0))
starts_in_limit h (message (T time price)) v l (r, inr k) = absurd (omega (arith, k.0))
starts_in_limit h (message (Q time participant bid offer)) v l (r, k) = (time, participant, bid, offer, refl, k.0)
starts_in_limit h (message (O time participant price)) v l k = absurd (omega (arith, takes_in (O time participant price) h v.0))
starts_in_limit h (message (P time participant)) v l (r, k) = absurd k
starts_in_limit h (message (R time participant price)) v l k = absurd (omega (arith, takes_in (R time participant price) h v.0))
starts_in_limit h (message (X time participant price)) v l (r, k) = absurd k
starts_in_limit h (moment n) v l (r, inl k) = absurd (no_p_or_f h n v l (inl k.0))
starts_in_limit h (moment n) v l (r, inr (inl k)) = absurd (omega (arith, k.1.0))
starts_in_limit h (moment n) v l (r, inr (inr (inl k))) = absurd (no_p_or_f h n v l (inr k.0))
starts_in_limit h (moment n) v l (r, inr (inr (inr k))) = absurd (omega (arith, k.1.0))

module _ (h : Whole) (e : Event Message Notice) (v : CanHappen h e) where
  from_enters : Enters h e (becomes machine h e).stock → Differs h.stock (becomes machine h e).stock
  from_enters n = go (either_way _ (by_eq (state_of h.stock) Limit)) n.0
    where
      go : (state_of h.stock ≡ Limit) ⊎ (¬ (state_of h.stock ≡ Limit)) → Looks h e → Differs h.stock (becomes machine h e).stock
      go (inr d) k = inl d
      go (inl l) (inl k) = let q = starts_in_limit h e v l k in afresh h e v q.0 q.1 q.2 q.3 q.4 n l q.5
      go (inl l) (inr k) = absurd (omega (arith, k.0))

  pub limit_is : Decides (begins_limit h.stock (becomes machine h e).stock) (Enters h e (becomes machine h e).stock)
  unfolding begins_limit
  limit_is = reworded (to_enters h e v (state_after_lem h e v) (reference h e v), (λ n. (in_limit h e v n, from_enters n))) (search words depth 20)

-- ------------------------------------------------------------------ each total

-- a time, with so much more of it where the stock was in its state
time_after : (state k more n : ℕ) → IsNew (state ≡ k) (longer (eqb state k) more n) (n + more) n
unfolding longer
time_after state k more n = new_by _ _ _ _ (by_eq state k)

count_after : (b : Bool) (Words : Type 0) (n : ℕ) → Decides b Words → CountAfter Words n (one_more b n)
unfolding one_more
count_after b Words n d = new_by _ _ _ _ (and_more b _ Words _ d (all_one _ _ (by_lt n 4_294_967_295)))

-- whether an event is a T, as a number
abbrev pub is_trade : Event Message Notice → ℕ
is_trade (message (T time price)) = 1
is_trade (message (Q time participant bid offer)) = 0
is_trade (message (O time participant price)) = 0
is_trade (message (P time participant)) = 0
is_trade (message (R time participant price)) = 0
is_trade (message (X time participant price)) = 0
is_trade (moment n) = 0

pub no_trade_lem : (e : Event Message Notice) → is_trade e ≡ 0 → NoTrade e
no_trade_lem e z price k = let q : is_trade e ≡ 1 = ap is_trade k.1 in omega arith

pub price_taken : (time price : ℕ) (h : Whole) → CanHappen h (message (T time price)) → IsPrice price
price_taken time price h v = in_price price (λ n. (taken_words (T time price) h v.0).in_range (inl n))

-- an event comes to no rubbish, so its state is one of six
pub state_low : (h : Whole) (e : Event Message Notice) → CanHappen h e → state_of h.stock < 6
state_low h (message m) v = state_below h (taken_words m h v.0).sound
state_low h (moment n) v = state_below h (settled_sound v.0.0 h v.0.1)

-- any other event leaves the highest and the lowest
highest_kept : (n : ℕ) → highest_with 0 n ≡ n
unfolding highest_with
highest_kept n = if_false _ 0 n (is_false _ (by_lt n 0) (λ l. omega arith))

lowest_kept : (n : ℕ) → lowest_with 0 n ≡ n
unfolding lowest_with all_of if◌then◌otherwise◌
lowest_kept n = refl

module _ (h : Whole) where
  highest_after : (e : Event Message Notice) (n : ℕ) → HighestAfter e n (highest_with (traded_by e) n)
  unfolding highest_with
  highest_after (message (T time price)) n = inl (price, (time, refl), by_price)
    where
      by_price : IsNew (n < price) (highest_with price n) price n
      by_price = new_by _ _ _ _ (by_lt n price)
  highest_after (message (Q time participant bid offer)) n = inr (no_trade_lem (message (Q time participant bid offer)) refl, highest_kept n)
  highest_after (message (O time participant price)) n = inr (no_trade_lem (message (O time participant price)) refl, highest_kept n)
  highest_after (message (P time participant)) n = inr (no_trade_lem (message (P time participant)) refl, highest_kept n)
  highest_after (message (R time participant price)) n = inr (no_trade_lem (message (R time participant price)) refl, highest_kept n)
  highest_after (message (X time participant price)) n = inr (no_trade_lem (message (X time participant price)) refl, highest_kept n)
  highest_after (moment m) n = inr (no_trade_lem (moment m) refl, highest_kept n)

  lowest_after : (e : Event Message Notice) → CanHappen h e → (n : ℕ) → LowestAfter e n (lowest_with (traded_by e) n)
  unfolding lowest_with
  lowest_after (message (T time price)) v n = inl (price, (time, refl), by_price)
    where
      some : ¬ (price ≡ 0)
      some z = omega (arith, (price_taken time price h v).0)

      lower : Decides (all_of (not (eqb price 0) ∷ any_of (eqb n 0 ∷ ltb price n ∷ []) ∷ [])) (n ≡ 0 or price < n)
      lower = reworded {P = ¬ (price ≡ 0) and (n ≡ 0 or price < n)} ((λ k. k.1), (λ k. (some, k))) (search words)

      by_price : IsNew (n ≡ 0 or price < n) (lowest_with price n) price n
      by_price = new_by _ _ _ _ lower
  lowest_after (message (Q time participant bid offer)) v n = inr (no_trade_lem (message (Q time participant bid offer)) refl, lowest_kept n)
  lowest_after (message (O time participant price)) v n = inr (no_trade_lem (message (O time participant price)) refl, lowest_kept n)
  lowest_after (message (P time participant)) v n = inr (no_trade_lem (message (P time participant)) refl, lowest_kept n)
  lowest_after (message (R time participant price)) v n = inr (no_trade_lem (message (R time participant price)) refl, lowest_kept n)
  lowest_after (message (X time participant price)) v n = inr (no_trade_lem (message (X time participant price)) refl, lowest_kept n)
  lowest_after (moment m) v n = inr (no_trade_lem (moment m) refl, lowest_kept n)

-- ------------------------------------------------------------------ all of them

spent_after : (h : Whole) (e : Event Message Notice) (s' : Stock) (t : StateTimes) → clock_of s' ≡ date_of e
    → SpentAfter h e t (spend (state_of h.stock) (clock_of s' - clock_of h.stock) t)
spent_after h e s' t c = rw c (
  time_after _ Waiting _ _,
  (time_after _ Trading _ _, (time_after _ Limit _ _, (time_after _ Paused _ _, (time_after _ Late _ _, time_after _ Closed _ _)))),
)

-- the event of a machine with totals: the stock is as without them, and the totals are brought up to date by the event
by_event : (c : Counted) (e : Event Message Notice) → CanHappen c.whole e
    → becomes counting c e ≡ counted.with_event e c (becomes machine c.whole e)
unfolding counted.after counted.fire
by_event c (message m) v = refl
by_event c (moment n) v = ap (λ n. counted.with_event (moment n) c (becomes machine c.whole (moment n))) (sym v.1)

pub totals_after : TotalsAre
unfolding brought
totals_after c e v =
    let h = c.whole in
    let s' = (becomes machine h e).stock in
    let t = c.totals in
    rw (by_event c e v) (
      refl,
      (
        spent_after h e s' t.spent (kept h e v).0,
        (
          count_after _ _ t.limits (limit_is h e v),
          (count_after _ _ t.pauses (pause_is h e v), (highest_after h e t.highest, lowest_after h e v t.lowest)),
        ),
      ),
    )
