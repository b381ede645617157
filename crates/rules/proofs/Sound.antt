-- Whatever has happened since a setup in range, a stock is not rubbish.
-- Assumes nothing.
use Prim.Native.Nat.{ℕ, zero, suc, ◌+◌, ◌*◌, ◌≤◌, ◌<◌}
use mathlib.Core.List.{List, [], ◌∷◌}
use mathlib.Core.Logic.{inl, inr, ⊎_elim}
use mathlib.Core.Path.{◌≡◌, refl, sym, subst}
use native.Mathlib.Nat.{le_refl}
use native.Mathlib.Omega.{arith}
use lib.ListN.{length, get_or, length-append, replicate}
use Rattle.forms.specs.Words.{◌or◌, Some}
use Rattle.forms.proofs.Choice.{if_arms}
use Rattle.forms.proofs.Decides.{eq_stable, not_among, past}
use Rattle.band.specs.declared.Mean.{Mean}
use Rattle.rules.specs.Stock.{Trade, Whole, Late, Closed, state_of, clock_of, staying}
use Rattle.rules.specs.Moments.{mark_x, fire}
use Rattle.rules.specs.Messages.{letter_t, letter_q, letter_o, letter_p, letter_r, letter_x}
use Rattle.rules.specs.Numbers.{settles, notice, fresh}
use Rattle.rules.specs.Machine.{Every, Event, message, moment, dated, Lawful, becomes, left}
use Rattle.rules.specs.Book.{machine, Story}
use Rattle.rules.specs.Words.{IsPrice, IsSide, IsEnd, IsSetup, sum_of, IsMean, IsPriceAlone, Coming, moments, IsFirst, BadTime, IsReference, BadReference, BadStock, Rubbish, its_moment}
use Rattle.rules.specs.Changes.{IsNew, joins, recent, quote_by, Quoted, TradesAfter, Starts, StartsOne, ReferenceAfter, StartsPause, Looks, KeptAfter}
use Rattle.rules.specs.Demands.{leaves, CanHappen, NeverRubbish}
use Rattle.rules.specs.declared.Setup.{Setup}
use Rattle.rules.specs.declared.Quotes.{Quotes}
use Rattle.rules.specs.declared.Stock.{Stock}
use Rattle.rules.specs.declared.Moment.{Moment}
use Rattle.rules.specs.declared.Notice.{Notice}
use Rattle.rules.specs.declared.Message.{Message}
use Rattle.rules.specs.declared.Message.TheVariants.{Trade as T, Quote as Q, Opening as O, Pause as P, Reopening as R, Closing as X}
use Rattle.rules.proofs.After.{After, closes, pauses, enters, trades, stays, state_after_lem}
use Rattle.rules.proofs.Changed.{reference, kept}
use Rattle.rules.proofs.Coming.{moments_are}
use Rattle.rules.proofs.Events.{first_lawful, rest_lawful, event_forward}
use Rattle.rules.proofs.Last.{quotes}
use Rattle.rules.proofs.Numbers.{taken_words}
use Rattle.rules.proofs.Ranges.{in_price, in_side, in_reference}
use Rattle.rules.proofs.Timely.{Timely, sound, timely_left, fresh_timely}
use Rattle.rules.proofs.Window.{InOrder, wider_in_order, joined_in_order, trades_clean, window_in_order, recent_in_order, trades as trades_are}

-- ------------------------------------------------------------------ a stock in range

pub record SaneWindow (clock : ℕ) (w : List Trade) : Type 0 where
  pub count : length w ≤ 512
  pub in_order : InOrder 0 clock w

-- what of a stock is compared only
pub record Ranges (s : Stock) : Type 0 where
  pub state_by : state_of s ≤ Closed
  pub start_by : s.reference.start ≤ clock_of s
  pub entry_by : s.course.entry ≤ clock_of s
  pub pause_by : s.course.pause ≤ clock_of s
  pub price_by : IsReference s.reference.price

pub record SaneQuotes (q : Quotes) : Type 0 where
  pub sixteen : (length q.bids ≡ 16) × (length q.offers ≡ 16)
  pub sides : Every IsSide q.bids × Every IsSide q.offers

pub record SaneStock (s : Stock) : Type 0 where
  pub ranges : Ranges s
  pub priced : 1 ≤ state_of s → state_of s ≤ Late → 1 ≤ s.reference.price.count
  pub quotes : SaneQuotes s.quotes

pub record Sane (h : Whole) : Type 0 where
  pub setup_ok : IsSetup h.stock.setup
  pub end_ok : IsEnd h.stock.end
  pub stock : SaneStock h.stock
  pub window : SaneWindow (clock_of h.stock) h.window

-- a reference that is there: of one price at least
abbrev Priced : Mean → Type 0
Priced m = (1 ≤ m.count) × IsReference m

-- ------------------------------------------------------------------ what check 1 lets pass is in range

abbrev Live : Stock → Type 0
Live s = (1 ≤ state_of s) × (state_of s ≤ Late)

module _ (h : Whole) (n : ¬ Rubbish h) where
  pub window_found : SaneWindow (clock_of h.stock) h.window
  window_found = let few : ¬ (512 < length h.window) = λ l. n (inr (inl l)) in record { count = omega arith; in_order = window_in_order h n }

  pub price_found : IsReference h.stock.reference.price
  price_found = in_reference _ (λ k. n (inl (inr (inr (inr (inr (inr (inl (inl k)))))))))

  own_price : Live h.stock → Priced h.stock.reference.price
  own_price l =
      let some : ¬ (h.stock.reference.price.count ≡ 0) = λ z. n (inl (inr (inr (inr (inr (inr (inl (inr (z, l))))))))) in
      (omega arith, price_found)

-- ------------------------------------------------------------------ the window

pub fewer : (time : ℕ) (w : List Trade) → length (staying time w) ≤ length w
unfolding staying
fewer time [] = le_refl _
fewer time (t ∷ w) = if_arms (λ v. length v ≤ suc (length w)) _ {x = t ∷ w} {y = staying time w}
    (λ _. le_refl _) (λ _. omega (arith, fewer time w))

later : (c d : ℕ) (w : List Trade) → c ≤ d → SaneWindow c w → SaneWindow d w
later c d w l i = record { count = i.count; in_order = wider_in_order 0 0 c d w (le_refl _) l i.in_order }

empty : (c : ℕ) → SaneWindow c []
empty c = record { count = omega arith; in_order = tt }

sums : (u c : ℕ) (w : List Trade) → InOrder u c w → (length w ≤ sum_of w) × (sum_of w ≤ 999_999_999 * length w)
sums u c [] o = omega arith
sums u c (t ∷ w) o = let rest = sums t.at c w o.3 in let p = o.0 in omega arith

-- the mean of up to 512 prices is a reference, and so is one price
mean_priced : (c : ℕ) (r : Mean) (w : List Trade) → SaneWindow c w → IsMean w r → Priced r
mean_priced c r w i (l, (s, n)) = let k = sums 0 c w i.in_order in let few = i.count in (omega arith, (omega arith, (omega arith, omega arith)))

alone_priced : (price : ℕ) (r : Mean) → IsPrice price → IsPriceAlone price r → Priced r
alone_priced price r p (s, n) = (omega arith, (omega arith, (omega (arith, p.0), omega (arith, p.1))))

-- ------------------------------------------------------------------ an event keeps the window in range

-- the price of an opening, and of a reopening
opening_price : (price : ℕ) {A B : Type 0} → ¬ (A or ¬ IsPrice price or B) → IsPrice price
opening_price price k = in_price price (λ n. k (inr (inl n)))

one_trade : (time price : ℕ) → IsPrice price → SaneWindow time (record { at = time; price = price } ∷ [])
one_trade time price p = record { count = omega arith; in_order = (p, omega arith, le_refl _, tt) }

joins_sane : (h : Whole) (e : Event Message Notice) → CanHappen h e → SaneWindow (dated machine e) (joins h.window e)
joins_sane h (message (T time price)) v =
    let k = taken_words (T time price) h v.0 in
    let a = past 7 0 _ _ (λ z. omega arith) k.own_passed in
    let b = past 11 0 _ _ (λ z. omega arith) a.1 in
    let c = past 12 0 _ _ (λ z. omega arith) b.1 in
    let room = (past 13 0 _ _ (λ z. omega arith) c.1).0 in
    let t : Trade = record { at = time; price = price } in record {
      count = omega (arith, length-append h.window (t ∷ []));
      in_order = joined_in_order 0 _ t h.window (omega arith) (event_forward h (message (T time price)) [] v) (in_price price (λ n. k.in_range (inl n))) (window_in_order h k.sound);
    }
joins_sane h (message (Q time participant bid offer)) v =
    later _ _ _ (event_forward h (message (Q time participant bid offer)) [] v) (window_found h (sound h (message (Q time participant bid offer)) v))
joins_sane h (message (O time participant price)) v = one_trade time price (opening_price price (taken_words (O time participant price) h v.0).in_range)
joins_sane h (message (P time participant)) v =
    later _ _ _ (event_forward h (message (P time participant)) [] v) (window_found h (sound h (message (P time participant)) v))
joins_sane h (message (R time participant price)) v = one_trade time price (opening_price price (taken_words (R time participant price) h v.0).in_range)
joins_sane h (message (X time participant price)) v = empty time
joins_sane h (moment n) v =
    if_arms (SaneWindow _) _ (λ _. empty _) (λ _. later _ _ _ (event_forward h (moment n) [] v) (window_found h (sound h (moment n) v)))

window_sane : (h : Whole) (e : Event Message Notice) → CanHappen h e → SaneWindow (dated machine e) (becomes machine h e).window
window_sane h e v = go (trades_are h e v)
  where
    t : ℕ
    t = dated machine e

    recent_sane : SaneWindow t (recent t h.window)
    recent_sane =
        let i = window_found h (sound h e v) in
        let k = recent_in_order t 0 _ h.window i.in_order in
        later _ _ _ (event_forward h e [] v) (record { count = omega (arith, i.count, k.1); in_order = k.0 })

    go : TradesAfter h e (becomes machine h e).window → SaneWindow t (becomes machine h e).window
    go (inl (_, q)) = subst (SaneWindow t) (sym q) recent_sane
    go (inr (_, q)) = subst (SaneWindow t) (sym q) (joins_sane h e v)

-- ------------------------------------------------------------------ and the reference, which is there in states 1 to 4

-- each row of the moment's mark, where it is still to come, has A
abbrev pub Each : Type 0 → Moment → List Coming → Type 0
Each A m [] = Unit {0}
Each A m (c ∷ cs) = (m.mark ≡ c.mark → c.comes → A) × Each A m cs

pub by_mark : (A : Type 0) (m : Moment) (cs : List Coming) → IsFirst m cs → Each A m cs → A
by_mark A m [] f k = elim f [ ]
by_mark A m (c ∷ cs) (inl f) k = k.0 f.1.0 f.0
by_mark A m (c ∷ cs) (inr f) k = by_mark A m cs f.1 k.1

-- a mean of the window that the event leaves, a message's own price, or the old one: a Limit is left by Q, and p comes in Paused
pub started_price : (h : Whole) (e : Event Message Notice) (r : Mean) → CanHappen h e → Starts h e r → Priced r
started_price h (message (T time price)) r v (inl k) = mean_priced _ r _ (window_sane h (message (T time price)) v) k.1.1
started_price h (message (T time price)) r v (inr k) = mean_priced _ r _ (window_sane h (message (T time price)) v) k.1.1.0
started_price h (message (Q time participant bid offer)) r v (l, inl k) = mean_priced _ r _ (window_sane h (message (Q time participant bid offer)) v) k
started_price h (message (Q time participant bid offer)) r v (l, inr k) = let s = l.0 in rw k.1 (own_price h (sound h (message (Q time participant bid offer)) v) (omega arith))
started_price h (message (O time participant price)) r v q = alone_priced price r (opening_price price (taken_words (O time participant price) h v.0).in_range) q
started_price h (message (P _ _)) r v q = elim q [ ]
started_price h (message (R time participant price)) r v q = alone_priced price r (opening_price price (taken_words (R time participant price) h v.0).in_range) q
started_price h (message (X _ _ _)) r v q = elim q [ ]
started_price h (moment n) r v (inl (m, q)) = rw q (own_price h (sound h (moment n) v) (by_mark _ (its_moment n) (moments h) (moments_are h n v) (omega arith)))
started_price h (moment n) r v (inr (inl k)) = mean_priced _ r _ (window_sane h (moment n) v) k.1.1.1.0
started_price h (moment n) r v (inr (inr (inl k))) = mean_priced _ r _ (window_sane h (moment n) v) k.1
started_price h (moment n) r v (inr (inr (inr k))) = mean_priced _ r _ (window_sane h (moment n) v) k.1.1.1.0

-- so a reference is in range after every event
pub price_after : (h : Whole) (e : Event Message Notice) → CanHappen h e → IsReference (becomes machine h e).stock.reference.price
price_after h e v = go (reference h e v)
  where
    go : ReferenceAfter h e (becomes machine h e).stock → IsReference (becomes machine h e).stock.reference.price
    go (inl (s, _)) = (started_price h e _ v s).1
    go (inr (_, (p, _))) = subst IsReference (sym p) (price_found h (sound h e v))

-- P comes in Trading, and x in Limit
pauses_live : (h : Whole) (e : Event Message Notice) → CanHappen h e → StartsPause e → Live h.stock
pauses_live h (message (T time price)) v k = absurd (not_among (letter_p ∷ mark_x ∷ []) _ letter_t refl refl k)
pauses_live h (message (Q time participant bid offer)) v k = absurd (not_among (letter_p ∷ mark_x ∷ []) _ letter_q refl refl k)
pauses_live h (message (O time participant price)) v k = absurd (not_among (letter_p ∷ mark_x ∷ []) _ letter_o refl refl k)
pauses_live h (message (P time participant)) v k =
    let a = past 8 0 _ _ (λ z. omega arith) (taken_words (P time participant) h v.0).own_passed in
    let b = past 7 0 _ _ (λ z. omega arith) a.1 in
    let c = (eq_stable _ _).undenied (past 9 0 _ _ (λ z. omega arith) b.1).0 in
    omega arith
pauses_live h (message (R time participant price)) v k = absurd (not_among (letter_p ∷ mark_x ∷ []) _ letter_r refl refl k)
pauses_live h (message (X time participant price)) v k = absurd (not_among (letter_p ∷ mark_x ∷ []) _ letter_x refl refl k)
pauses_live h (moment n) v (inl q) = by_mark _ (its_moment n) (moments h) (moments_are h n v) (omega arith)
pauses_live h (moment n) v (inr (inl q)) = by_mark _ (its_moment n) (moments h) (moments_are h n v) (omega arith)
pauses_live h (moment n) v (inr (inr k)) = elim k [ ]

-- without a new reference a state from 1 to 4 comes from one of them
pub state_sane : (h : Whole) (e : Event Message Notice) → CanHappen h e → state_of h.stock ≤ Closed
    → let s' = (becomes machine h e).stock in (state_of s' ≤ Closed) × (¬ StartsOne h e → Live s' → Live h.stock)
state_sane h e v l = go (state_after_lem h e v)
  where
    s' : Stock
    s' = (becomes machine h e).stock

    looked : Looks h e → ¬ StartsOne h e → Live h.stock
    looked (inl k) n = absurd (n k)
    looked (inr k) n = omega (arith, k.0)

    go : After h e → (state_of s' ≤ Closed) × (¬ StartsOne h e → Live s' → Live h.stock)
    go (closes c q) = omega arith
    go (pauses p (inl q)) = (omega arith, λ _ _. pauses_live h e v p)
    go (pauses p (inr q)) = (omega arith, λ _ _. pauses_live h e v p)
    go (enters p k q) = (omega arith, λ n _. looked k.0 n)
    go (trades p k x q) = (omega arith, λ n _. looked x n)
    go (stays c p k x q) = omega arith

-- ------------------------------------------------------------------ and the rest of the stock

all_zero : (n : ℕ) → Every IsSide (replicate n 0)
all_zero zero = tt
all_zero (suc n) = (omega arith, all_zero n)

-- each of the sixteen is in range where all are
side_at : (l : List ℕ) (i : ℕ) → Every IsSide l → IsSide (get_or l i 0)
side_at [] i a = omega arith
side_at (x ∷ l) zero a = a.0
side_at (x ∷ l) (suc i) a = side_at l i a.1

every_side : (l : List ℕ) → ((i : ℕ) → i < length l → IsSide (get_or l i 0)) → Every IsSide l
every_side [] a = tt
every_side (x ∷ l) a = (a 0 (omega arith), every_side l (λ i k. a (suc i) (omega arith)))

abbrev Both : ℕ × ℕ → Type 0
Both q = IsSide q.0 × IsSide q.1

-- a quote that an event sets is in range
quote_side : (h : Whole) (e : Event Message Notice) → CanHappen h e → (i : ℕ) (last : ℕ × ℕ) → Both last → Both (quote_by i last e)
quote_side h (message (T time price)) v i last a = a
quote_side h (message (Q time participant bid offer)) v i last a =
    let k = (taken_words (Q time participant bid offer) h v.0).in_range in
    if_arms Both _ (λ _. (in_side bid (λ n. k (inr (inl n))), in_side offer (λ n. k (inr (inr (inl n)))))) (λ _. a)
quote_side h (message (O time participant price)) v i last a = a
quote_side h (message (P time participant)) v i last a = a
quote_side h (message (R time participant price)) v i last a = a
quote_side h (message (X time participant price)) v i last a = (omega arith, omega arith)
quote_side h (moment n) v i last a = if_arms Both _ (λ _. (omega arith, omega arith)) (λ _. a)

module _ (h : Whole) (e : Event Message Notice) (v : CanHappen h e) (i : SaneQuotes h.stock.quotes) where
  abbrev quotes_then : Quotes
  quotes_then = (becomes machine h e).stock.quotes

  quoted_then : (j : ℕ) → j ≤ 15
      → Quoted j quotes_then (quote_by j (get_or h.stock.quotes.bids j 0, get_or h.stock.quotes.offers j 0) e)
  quoted_then j l = quotes h e v j (get_or h.stock.quotes.bids j 0, get_or h.stock.quotes.offers j 0) l (i.sixteen.0, (refl, (i.sixteen.1, refl)))

  sixteen_then : (length quotes_then.bids ≡ 16) × (length quotes_then.offers ≡ 16)
  sixteen_then = let q = quoted_then 0 (omega arith) in (q.0, q.1.1.0)

  sides_then : Every IsSide quotes_then.bids × Every IsSide quotes_then.offers
  sides_then = (
    every_side quotes_then.bids (λ j k. let l : j ≤ 15 = omega (arith, sixteen_then.0) in rw (quoted_then j l).1.0 (in_range j).0),
    every_side quotes_then.offers (λ j k. let l : j ≤ 15 = omega (arith, sixteen_then.1) in rw (quoted_then j l).1.1.1 (in_range j).1),
  )
    where
      in_range : (j : ℕ) → Both (quote_by j (get_or h.stock.quotes.bids j 0, get_or h.stock.quotes.offers j 0) e)
      in_range j = quote_side h e v j _ (side_at h.stock.quotes.bids j i.sides.0, side_at h.stock.quotes.offers j i.sides.1)

  pub quotes_sane : SaneQuotes quotes_then
  quotes_sane = record { sixteen = sixteen_then; sides = sides_then }

-- what is new, or as before, is not after the clock
by_clock : (A : Type 0) (now new before clock : ℕ) → IsNew A now new before → new ≤ clock → before ≤ clock → now ≤ clock
by_clock A now new before clock (inl k) a b = omega (arith, k.1)
by_clock A now new before clock (inr k) a b = omega (arith, k.1)

pub event_sane : (h : Whole) (e : Event Message Notice) → CanHappen h e → Sane h → Sane (becomes machine h e)
event_sane h e v i = let f = from_reference (reference h e v) in record {
  setup_ok = subst IsSetup (sym k.1.0) i.setup_ok;
  end_ok = subst IsEnd (sym k.1.1.0) i.end_ok;
  stock = record {
    ranges = record {
      state_by = state.0;
      start_by = f.0;
      entry_by = by_clock _ _ _ _ _ k.1.1.1.0 (omega (arith, k.0)) (omega (arith, r.entry_by, on));
      pause_by = by_clock _ _ _ _ _ k.1.1.1.1.0 (omega (arith, k.0)) (omega (arith, r.pause_by, on));
      price_by = price_after h e v;
    };
    priced = λ a b. f.1 (a, b);
    quotes = quotes_sane h e v i.stock.quotes;
  };
  window = subst (λ c. SaneWindow c h'.window) (sym k.0) (window_sane h e v);
}
  where
    h' : Whole
    h' = becomes machine h e

    r : Ranges h.stock
    r = i.stock.ranges

    k : KeptAfter h e h'.stock
    k = kept h e v

    state : (state_of h'.stock ≤ Closed) × (¬ StartsOne h e → Live h'.stock → Live h.stock)
    state = state_sane h e v r.state_by

    on : clock_of h.stock ≤ clock_of h'.stock
    on = omega (arith, k.0, event_forward h e [] v)

    from_reference : ReferenceAfter h e h'.stock
        → (h'.stock.reference.start ≤ clock_of h'.stock) × (Live h'.stock → 1 ≤ h'.stock.reference.price.count)
    from_reference (inl (s, (d, _))) = (omega (arith, d, k.0), λ _. (started_price h e _ v s).0)
    from_reference (inr (n, (p, (d, _)))) = (
      omega (arith, d, r.start_by, on),
      λ l. let w = state.1 n l in subst (λ m. 1 ≤ m.count) (sym p) (i.stock.priced w.0 w.1),
    )

pub moment_sane : (time : ℕ) (h : Whole) → Sane h → settles time h ≡ 0 → Sane (fire h)
moment_sane time h i e = event_sane h (moment (notice h)) ((time, e), refl, tt) i

-- ------------------------------------------------------------------ every story

pub sane_left : (es : Story) (h : Whole) → Sane h → Lawful machine h es → Sane (left machine h es)
sane_left [] h i v = i
sane_left (e ∷ es) h i v = sane_left es (becomes machine h e) (event_sane h e (first_lawful h e es v) i) (rest_lawful h e es v)

pub fresh_sane : (end : ℕ) (u : Setup) → IsEnd end → IsSetup u → Sane (fresh end u)
unfolding fresh
fresh_sane end u e b = record {
  setup_ok = b;
  end_ok = e;
  stock = record { ranges = omega arith; priced = omega arith; quotes = record { sixteen = (refl, refl); sides = (all_zero 16, all_zero 16) } };
  window = empty 0;
}

-- ------------------------------------------------------------------ what is in range is not rubbish

sides_clean : (l : List ℕ) → Every IsSide l → ¬ Some (λ side. ¬ IsSide side) l
sides_clean [] a b = b
sides_clean (side ∷ l) a (inl n) = n a.0
sides_clean (side ∷ l) a (inr b) = sides_clean l a.1 b

stock_clean : (h : Whole) → Sane h → Timely h → ¬ BadStock h.stock
stock_clean h i j = go
  where
    s : Stock
    s = h.stock

    r : Ranges s
    r = i.stock.ranges

    last : clock_of s ≤ s.end + 300_000
    last = j.by_end

    times : ¬ BadTime s
    times (inl n) = n last
    times (inr (inl n)) = n (omega (arith, last, r.start_by))
    times (inr (inr (inl n))) = n (omega (arith, last, r.entry_by))
    times (inr (inr (inr n))) = n (omega (arith, last, r.pause_by))

    reference : ¬ BadReference s
    reference (inl n) = n r.price_by
    reference (inr k) = omega (arith, k.0, i.stock.priced k.1.0 k.1.1)

    go : ¬ BadStock s
    go (inl l) = omega (arith, r.state_by)
    go (inr (inl n)) = n i.setup_ok
    go (inr (inr (inl n))) = n i.end_ok
    go (inr (inr (inr (inl b)))) = times b
    go (inr (inr (inr (inr (inl b))))) = ⊎_elim (sides_clean s.quotes.bids i.stock.quotes.sides.0) (sides_clean s.quotes.offers i.stock.quotes.sides.1) b
    go (inr (inr (inr (inr (inr (inl b)))))) = reference b
    go (inr (inr (inr (inr (inr (inr k)))))) = omega (arith, k.1, j.p_by_end k.0)

clean : (h : Whole) → Sane h → Timely h → ¬ Rubbish h
clean h i j (inl b) = stock_clean h i j b
clean h i j (inr (inl l)) = omega (arith, i.window.count)
clean h i j (inr (inr (inl b))) = trades_clean _ 0 h.window i.window.in_order b
clean h i j (inr (inr (inr p))) = j.not_past p

pub never_rubbish : NeverRubbish
never_rubbish end u es a =
    clean (leaves end u es) (sane_left es (fresh end u) (fresh_sane end u a.end_ok a.setup_ok) a.lawful)
    (timely_left es (fresh end u) (fresh_timely end u) a.lawful)
