-- What the words say of an event leaves nothing of a stock open.
-- Assumes nothing.
use Prim.Native.Nat.{ℕ, ◌≤◌}
use mathlib.Core.List.{List, []}
use mathlib.Core.Logic.{inl, inr, ⊎_elim, ⊎_map}
use mathlib.Core.Path.{◌≡◌, refl, sym, ap, ◌∙◌, ap₂}
use native.Mathlib.Omega.{arith}
use lib.ListN.{length, get_or}
use lib.Seq.{ext_get_or}
use Rattle.forms.specs.Choice.{if◌then◌otherwise◌, any_of}
use Rattle.forms.specs.Words.{◌or◌, ◌and◌, Gives}
use Rattle.forms.proofs.Decides.{is_true, is_false, one_number, first_or_rest}
use Rattle.band.specs.declared.Mean.{Mean}
use Rattle.rules.specs.Stock.{Trade, Whole, Trading, Limit, state_of, clock_of}
use Rattle.rules.specs.Quotes.{in_force, k_time, bands_in, best_of, flagged, crossed}
use Rattle.rules.specs.Moments.{mark_p}
use Rattle.rules.specs.Machine.{Event, message, moment, dated, becomes}
use Rattle.rules.specs.Book.{machine}
use Rattle.rules.specs.Words.{IsMean, IsPriceAlone, HasBands, AtBand}
use Rattle.rules.specs.Changes.{IsNew, quote_by, Quoted, QuotesAfter, Starts, ReferenceAfter, Enters, state_after, KeptAfter}
use Rattle.rules.specs.Demands.{ChangesOnly}
use Rattle.rules.specs.declared.Course.{Course}
use Rattle.rules.specs.declared.Quotes.{Quotes}
use Rattle.rules.specs.declared.Reference.{Reference}
use Rattle.rules.specs.declared.Setup.{Setup}
use Rattle.rules.specs.declared.Stock.{Stock}
use Rattle.rules.specs.declared.Notice.{Notice}
use Rattle.rules.specs.declared.Message.{Message}
use Rattle.rules.specs.declared.Message.TheVariants.{Trade as T, Quote as Q, Opening as O, Pause as P, Reopening as R, Closing as X}
use Rattle.rules.proofs.After.{AfterAs, closes, pauses, enters, trades, stays, after_given}
use Rattle.rules.proofs.BestQuotes.{at_band_is, crossed_is}
use Rattle.rules.proofs.Changed.{states, reference, kept}
use Rattle.rules.proofs.Last as last
use Rattle.rules.proofs.Means.{only_mean}
use Rattle.rules.proofs.Since.{of_fields}
use Rattle.rules.proofs.Window as window

-- ------------------------------------------------------------------ one thing at a time

-- what is new or as before is one thing
one_new : {A : Type 0} {Words : Type 0} {x y new before : A} → IsNew Words x new before → IsNew Words y new before → x ≡ y
one_new (inl a) (inl b) = a.1 ∙ sym b.1
one_new (inl a) (inr b) = absurd (b.0 a.0)
one_new (inr a) (inl b) = absurd (a.0 b.0)
one_new (inr a) (inr b) = a.1 ∙ sym b.1

one_mean : (w : List Trade) (r r' : Mean) → IsMean w r → IsMean w r' → r ≡ r'
one_mean w r r' a b = (only_mean w r a).1 ∙ sym (only_mean w r' b).1

one_alone : (price : ℕ) (r r' : Mean) → IsPriceAlone price r → IsPriceAlone price r' → r ≡ r'
one_alone price r r' a b = ap₂ (λ sum count. record { sum = sum; count = count }) (a.0 ∙ sym b.0) (a.1 ∙ sym b.1)

-- p starts the old reference, any other moment the mean
by_mean : (h : Whole) (n : Notice) (r : Mean) → Starts h (moment n) r
    → (n.mark ≡ mark_p and r ≡ h.stock.reference.price) or (¬ (n.mark ≡ mark_p) and IsMean (becomes machine h (moment n)).window r)
by_mean h n r (inl a) = inl a
by_mean h n r (inr (inl a)) = inr ((λ z. omega (arith, a.0)), a.1.1.1.0)
by_mean h n r (inr (inr (inl a))) = inr ((λ z. omega (arith, a.0)), a.1)
by_mean h n r (inr (inr (inr a))) = inr ((λ z. omega (arith, a.0)), a.1.1.1.0)

-- an event starts one reference only
one_start : (h : Whole) (e : Event Message Notice) (r r' : Mean) → Starts h e r → Starts h e r' → r ≡ r'
one_start h (message (T time price)) r r' (inl a) (inl b) = one_mean (becomes machine h (message (T time price))).window r r' a.1.1 b.1.1
one_start h (message (T time price)) r r' (inl a) (inr b) = absurd (omega (arith, a.0, b.0))
one_start h (message (T time price)) r r' (inr a) (inl b) = absurd (omega (arith, a.0, b.0))
one_start h (message (T time price)) r r' (inr a) (inr b) = one_mean (becomes machine h (message (T time price))).window r r' a.1.1.0 b.1.1.0
one_start h (message (Q time participant bid offer)) r r' a b = go a.1 b.1
  where
    w : List Trade
    w = (becomes machine h (message (Q time participant bid offer))).window

    apart : (r : Mean) → IsMean w r → ¬ (w ≡ [])
    apart r m z = let l : length w ≡ 0 = ap length z in omega (arith, (only_mean w r m).0)

    go : (IsMean w r or (w ≡ [] and r ≡ h.stock.reference.price)) → (IsMean w r' or (w ≡ [] and r' ≡ h.stock.reference.price)) → r ≡ r'
    go (inl m) (inl n) = one_mean w r r' m n
    go (inl m) (inr n) = absurd (apart r m n.0)
    go (inr m) (inl n) = absurd (apart r' n m.0)
    go (inr m) (inr n) = m.1 ∙ sym n.1
one_start h (message (O time participant price)) r r' a b = one_alone price r r' a b
one_start h (message (P time participant)) r r' a b = absurd a
one_start h (message (R time participant price)) r r' a b = one_alone price r r' a b
one_start h (message (X time participant price)) r r' a b = absurd a
one_start h (moment n) r r' a b = go (by_mean h n r a) (by_mean h n r' b)
  where
    w : List Trade
    w = (becomes machine h (moment n)).window

    go : ((n.mark ≡ mark_p and r ≡ h.stock.reference.price) or (¬ (n.mark ≡ mark_p) and IsMean w r))
        → ((n.mark ≡ mark_p and r' ≡ h.stock.reference.price) or (¬ (n.mark ≡ mark_p) and IsMean w r')) → r ≡ r'
    go (inl x) (inl y) = x.1 ∙ sym y.1
    go (inl x) (inr y) = absurd (y.0 x.0)
    go (inr x) (inl y) = absurd (x.0 y.0)
    go (inr x) (inr y) = one_mean w r r' x.1 y.1

one_reference : (h : Whole) (e : Event Message Notice) (s s' : Stock) → ReferenceAfter h e s → ReferenceAfter h e s' → s.reference ≡ s'.reference
one_reference h e s s' (inl a) (inl b) =
    of_fields s.reference (one_start h e _ _ a.0 b.0) (a.1.0 ∙ sym b.1.0) (a.1.1 ∙ sym b.1.1)
one_reference h e s s' (inl a) (inr b) = absurd (b.0 (_, a.0))
one_reference h e s s' (inr a) (inl b) = absurd (a.0 (_, b.0))
one_reference h e s s' (inr a) (inr b) =
    of_fields s.reference (a.1.0 ∙ sym b.1.0) (a.1.1.0 ∙ sym b.1.1.0) (one_new a.1.1.1 b.1.1.1)

-- ------------------------------------------------------------------ the quotes

-- a side of sixteen, participant by participant
one_side : (x y : List ℕ) → length x ≡ 16 → length y ≡ 16 → ((i : ℕ) → i ≤ 15 → get_or x i 0 ≡ get_or y i 0) → x ≡ y
one_side x y l m each = ext_get_or 0 x y (l ∙ sym m) (λ i k. each i (omega arith))

module _ (h : Whole) (e : Event Message Notice) (bids : length h.stock.quotes.bids ≡ 16) (offers : length h.stock.quotes.offers ≡ 16) where
  abbrev after_quote : ℕ → ℕ × ℕ
  after_quote i = quote_by i (get_or h.stock.quotes.bids i 0, get_or h.stock.quotes.offers i 0) e

  quoted : (s : Stock) → QuotesAfter h e s → (i : ℕ) → i ≤ 15 → Quoted i s.quotes (after_quote i)
  quoted s q i l = q i (get_or h.stock.quotes.bids i 0, get_or h.stock.quotes.offers i 0) l (bids, (refl, (offers, refl)))

  one_quotes : (s s' : Stock) → QuotesAfter h e s → QuotesAfter h e s' → s.quotes ≡ s'.quotes
  one_quotes s s' a b =
      let x = quoted s a in
      let y = quoted s' b in
      quotes_of s.quotes
      (one_side _ _ (x 0 (omega arith)).0 (y 0 (omega arith)).0 (λ i l. (x i l).1.0 ∙ sym (y i l).1.0))
      (one_side _ _ (x 0 (omega arith)).1.1.0 (y 0 (omega arith)).1.1.0 (λ i l. (x i l).1.1.1 ∙ sym (y i l).1.1.1))
    where
      quotes_of : {bids offers : List ℕ} (q : Quotes) → q.bids ≡ bids → q.offers ≡ offers → q ≡ record { bids = bids; offers = offers }
      quotes_of q b o = rw (← b, ← o)

-- ------------------------------------------------------------------ whether Limit is entered

-- Limit entered now shows what Trading would
best_same : (s s' : Stock) → state_of s ≡ Limit → state_of s' ≡ Trading → s.course.entry ≡ clock_of s' → s.reference ≡ s'.reference → s.setup ≡ s'.setup
    → s.end ≡ s'.end → s.quotes ≡ s'.quotes → best_of s ≡ best_of s'
unfolding best_of bands_in in_force k_time any_of if◌then◌otherwise◌
best_same s s' l t c r u e q = rw (l, t, c, r, u, e, q)

-- no bands are in force
out_of_force : (s : Stock) (n : ℕ) → state_of s ≡ n → ¬ (n ≡ Trading) → ¬ (n ≡ Limit) → ¬ AtBand s
out_of_force s n e t l k = go k.1
  where
    go : ¬ HasBands s k.0
    go (inl b) = t (sym e ∙ b.0)
    go (inr b) = l (sym e ∙ b.0)

module _ (h : Whole) (e : Event Message Notice) (s s' : Stock) (r : s.reference ≡ s'.reference) (q : s.quotes ≡ s'.quotes)
    (g : Gives (state_after h e s) (state_of s)) (g' : Gives (state_after h e s') (state_of s')) (k : KeptAfter h e s) (k' : KeptAfter h e s') where
  -- of a stock that has entered, the other has
  entered : Enters h e s → Enters h e s'
  entered n = go (after_given h e s g) (after_given h e s' g') k.1.1.1.0
    where
      in_force_lem : (m : ℕ) → state_of s ≡ m → ¬ (m ≡ Trading) → ¬ (m ≡ Limit) → ⊥
      in_force_lem m z t l = out_of_force s m z t l n.1.0

      shown : state_of s ≡ Limit → state_of s' ≡ Trading → s.course.entry ≡ dated machine e → Enters h e s'
      shown l t d =
          let b = best_same s s' l t (d ∙ sym k'.0) r (k.1.0 ∙ sym k'.1.0) (k.1.1.0 ∙ sym k'.1.1.0) q in (
            n.0,
            (
              (at_band_is s').holds (sym (ap (flagged 3) b) ∙ is_true _ (at_band_is s) n.1.0),
              (crossed_is s').fails (sym (ap crossed b) ∙ is_false _ (crossed_is s) n.1.1),
            ),
          )

      go : AfterAs h e s → AfterAs h e s' → IsNew (Enters h e s) s.course.entry (dated machine e) h.stock.course.entry → Enters h e s'
      go a b (inr d) = absurd (d.0 n)
      go (closes c z) b (inl d) = absurd (in_force_lem 5 z (λ z. omega arith) (λ z. omega arith))
      go (pauses p (inl z)) b (inl d) = absurd (in_force_lem 3 z (λ z. omega arith) (λ z. omega arith))
      go (pauses p (inr z)) b (inl d) = absurd (in_force_lem 4 z (λ z. omega arith) (λ z. omega arith))
      go (trades p x l z) b (inl d) = absurd (x n)
      go (stays c p x l z) b (inl d) = absurd (x n)
      go (enters p x z) (closes c y) (inl d) =
          let too = ⊎_elim (λ q. q.1) (λ q. absurd (q.0 c)) (first_or_rest 5 _ _ _ g) in
          absurd (in_force_lem 5 too (λ z. omega arith) (λ z. omega arith))
      go (enters p x z) (pauses o y) (inl d) = absurd (p o)
      go (enters p x z) (enters o m y) (inl d) = m
      go (enters p x z) (trades o m l y) (inl d) = shown z y d.1
      go (enters p x z) (stays c o m l y) (inl d) = absurd (l n.0)

-- the tables of two stocks of which both or neither have entered give the same
alike : (h : Whole) (e : Event Message Notice) (s s' : Stock) (n : ℕ) → (Enters h e s → Enters h e s') → (Enters h e s' → Enters h e s)
    → Gives (state_after h e s) n → Gives (state_after h e s') n
unfolding Gives
alike h e s s' n to from (inl a) = inl a
alike h e s s' n to from (inr (c, inl a)) = inr (c, inl a)
alike h e s s' n to from (inr (c, inr (l, inl a))) = inr (c, inr (l, inl a))
alike h e s s' n to from (inr (c, inr (l, inr (p, inl (x, a))))) = inr (c, inr (l, inr (p, inl (to x, a))))
alike h e s s' n to from (inr (c, inr (l, inr (p, inr (x, a))))) = inr (c, inr (l, inr (p, inr ((λ y. x (from y)), a))))

-- ------------------------------------------------------------------ all of it

stock_of_lem : {setup : Setup} {end : ℕ} {course : Course} {reference : Reference} {quotes : Quotes} (s : Stock) → s.setup ≡ setup → s.end ≡ end
    → s.course ≡ course → s.reference ≡ reference → s.quotes ≡ quotes
    → s ≡ record { setup = setup; end = end; course = course; reference = reference; quotes = quotes }
stock_of_lem s u e c r q = rw (← u, ← e, ← c, ← r, ← q)

course_of : {state clock early entry pause : ℕ} (c : Course) → c.state ≡ state → c.clock ≡ clock → c.early ≡ early → c.entry ≡ entry → c.pause ≡ pause
    → c ≡ record { state = state; clock = clock; early = early; entry = entry; pause = pause }
course_of c s t f e p = rw (← s, ← t, ← f, ← e, ← p)

whole_of : {stock : Stock} {window : List Trade} (h : Whole) → h.stock ≡ stock → h.window ≡ window → h ≡ record { stock = stock; window = window }
whole_of h s w = rw (← s, ← w)

pub changes_only : ChangesOnly
changes_only h e v bids offers h' w q r g k =
    let h'' = becomes machine h e in
    let s = h'.stock in
    let s'' = h''.stock in
    let k'' = kept h e v in
    let g'' = states h e v in
    let same_reference = one_reference h e s s'' r (reference h e v) in
    let same_quotes = one_quotes h e bids offers s s'' q (last.quotes h e v) in
    let to = entered h e s s'' same_reference same_quotes g g'' k k'' in
    let from = entered h e s'' s (sym same_reference) (sym same_quotes) g'' g k'' k in
    let entry : IsNew (Enters h e s'') s.course.entry (dated machine e) h.stock.course.entry =
    ⊎_map (λ a. (to a.0, a.1)) (λ a. ((λ x. a.0 (from x)), a.1)) k.1.1.1.0 in
    let course = course_of s.course
    (one_number (state_after h e s'') _ _ (alike h e s s'' _ to from g) g'')
    (k.0 ∙ sym k''.0)
    (one_new k.1.1.1.1.1 k''.1.1.1.1.1)
    (one_new entry k''.1.1.1.0)
    (one_new k.1.1.1.1.0 k''.1.1.1.1.0) in
    whole_of h' (stock_of_lem s (k.1.0 ∙ sym k''.1.0) (k.1.1.0 ∙ sym k''.1.1.0) course same_reference same_quotes) (one_new w (window.trades h e v))
