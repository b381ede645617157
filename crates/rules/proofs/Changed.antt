-- What each event changes: the state, the reference, and what is kept beside the state.
-- Assumes nothing.
use Prim.Native.Nat.{ℕ, ◌≤◌}
use mathlib.Core.Bool.{Bool, true, false, not}
use mathlib.Core.List.{List, [], ◌∷◌, ◌++◌}
use mathlib.Core.Logic.{◌⊎◌, inl, inr, ⊎_map}
use mathlib.Core.Path.{◌≡◌, refl, sym, ap, subst}
use native.Mathlib.Omega.{arith}
use borrow.Author.Tests.{eq-eqb, ne_eqb}
use lib.Dec.{leb, eqb}
use lib.ListN.{length, length-append}
use Rattle.forms.specs.Choice.{if◌then◌otherwise◌, all_of, any_of}
use Rattle.forms.specs.Words.{◌or◌, ◌and◌}
use Rattle.forms.proofs.Choice.{if_true, if_false}
use Rattle.forms.proofs.Decides.{Decides, words, is_true, is_false, either_way, by_le, by_eq, has, not_among}
use Rattle.band.specs.Band.{price_of}
use Rattle.band.proofs.Words.{moves_decides}
use Rattle.band.specs.declared.Mean.{Mean}
use Rattle.rules.specs.Stock.{Trade, Whole, Waiting, Trading, Limit, state_of, is, at_time, in_state, refer_to, not_early, hold_ended, figures_of, no_trades, mean_in}
use Rattle.rules.specs.Quotes.{in_force, k_time, bands_in, best_of, flagged, at_limit}
use Rattle.rules.specs.States.{look, begin_trading, leave, is_far, test}
use Rattle.rules.specs.Moments.{mark_z, mark_w, mark_x, mark_p, mark_c, mark_v, mark_f, mark_h, first_five, effect, window_after, come, fire}
use Rattle.rules.specs.Messages.{letter_t, letter_q, letter_o, letter_p, letter_r, letter_x, trade_rules, quote_rules, with_quote, does, after}
use Rattle.rules.specs.Numbers.{notice}
use Rattle.rules.specs.Machine.{Event, message, moment, becomes}
use Rattle.rules.specs.Book.{machine}
use Rattle.rules.specs.Words.{IsMean, OnePercent, AtBand, its_moment}
use Rattle.rules.specs.Changes.{LeavesLimit, Test, Starts, StartsOne, Looks}
use Rattle.rules.specs.Demands.{CanHappen, StatesAre, ReferenceIs, KeptIs}
use Rattle.rules.specs.declared.Figures.{Figures}
use Rattle.rules.specs.declared.Moment.{Moment}
use Rattle.rules.specs.declared.Stock.{Stock}
use Rattle.rules.specs.declared.Notice.{Notice}
use Rattle.rules.specs.declared.Message.{Message}
use Rattle.rules.specs.declared.Message.TheVariants.{Trade as T, Quote as Q, Opening as O, Pause as P, Reopening as R, Closing as X}
use Rattle.rules.proofs.BestQuotes.{at_band_is}
use Rattle.rules.proofs.Changing.{Changed, Come, Plain, look_else, closed, paused, begun, seen, same, plainly, unlooked, came}
use Rattle.rules.proofs.Means.{mean, only_mean}
use Rattle.rules.proofs.MomentRows.{IsRow, row_z, row_w_early, row_w_late, row_x, row_p, row_c, row_v, row_f, row_h, notice_row}

-- ------------------------------------------------------------------ the Test

some_trades : (w : List Trade) → ¬ ((figures_of w).count ≡ 0) → 1 ≤ length w
unfolding figures_of
some_trades w n = omega arith

no_none : (w : List Trade) → 1 ≤ length w → ¬ ((figures_of w).count ≡ 0)
unfolding figures_of
no_none w l z = omega arith

no_count : (w : List Trade) → w ≡ [] → (figures_of w).count ≡ 0
unfolding figures_of
no_count w e = ap length e

-- a reference that starts in Trading
in_trading : (r : Mean) (s : Stock) → state_of s ≡ Trading → look (refer_to r s) ≡ begin_trading r s
unfolding begin_trading
in_trading r s t = ap (λ n. look (in_state n (refer_to r s))) t

-- of a stock s whose window is then w: the mean starts, or nothing does
abbrev Tests : List Trade → Stock → Mean → Type 0
Tests w s r = state_of s ≡ Trading and s.reference.hold ≡ 0 and IsMean w r and OnePercent r s.reference.price

data Tested (w : List Trade) (s s' : Stock) : Type 0 where
  moves : (r : Mean) → Tests w s r → s' ≡ begin_trading r s → Tested w s s'
  rests : ¬ ((r : Mean) × Tests w s r) → s' ≡ s → Tested w s s'

tested : (w : List Trade) (s : Stock) → Tested w s (test (figures_of w) s)
unfolding test
tested w s = go (all_of (is Trading s ∷ eqb s.reference.hold 0 ∷ not (no_trades (figures_of w)) ∷ is_far r s.reference.price ∷ []))
    (search (words, moves_decides))
  where
    r : Mean
    r = mean_in (figures_of w)

    go : (b : Bool) → Decides b (state_of s ≡ Trading and s.reference.hold ≡ 0 and ¬ ((figures_of w).count ≡ 0) and OnePercent r s.reference.price)
        → Tested w s (if b then look (refer_to r s) otherwise s)
    go true d =
        let k = d.holds refl in
        rw (if_true true (look (refer_to r s)) s refl) (moves r (k.0, (k.1.0, (mean w (some_trades w k.1.1.0), k.1.1.1))) (in_trading r s k.0))
    go false d = rw (if_false false (look (refer_to r s)) s refl) (rests (λ k. d.fails refl (told k)) refl)
      where
        told : ((r : Mean) × Tests w s r) → state_of s ≡ Trading and s.reference.hold ≡ 0 and ¬ ((figures_of w).count ≡ 0) and OnePercent r s.reference.price
        told k =
            let m = only_mean w k.0 k.1.1.1.0 in
            (k.1.0, (k.1.1.0, (no_none w m.0, subst (λ r. OnePercent r s.reference.price) m.1 k.1.1.1.1)))

-- ------------------------------------------------------------------ messages

decided : (a b : ℕ) → (a ≡ b) ⊎ (¬ (a ≡ b))
decided a b = either_way _ (by_eq a b)

none_or_some : (w : List Trade) → (w ≡ []) ⊎ (1 ≤ length w)
none_or_some [] = inl refl
none_or_some (t ∷ ts) = inr (omega arith)

trade_changed : (time price : ℕ) (h : Whole) → Changed h (message (T time price)) (after (T time price) h).stock
unfolding after does trade_rules
trade_changed time price h = go (decided (state_of s) Waiting)
  where
    e : Event Message Notice
    e = message (T time price)

    s : Stock
    s = at_time time h.stock

    w : List Trade
    w = h.window ++ (record { at = time; price = price } ∷ [])

    r : Mean
    r = mean_in (figures_of w)

    c : Come h e s
    c = came h e letter_t h.stock.quotes refl refl

    plain : Plain e
    plain = plainly e letter_t refl refl

    stays : ¬ StartsOne h e → Changed h e s
    stays n = same h e plain s c (unlooked e letter_t refl h refl n)

    in_waiting : state_of s ≡ Waiting → (300_000 ≤ time) ⊎ (¬ (300_000 ≤ time)) → Changed h e (if leb 300_000 time then begin_trading r s otherwise s)
    in_waiting z (inl l) = rw (if_true _ (begin_trading r s) s (is_true _ (by_le 300_000 time) l))
        (begun h e plain s r c (inl (z, (l, mean w (omega (arith, length-append h.window (record { at = time; price = price } ∷ [])))))))
    in_waiting z (inr l) = rw (if_false _ (begin_trading r s) s (is_false _ (by_le 300_000 time) l)) (stays none)
      where
        none : ¬ StartsOne h e
        none (r, inl k) = l k.1.0
        none (r, inr k) = omega (arith, k.0)

    by_test : ¬ (state_of s ≡ Waiting) → Tested w s (test (figures_of w) s) → Changed h e (test (figures_of w) s)
    by_test n (moves r k q) = rw q (begun h e plain s r c (inr k))
    by_test n (rests k q) = rw q (stays none)
      where
        none : ¬ StartsOne h e
        none (r, inl k) = n k.0
        none (r, inr t) = k (r, t)

    go : (state_of s ≡ Waiting) ⊎ (¬ (state_of s ≡ Waiting))
        → Changed h e (if is Waiting s then (if leb 300_000 time then begin_trading r s otherwise s) otherwise test (figures_of w) s)
    go (inl z) = rw (if_true (is Waiting s) (if leb 300_000 time then begin_trading r s otherwise s) (test (figures_of w) s) (eq-eqb _ _ z))
        (in_waiting z (either_way _ (by_le 300_000 time)))
    go (inr n) = rw (if_false (is Waiting s) (if leb 300_000 time then begin_trading r s otherwise s) (test (figures_of w) s) (ne_eqb _ _ n))
        (by_test n (tested w s))

-- in Limit the best quotes do not depend on the clock
best_in_limit : (t : ℕ) (s : Stock) → state_of s ≡ Limit → best_of (at_time t s) ≡ best_of s
unfolding best_of bands_in in_force k_time any_of if◌then◌otherwise◌
best_in_limit t s e = rw e

module _ (time participant bid offer : ℕ) (h : Whole) where
  abbrev quote : Event Message Notice
  quote = message (Q time participant bid offer)

  abbrev quoted : Stock
  quoted = with_quote participant bid offer (at_time time h.stock)

  -- in Limit, whether a side then has flag 3
  still_at_band : state_of h.stock ≡ Limit → Decides (at_limit quoted) (AtBand (with_quote participant bid offer h.stock))
  still_at_band l = subst (λ b. Decides (flagged 3 b) (AtBand (with_quote participant bid offer h.stock)))
      (sym (best_in_limit time (with_quote participant bid offer h.stock) l)) (at_band_is (with_quote participant bid offer h.stock))

  quote_changed : Changed h quote (after (Q time participant bid offer) h).stock
  unfolding after does quote_rules leave
  quote_changed = go (decided (state_of quoted) Limit)
    where
      f : Figures
      f = figures_of h.window

      c : Come h quote quoted
      c = came h quote letter_q quoted.quotes refl refl

      plain : Plain quote
      plain = plainly quote letter_q refl refl

      old : Mean
      old = quoted.reference.price

      leaving : LeavesLimit h participant bid offer → (h.window ≡ []) ⊎ (1 ≤ length h.window) → Changed h quote (begin_trading (if no_trades f then old otherwise mean_in f) quoted)
      leaving k (inl z) = rw (if_true (no_trades f) old (mean_in f) (eq-eqb _ _ (no_count h.window z)))
          (begun h quote plain quoted old c (k, inr (z, refl)))
      leaving k (inr l) = rw (if_false (no_trades f) old (mean_in f) (ne_eqb _ _ (no_none h.window l)))
          (begun h quote plain quoted (mean_in f) c (k, inl (mean h.window l)))

      in_limit : (l : state_of quoted ≡ Limit) → (b : Bool) → Decides b (AtBand (with_quote participant bid offer h.stock))
          → Changed h quote (if b then quoted otherwise begin_trading (if no_trades f then old otherwise mean_in f) quoted)
      in_limit l true d = rw (if_true true quoted (begin_trading (if no_trades f then old otherwise mean_in f) quoted) refl) (same h quote plain quoted c none)
        where
          none : ¬ Looks h quote
          none (inl k) = k.1.0.1 (d.holds refl)
          none (inr k) = omega (arith, k.0)
      in_limit l false d = rw (if_false false quoted (begin_trading (if no_trades f then old otherwise mean_in f) quoted) refl)
          (leaving (l, d.fails refl) (none_or_some h.window))

      elsewhere : ¬ (state_of quoted ≡ Limit) → (state_of quoted ≡ Trading) ⊎ (¬ (state_of quoted ≡ Trading)) → Changed h quote (look quoted)
      elsewhere l (inl t) = seen h quote plain quoted c t (inl refl) (λ k. l k.1.0.0)
      elsewhere l (inr n) = rw (look_else quoted n) (same h quote plain quoted c none)
        where
          none : ¬ Looks h quote
          none (inl k) = l k.1.0.0
          none (inr k) = n k.0

      go : (state_of quoted ≡ Limit) ⊎ (¬ (state_of quoted ≡ Limit))
          → Changed h quote (if is Limit quoted then (if at_limit quoted then quoted otherwise begin_trading (if no_trades f then old otherwise mean_in f) quoted) otherwise look quoted)
      go (inl l) = rw (if_true (is Limit quoted) (if at_limit quoted then quoted otherwise begin_trading (if no_trades f then old otherwise mean_in f) quoted) (look quoted) (eq-eqb _ _ l))
          (in_limit l (at_limit quoted) (still_at_band l))
      go (inr l) = rw (if_false (is Limit quoted) (if at_limit quoted then quoted otherwise begin_trading (if no_trades f then old otherwise mean_in f) quoted) (look quoted) (ne_eqb _ _ l))
          (elsewhere l (decided (state_of quoted) Trading))

message_changed : (m : Message) (h : Whole) → Changed h (message m) (after m h).stock
unfolding after does
message_changed (T time price) h = trade_changed time price h
message_changed (Q time participant bid offer) h = quote_changed time participant bid offer h
message_changed (O time participant price) h =
    let e : Event Message Notice = message (O time participant price) in
    begun h e (plainly e letter_o refl refl) (at_time time h.stock) (price_of price) (came h e letter_o h.stock.quotes refl refl) (refl, refl)
message_changed (P time participant) h =
    let e : Event Message Notice = message (P time participant) in
    paused h e (at_time time h.stock) (came h e letter_p h.stock.quotes refl refl) (inl refl) (not_among (letter_x ∷ mark_z ∷ mark_c ∷ []) _ letter_p refl refl) (λ k. k.1)
message_changed (R time participant price) h =
    let e : Event Message Notice = message (R time participant price) in
    begun h e (plainly e letter_r refl refl) (at_time time h.stock) (price_of price) (came h e letter_r h.stock.quotes refl refl) (refl, refl)
message_changed (X time participant price) h =
    let e : Event Message Notice = message (X time participant price) in
    closed h e (at_time time h.stock) (came h e letter_x h.stock.quotes refl refl) (inl refl) (not_among (letter_p ∷ mark_x ∷ []) _ letter_x refl refl) (λ k. k.1)

-- ------------------------------------------------------------------ moments

module _ (h : Whole) (n : Notice) (v : CanHappen h (moment n)) where
  abbrev m : Moment
  m = its_moment n

  abbrev e : Event Message Notice
  e = moment n

  abbrev s : Stock
  s = at_time m.time h.stock

  abbrev w : List Trade
  w = window_after m h.window

  happened : fire h ≡ come m h
  unfolding fire notice
  happened = rw v.1

  window_is : (fire h).window ≡ w
  unfolding come
  window_is = ap (λ h. h.window) happened

  -- what starts a reference, with that window
  abbrev By : List Trade → Mean → Type 0
  By w r =
      (m.mark ≡ mark_p and r ≡ h.stock.reference.price)
      or (m.mark ≡ mark_v and Test h.stock.reference.hold h w r)
      or (m.mark ≡ mark_f and IsMean w r)
      or (m.mark ≡ mark_h and Test 0 h w r)

  starts : (r : Mean) → By w r → Starts h e r
  starts r k = subst (λ w. By w r) (sym window_is) k

  -- only by what its mark does
  unstarted : ((r : Mean) → By w r → ⊥) → ¬ StartsOne h e
  unstarted n k = n k.0 (subst (λ w. By w k.0) window_is k.1)

  unmarked : (l : ℕ) → m.mark ≡ l → has (mark_p ∷ mark_v ∷ mark_f ∷ mark_h ∷ []) l ≡ false → ¬ StartsOne h e
  unmarked l is g = unstarted (λ r k. not_among (mark_p ∷ mark_v ∷ mark_f ∷ mark_h ∷ []) _ l is g (⊎_map (λ k. k.0) (⊎_map (λ k. k.0) (⊎_map (λ k. k.0) (λ k. inl k.0))) k))

  -- of v, and of h, whose hold has ended: the mean starts where the Test finds it
  by_test : (l : ℕ) → m.mark ≡ l → has (letter_x ∷ mark_z ∷ mark_c ∷ letter_p ∷ mark_x ∷ []) l ≡ false → has (letter_q ∷ mark_w ∷ []) l ≡ false
      → (t : Stock) → Come h e t → ((r : Mean) → Tests w t r → By w r) → (¬ ((r : Mean) × Tests w t r) → (r : Mean) → By w r → ⊥)
      → Changed h e (test (figures_of w) t)
  by_test l is x z t c finds none = go (tested w t)
    where
      go : Tested w t (test (figures_of w) t) → Changed h e (test (figures_of w) t)
      go (moves r k q) = rw q (begun h e (plainly e l is x) t r c (starts r (finds r k)))
      go (rests k q) = rw q (same h e (plainly e l is x) t c (unlooked e l is h z (unstarted (none k))))

  on_w : m.mark ≡ mark_w → (state_of s ≡ Trading) ⊎ (¬ (state_of s ≡ Trading)) → Changed h e (look s)
  on_w k (inl t) = seen h e (plainly e mark_w k refl) s (came h e mark_w h.stock.quotes k refl) t (inr (inl k)) (unmarked mark_w k refl)
  on_w k (inr t) = rw (look_else s t) (same h e (plainly e mark_w k refl) s (came h e mark_w h.stock.quotes k refl) none)
    where
      none : ¬ Looks h e
      none (inl q) = unmarked mark_w k refl q
      none (inr q) = t q.0

  early_come : m.mark ≡ mark_f → Come h e (not_early s)
  early_come k = record {
    clock = refl;
    setup = refl;
    end = refl;
    state = refl;
    entry = refl;
    pause = refl;
    early = inl (k, refl);
    price = refl;
    start = refl;
    hold = inr ((λ z. omega arith), refl);
  }

  held_come : m.mark ≡ mark_h → Come h e (hold_ended s)
  held_come k = record {
    clock = refl;
    setup = refl;
    end = refl;
    state = refl;
    entry = refl;
    pause = refl;
    early = inr ((λ z. omega arith), refl);
    price = refl;
    start = refl;
    hold = inl (k, refl);
  }

  on_f : m.mark ≡ mark_f → (w ≡ []) ⊎ (1 ≤ length w) → Changed h e (if no_trades (figures_of w) then not_early s otherwise begin_trading (mean_in (figures_of w)) (not_early s))
  on_f k (inl z) = rw (if_true (no_trades (figures_of w)) (not_early s) (begin_trading (mean_in (figures_of w)) (not_early s)) (eq-eqb _ _ (no_count w z)))
      (same h e (plainly e mark_f k refl) (not_early s) (early_come k) (unlooked e mark_f k h refl (unstarted none)))
    where
      none : (r : Mean) → By w r → ⊥
      none r (inl q) = omega (arith, q.0)
      none r (inr (inl q)) = omega (arith, q.0)
      none r (inr (inr (inl q))) = let o = only_mean w r q.1 in let l : length w ≡ 0 = ap length z in omega (arith, o.0)
      none r (inr (inr (inr q))) = omega (arith, q.0)
  on_f k (inr l) = rw (if_false (no_trades (figures_of w)) (not_early s) (begin_trading (mean_in (figures_of w)) (not_early s)) (ne_eqb _ _ (no_none w l)))
      (begun h e (plainly e mark_f k refl) (not_early s) (mean_in (figures_of w)) (early_come k) (starts _ (inr (inr (inl (k, mean w l))))))

  on_v : m.mark ≡ mark_v → Changed h e (test (figures_of w) s)
  on_v k = by_test mark_v k refl refl s (came h e mark_v h.stock.quotes k refl) (λ r t. inr (inl (k, t))) none
    where
      none : ¬ ((r : Mean) × Tests w s r) → (r : Mean) → By w r → ⊥
      none n r (inl q) = omega (arith, q.0)
      none n r (inr (inl q)) = n (r, q.1)
      none n r (inr (inr (inl q))) = omega (arith, q.0)
      none n r (inr (inr (inr q))) = omega (arith, q.0)

  on_h : m.mark ≡ mark_h → Changed h e (test (figures_of w) (hold_ended s))
  on_h k = by_test mark_h k refl refl (hold_ended s) (held_come k) (λ r t. inr (inr (inr (k, t)))) none
    where
      none : ¬ ((r : Mean) × Tests w (hold_ended s) r) → (r : Mean) → By w r → ⊥
      none n r (inl q) = omega (arith, q.0)
      none n r (inr (inl q)) = omega (arith, q.0)
      none n r (inr (inr (inl q))) = omega (arith, q.0)
      none n r (inr (inr (inr q))) = n (r, q.1)

  -- what the effect of a mark has changed
  abbrev ByMark : ℕ → Type 0
  ByMark mark = Changed h e (effect mark (figures_of w) s)

  row_changed : IsRow (figures_of h.window) h.stock m → Changed h e (effect m.mark (figures_of w) s)
  unfolding effect first_five if◌then◌otherwise◌
  row_changed (row_z k t a) = subst ByMark (sym k)
      (closed h e s (came h e mark_z h.stock.quotes k refl) (inr (inl k)) (not_among (letter_p ∷ mark_x ∷ []) _ mark_z k refl) (unmarked mark_z k refl))
  row_changed (row_w_early k t c a) = subst ByMark (sym k) (on_w k (decided (state_of s) Trading))
  row_changed (row_w_late k t c a) = subst ByMark (sym k) (on_w k (decided (state_of s) Trading))
  row_changed (row_x k t a) = subst ByMark (sym k)
      (paused h e s (came h e mark_x h.stock.quotes k refl) (inr (inl k)) (not_among (letter_x ∷ mark_z ∷ mark_c ∷ []) _ mark_x k refl) (unmarked mark_x k refl))
  row_changed (row_p k t a) = subst ByMark (sym k)
      (begun h e (plainly e mark_p k refl) s h.stock.reference.price (came h e mark_p h.stock.quotes k refl) (starts _ (inl (k, refl))))
  row_changed (row_c k t a) = subst ByMark (sym k)
      (closed h e s (came h e mark_c h.stock.quotes k refl) (inr (inr (inl k))) (not_among (letter_p ∷ mark_x ∷ []) _ mark_c k refl) (unmarked mark_c k refl))
  row_changed (row_v k t a c) = subst ByMark (sym k) (on_v k)
  row_changed (row_f k t a c) = subst ByMark (sym k) (on_f k (none_or_some w))
  row_changed (row_h k t a b c) = subst ByMark (sym k) (on_h k)

  moment_changed : Changed h e (fire h).stock
  unfolding come
  moment_changed = rw happened (row_changed (notice_row h n v))

-- ------------------------------------------------------------------ every event

changed : (h : Whole) (e : Event Message Notice) → CanHappen h e → Changed h e (becomes machine h e).stock
changed h (message m) v = message_changed m h
changed h (moment n) v = moment_changed h n v

pub states : StatesAre
states h e v = (changed h e v).state_is

pub reference : ReferenceIs
reference h e v = (changed h e v).reference_is

pub kept : KeptIs
kept h e v = (changed h e v).kept_is
