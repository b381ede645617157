-- After f a stock that is still Waiting holds no trade, so the T that ends Waiting makes a reference of its own price alone.
-- Assumes nothing.
use Prim.Native.Nat.{ℕ, ◌+◌, ◌≤◌}
use mathlib.Core.List.{List, [], ◌∷◌, ◌++◌}
use mathlib.Core.Logic.{inl, inr}
use mathlib.Core.Path.{◌≡◌, refl, sym, ap, ◌∙◌}
use native.Mathlib.Decide.{ℕ_discrete}
use native.Mathlib.Omega.{arith}
use lib.ListN.{length, length-append}
use Rattle.forms.proofs.Choice.{if_arms}
use Rattle.band.specs.Band.{price_of}
use Rattle.rules.specs.Stock.{Trade, Whole, Waiting, state_of, clock_of, figures_of, mean_in}
use Rattle.rules.specs.Moments.{mark_f, moment_table, next_of}
use Rattle.rules.specs.Messages.{does, after}
use Rattle.rules.specs.Numbers.{fresh, notice}
use Rattle.rules.specs.Machine.{Event, message, moment, dated, Lawful, becomes, left}
use Rattle.rules.specs.Book.{machine, Story}
use Rattle.rules.specs.Words.{sum_of, IsPriceAlone}
use Rattle.rules.specs.Changes.{letter_of, IsNew, joins, recent, TradesAfter, StartsOne, ReferenceAfter}
use Rattle.rules.specs.Demands.{leaves, CanHappen, FirstTrade}
use Rattle.rules.specs.declared.Notice.{Notice}
use Rattle.rules.specs.declared.Message.{Message}
use Rattle.rules.specs.declared.Message.TheVariants.{Trade as T, Quote as Q, Opening as O, Pause as P, Reopening as R, Closing as X}
use Rattle.rules.proofs.After.{waited, no_mark}
use Rattle.rules.proofs.Changed.{reference, kept}
use Rattle.rules.proofs.Earliest.{IsMoment}
use Rattle.rules.proofs.Events.{first_lawful, rest_lawful, event_clock, event_forward}
use Rattle.rules.proofs.FirstFive.{f_comes}
use Rattle.rules.proofs.Lawful.{machine_laws}
use Rattle.rules.proofs.Means.{mean}
use Rattle.rules.proofs.MomentRows.{by_row}
use Rattle.rules.proofs.Window.{trades}

-- once f has happened, in Waiting: the clock is at 300,000 or later, and no trade is held
abbrev Idle : Whole → Type 0
Idle h = state_of h.stock ≡ Waiting → h.stock.course.early ≡ 0 → (300_000 ≤ clock_of h.stock) × (h.window ≡ [])

-- f's own time
f_time : (h : Whole) → IsMoment (next_of h) → (next_of h).mark ≡ mark_f → (next_of h).time ≡ 300_000
unfolding moment_table
f_time h m = by_row h m (λ m. m.mark ≡ mark_f → m.time ≡ 300_000) (omega arith)

-- a window that f leaves without starting a reference is empty
none_left : (w : List Trade) → ¬ (1 ≤ length w) → w ≡ []
none_left [] n = refl
none_left (t ∷ w) n = absurd (n (omega arith))

-- a T at 300,000 or later ends Waiting
trade_starts : (h : Whole) (time price : ℕ) → state_of h.stock ≡ Waiting → 300_000 ≤ time → StartsOne h (message (T time price))
unfolding after does
trade_starts h time price w l =
    let t : Trade = record { at = time; price = price } in
    (mean_in (figures_of (h.window ++ (t ∷ []))), inl (w, (l, mean (h.window ++ (t ∷ [])) (omega (arith, length-append h.window (t ∷ []))))))

module _ (h : Whole) (e : Event Message Notice) (v : CanHappen h e) (n : ¬ StartsOne h e) (w : state_of h.stock ≡ Waiting) where
  abbrev h' : Whole
  h' = becomes machine h e

  -- by f
  at_f : letter_of e ≡ mark_f → (300_000 ≤ clock_of h'.stock) × (h'.window ≡ [])
  unfolding notice
  at_f = go e v n
    where
      go : (e : Event Message Notice) → CanHappen h e → ¬ StartsOne h e → letter_of e ≡ mark_f
          → (300_000 ≤ clock_of (becomes machine h e).stock) × ((becomes machine h e).window ≡ [])
      go (message m) v n l = absurd (no_mark m l)
      go (moment m) v n l =
          let first = (machine_laws.its_time v.0.0 h v.0.1).0 in
          let its : (next_of h).time ≡ 300_000 = f_time h first (sym (ap (λ n. n.mark) v.1) ∙ l) in
          let date : m.time ≡ (next_of h).time = ap (λ n. n.time) v.1 in
          let w' = (becomes machine h (moment m)).window in
          (omega (arith, event_clock h (moment m) [] v), none_left w' (λ some. n (mean_in (figures_of w'), inr (inr (inl (l, mean w' some))))))

  -- by any other event, before which none was held
  joined : h.window ≡ [] → 300_000 ≤ dated machine e → joins h.window e ≡ []
  unfolding after does
  joined z l = go e n l
    where
      go : (e : Event Message Notice) → ¬ StartsOne h e → 300_000 ≤ dated machine e → joins h.window e ≡ []
      go (message (T time price)) n l = absurd (n (trade_starts h time price w l))
      go (message (Q time participant bid offer)) n l = z
      go (message (O time participant price)) n l = absurd (n (price_of price, (refl, refl)))
      go (message (P time participant)) n l = z
      go (message (R time participant price)) n l = absurd (n (price_of price, (refl, refl)))
      go (message (X time participant price)) n l = refl
      go (moment m) n l = if_arms (λ w. w ≡ []) _ (λ _. refl) (λ _. z)

  still : h.window ≡ [] → 300_000 ≤ clock_of h.stock → (300_000 ≤ clock_of h'.stock) × (h'.window ≡ [])
  unfolding recent
  still z l =
      let on = event_forward h e [] v in
      (omega (arith, on, event_clock h e [] v), go (trades h e v))
    where
      go : TradesAfter h e h'.window → h'.window ≡ []
      go (inl (_, q)) = q ∙ ap (recent _) z
      go (inr (_, q)) = q ∙ joined z (omega (arith, event_forward h e [] v))

idle_after : (h : Whole) (e : Event Message Notice) → CanHappen h e → Idle h → Idle (becomes machine h e)
idle_after h e v i w z = go (kept h e v).1.1.1.1.1
  where
    before : ¬ StartsOne h e × (state_of h.stock ≡ Waiting)
    before = waited h e v w

    go : IsNew (letter_of e ≡ mark_f) (becomes machine h e).stock.course.early 0 h.stock.course.early
        → (300_000 ≤ clock_of (becomes machine h e).stock) × ((becomes machine h e).window ≡ [])
    go (inl k) = at_f h e v before.0 before.1 k.0
    go (inr k) = let j = i before.1 (sym k.1 ∙ z) in still h e v before.0 before.1 j.1 j.0

idle_left : (es : Story) (h : Whole) → Lawful machine h es → Idle h → Idle (left machine h es)
idle_left [] h v i = i
idle_left (e ∷ es) h v i = idle_left es (becomes machine h e) (rest_lawful h e es v) (idle_after h e (first_lawful h e es v) i)

pub first_trade : FirstTrade
unfolding fresh after does
first_trade end u es a w time price e l = go (ℕ_discrete h.stock.course.early 0)
  where
    h : Whole
    h = leaves end u es

    idle : Idle h
    idle = idle_left es (fresh end u) a.lawful (λ _ z. absurd (omega arith))

    e' : Event Message Notice
    e' = message (T time price)

    alone : h.window ≡ [] → ReferenceAfter h e' (becomes machine h e').stock → IsPriceAlone price (becomes machine h e').stock.reference.price
    alone z (inl (inl (_, (_, (_, (s, c)))), _)) =
        let sum : sum_of (h.window ++ (record { at = time; price = price } ∷ [])) ≡ price + 0 = ap (λ w. sum_of (w ++ (record { at = time; price = price } ∷ []))) z in
        let count : length (h.window ++ (record { at = time; price = price } ∷ [])) ≡ 1 = ap (λ w. length (w ++ (record { at = time; price = price } ∷ []))) z in
        (omega (arith, s, sum), c ∙ count)
    alone z (inl (inr k, _)) = absurd (omega (arith, k.0, w))
    alone z (inr (n, _)) = absurd (n (trade_starts h time price w l))

    go : Dec (h.stock.course.early ≡ 0) → IsPriceAlone price (becomes machine h (message (T time price))).stock.reference.price
    go (yes z) = alone (idle w z).1 (reference h e' (e, tt))
    go (no n) = let f = f_comes h w n in absurd (omega (arith, machine_laws.none_due (T time price) h e (next_of h).time (f.0, refl)))
