-- A Trading stock does not stand at a band with a market that is not crossed.
-- Assumes nothing.
use Prim.Native.Nat.{ℕ, ◌-◌, ◌≤◌, ◌<◌}
use mathlib.Core.Bool.{Bool, true, false}
use mathlib.Core.List.{[], ◌∷◌}
use mathlib.Core.Logic.{inl, inr}
use mathlib.Core.Path.{◌≡◌, refl, sym, ap, ◌∙◌}
use native.Mathlib.Omega.{arith}
use borrow.Author.Tests.{ltb-true, ltb-false, leb-true, leb-false, lt-ltb, le-ltb, le-leb, lt-leb}
use lib.Dec.{ltb, leb}
use Rattle.forms.specs.Choice.{if◌then◌otherwise◌, any_of}
use Rattle.forms.specs.Words.{◌and◌}
use Rattle.forms.proofs.Decides.{is_true, is_false}
use Rattle.band.specs.Band.{factor_of}
use Rattle.rules.specs.Stock.{Whole, Trading, state_of, clock_of}
use Rattle.rules.specs.Quotes.{in_force, k_time, bands_in, best_of, flagged, crossed}
use Rattle.rules.specs.Messages.{time_of}
use Rattle.rules.specs.Numbers.{fresh}
use Rattle.rules.specs.Machine.{Event, message, moment, dated, Lawful, becomes, left}
use Rattle.rules.specs.Book.{machine, Story}
use Rattle.rules.specs.Words.{AtBand, Crossing, moments, Due, IsFirst, its_moment}
use Rattle.rules.specs.Changes.{Closes, Looks, ReferenceAfter}
use Rattle.rules.specs.Demands.{CanHappen, QuotesLookedAt}
use Rattle.rules.specs.declared.Stock.{Stock}
use Rattle.rules.specs.declared.Notice.{Notice}
use Rattle.rules.specs.declared.Message.{Message}
use Rattle.rules.proofs.After.{After, closes, pauses, enters, trades, stays, state_after_lem}
use Rattle.rules.proofs.BestQuotes.{at_band_is, crossed_is}
use Rattle.rules.proofs.Changed.{reference}
use Rattle.rules.proofs.Coming.{moments_are}
use Rattle.rules.proofs.Events.{event_kept, event_forward, first_lawful, rest_lawful}
use Rattle.rules.proofs.Last.{quotes_stay}
use Rattle.rules.proofs.Numbers.{taken_words}

-- ------------------------------------------------------------------ what the best quotes depend on

-- k is the same at two times that no change of k lies between
abbrev SameK : ℕ → ℕ → ℕ → Type 0
SameK end c t = (c ≤ t) × (c < 900_000 → t < 900_000) × (c < end - 1_500_000 → t < end - 1_500_000)

below_same : (c t n : ℕ) → c ≤ t → (c < n → t < n) → ltb t n ≡ ltb c n
below_same c t n l k = go (ltb c n) refl
  where
    go : (b : Bool) → ltb c n ≡ b → ltb t n ≡ ltb c n
    go true e = lt-ltb t n (k (ltb-true c n e)) ∙ sym e
    go false e = le-ltb t n (omega (arith, ltb-false c n e)) ∙ sym e

from_same : (c t n : ℕ) → c ≤ t → (c < n → t < n) → leb n t ≡ leb n c
from_same c t n l k = go (leb n c) refl
  where
    go : (b : Bool) → leb n c ≡ b → leb n t ≡ leb n c
    go true e = le-leb n t (omega (arith, leb-true n c e)) ∙ sym e
    go false e = lt-leb n t (k (leb-false n c e)) ∙ sym e

same_factor : (leverage end c t : ℕ) → SameK end c t → factor_of leverage t end ≡ factor_of leverage c end
unfolding factor_of
same_factor leverage end c t k = rw (below_same c t 900_000 k.0 k.1, from_same c t (end - 1_500_000) k.0 k.2)

-- two stocks in Trading with the same reference, setup, end and quotes, and the same k
best_alike : (s s' : Stock) → state_of s ≡ Trading → state_of s' ≡ Trading → s'.reference.price ≡ s.reference.price → s'.setup ≡ s.setup
    → s'.end ≡ s.end → s'.quotes ≡ s.quotes → SameK s.end (clock_of s) (clock_of s') → best_of s' ≡ best_of s
unfolding best_of bands_in in_force k_time any_of if◌then◌otherwise◌
best_alike s s' t t' p u e q k = rw (t, t', p, u, e, q, same_factor s.setup.leverage s.end (clock_of s) (clock_of s') k)

-- ------------------------------------------------------------------ an event in Trading that does not look

-- no w lies between the clock and the event
same_k : (h : Whole) (e : Event Message Notice) → CanHappen h e → state_of h.stock ≡ Trading → ¬ Closes e → ¬ Looks h e
    → SameK h.stock.end (clock_of h.stock) (dated machine e)
same_k h (message m) v t c l = (
  event_forward h (message m) [] v,
  (λ k. let n : ¬ (900_000 ≤ time_of m) = λ d. none (inr (inl ((omega arith, k), d))) in omega arith),
  (λ k. let n : ¬ (h.stock.end - 1_500_000 ≤ time_of m) = λ d. none (inr (inr (inl ((omega arith, k), d)))) in omega arith),
)
  where
    none : ¬ Due (time_of m) h
    none = (taken_words m h v.0).none_due
same_k h (moment n) v t c l = go (moments_are h n v)
  where
    go : IsFirst (its_moment n) (moments h) → SameK h.stock.end (clock_of h.stock) n.time
    go (inl k) = absurd (c (inr (inl k.1.0)))
    go (inr (z, inl k)) = absurd (l (inr (t, inr (inl k.1.0))))
    go (inr (z, inr (w, inl k))) = absurd (l (inr (t, inr (inl k.1.0))))
    go (inr (z, inr (w, inr (late, k)))) = (event_forward h (moment n) [] v, (λ k. w (omega arith, k)), (λ k. late (omega arith, k)))

-- ------------------------------------------------------------------ a story

abbrev Looked : Stock → Type 0
Looked s = state_of s ≡ Trading → ¬ (AtBand s and ¬ Crossing s)

one_more : (h : Whole) (e : Event Message Notice) → CanHappen h e → Looked h.stock → Looked (becomes machine h e).stock
one_more h e v i t k = go (state_after_lem h e v)
  where
    s : Stock
    s = h.stock

    s' : Stock
    s' = (becomes machine h e).stock

    as_before : best_of s' ≡ best_of s → AtBand s and ¬ Crossing s
    as_before b = (
      (at_band_is s).holds (sym (ap (flagged 3) b) ∙ is_true _ (at_band_is s') k.0),
      (crossed_is s).fails (sym (ap crossed b) ∙ is_false _ (crossed_is s') k.1),
    )

    price : ¬ Looks h e → ReferenceAfter h e s' → s'.reference.price ≡ s.reference.price
    price l (inl r) = absurd (l (inl (s'.reference.price, r.0)))
    price l (inr r) = r.1.0

    go : After h e → ⊥
    go (closes c q) = omega arith
    go (pauses p (inl q)) = omega arith
    go (pauses p (inr q)) = omega arith
    go (enters p n q) = omega arith
    go (trades p n l q) = n (l, k)
    go (stays c p n l q) =
        let before = sym q ∙ t in
        let x = event_kept h e [] v in
        let same_k_at = same_k h e v before c l in
        i before (as_before (best_alike s s' before t (price l (reference h e v)) (ap (λ x. x.1) x) (ap (λ x. x.2) x)
        (quotes_stay h e v c (λ z. l (inr (before, inl z)))) (rw (ap (λ x. x.0) x) same_k_at)))

pub looked_at : QuotesLookedAt
unfolding fresh
looked_at end u es a = by_story (fresh end u) es a.lawful (λ e. absurd (omega arith))
  where
    by_story : (h : Whole) (es : Story) → Lawful machine h es → Looked h.stock → Looked (left machine h es).stock
    by_story h [] v i = i
    by_story h (e ∷ es) v i = by_story (becomes machine h e) es (rest_lawful h e es v) (one_more h e (first_lawful h e es v) i)
