-- The reference that a story leaves was started by an event of it, whose date is its start, and none was started since.
-- Assumes nothing.
use Prim.Native.Nat.{ℕ, zero, suc, ◌≤◌}
use mathlib.Core.List.{[], ◌∷◌}
use mathlib.Core.Logic.{◌⊎◌, inl, inr}
use mathlib.Core.Path.{◌≡◌, refl, sym, ap, subst, ◌∙◌}
use native.Mathlib.Omega.{arith}
use Rattle.forms.specs.Words.{◌or◌}
use Rattle.band.specs.Band.{no_mean}
use Rattle.band.specs.declared.Mean.{Mean}
use Rattle.rules.specs.Stock.{Whole, Waiting, Late, Closed, state_of}
use Rattle.rules.specs.Moments.{mark_h}
use Rattle.rules.specs.Numbers.{fresh}
use Rattle.rules.specs.Machine.{Lawful, becomes, left}
use Rattle.rules.specs.Book.{machine, Story}
use Rattle.rules.specs.Changes.{letter_of, IsNew, Starts, ReferenceAfter}
use Rattle.rules.specs.Readings.{NoneStarted, StartedBy}
use Rattle.rules.specs.Demands.{leaves, ReferenceSince}
use Rattle.rules.specs.declared.Stock.{Stock}
use Rattle.rules.specs.declared.Reference.{Reference}
use Rattle.rules.proofs.After.{waited}
use Rattle.rules.proofs.Changed.{reference}
use Rattle.rules.proofs.Events.{first_lawful, rest_lawful}
use Rattle.rules.proofs.Sound.{Sane, started_price, sane_left, fresh_sane}

-- a reference with the price and the start of another, whose hold has not begun again
abbrev Keeps : Reference → Reference → Type 0
Keeps r r' = (r'.price ≡ r.price) × (r'.start ≡ r.start) × (r.hold ≡ 0 → r'.hold ≡ 0)

-- the reference was there before the story, or an event of it started it
abbrev Lasted : Reference → Whole → Story → Type 0
Lasted r h es = (NoneStarted h es × Keeps h.stock.reference r) ⊎ StartedBy r.price r.start h es

lasted : (h : Whole) (es : Story) → Lawful machine h es → Lasted (left machine h es).stock.reference h es
lasted h [] v = inl (tt, (refl, refl, λ z. z))
lasted h (e ∷ es) v = go (reference h e (first_lawful h e es v)) (lasted (becomes machine h e) es (rest_lawful h e es v))
  where
    h' : Whole
    h' = becomes machine h e

    r : Reference
    r = (left machine h (e ∷ es)).stock.reference

    go : ReferenceAfter h e h'.stock → Lasted r h' es → Lasted r h (e ∷ es)
    go a (inr k) = inr (inr k)
    go (inl s) (inl k) = inr (inl (sym s.1.0 ∙ sym k.1.1, subst (Starts h e) (sym k.1.0) s.0, k.0))
    go (inr n) (inl k) = inl ((n.0, k.0), (k.1.0 ∙ n.1.0, k.1.1 ∙ n.1.1.0, λ z. k.1.2 (held n.1.1.1 z)))
      where
        held : IsNew (letter_of e ≡ mark_h) h'.stock.reference.hold 0 h.stock.reference.hold → h.stock.reference.hold ≡ 0 → h'.stock.reference.hold ≡ 0
        held (inl q) z = q.1
        held (inr q) z = q.1 ∙ z

pub of_fields : {price : Mean} {start hold : ℕ} (r : Reference) → r.price ≡ price → r.start ≡ start → r.hold ≡ hold
    → r ≡ record { price = price; start = start; hold = hold }
of_fields r p s h = rw (← p, ← s, ← h)

-- the price of a reference that was started is one
priced : (h : Whole) (es : Story) (price : Mean) (start : ℕ) → Lawful machine h es → StartedBy price start h es → 1 ≤ price.count
priced h [] price start v k = elim k [ ]
priced h (e ∷ es) price start v (inl k) = (started_price h e price (first_lawful h e es v) k.1).0
priced h (e ∷ es) price start v (inr k) = priced (becomes machine h e) es price start (rest_lawful h e es v) k

-- a stock that is still Waiting: no event has started a reference
none_waiting : (h : Whole) (es : Story) → Lawful machine h es → state_of (left machine h es).stock ≡ Waiting → NoneStarted h es × (state_of h.stock ≡ Waiting)
none_waiting h [] v w = (tt, w)
none_waiting h (e ∷ es) v w =
    let k = none_waiting (becomes machine h e) es (rest_lawful h e es v) w in
    let j = waited h e (first_lawful h e es v) k.1 in
    ((j.0, k.0), j.1)

-- and then none is there
started_once : (h : Whole) (es : Story) (price : Mean) (start : ℕ) → NoneStarted h es → ¬ StartedBy price start h es
started_once h [] price start n k = elim k [ ]
started_once h (e ∷ es) price start n (inl k) = n.0 (price, k.1)
started_once h (e ∷ es) price start n (inr k) = started_once (becomes machine h e) es price start n.1 k

-- the first state and the last are those that need no reference
first_or_last : (n : ℕ) → n ≤ Closed → (1 ≤ n → ¬ (n ≤ Late)) → n ≡ Waiting or n ≡ Closed
first_or_last zero l k = inl refl
first_or_last (suc n) l k = let a = k (omega arith) in inr (omega arith)

pub reference_since : ReferenceSince
unfolding fresh
reference_since end u es a = go (lasted (fresh end u) es a.lawful)
  where
    s : Stock
    s = (leaves end u es).stock

    r : Reference
    r = s.reference

    sane : Sane (fresh end u)
    sane = fresh_sane end u a.end_ok a.setup_ok

    idle : r.price.count ≡ 0 → state_of s ≡ Waiting or state_of s ≡ Closed
    idle z = let i = (sane_left es (fresh end u) sane a.lawful).stock in
        first_or_last (state_of s) i.ranges.state_by (λ j k. let p = i.priced j k in omega arith)

    go : Lasted r (fresh end u) es
        → (NoneStarted (fresh end u) es × (r ≡ record { price = no_mean; start = 0; hold = 0 }) × (state_of s ≡ Waiting or state_of s ≡ Closed))
        ⊎ (StartedBy r.price r.start (fresh end u) es × (1 ≤ r.price.count) × ¬ (state_of s ≡ Waiting))
    go (inl k) = inl (k.0, of_fields r k.1.0 k.1.1 (k.1.2 refl), idle (ap (λ m. m.count) k.1.0))
    go (inr k) = inr (
      k,
      priced (fresh end u) es r.price r.start a.lawful k,
      λ w. started_once (fresh end u) es r.price r.start (none_waiting (fresh end u) es a.lawful w).0 k,
    )
