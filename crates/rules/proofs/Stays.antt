-- What a stay in Limit is: which events enter and keep it, that its entry is dated by the event that entered, and that to be in Limit with
-- an entry is to have been in it since an event of that date.
-- Assumes nothing.
use Prim.Native.Nat.{ℕ}
use mathlib.Core.List.{[], ◌∷◌}
use mathlib.Core.Logic.{◌↔◌, ◌⊎◌, inl, inr}
use mathlib.Core.Path.{◌≡◌, sym, ◌∙◌}
use native.Mathlib.Omega.{arith}
use Rattle.rules.specs.Stock.{Whole, Limit, state_of}
use Rattle.rules.specs.Machine.{Event, dated, Lawful, becomes, left}
use Rattle.rules.specs.Book.{machine, Story}
use Rattle.rules.specs.Changes.{IsNew}
use Rattle.rules.specs.Pauses.{EntersLimit, Lasts, LimitSince}
use Rattle.rules.specs.declared.Notice.{Notice}
use Rattle.rules.specs.declared.Message.{Message}
use Rattle.rules.proofs.After.{After, closes, pauses, enters, trades, stays, state_after_lem}
use Rattle.rules.proofs.Changed.{kept}
use Rattle.rules.proofs.Events.{first_lawful, rest_lawful}

-- ------------------------------------------------------------------ an event

-- an event that ends in Limit has entered it, at its own date, or has kept the stay
pub data Ends (h : Whole) (e : Event Message Notice) : Type 0 where
  new : EntersLimit h e → (becomes machine h e).stock.course.entry ≡ dated machine e → Ends h e
  old : state_of h.stock ≡ Limit → ¬ EntersLimit h e → (becomes machine h e).stock.course.entry ≡ h.stock.course.entry → Ends h e

pub ends : (h : Whole) (e : Event Message Notice) (es : Story) → Lawful machine h (e ∷ es) → state_of (becomes machine h e).stock ≡ Limit → Ends h e
ends h e es v l = go (state_after_lem h e w) (kept h e w).1.1.1.0
  where
    w : Lawful machine h (e ∷ [])
    w = first_lawful h e es v

    go : After h e → IsNew (EntersLimit h e) (becomes machine h e).stock.course.entry (dated machine e) h.stock.course.entry → Ends h e
    go a (inl k) = new k.0 k.1
    go (closes c q) (inr k) = absurd (omega arith)
    go (pauses p (inl q)) (inr k) = absurd (omega arith)
    go (pauses p (inr q)) (inr k) = absurd (omega arith)
    go (enters p n q) (inr k) = absurd (k.0 n)
    go (trades p n x q) (inr k) = absurd (omega arith)
    go (stays c p n x q) (inr k) = old (sym q ∙ l) k.0 k.1

-- ------------------------------------------------------------------ a story

-- in the limit state that was entered at u
abbrev pub InLimit : ℕ → Whole → Type 0
InLimit u h = (state_of h.stock ≡ Limit) × (h.stock.course.entry ≡ u)

-- in Limit after an event: the event entered it, or the stock was in it
pub limit_before : (h : Whole) (e : Event Message Notice) (es : Story) (u : ℕ) → Lawful machine h (e ∷ es) → InLimit u (becomes machine h e)
    → (dated machine e ≡ u) ⊎ InLimit u h
limit_before h e es u v l = go (ends h e es v l.0)
  where
    go : Ends h e → (dated machine e ≡ u) ⊎ InLimit u h
    go (new n p) = inl (sym p ∙ l.1)
    go (old k n p) = inr (k, sym p ∙ l.1)

lasts_start : (h : Whole) (es : Story) → Lasts h es → state_of h.stock ≡ Limit
lasts_start h [] l = l
lasts_start h (e ∷ es) l = l.0

-- a stay that was entered at u has lasted, before the story or in it
abbrev Lasted : ℕ → Whole → Story → Type 0
Lasted u h es = (Lasts h es × (h.stock.course.entry ≡ u)) ⊎ LimitSince u h es

module _ (u : ℕ) (h : Whole) (e : Event Message Notice) (es : Story) (v : Lawful machine h (e ∷ es)) where
  one_less : Lasted u h (e ∷ es) → Lasted u (becomes machine h e) es
  one_less (inl k) = inl (k.0.1.1, go (ends h e es v (lasts_start _ es k.0.1.1)))
    where
      go : Ends h e → (becomes machine h e).stock.course.entry ≡ u
      go (new n p) = absurd (k.0.1.0 n)
      go (old i n p) = p ∙ k.1
  one_less (inr (inl k)) = inl (k.2, go (ends h e es v (lasts_start _ es k.2)))
    where
      go : Ends h e → (becomes machine h e).stock.course.entry ≡ u
      go (new n p) = p ∙ k.0
      go (old i n p) = absurd (n k.1)
  one_less (inr (inr k)) = inr k

  one_more : Lasted u (becomes machine h e) es → Lasted u h (e ∷ es)
  one_more (inl k) = go (ends h e es v (lasts_start _ es k.0))
    where
      go : Ends h e → Lasted u h (e ∷ es)
      go (new n p) = inr (inl (sym p ∙ k.1, n, k.0))
      go (old i n p) = inl ((i, (n, k.0)), sym p ∙ k.1)
  one_more (inr k) = inr (inr k)

lasted : (u : ℕ) (h : Whole) (es : Story) → Lawful machine h es → InLimit u (left machine h es) ↔ Lasted u h es
lasted u h [] v = (inl, go)
  where
    go : InLimit u h ⊎ ⊥ → InLimit u h
    go (inl l) = l
    go (inr x) = absurd x
lasted u h (e ∷ es) v =
    let r = lasted u (becomes machine h e) es (rest_lawful h e es v) in
    ((λ l. one_more u h e es v (r.0 l)), λ k. r.1 (one_less u h e es v k))

-- from a stock that is not in Limit: to be in it at the end, entered at u, is to have been in it since an event dated u
pub limit_since : (u : ℕ) (h : Whole) (es : Story) → (state_of h.stock ≡ Limit → ⊥) → Lawful machine h es
    → InLimit u (left machine h es) ↔ LimitSince u h es
limit_since u h es n v = ((λ l. go ((lasted u h es v).0 l)), λ k. (lasted u h es v).1 (inr k))
  where
    go : Lasted u h es → LimitSince u h es
    go (inl k) = absurd (n (lasts_start h es k.0))
    go (inr k) = k
