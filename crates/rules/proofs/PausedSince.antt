-- A stock that is in a pause has been in it since an event that started it, at the date that the stock records.
-- Assumes nothing.
use Prim.Native.Nat.{ℕ}
use mathlib.Core.List.{[], ◌∷◌}
use mathlib.Core.Logic.{◌⊎◌, inl, inr}
use mathlib.Core.Path.{◌≡◌, refl, sym, ◌∙◌}
use native.Mathlib.Omega.{arith}
use Rattle.rules.specs.Stock.{Whole, state_of}
use Rattle.rules.specs.Machine.{Event, dated, Lawful, becomes, left, Throughout}
use Rattle.rules.specs.Book.{machine, Story}
use Rattle.rules.specs.Changes.{StartsPause, IsNew}
use Rattle.rules.specs.Pauses.{InPause, PausedSince}
use Rattle.rules.specs.Demands.{CanHappen}
use Rattle.rules.specs.declared.Notice.{Notice}
use Rattle.rules.specs.declared.Message.{Message}
use Rattle.rules.proofs.After.{After, closes, pauses, enters, trades, stays, state_after_lem}
use Rattle.rules.proofs.Changed.{kept}
use Rattle.rules.proofs.Events.{at_start, first_lawful, rest_lawful}

-- ------------------------------------------------------------------ an event

-- no other state is a pause
pub no_pause : (h : Whole) (n : ℕ) → state_of h.stock ≡ n → ¬ (n ≡ 3) → ¬ (n ≡ 4) → ¬ InPause h
no_pause h n e a b (inl p) = a (sym e ∙ p)
no_pause h n e a b (inr p) = b (sym e ∙ p)

-- an event that ends in a pause has started it, at its own date, or has left its date as it was
data Ends (h : Whole) (e : Event Message Notice) : Type 0 where
  new : StartsPause e → (becomes machine h e).stock.course.pause ≡ dated machine e → Ends h e
  old : InPause h → (becomes machine h e).stock.course.pause ≡ h.stock.course.pause → Ends h e

ends : (h : Whole) (e : Event Message Notice) → CanHappen h e → InPause (becomes machine h e) → Ends h e
ends h e v p = go (state_after_lem h e v) (kept h e v).1.1.1.1.0
  where
    h' : Whole
    h' = becomes machine h e

    as_before : state_of h'.stock ≡ state_of h.stock → InPause h' → InPause h
    as_before q (inl k) = inl (sym q ∙ k)
    as_before q (inr k) = inr (sym q ∙ k)

    go : After h e → IsNew (StartsPause e) h'.stock.course.pause (dated machine e) h.stock.course.pause → Ends h e
    go a (inl k) = new k.0 k.1
    go (closes c q) (inr k) = absurd (no_pause h' 5 q (λ z. omega arith) (λ z. omega arith) p)
    go (pauses s q) (inr k) = absurd (k.0 s)
    go (enters n x q) (inr k) = absurd (no_pause h' 2 q (λ z. omega arith) (λ z. omega arith) p)
    go (trades n x y q) (inr k) = absurd (no_pause h' 1 q (λ z. omega arith) (λ z. omega arith) p)
    go (stays c n x y q) (inr k) = old (as_before q p) k.1

-- in a pause after an event: the event started it, at its own date, or the stock was in it
pub pause_before : (h : Whole) (e : Event Message Notice) → CanHappen h e → InPause (becomes machine h e)
    → let begun = (becomes machine h e).stock.course.pause in (begun ≡ dated machine e) ⊎ (InPause h × (begun ≡ h.stock.course.pause))
pause_before h e v p = go (ends h e v p)
  where
    begun : ℕ
    begun = (becomes machine h e).stock.course.pause

    go : Ends h e → (begun ≡ dated machine e) ⊎ (InPause h × (begun ≡ h.stock.course.pause))
    go (new s q) = inl q
    go (old i q) = inr (i, q)

-- ------------------------------------------------------------------ a story

-- a pause that was started at t has lasted, before the story or in it
abbrev Lasted : ℕ → Whole → Story → Type 0
Lasted t h es = (Throughout machine InPause h es × (h.stock.course.pause ≡ t)) ⊎ PausedSince t h es

lasted : (h : Whole) (es : Story) → Lawful machine h es → InPause (left machine h es) → Lasted (left machine h es).stock.course.pause h es
lasted h [] v p = inl (p, refl)
lasted h (e ∷ es) v p = go (lasted (becomes machine h e) es (rest_lawful h e es v) p)
  where
    t : ℕ
    t = (left machine h (e ∷ es)).stock.course.pause

    one_more : Throughout machine InPause (becomes machine h e) es → (becomes machine h e).stock.course.pause ≡ t → Ends h e → Lasted t h (e ∷ es)
    one_more l k (new q d) = inr (inl (sym d ∙ k, q, l))
    one_more l k (old q d) = inl ((q, l), sym d ∙ k)

    go : Lasted t (becomes machine h e) es → Lasted t h (e ∷ es)
    go (inl k) = one_more k.0 k.1 (ends h e (first_lawful h e es v) (at_start _ _ es k.0))
    go (inr k) = inr (inr k)

-- from a stock that is in no pause
pub paused_since : (h : Whole) (es : Story) → ¬ InPause h → Lawful machine h es → InPause (left machine h es)
    → PausedSince (left machine h es).stock.course.pause h es
paused_since h es n v p = go (lasted h es v p)
  where
    go : Lasted (left machine h es).stock.course.pause h es → PausedSince (left machine h es).stock.course.pause h es
    go (inl k) = absurd (n (at_start _ h es k.0))
    go (inr k) = k
