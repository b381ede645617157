-- What an event does to clock, setup and end, what a story does, and what holds throughout one.
-- Assumes nothing.
use Prim.Native.Nat.{◌≤◌}
use mathlib.Core.List.{[], ◌∷◌}
use mathlib.Core.Path.{◌≡◌, refl, ap, ◌∙◌}
use Rattle.rules.specs.Stock.{Whole, clock_of}
use Rattle.rules.specs.Moments.{next_of, fire}
use Rattle.rules.specs.Numbers.{notice}
use Rattle.rules.specs.Machine.{Event, message, moment, dated, Lawful, becomes, left, Throughout}
use Rattle.rules.specs.Book.{machine, Story}
use Rattle.rules.specs.Readings.{last_date}
use Rattle.rules.specs.declared.Notice.{Notice}
use Rattle.rules.specs.declared.Message.{Message}
use Rattle.rules.proofs.Kept.{kept, after_kept, come_kept}
use Rattle.rules.proofs.Lawful.{machine_laws}

module _ (h : Whole) where
  pub first_lawful : (e : Event Message Notice) (es : Story) → Lawful machine h (e ∷ es) → Lawful machine h (e ∷ [])
  first_lawful (message m) es v = (v.0, tt)
  first_lawful (moment n) es v = (v.0, v.1, tt)

  pub rest_lawful : (e : Event Message Notice) (es : Story) → Lawful machine h (e ∷ es) → Lawful machine (becomes machine h e) es
  rest_lawful (message m) es v = v.1
  rest_lawful (moment n) es v = v.2

  -- the clock is at its date, and the setup and the end are as they were
  pub event_kept : (e : Event Message Notice) (es : Story) → Lawful machine h (e ∷ es)
      → kept (becomes machine h e).stock ≡ (dated machine e, h.stock.setup, h.stock.end)
  unfolding fire notice
  event_kept (message m) es v = after_kept m h
  event_kept (moment n) es v = rw v.1 (come_kept (next_of h) h)

  pub event_clock : (e : Event Message Notice) (es : Story) → Lawful machine h (e ∷ es) → clock_of (becomes machine h e).stock ≡ dated machine e
  event_clock e es v = ap (λ k. k.0) (event_kept e es v)

  pub event_end : (e : Event Message Notice) (es : Story) → Lawful machine h (e ∷ es) → (becomes machine h e).stock.end ≡ h.stock.end
  event_end e es v = ap (λ k. k.2) (event_kept e es v)

  pub event_forward : (e : Event Message Notice) (es : Story) → Lawful machine h (e ∷ es) → clock_of h.stock ≤ dated machine e
  event_forward (message m) es v = machine_laws.not_back m h v.0
  event_forward (moment n) es v = rw v.1 (machine_laws.forward v.0.0 h v.0.1)

pub at_start : (P : Whole → Type 0) (h : Whole) (es : Story) → Throughout machine P h es → P h
at_start P h [] k = k
at_start P h (e ∷ es) k = k.0

pub kept_left : (h : Whole) (es : Story) → Lawful machine h es
    → kept (left machine h es).stock ≡ (last_date (clock_of h.stock) es, h.stock.setup, h.stock.end)
kept_left h [] v = refl
kept_left h (e ∷ es) v =
    kept_left (becomes machine h e) es (rest_lawful h e es v) ∙ ap (λ k. (last_date k.0 es, k.1, k.2)) (event_kept h e es v)
