-- How a pause ends: by the primary's reopening or by p, and a Late pause only in Closed.
-- Assumes nothing.
use Prim.Native.Nat.{ℕ}
use mathlib.Core.List.{[], ◌∷◌}
use mathlib.Core.Logic.{◌⊎◌, inl, inr}
use mathlib.Core.Path.{◌≡◌, refl, ap, subst, ◌∙◌}
use native.Mathlib.Omega.{arith}
use Rattle.forms.proofs.Decides.{past, eq_stable}
use Rattle.rules.specs.Stock.{Whole, Paused, Late, Closed, state_of, figures_of}
use Rattle.rules.specs.Moments.{mark_w, mark_v, mark_h}
use Rattle.rules.specs.Numbers.{fresh}
use Rattle.rules.specs.Machine.{Event, message, moment, Lawful, becomes, left}
use Rattle.rules.specs.Book.{machine, Story}
use Rattle.rules.specs.Changes.{EndsPause}
use Rattle.rules.specs.Demands.{leaves, CanHappen, PausesEnd, NeverAgain}
use Rattle.rules.specs.Words.{its_moment}
use Rattle.rules.specs.declared.Setup.{Setup}
use Rattle.rules.specs.declared.Notice.{Notice}
use Rattle.rules.specs.declared.Message.{Message}
use Rattle.rules.specs.declared.Message.TheVariants.{Trade as T, Quote as Q, Opening as O, Pause as P, Reopening as R, Closing as X}
use Rattle.rules.proofs.After.{quiet, quiet_quote, closed_by}
use Rattle.rules.proofs.Events.{first_lawful, rest_lawful}
use Rattle.rules.proofs.Last.{clock}
use Rattle.rules.proofs.MomentRows.{IsRow, row_z, row_w_early, row_w_late, row_x, row_p, row_c, row_v, row_f, row_h, notice_row}
use Rattle.rules.proofs.Numbers.{taken_words, takes_in}
use Rattle.rules.proofs.PausedSince.{paused_since, no_pause}

-- ------------------------------------------------------------------ from Paused

-- it stays, or its pause ends, by the date that the stock records
abbrev Resumed : Setup → Whole → Event Message Notice → Type 0
Resumed u h e = (state_of (becomes machine h e).stock ≡ Paused) ⊎ EndsPause u h.stock.course.pause e

by_moment : (h : Whole) (n : Notice) → CanHappen h (moment n) → state_of h.stock ≡ Paused
    → IsRow (figures_of h.window) h.stock (its_moment n) → Resumed h.stock.setup h (moment n)
by_moment h n v s (row_z k t a) = absurd (omega arith)
by_moment h n v s (row_w_early k t c a) = inl ((quiet h n v (λ t. omega arith) mark_w k refl refl).1 ∙ s)
by_moment h n v s (row_w_late k t c a) = inl ((quiet h n v (λ t. omega arith) mark_w k refl refl).1 ∙ s)
by_moment h n v s (row_x k t a) = absurd (omega arith)
by_moment h n v s (row_p k t a) = inr (inr (n, refl, k, t))
by_moment h n v s (row_c k t a) = absurd (omega arith)
by_moment h n v s (row_v k t a c) = inl ((quiet h n v (λ t. omega arith) mark_v k refl refl).1 ∙ s)
by_moment h n v s (row_f k t a c) = absurd (omega arith)
by_moment h n v s (row_h k t a b c) = inl ((quiet h n v (λ t. omega arith) mark_h k refl refl).1 ∙ s)

-- an event, whatever story came before it
pub by_event : (h : Whole) (e : Event Message Notice) → CanHappen h e → state_of h.stock ≡ Paused → Resumed h.stock.setup h e
by_event h (message (T time price)) v s = absurd (omega (arith, takes_in (T time price) h v.0))
by_event h (message (Q time participant bid offer)) v s = inl (quiet_quote time participant bid offer h v (λ t. omega arith) (λ l. omega arith) ∙ s)
by_event h (message (O time participant price)) v s = absurd (omega (arith, takes_in (O time participant price) h v.0))
by_event h (message (P time participant)) v s = absurd (omega (arith, takes_in (P time participant) h v.0))
by_event h (message (R time participant price)) v s =
    let a = past 8 0 _ _ (λ z. omega arith) (taken_words (R time participant price) h v.0).own_passed in
    let b = past 7 0 _ _ (λ z. omega arith) a.1 in
    let c = past 9 0 _ _ (λ z. omega arith) b.1 in
    let soon = (past 10 0 _ _ (λ z. omega arith) c.1).0 in
    let primary = (eq_stable participant h.stock.setup.primary).undenied a.0 in
    inr (inl (time, price, ap (λ p. message (R time p price)) primary, omega arith))
by_event h (message (X time participant price)) v s = absurd (omega (arith, takes_in (X time participant price) h v.0))
by_event h (moment n) v s = by_moment h n v s (notice_row h n v)

pub resumes : PausesEnd
unfolding fresh
resumes end u es a s =
    let h = leaves end u es in (
      h.stock.course.pause,
      paused_since (fresh end u) es (no_pause (fresh end u) 0 refl (λ z. omega arith) (λ z. omega arith)) a.lawful (inl s),
      λ e v. subst (λ w. Resumed w h e) (clock end u es a).1 (by_event h e v s),
    )

-- ------------------------------------------------------------------ from a Late pause

-- a Late pause or Closed
abbrev Over : ℕ → Type 0
Over state = (state ≡ Late) ⊎ (state ≡ Closed)

late_moment : (h : Whole) (n : Notice) → CanHappen h (moment n) → state_of h.stock ≡ Late
    → IsRow (figures_of h.window) h.stock (its_moment n) → Over (state_of (becomes machine h (moment n)).stock)
late_moment h n v s (row_z k t a) = absurd (omega arith)
late_moment h n v s (row_w_early k t c a) = inl ((quiet h n v (λ t. omega arith) mark_w k refl refl).1 ∙ s)
late_moment h n v s (row_w_late k t c a) = inl ((quiet h n v (λ t. omega arith) mark_w k refl refl).1 ∙ s)
late_moment h n v s (row_x k t a) = absurd (omega arith)
late_moment h n v s (row_p k t a) = absurd (omega arith)
late_moment h n v s (row_c k t a) = inr (closed_by h (moment n) v (inr (inr (inl k))))
late_moment h n v s (row_v k t a c) = inl ((quiet h n v (λ t. omega arith) mark_v k refl refl).1 ∙ s)
late_moment h n v s (row_f k t a c) = absurd (omega arith)
late_moment h n v s (row_h k t a b c) = inl ((quiet h n v (λ t. omega arith) mark_h k refl refl).1 ∙ s)

pub late_event : (h : Whole) (e : Event Message Notice) → CanHappen h e → state_of h.stock ≡ Late → Over (state_of (becomes machine h e).stock)
late_event h (message (T time price)) v s = absurd (omega (arith, takes_in (T time price) h v.0))
late_event h (message (Q time participant bid offer)) v s = inl (quiet_quote time participant bid offer h v (λ t. omega arith) (λ l. omega arith) ∙ s)
late_event h (message (O time participant price)) v s = absurd (omega (arith, takes_in (O time participant price) h v.0))
late_event h (message (P time participant)) v s = absurd (omega (arith, takes_in (P time participant) h v.0))
late_event h (message (R time participant price)) v s = absurd (omega (arith, takes_in (R time participant price) h v.0))
late_event h (message (X time participant price)) v s = inr (closed_by h (message (X time participant price)) v (inl refl))
late_event h (moment n) v s = late_moment h n v s (notice_row h n v)

-- nothing happens in Closed
closed_moment : (h : Whole) (n : Notice) → state_of h.stock ≡ Closed → ¬ IsRow (figures_of h.window) h.stock (its_moment n)
closed_moment h n s (row_z k t a) = omega arith
closed_moment h n s (row_w_early k t c a) = omega arith
closed_moment h n s (row_w_late k t c a) = omega arith
closed_moment h n s (row_x k t a) = omega arith
closed_moment h n s (row_p k t a) = omega arith
closed_moment h n s (row_c k t a) = omega arith
closed_moment h n s (row_v k t a c) = omega arith
closed_moment h n s (row_f k t a c) = omega arith
closed_moment h n s (row_h k t a b c) = omega arith

pub closed_event : (h : Whole) (e : Event Message Notice) → CanHappen h e → ¬ (state_of h.stock ≡ Closed)
closed_event h (message (T time price)) v s = omega (arith, takes_in (T time price) h v.0)
closed_event h (message (Q time participant bid offer)) v s = omega (arith, takes_in (Q time participant bid offer) h v.0)
closed_event h (message (O time participant price)) v s = omega (arith, takes_in (O time participant price) h v.0)
closed_event h (message (P time participant)) v s = omega (arith, takes_in (P time participant) h v.0)
closed_event h (message (R time participant price)) v s = omega (arith, takes_in (R time participant price) h v.0)
closed_event h (message (X time participant price)) v s = omega (arith, takes_in (X time participant price) h v.0)
closed_event h (moment n) v s = closed_moment h n s (notice_row h n v)

pub never_again : NeverAgain
never_again h es v l = go h es v (inl l)
  where
    go : (h : Whole) (es : Story) → Lawful machine h es → Over (state_of h.stock) → Over (state_of (left machine h es).stock)
    go h [] v o = o
    go h (e ∷ es) v (inl l) = go (becomes machine h e) es (rest_lawful h e es v) (late_event h e (first_lawful h e es v) l)
    go h (e ∷ es) v (inr c) = absurd (closed_event h e (first_lawful h e es v) c)
