-- A story settled past the first five minutes, that was Waiting before their end, has exactly one f.
-- Assumes nothing.
use Prim.Native.Nat.{ℕ, ◌+◌, ◌≤◌}
use mathlib.Core.Bool.{Bool, true, not}
use mathlib.Core.List.{List, [], ◌∷◌}
use mathlib.Core.Logic.{inl, inr}
use mathlib.Core.Path.{◌≡◌, refl, sym, ap, ◌∙◌}
use native.Mathlib.Decide.{ℕ_discrete}
use native.Mathlib.Omega.{arith}
use borrow.Author.Tests.{eqb-true, eqb-false, eq-eqb, not-true}
use lib.Dec.{eqb}
use Rattle.forms.specs.Choice.{all_of}
use Rattle.forms.proofs.Choice.{if_arms, all_head, all_tail, all_yes, all_empty, ne_not, all_leb}
use Rattle.rules.specs.Stock.{Whole, Waiting, state_of, figures_of}
use Rattle.rules.specs.Moments.{mark_v, mark_f, moment_table, next, next_of, fire}
use Rattle.rules.specs.Messages.{after}
use Rattle.rules.specs.Numbers.{tells, settles, fresh, notice}
use Rattle.rules.specs.Machine.{message, moment, Lawful, left}
use Rattle.rules.specs.Book.{machine, Story}
use Rattle.rules.specs.Changes.{letter_of, IsNew}
use Rattle.rules.specs.Readings.{mark_of, count_of}
use Rattle.rules.specs.Pauses.{before}
use Rattle.rules.specs.Demands.{leaves, CanHappen, OneF}
use Rattle.rules.specs.declared.Stock.{Stock}
use Rattle.rules.specs.declared.Notice.{Notice}
use Rattle.rules.specs.declared.Message.{Message}
use Rattle.rules.proofs.After.{quiet, no_mark}
use Rattle.rules.proofs.Changed.{kept}
use Rattle.rules.proofs.Earliest.{IsMoment, none_before}
use Rattle.rules.proofs.Events.{event_clock}
use Rattle.rules.proofs.Lawful.{machine_laws}
use Rattle.rules.proofs.MomentRows.{by_row}
use Rattle.rules.proofs.Numbers.{settled_sound}
use Rattle.rules.proofs.Pauses.{before_by, before_clock}
use Rattle.rules.proofs.Ranges.{in_end}

-- ------------------------------------------------------------------ only f ends `early`

abbrev early : Stock → ℕ
early s = s.course.early

message_early : (m : Message) (h : Whole) → tells m h ≡ 0 → early (after m h).stock ≡ early h.stock
message_early m h e = go (kept h (message m) (e, tt)).1.1.1.1.1
  where
    go : IsNew (letter_of (message m) ≡ mark_f) (early (after m h).stock) 0 (early h.stock) → early (after m h).stock ≡ early h.stock
    go (inl k) = absurd (no_mark m k.0)
    go (inr k) = k.1

module _ (h : Whole) (n : Notice) (v : CanHappen h (moment n)) where
  f_ends : n.mark ≡ mark_f → early (fire h).stock ≡ 0
  f_ends f = go (kept h (moment n) v).1.1.1.1.1
    where
      go : IsNew (n.mark ≡ mark_f) (early (fire h).stock) 0 (early h.stock) → early (fire h).stock ≡ 0
      go (inl k) = k.1
      go (inr k) = absurd (k.0 f)

  other_leaves : ¬ (n.mark ≡ mark_f) → early (fire h).stock ≡ early h.stock
  other_leaves o = go (kept h (moment n) v).1.1.1.1.1
    where
      go : IsNew (n.mark ≡ mark_f) (early (fire h).stock) 0 (early h.stock) → early (fire h).stock ≡ early h.stock
      go (inl k) = absurd (o k.0)
      go (inr k) = k.1

-- ------------------------------------------------------------------ the moment f

-- tests of a row, as `omega` reads them
all_then_some : (b : Bool) (a : ℕ) (bs : List Bool) → all_of (b ∷ not (eqb a 0) ∷ bs) ≡ true → 1 ≤ a
all_then_some b a bs e = let n = eqb-false a 0 (not-true _ (all_head _ _ (all_tail _ _ e))) in omega arith

f_early : (h : Whole) → IsMoment (next_of h) → (next_of h).mark ≡ mark_f → 1 ≤ early h.stock
unfolding moment_table
f_early h m = by_row h m (λ m. m.mark ≡ mark_f → 1 ≤ early h.stock) (omega (arith, all_then_some))

-- while f is still to come, the earliest moment is not after 300,000
pub f_comes : (h : Whole) → state_of h.stock ≡ Waiting → (early h.stock ≡ 0 → ⊥) → IsMoment (next_of h) × ((next_of h).time ≤ 300_000)
unfolding next moment_table
f_comes h w n =
    (none_before (moment_table (figures_of h.window) h.stock) (omega arith)).1.1.1.1.1.1.1.0
    (all_yes _ _ (eq-eqb _ _ w) (all_yes _ _ (ne_not _ _ n) all_empty))

-- and if it is not f, it is v
f_or_v : (h : Whole) → IsMoment (next_of h) → state_of h.stock ≡ Waiting → 3_600_000 ≤ h.stock.end → (next_of h).time ≤ 300_000
    → ((next_of h).mark ≡ mark_f → ⊥) → (next_of h).mark ≡ mark_v
unfolding moment_table
f_or_v h m w l =
    by_row h m (λ m. m.time ≤ 300_000 → (m.mark ≡ mark_f → ⊥) → m.mark ≡ mark_v) (omega (arith, eqb-true, all_leb))

v_waits : (h : Whole) (n : Notice) → CanHappen h (moment n) → state_of h.stock ≡ Waiting → n.mark ≡ mark_v → state_of (fire h).stock ≡ Waiting
v_waits h n v w e = (quiet h n v (λ t. omega arith) mark_v e refl refl).1 ∙ w

-- ------------------------------------------------------------------ a story

-- each f ends an `early`
f_count : (h : Whole) (es : Story) → Lawful machine h es → early h.stock ≤ 1
    → count_of mark_f es + early (left machine h es).stock ≡ early h.stock
unfolding count_of notice
f_count h [] v k = omega arith
f_count h (message m ∷ es) v k =
    let e = message_early m h v.0 in
    omega (arith, f_count (after m h) es v.1 (omega arith))
f_count h (moment n ∷ es) v k =
    let m = (machine_laws.its_time v.0.0 h v.0.1).0 in
    let e : mark_of n ≡ (next_of h).mark = ap (λ n. n.mark) v.1 in
    if_arms (λ one. one + count_of mark_f es + early (left machine (fire h) es).stock ≡ early h.stock) _
    (λ q. let f = eqb-true (mark_of n) mark_f q in
    let o = f_ends h n (v.0, v.1, tt) f in
    omega (arith, f_early h m (sym e ∙ f), f_count (fire h) es v.2 (omega arith)))
    (λ q. let o = other_leaves h n (v.0, v.1, tt) (eqb-false (mark_of n) mark_f q) in
    omega (arith, f_count (fire h) es v.2 (omega arith)))

over : (h : Whole) (es : Story) → Lawful machine h es → early h.stock ≡ 0 → early (left machine h es).stock ≡ 0
over h es v e = omega (arith, f_count h es v (omega arith))

end_least : (h : Whole) (t : ℕ) → settles t h ≡ 0 → 3_600_000 ≤ h.stock.end
end_least h t e = (in_end h.stock.end (λ n. settled_sound t h e (inl (inr (inr (inl n)))))).0

-- f is not left out
f_happens : (h : Whole) (es : Story) (time : ℕ) → Lawful machine h es → settles time (left machine h es) ≡ 14 → 300_000 ≤ time
    → (early (left machine h es).stock ≡ 0 → ⊥) → state_of (left machine h (before 300_000 es)).stock ≡ Waiting → ⊥
unfolding before notice
f_happens h [] time v q l x = λ w. let f = f_comes h w x in omega (arith, machine_laws.nothing_due time h q (next_of h).time (f.0, refl))
f_happens h (message m ∷ es) time v q l x =
    before_by (λ s. state_of (left machine h s).stock ≡ Waiting → ⊥) 300_000 (message m) es
    (λ _. f_happens (after m h) es time v.1 q l x)
    (λ k w. let f = f_comes h w (λ e. x (over h (message m ∷ es) v e)) in
    omega (arith, machine_laws.none_due m h v.0 (next_of h).time (f.0, refl)))
f_happens h (moment n ∷ es) time v q l x =
    let rec : state_of (left machine (fire h) (before 300_000 es)).stock ≡ Waiting → ⊥ = f_happens (fire h) es time v.2 q l x in
    before_by (λ s. state_of (left machine h s).stock ≡ Waiting → ⊥) 300_000 (moment n) es (λ _. rec)
    (λ k w. let f = f_comes h w (λ e. x (over h (moment n ∷ es) v e)) in
    let once : CanHappen h (moment n) = (v.0, v.1, tt) in
    let same : mark_of n ≡ (next_of h).mark = ap (λ n. n.mark) v.1 in
    let a = f_or_v h f.0 w (end_least h v.0.0 v.0.1) f.1 (λ e. x (over (fire h) es v.2 (f_ends h n once (same ∙ e)))) in
    rec (rw (before_clock 300_000 (fire h) es v.2 (omega (arith, event_clock h (moment n) es v))) (v_waits h n once w (same ∙ a))))

pub one_f : OneF
unfolding fresh
one_f end u es a time q l w = go (ℕ_discrete (early (leaves end u es).stock) 0)
  where
    go : Dec (early (leaves end u es).stock ≡ 0) → count_of mark_f es ≡ 1
    go (yes e) = omega (arith, f_count (fresh end u) es a.lawful (omega arith))
    go (no x) = absurd (f_happens (fresh end u) es time a.lawful q l x w)
