-- How often a stock can pause: two limit pauses start at least 315,000 apart, and hence there are at most 75 in a day.
-- Assumes nothing.
use Prim.Native.Nat.{ℕ, ◌+◌, ◌≤◌, ◌<◌}
use mathlib.Core.List.{List, [], ◌∷◌}
use mathlib.Core.Logic.{◌↔◌, ◌⊎◌, inl, inr, ⊎_map, ⊎_elim}
use mathlib.Core.Path.{◌≡◌, refl, sym}
use native.Mathlib.Omega.{arith}
use borrow.Author.Tests.{eqb-true, eqb-false}
use lib.Dec.{eqb}
use lib.ListN.{get_or}
use Rattle.forms.specs.Words.{IsOneOf}
use Rattle.forms.proofs.Choice.{if_arms}
use Rattle.forms.proofs.Decides.{either_way, by_eq}
use Rattle.rules.specs.Stock.{Whole, Limit, Paused, Late, state_of, clock_of}
use Rattle.rules.specs.Moments.{mark_x, fire}
use Rattle.rules.specs.Messages.{after}
use Rattle.rules.specs.Numbers.{fresh}
use Rattle.rules.specs.Machine.{Event, message, moment, notices, Every, dated, Lawful, becomes}
use Rattle.rules.specs.Book.{machine, Story, no_setup, story}
use Rattle.rules.specs.Changes.{EndsPause}
use Rattle.rules.specs.Pauses.{PauseAt}
use Rattle.rules.specs.Readings.{limit_pauses}
use Rattle.rules.specs.LimitPauses.{Apart, least_distance}
use Rattle.rules.specs.Demands.{Allowed, CanHappen, LimitPausesAre, PausesApart, PausesFew}
use Rattle.rules.specs.declared.Setup.{Setup}
use Rattle.rules.specs.declared.Notice.{Notice}
use Rattle.rules.specs.declared.Message.{Message}
use Rattle.rules.proofs.Books.{by_story}
use Rattle.rules.proofs.Changed.{kept}
use Rattle.rules.proofs.Dates.{dates_few}
use Rattle.rules.proofs.Events.{event_clock, event_forward, event_end}
use Rattle.rules.proofs.PausedSince.{pause_before}
use Rattle.rules.proofs.Pauses.{only_x, when_x, x_pauses}
use Rattle.rules.proofs.Resumes.{by_event, late_event}
use Rattle.rules.proofs.Stays.{limit_before}
use Rattle.rules.proofs.Timely.{awake}

-- ------------------------------------------------------------------ after a pause

-- a pause lasts 300,000 or more, by whatever it ends
lasted : (u : Setup) (begun : ℕ) (e : Event Message Notice) → EndsPause u begun e → begun + 300_000 ≤ dated machine e
lasted u begun e (inl (time, price, is, l)) = rw is (omega arith)
lasted u begun e (inr (n, is, mark, l)) = rw is (omega arith)

-- what is so since a pause that started at t: a later pause starts no earlier, and the stock trades and enters Limit 300,000 later or not at all
record SincePause (t : ℕ) (h : Whole) : Type 0 where
  clock_by : t ≤ clock_of h.stock
  pause_by : state_of h.stock ≡ Paused → t ≤ h.stock.course.pause
  trades_by : state_of h.stock ≤ Limit → t + 300_000 ≤ clock_of h.stock
  entry_by : state_of h.stock ≡ Limit → t + 300_000 ≤ h.stock.course.entry

module _ (t : ℕ) (h : Whole) (e : Event Message Notice) (v : CanHappen h e) where
  abbrev h' : Whole
  h' = becomes machine h e

  abbrev date : ℕ
  date = dated machine e

  clock_is : clock_of h'.stock ≡ date
  clock_is = event_clock h e [] v

  forward : clock_of h.stock ≤ date
  forward = event_forward h e [] v

  -- a Late pause ends in Closed
  not_late : state_of h'.stock ≤ Paused → state_of h.stock ≤ Paused
  not_late l =
      let k : ¬ (state_of h.stock ≡ Late) = λ q. ⊎_elim (λ p. omega arith) (λ p. omega arith) (late_event h e v q) in
      omega (arith, awake h e v)

  -- a stock that trades did so before, or its pause has ended: here alone it matters by what a pause ends
  resumed : SincePause t h → state_of h'.stock ≤ Limit → t + 300_000 ≤ date
  resumed s l = go (either_way _ (by_eq (state_of h.stock) Paused))
    where
      go : (state_of h.stock ≡ Paused) ⊎ ¬ (state_of h.stock ≡ Paused) → t + 300_000 ≤ date
      go (inl p) = ⊎_elim (λ q. absurd (omega arith)) (λ q. omega (arith, s.pause_by p, lasted h.stock.setup h.stock.course.pause e q)) (by_event h e v p)
      go (inr n) = omega (arith, s.trades_by (omega (arith, not_late (omega arith))), forward)

  goes_on : SincePause t h → SincePause t h'
  goes_on s = record {
    clock_by = omega (arith, s.clock_by, clock_is, forward);
    pause_by = λ p. ⊎_elim (λ q. omega (arith, s.clock_by, forward))
        (λ q. let was : state_of h.stock ≡ Paused = ⊎_elim (λ k. k) (λ k. absurd (omega (arith, not_late (omega arith)))) q.0 in omega (arith, s.pause_by was, q.1))
        (pause_before h e v (inl p));
    trades_by = λ l. omega (arith, clock_is, resumed s l);
    entry_by = λ l. ⊎_elim (λ q. omega (arith, resumed s (omega arith))) (λ q. omega (arith, s.entry_by q.0, q.1)) (limit_before h e [] _ v (l, refl));
  }

-- ------------------------------------------------------------------ x

module _ (h : Whole) (n : Notice) (v : CanHappen h (moment n)) (x : n.mark ≡ mark_x) where
  x_begins : SincePause n.time (fire h)
  x_begins =
      let paused : ¬ (state_of (fire h).stock ≤ Limit) = λ l. ⊎_elim (λ p. omega arith) (λ p. omega arith) (x_pauses h n v x).1 in record {
        clock_by = omega (arith, event_clock h (moment n) [] v);
        pause_by = λ _. ⊎_elim (λ k. omega (arith, k.1)) (λ k. absurd (k.0 (inr (inl x)))) (kept h (moment n) v).1.1.1.1.0;
        trades_by = λ l. absurd (paused l);
        entry_by = λ l. absurd (paused (omega arith));
      }

  x_later : (t : ℕ) → SincePause t h → t + least_distance ≤ n.time
  x_later t s = let w = when_x h n v x in omega (arith, w.1, s.entry_by w.0)

-- ------------------------------------------------------------------ a story

-- the limit pauses of a story by its first moment: it is x, or it is not
by_mark : (F : List ℕ → Type 0) (n : Notice) (ns : List Notice) → (n.mark ≡ mark_x → F (n.time ∷ limit_pauses ns))
    → (¬ (n.mark ≡ mark_x) → F (limit_pauses ns)) → F (limit_pauses (n ∷ ns))
unfolding limit_pauses
by_mark F n ns is_x is_not = if_arms F (eqb n.mark mark_x) (λ q. is_x (eqb-true _ _ q)) (λ q. is_not (eqb-false _ _ q))

later : (t : ℕ) (h : Whole) (es : Story) → Lawful machine h es → SincePause t h → Every (λ s. t + least_distance ≤ s) (limit_pauses (notices es))
unfolding limit_pauses
later t h [] v s = tt
later t h (message m ∷ es) v s = later t (after m h) es v.1 (goes_on t h (message m) (v.0, tt) s)
later t h (moment n ∷ es) v s =
    let w : CanHappen h (moment n) = (v.0, v.1, tt) in
    let rest = later t (fire h) es v.2 (goes_on t h (moment n) w s) in
    by_mark (Every (λ s. t + least_distance ≤ s)) n (notices es) (λ x. (x_later h n w x t s, rest)) (λ _. rest)

apart : (h : Whole) (es : Story) → Lawful machine h es → Apart least_distance (limit_pauses (notices es))
unfolding limit_pauses
apart h [] v = tt
apart h (message m ∷ es) v = apart (after m h) es v.1
apart h (moment n ∷ es) v =
    let rest = apart (fire h) es v.2 in
    by_mark (Apart least_distance) n (notices es)
    (λ x. (later n.time (fire h) es v.2 (x_begins h n (v.0, v.1, tt) x), rest)) (λ _. rest)

-- each starts before the session's end
in_session : (h : Whole) (es : Story) → Lawful machine h es → Every (λ t. t < h.stock.end) (limit_pauses (notices es))
unfolding limit_pauses
in_session h [] v = tt
in_session h (message m ∷ es) v = rw (event_end h (message m) es v) at (in_session (after m h) es v.1)
in_session h (moment n ∷ es) v =
    let rest = rw (event_end h (moment n) es v) at (in_session (fire h) es v.2) in
    by_mark (Every (λ t. t < h.stock.end)) n (notices es) (λ x. ((when_x h n (v.0, v.1, tt) x).2, rest)) (λ _. rest)

-- ------------------------------------------------------------------ where a moment begins a pause

are : (t : ℕ) (h : Whole) (es : Story) → Lawful machine h es → IsOneOf t (limit_pauses (notices es)) ↔ PauseAt t h es
unfolding limit_pauses
are t h [] v = ((λ x. x), λ x. x)
are t h (message m ∷ es) v = are t (after m h) es v.1
are t h (moment n ∷ es) v =
    let w : CanHappen h (moment n) = (v.0, v.1, tt) in
    let rest = are t (fire h) es v.2 in
    by_mark (λ ts. IsOneOf t ts ↔ PauseAt t h (moment n ∷ es)) n (notices es)
    (λ x. (⊎_map (λ p. (sym p, x_pauses h n w x)) rest.0, ⊎_map (λ p. sym p.0) rest.1))
    (λ x. ((λ k. inr (rest.0 k)), ⊎_elim (λ p. absurd (x (only_x h n w p.1.0 p.1.1))) rest.1))

pub limit_pauses_lem : LimitPausesAre
limit_pauses_lem end u es a t = are t (fresh end u) es a.lawful

-- ------------------------------------------------------------------ any calls after an accepted setup

pub pauses_apart : PausesApart least_distance
pauses_apart end us k cs i here = apart (fresh end (get_or us i no_setup)) (story end us cs i) (by_story end us k cs i here).0.lawful

pub pauses_few : PausesFew
unfolding fresh
pauses_few end us k cs i here = dates_few starts (pauses_apart end us k cs i here) (below starts (in_session (fresh end (get_or us i no_setup)) (story end us cs i) a.lawful))
  where
    starts : List ℕ
    starts = limit_pauses (notices (story end us cs i))

    a : Allowed end (get_or us i no_setup) (story end us cs i)
    a = (by_story end us k cs i here).0

    below : (ts : List ℕ) → Every (λ t. t < end) ts → Every (λ t. t < 23_400_000) ts
    below [] b = tt
    below (t ∷ ts) b = (omega (arith, b.0, a.end_ok.1), below ts b.1)
