-- No moment still to come is ever before the clock: so it is after a setup, and every event leaves it so.
-- Assumes nothing.
use Prim.Native.Nat.{ℕ, ◌+◌, ◌-◌, ◌≤◌, ◌<◌}
use mathlib.Core.List.{List, [], ◌∷◌}
use mathlib.Core.Logic.{inl, inr, ⊎_elim}
use mathlib.Core.Path.{◌≡◌, refl, sym, ◌∙◌}
use native.Mathlib.Omega.{arith}
use borrow.Author.Tests.{ltb-true}
use lib.ListN.{length}
use Rattle.forms.proofs.Choice.{if_arms}
use Rattle.forms.proofs.Decides.{past, not_among}
use Rattle.rules.specs.Stock.{Trade, Whole, Waiting, Trading, Limit, Paused, Late, Closed, state_of, clock_of}
use Rattle.rules.specs.Moments.{mark_x, mark_h, limit_lasts, next_of, fire}
use Rattle.rules.specs.Messages.{letter_t, letter_q, letter_o, letter_p, time_of}
use Rattle.rules.specs.Numbers.{settles, notice, fresh}
use Rattle.rules.specs.Machine.{Event, message, moment, dated, Lawful, becomes, left}
use Rattle.rules.specs.Book.{machine, Story}
use Rattle.rules.specs.Words.{Coming, Comes as Ahead, oldest_at, moments, Rubbish, its_moment}
use Rattle.rules.specs.Changes.{letter_of, IsNew, joins, recent, TradesAfter, StartsOne, ReferenceAfter, StartsPause}
use Rattle.rules.specs.Demands.{CanHappen}
use Rattle.rules.specs.declared.Setup.{Setup}
use Rattle.rules.specs.declared.Stock.{Stock}
use Rattle.rules.specs.declared.Figures.{Figures}
use Rattle.rules.specs.declared.Moment.{Moment}
use Rattle.rules.specs.declared.Notice.{Notice}
use Rattle.rules.specs.declared.Message.{Message}
use Rattle.rules.specs.declared.Message.TheVariants.{Trade as T, Quote as Q, Opening as O, Pause as P, Reopening as R, Closing as X}
use Rattle.rules.proofs.After.{After, closes, pauses, enters, trades, stays, state_after_lem, waited}
use Rattle.rules.proofs.Answers.{fresh_is}
use Rattle.rules.proofs.Changed.{states, reference, kept}
use Rattle.rules.proofs.Coming.{none_before, weaker, moments_are}
use Rattle.rules.proofs.Earliest.{IsMoment}
use Rattle.rules.proofs.Events.{first_lawful, rest_lawful}
use Rattle.rules.proofs.MomentRows.{IsRow, row_z, row_w_early, row_w_late, row_x, row_p, row_c, row_v, row_f, row_h, next_row, notice_row}
use Rattle.rules.proofs.Numbers.{taken_words, settled_sound, takes_in}
use Rattle.rules.proofs.Resumes.{late_event, closed_event}
use Rattle.rules.proofs.Stays.{limit_before}
use Rattle.rules.proofs.Window as window

-- no moment still to come is before the clock, and the clock is not past the last that can come; a pause that p ends begins early enough
-- for p to come before the session's end
pub record Timely (h : Whole) : Type 0 where
  pub by_end : clock_of h.stock ≤ h.stock.end + 300_000
  pub not_past : ¬ Ahead (λ time. time < clock_of h.stock) (moments h)
  pub p_by_end : state_of h.stock ≡ Paused → h.stock.course.pause + 600_000 < h.stock.end

-- ------------------------------------------------------------------ the state in which an event comes

-- the state in which x comes; no moment has a letter
record Comes (mark state : ℕ) : Type 0 where
  in_limit : mark ≡ mark_x → state ≡ Limit
  no_letter : ¬ (mark ≡ letter_p)

comes_row : (f : Figures) (s : Stock) (m : Moment) → IsRow f s m → Comes m.mark (state_of s)
comes_row f s m (row_z k t a) = omega arith
comes_row f s m (row_w_early k t c a) = omega arith
comes_row f s m (row_w_late k t c a) = omega arith
comes_row f s m (row_x k t a) = omega arith
comes_row f s m (row_p k t a) = omega arith
comes_row f s m (row_c k t a) = omega arith
comes_row f s m (row_v k t a c) = omega arith
comes_row f s m (row_f k t a c) = omega arith
comes_row f s m (row_h k t a b c) = omega arith

comes : (h : Whole) → IsMoment (next_of h) → Comes (next_of h).mark (state_of h.stock)
comes h is = comes_row _ _ _ (next_row _ _ is)

-- no pause is started in Waiting
not_waiting : (h : Whole) (e : Event Message Notice) → CanHappen h e → StartsPause e → 1 ≤ state_of h.stock
not_waiting h (message (T time price)) v p = absurd (not_among (letter_p ∷ mark_x ∷ []) _ letter_t refl refl p)
not_waiting h (message (Q time participant bid offer)) v p = absurd (not_among (letter_p ∷ mark_x ∷ []) _ letter_q refl refl p)
not_waiting h (message (O time participant price)) v p = absurd (not_among (letter_p ∷ mark_x ∷ []) _ letter_o refl refl p)
not_waiting h (message (P time participant)) v p = omega (arith, takes_in (P time participant) h v.0)
not_waiting h (message (R time participant price)) v p = omega (arith, takes_in (R time participant price) h v.0)
not_waiting h (message (X time participant price)) v p = omega (arith, takes_in (X time participant price) h v.0)
not_waiting h (moment n) v (inl k) = absurd ((comes_row _ _ _ (notice_row h n v)).no_letter k)
not_waiting h (moment n) v (inr (inl k)) = omega (arith, (comes_row _ _ _ (notice_row h n v)).in_limit k)
not_waiting h (moment n) v (inr (inr k)) = absurd k

-- ------------------------------------------------------------------ what an event finds

-- checked before anything happens
pub sound : (h : Whole) (e : Event Message Notice) → CanHappen h e → ¬ Rubbish h
sound h (message m) v = (taken_words m h v.0).sound
sound h (moment n) v = settled_sound v.0.0 h v.0.1

-- the event is not after a moment still to come
not_after : (h : Whole) (e : Event Message Notice) → CanHappen h e → ¬ Ahead (λ time. time < dated machine e) (moments h)
not_after h (message m) v k = (taken_words m h v.0).none_due (weaker (λ t. t < time_of m) (λ t. t ≤ time_of m) (moments h) (λ t l. omega arith) k)
not_after h (moment n) v k = none_before (its_moment n) (moments h) (moments_are h n v) k

-- ------------------------------------------------------------------ the oldest trade

-- the oldest of those that have not left has not left
oldest_recent : (time : ℕ) (w : List Trade) → ¬ (length (recent time w) ≡ 0) → time ≤ oldest_at (recent time w) + 300_000
unfolding recent
oldest_recent time [] n = absurd (n refl)
oldest_recent time (t ∷ w) n =
    if_arms (λ v. ¬ (length v ≡ 0) → time ≤ oldest_at v + 300_000) _ (λ e _. omega (arith, ltb-true time (t.at + 300_000) e)) (λ _. oldest_recent time w) n

-- what joins is dated by the event, and stands last
oldest_joins : (e : Event Message Notice) (w : List Trade) → (¬ (length w ≡ 0) → dated machine e ≤ oldest_at w + 300_000)
    → ¬ (length (joins w e) ≡ 0) → dated machine e ≤ oldest_at (joins w e) + 300_000
oldest_joins (message (T time price)) [] k n = omega arith
oldest_joins (message (T time price)) (t ∷ w) k n = k (λ z. omega arith)
oldest_joins (message (Q time participant bid offer)) w k n = k n
oldest_joins (message (O time participant price)) w k n = omega arith
oldest_joins (message (P time participant)) w k n = k n
oldest_joins (message (R time participant price)) w k n = omega arith
oldest_joins (message (X time participant price)) w k n = absurd (n refl)
oldest_joins (moment m) w k n =
    if_arms (λ v. ¬ (length v ≡ 0) → m.time ≤ oldest_at v + 300_000) _ (λ _ z. absurd (z refl)) (λ _. k) n

-- ------------------------------------------------------------------ an event leaves it so

-- an order is shown by what would be past without it
at_most : {a b : ℕ} → ¬ (b < a) → a ≤ b
at_most n = omega arith

module _ (h : Whole) (e : Event Message Notice) (v : CanHappen h e) where
  abbrev s : Stock
  s = h.stock

  abbrev h' : Whole
  h' = becomes machine h e

  abbrev s' : Stock
  s' = h'.stock

  abbrev date : ℕ
  date = dated machine e

  -- nothing happens in Closed, and a state over it is rubbish
  pub awake : state_of s ≤ Late
  awake = let k : ¬ (5 < state_of s) = λ l. sound h e v (inl (inl l)) in omega (arith, closed_event h e v)

  -- check 1 has seen it
  p_before_end : state_of s ≡ Paused → s.course.pause + 600_000 < s.end
  p_before_end q =
      let k : ¬ (s.end - 600_000 ≤ s.course.pause) = λ l. sound h e v (inl (inr (inr (inr (inr (inr (inr (q, l)))))))) in
      omega arith

  -- z is still to come, or p, which is before the end
  until_end : state_of s ≤ Paused → date ≤ s.end
  until_end a = at_most (λ l.
      let z : ¬ (state_of s ≤ Limit) = λ q. not_after h e v (inl (q, l)) in
      let p : state_of s ≡ Paused = omega arith in
      not_after h e v (inr (inr (inr (inr (inl (p, omega (arith, p_before_end p))))))))

  -- c is the last
  pub until_last : date ≤ s.end + 300_000
  until_last = at_most (λ l.
      let c : ¬ (state_of s ≡ Late) = λ q. not_after h e v (inr (inr (inr (inr (inr (inl (q, l))))))) in
      omega (arith, until_end (omega (arith, awake))))

  -- so of each mark: still to come after the event, it is not before it; from a Late pause no state is reached in which z comes
  for_z : state_of s' ≤ Limit → date ≤ s.end
  for_z a = at_most (λ l.
      let p : ¬ (state_of s ≤ Paused) = λ q. omega (arith, until_end q) in
      ⊎_elim (λ q. omega arith) (λ q. omega arith) (late_event h e v (omega (arith, awake))))

  for_x : state_of s' ≡ Limit → date ≤ s'.course.entry + limit_lasts
  for_x a = at_most (λ l. ⊎_elim (λ q. omega arith) (λ q. not_after h e v (inr (inr (inr (inl (q.0, omega (arith, q.1))))))) (limit_before h e [] _ v (a, refl)))

  -- the pause was started by the event, early enough for p, or it was there
  for_p : state_of s' ≡ Paused → (date ≤ s'.course.pause + 600_000) × (s'.course.pause + 600_000 < s.end)
  for_p a = go (kept h e v).1.1.1.1.0 (state_after_lem h e v)
    where
      go : IsNew (StartsPause e) s'.course.pause date s.course.pause → After h e
          → (date ≤ s'.course.pause + 600_000) × (s'.course.pause + 600_000 < s.end)
      go (inl k) after =
          let not_late = (past Late _ _ _ (λ z. omega arith) (past Closed _ _ _ (λ z. omega arith) (states h e v)).1).0 in
          let early : ¬ (s.end - 600_000 ≤ date) = λ l. not_late (k.0, l) in
          omega (arith, k.1)
      go (inr k) (closes c q) = absurd (omega arith)
      go (inr k) (pauses p q) = absurd (k.0 p)
      go (inr k) (enters p n q) = absurd (omega arith)
      go (inr k) (trades p n l q) = absurd (omega arith)
      go (inr k) (stays c p n l q) =
          let was : state_of s ≡ Paused = sym q ∙ a in
          (at_most (λ l. not_after h e v (inr (inr (inr (inr (inl (was, omega (arith, k.1)))))))), omega (arith, k.1, p_before_end was))

  for_v : ¬ (length h'.window ≡ 0) → date ≤ oldest_at h'.window + 300_000
  for_v = go (window.trades h e v)
    where
      before : ¬ (length h.window ≡ 0) → date ≤ oldest_at h.window + 300_000
      before c = at_most (λ l. not_after h e v (inr (inr (inr (inr (inr (inr (inl ((awake, c), l)))))))))

      go : TradesAfter h e h'.window → ¬ (length h'.window ≡ 0) → date ≤ oldest_at h'.window + 300_000
      go (inl k) = rw k.1 (oldest_recent date h.window)
      go (inr k) = rw k.1 (oldest_joins e h.window before)

  for_f : state_of s' ≡ Waiting → ¬ (s'.course.early ≡ 0) → date ≤ 300_000
  for_f a c = ⊎_elim (λ k. absurd (c k.1))
      (λ k. at_most (λ l. not_after h e v (inr (inr (inr (inr (inr (inr (inr (inl (((waited h e v a).1, λ z. c (k.1 ∙ z)), l)))))))))))
      (kept h e v).1.1.1.1.1

  for_h : Trading ≤ state_of s' → state_of s' ≤ Late → ¬ (s'.reference.hold ≡ 0) → date ≤ s'.reference.start + 30_000
  for_h a b c = go (reference h e v)
    where
      held : IsNew (letter_of e ≡ mark_h) s'.reference.hold 0 s.reference.hold → ¬ (s.reference.hold ≡ 0)
      held (inl k) z = c k.1
      held (inr k) z = c (k.1 ∙ z)

      begun : ¬ StartsOne h e → After h e → Trading ≤ state_of s
      begun n (closes x q) = absurd (omega arith)
      begun n (pauses p q) = not_waiting h e v p
      begun n (enters p x q) = ⊎_elim (λ k. absurd (n k)) (λ k. omega (arith, k.0)) x.0
      begun n (trades p x l q) = ⊎_elim (λ k. absurd (n k)) (λ k. omega (arith, k.0)) l
      begun n (stays x p m l q) = omega arith

      go : ReferenceAfter h e s' → date ≤ s'.reference.start + 30_000
      go (inl k) = omega (arith, k.1.0)
      go (inr k) = at_most (λ l. not_after h e v
          (inr (inr (inr (inr (inr (inr (inr (inr (inl ((begun k.0 (state_after_lem h e v), (awake, held k.1.1.1)), omega (arith, k.1.1.0))))))))))))

  -- whatever stock it finds: check 1 has seen what has to be known of it
  event_timely : Timely h'
  event_timely = record {
    by_end = omega (arith, clock, end, until_last);
    not_past = not_past;
    p_by_end = λ a. omega (arith, end, (for_p a).1);
  }
    where
      clock : clock_of s' ≡ date
      clock = (kept h e v).0

      end : s'.end ≡ s.end
      end = (kept h e v).1.1.0

      not_past : ¬ Ahead (λ time. time < clock_of s') (moments h')
      not_past (inl (a, l)) = omega (arith, clock, end, for_z a)
      not_past (inr (inl (a, l))) = omega arith
      not_past (inr (inr (inl (a, l)))) = omega arith
      not_past (inr (inr (inr (inl (a, l))))) = omega (arith, clock, for_x a)
      not_past (inr (inr (inr (inr (inl (a, l)))))) = omega (arith, clock, (for_p a).0)
      not_past (inr (inr (inr (inr (inr (inl (a, l))))))) = omega (arith, clock, end, until_last)
      not_past (inr (inr (inr (inr (inr (inr (inl (a, l)))))))) = omega (arith, clock, for_v a.1)
      not_past (inr (inr (inr (inr (inr (inr (inr (inl (a, l))))))))) = omega (arith, clock, for_f a.0 a.1)
      not_past (inr (inr (inr (inr (inr (inr (inr (inr (inl (a, l)))))))))) = omega (arith, clock, for_h a.0 a.1.0 a.1.1)
      not_past (inr (inr (inr (inr (inr (inr (inr (inr (inr x))))))))) = elim x [ ]

-- ------------------------------------------------------------------ so it is after every story

pub moment_timely : (time : ℕ) (h : Whole) → Timely h → settles time h ≡ 0 → Timely (fire h)
moment_timely time h i e = event_timely h (moment (notice h)) ((time, e), refl, tt)

pub timely_left : (es : Story) (h : Whole) → Timely h → Lawful machine h es → Timely (left machine h es)
timely_left [] h i v = i
timely_left (e ∷ es) h i v = timely_left es (becomes machine h e) (event_timely h e (first_lawful h e es v)) (rest_lawful h e es v)

-- clocks start at 0
nothing_before_0 : (clock : ℕ) (cs : List Coming) → clock ≡ 0 → ¬ Ahead (λ time. time < clock) cs
nothing_before_0 clock [] z k = k
nothing_before_0 clock (c ∷ cs) z (inl k) = omega (arith, k.1)
nothing_before_0 clock (c ∷ cs) z (inr k) = nothing_before_0 clock cs z k

pub fresh_timely : (end : ℕ) (u : Setup) → Timely (fresh end u)
fresh_timely end u =
    let k = fresh_is end u in
    record { by_end = omega arith; not_past = nothing_before_0 _ (moments (fresh end u)) k.1.1.1.0; p_by_end = λ q. omega arith }
