-- A moment begins a pause exactly when the limit state entered 15,000 before has lasted.
-- Assumes nothing.
use Prim.Native.Nat.{ℕ, ◌+◌, ◌≤◌, ◌<◌}
use mathlib.Core.Bool.{true}
use mathlib.Core.List.{List, [], ◌∷◌, ◌++◌}
use mathlib.Core.Logic.{◌↔◌, ◌⊎◌, inl, inr, ⊎_map}
use mathlib.Core.Path.{◌≡◌, refl, sym, ap, ◌∙◌, subst}
use native.Mathlib.Omega.{arith}
use borrow.Author.Tests.{eqb-true, eq-eqb, ltb-true, ltb-false, le-leb}
use lib.Dec.{ltb, leb}
use lib.ListN.{take, drop}
use Rattle.forms.proofs.Choice.{if_arms}
use Rattle.forms.proofs.Decides.{not_among}
use Rattle.rules.specs.Stock.{Whole, Limit, state_of, clock_of, is, figures_of}
use Rattle.rules.specs.Moments.{mark_z, mark_w, mark_x, mark_c, Row, ◌at◌while◌, limit_lasts, moment_table, earliest, next, next_of, fire}
use Rattle.rules.specs.Messages.{letter_p, letter_x, after}
use Rattle.rules.specs.Numbers.{settles, fresh, notice}
use Rattle.rules.specs.Machine.{Event, message, moment, dated, Lawful, becomes, left}
use Rattle.rules.specs.Book.{machine, Story}
use Rattle.rules.specs.Changes.{IsNew, StartsPause}
use Rattle.rules.specs.Pauses.{before, InPause, PauseAt, EntersLimit, LimitSince}
use Rattle.rules.specs.Demands.{CanHappen, DatesAre, PausesBegin}
use Rattle.rules.specs.Words.{its_moment}
use Rattle.rules.specs.declared.Setup.{Setup}
use Rattle.rules.specs.declared.Moment.{Moment}
use Rattle.rules.specs.declared.Notice.{Notice}
use Rattle.rules.specs.declared.Message.{Message}
use Rattle.rules.proofs.After.{After, closes, pauses as to_pause, enters, trades, stays, state_after_lem, quiet}
use Rattle.rules.proofs.Changed.{kept}
use Rattle.rules.proofs.Earliest.{IsMoment, moment_of, Rows, First, head, tail, first_row, none_before}
use Rattle.rules.proofs.Events.{rest_lawful, event_clock, event_forward, event_end}
use Rattle.rules.proofs.Lawful.{machine_laws}
use Rattle.rules.proofs.MomentRows.{by_row}
use Rattle.rules.proofs.PausedSince.{no_pause, paused_since}
use Rattle.rules.proofs.Stays.{InLimit, limit_before, limit_since}

-- ------------------------------------------------------------------ the moments that come in Limit

at_x : (h : Whole) → IsMoment (next_of h) → (next_of h).mark ≡ mark_x
    → (state_of h.stock ≡ Limit) × ((next_of h).time ≡ h.stock.course.entry + limit_lasts)
unfolding moment_table
at_x h m =
    by_row h m (λ m. m.mark ≡ mark_x → (state_of h.stock ≡ Limit) × (m.time ≡ h.stock.course.entry + limit_lasts)) (omega (arith, eqb-true))

-- z stands above x: the session has not ended
x_open : (h : Whole) → IsMoment (next_of h) → (next_of h).mark ≡ mark_x → (next_of h).time < h.stock.end
unfolding next moment_table
x_open h m e = go (first_row _ _)
  where
    table : List Row
    table = moment_table (figures_of h.window) h.stock

    go : First (mark_z at h.stock.end while leb (state_of h.stock) 2) (drop 1 table) → (earliest table).time < h.stock.end
    go (head c p l) = let q : (earliest table).mark ≡ mark_z = ap (λ m. m.mark) p in absurd (omega arith)
    go (tail p l) = rw p (l (le-leb (state_of h.stock) 2 (omega (arith, at_x h m e)))).1

-- a moment is F, or the row's, or before it
abbrev DownTo : (Moment → Type 0) → Row → Moment → Type 0
DownTo F r m = F m ⊎ ((m ≡ moment_of r) ⊎ (m.time < r.time))

-- so is the earliest, where the row is still to come and those above it are F
down_to : (F : Moment → Type 0) (r : Row) (later : List Row) → r.comes ≡ true → (rs : List Row) → Rows F rs
    → DownTo F r (earliest (rs ++ r ∷ later))
down_to F r later c [] a = go (first_row r later)
  where
    go : First r later → DownTo F r (earliest (r ∷ later))
    go (head c p l) = inr (inl p)
    go (tail p l) = inr (inr (rw p (l c).1))
down_to F r later c (q ∷ rs) a = go (down_to F r later c rs a.1) (first_row q (rs ++ r ∷ later))
  where
    go : DownTo F r (earliest (rs ++ r ∷ later)) → First q (rs ++ r ∷ later) → DownTo F r (earliest (q ∷ rs ++ r ∷ later))
    go ih (head d p l) = inl (subst F (sym p) (a.0 d))
    go ih (tail p l) = subst (DownTo F r) (sym p) ih

abbrev x_row : Whole → Row
x_row h = mark_x at h.stock.course.entry + limit_lasts while is Limit h.stock

-- the rows above x: z, at the end, and w
abbrev Above : Whole → Moment → Type 0
Above h m = (m.time ≡ h.stock.end) ⊎ (m.mark ≡ mark_w)

-- what comes next in Limit: not after x, and at its time x or a row above it
record NextInLimit (h : Whole) : Type 0 where
  is_moment : IsMoment (next_of h)
  by_then : (next_of h).time ≤ h.stock.course.entry + limit_lasts
  which : DownTo (Above h) (x_row h) (next_of h)

next_in_limit : (h : Whole) → state_of h.stock ≡ Limit → NextInLimit h
unfolding next moment_table
next_in_limit h l =
    let table = moment_table (figures_of h.window) h.stock in
    let on : is Limit h.stock ≡ true = eq-eqb (state_of h.stock) Limit l in
    let n = (none_before table (omega arith)).1.1.1.0 on in
    record {
      is_moment = n.0;
      by_then = n.1;
      which = down_to (Above h) (x_row h) (drop 4 table) on (take 3 table) ((λ _. inl refl), ((λ _. inr refl), ((λ _. inr refl), tt)));
    }

-- ------------------------------------------------------------------ a moment in Limit

module _ (h : Whole) (n : Notice) (v : CanHappen h (moment n)) where
  is_next : its_moment n ≡ next_of h
  unfolding notice
  is_next = ap its_moment v.1

  is_moment : IsMoment (next_of h)
  is_moment = (machine_laws.its_time v.0.0 h v.0.1).0

  mark : n.mark ≡ (next_of h).mark
  mark = ap (λ m. m.mark) is_next

  -- no moment has P's letter
  not_p : ¬ (n.mark ≡ letter_p)
  unfolding moment_table
  not_p p = by_row h is_moment (λ m. ¬ (m.mark ≡ letter_p)) (omega arith) (sym mark ∙ p)

  -- only x begins a pause
  pub only_x : ¬ InPause h → InPause (fire h) → n.mark ≡ mark_x
  only_x c b = go (state_after_lem h (moment n) v)
    where
      which : StartsPause (moment n) → n.mark ≡ mark_x
      which (inl p) = absurd (not_p p)
      which (inr (inl x)) = x
      which (inr (inr z)) = absurd z

      go : After h (moment n) → n.mark ≡ mark_x
      go (closes k q) = absurd (no_pause (fire h) 5 q (λ z. omega arith) (λ z. omega arith) b)
      go (to_pause k q) = which k
      go (enters k x q) = absurd (no_pause (fire h) 2 q (λ z. omega arith) (λ z. omega arith) b)
      go (trades k x y q) = absurd (no_pause (fire h) 1 q (λ z. omega arith) (λ z. omega arith) b)
      go (stays d k x y q) = absurd (c (⊎_map (λ p. sym q ∙ p) (λ p. sym q ∙ p) b))

  -- x comes in Limit, 15,000 after the entry and before the end
  pub when_x : n.mark ≡ mark_x → (state_of h.stock ≡ Limit) × (n.time ≡ h.stock.course.entry + limit_lasts) × (n.time < h.stock.end)
  when_x x =
      let limit = at_x h is_moment (sym mark ∙ x) in
      let time : n.time ≡ (next_of h).time = ap (λ m. m.time) is_next in
      (limit.0, time ∙ limit.1, rw time (x_open h is_moment (sym mark ∙ x)))

  -- w leaves a limit state as it is
  w_stays : (u : ℕ) → (next_of h).mark ≡ mark_w → InLimit u h → InLimit u (fire h)
  w_stays u e l =
      let still = quiet h n v (λ t. omega (arith, l.0)) mark_w (mark ∙ e) refl refl in
      (still.1 ∙ l.0, entered (kept h (moment n) v).1.1.1.0 (λ k. still.0 k.0))
    where
      entered : IsNew (EntersLimit h (moment n)) (fire h).stock.course.entry (dated machine (moment n)) h.stock.course.entry
          → ¬ EntersLimit h (moment n) → (fire h).stock.course.entry ≡ u
      entered (inl k) o = absurd (o k.0)
      entered (inr k) o = k.1 ∙ l.1

  -- x begins a pause
  pub x_pauses : n.mark ≡ mark_x → ¬ InPause h × InPause (fire h)
  x_pauses x = (no_pause h 2 (when_x x).0 (λ z. omega arith) (λ z. omega arith), go (state_after_lem h (moment n) v))
    where
      go : After h (moment n) → InPause (fire h)
      go (closes k q) = absurd (not_among (letter_x ∷ mark_z ∷ mark_c ∷ []) _ mark_x x refl k)
      go (to_pause k q) = q
      go (enters k _ q) = absurd (k (inr (inl x)))
      go (trades k _ _ q) = absurd (k (inr (inl x)))
      go (stays _ k _ _ q) = absurd (k (inr (inl x)))

-- ------------------------------------------------------------------ the story before a time

-- it goes on with an event that is before the time, and ends at one that is not
pub before_by : (F : Story → Type 0) (t : ℕ) (e : Event Message Notice) (es : Story) → (dated machine e < t → F (e ∷ before t es))
    → (t ≤ dated machine e → F []) → F (before t (e ∷ es))
unfolding before
before_by F t e es goes_on ended =
    if_arms F (ltb (dated machine e) t) (λ q. goes_on (ltb-true (dated machine e) t q)) (λ q. ended (ltb-false (dated machine e) t q))

-- before the clock nothing comes
pub before_clock : (t : ℕ) (h : Whole) (es : Story) → Lawful machine h es → t ≤ clock_of h.stock → before t es ≡ []
unfolding before
before_clock t h [] v l = refl
before_clock t h (e ∷ es) v l = before_by (λ s. s ≡ []) t e es (λ k. absurd (omega (arith, event_forward h e es v))) (λ _. refl)

before_lawful : (t : ℕ) (h : Whole) (es : Story) → Lawful machine h es → Lawful machine h (before t es)
unfolding before
before_lawful t h [] v = tt
before_lawful t h (message m ∷ es) v =
    before_by (Lawful machine h) t (message m) es (λ _. (v.0, before_lawful t (after m h) es v.1)) (λ _. tt)
before_lawful t h (moment n ∷ es) v =
    before_by (Lawful machine h) t (moment n) es (λ _. (v.0, v.1, before_lawful t (fire h) es v.2)) (λ _. tt)

-- ------------------------------------------------------------------ a pause begins only then

-- a limit state that stands before t, entered 15,000 before, stood before an event at t or later too
back : (h : Whole) (e : Event Message Notice) (es : Story) (t u : ℕ) → Lawful machine h (e ∷ es) → t ≡ u + limit_lasts
    → InLimit u (left machine (becomes machine h e) (before t es)) → InLimit u (left machine h (before t (e ∷ es)))
back h e es t u v p l = before_by (λ s. InLimit u (left machine h s)) t e es (λ _. l)
    (λ k. here k (limit_before h e es u v (rw (before_clock t _ es (rest_lawful h e es v) (rw (event_clock h e es v) k)) at l)))
  where
    here : t ≤ dated machine e → (dated machine e ≡ u) ⊎ InLimit u h → InLimit u h
    here k (inl q) = absurd (omega arith)
    here k (inr q) = q

only_then : (h : Whole) (es : Story) (t : ℕ) → Lawful machine h es → PauseAt t h es
    → (u : ℕ) × (t ≡ u + limit_lasts) × InLimit u (left machine h (before t es)) × (t < h.stock.end)
unfolding notice
only_then h [] t v p = absurd p
only_then h (message m ∷ es) t v p =
    let r = only_then (after m h) es t v.1 p in
    (r.0, r.1, back h (message m) es t r.0 v r.1 r.2, rw (event_end h (message m) es v) at r.3)
only_then h (moment n ∷ es) t v (inr p) =
    let r = only_then (fire h) es t v.2 p in
    (r.0, r.1, back h (moment n) es t r.0 v r.1 r.2, rw (event_end h (moment n) es v) at r.3)
only_then h (moment n ∷ es) t v (inl p) =
    let w : CanHappen h (moment n) = (v.0, v.1, tt) in
    let x = when_x h n w (only_x h n w p.1.0 p.1.1) in
    let u = h.stock.course.entry in (
      u,
      sym p.0 ∙ x.1,
      before_by (λ s. InLimit u (left machine h s)) t (moment n) es (λ k. absurd (omega arith)) (λ _. (x.0, refl)),
      rw p.0 at x.2,
    )

-- ------------------------------------------------------------------ and whenever

whenever : (h : Whole) (es : Story) (T t u : ℕ) → Lawful machine h es → settles T (left machine h es) ≡ 14 → t ≤ T
    → t ≡ u + limit_lasts → t < h.stock.end → InLimit u (left machine h (before t es)) → PauseAt t h es
unfolding before notice
whenever h [] T t u v q k p o = λ l.
    let n = next_in_limit h l.0 in
    absurd (omega (arith, machine_laws.nothing_due T h q (next_of h).time (n.is_moment, refl)))
whenever h (message m ∷ es) T t u v q k p o =
    before_by (λ s. InLimit u (left machine h s) → PauseAt t h (message m ∷ es)) t (message m) es
    (λ _. whenever (after m h) es T t u v.1 q k p (rw (event_end h (message m) es v) o))
    (λ a l. let n = next_in_limit h l.0 in
    absurd (omega (arith, machine_laws.none_due m h v.0 (next_of h).time (n.is_moment, refl))))
whenever h (moment n ∷ es) T t u v q k p o =
    let rec : InLimit u (left machine (fire h) (before t es)) → PauseAt t (fire h) es =
    whenever (fire h) es T t u v.2 q k p (rw (event_end h (moment n) es v) o) in
    before_by (λ s. InLimit u (left machine h s) → PauseAt t h (moment n ∷ es)) t (moment n) es
    (λ _ l. inr (rec l)) (λ a l. now rec a l (next_in_limit h l.0))
  where
    date : n.time ≡ (next_of h).time
    date = ap (λ n. n.time) v.1

    now : (InLimit u (left machine (fire h) (before t es)) → PauseAt t (fire h) es) → t ≤ n.time → InLimit u h → NextInLimit h
        → PauseAt t h (moment n ∷ es)
    now rec a l c = go c.which
      where
        at_t : (next_of h).time ≡ t
        at_t = omega (arith, date)

        go : DownTo (Above h) (x_row h) (next_of h) → PauseAt t h (moment n ∷ es)
        go (inl (inl e)) = absurd (omega (arith, at_t))
        go (inl (inr e)) =
            inr (rec (rw (before_clock t (fire h) es v.2 (omega (arith, event_clock h (moment n) es v))) (w_stays h n (v.0, v.1, tt) u e l)))
        go (inr (inl e)) = let x = x_pauses h n (v.0, v.1, tt) (ap (λ n. n.mark) v.1 ∙ ap (λ m. m.mark) e) in inl (date ∙ at_t, (x.0, x.1))
        go (inr (inr e)) = absurd (omega (arith, at_t))

-- ------------------------------------------------------------------ both

fresh_out : (end : ℕ) (u : Setup) → state_of (fresh end u).stock ≡ Limit → ⊥
unfolding fresh
fresh_out end u e = omega arith

pub pauses : PausesBegin
unfolding fresh
pauses end u es a time q t k = (only, always)
  where
    h : Whole
    h = fresh end u

    since : (entered : ℕ) → InLimit entered (left machine h (before t es)) ↔ LimitSince entered h (before t es)
    since entered = limit_since entered h (before t es) (fresh_out end u) (before_lawful t h es a.lawful)

    only : PauseAt t h es → (entered : ℕ) × (t ≡ entered + limit_lasts) × LimitSince entered h (before t es) × (t < end)
    only p = let r = only_then h es t a.lawful p in (r.0, r.1, (since r.0).0 r.2, r.3)

    always : ((entered : ℕ) × (t ≡ entered + limit_lasts) × LimitSince entered h (before t es) × (t < end)) → PauseAt t h es
    always r = whenever h es time t r.0 a.lawful q k r.1 r.3 ((since r.0).1 r.2)

-- ------------------------------------------------------------------ the kept dates

pub dates : DatesAre
unfolding fresh
dates end u es a = (
  (λ l. (limit_since _ (fresh end u) es (fresh_out end u) a.lawful).0 (l, refl)),
  (λ p. paused_since (fresh end u) es (no_pause (fresh end u) 0 refl (λ z. omega arith) (λ z. omega arith)) a.lawful p),
)
