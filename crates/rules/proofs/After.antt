-- The state after an event, by cases: what stories are read with.
-- Assumes nothing.
use Prim.Native.Nat.{ℕ}
use mathlib.Core.Bool.{false}
use mathlib.Core.List.{[], ◌∷◌}
use mathlib.Core.Logic.{◌⊎◌, inl, inr, ⊎_elim}
use mathlib.Core.Path.{◌≡◌, refl, sym, ◌∙◌}
use native.Mathlib.Omega.{arith}
use Rattle.forms.specs.Words.{Gives}
use Rattle.forms.proofs.Decides.{first_or_rest, has, not_among}
use Rattle.rules.specs.Stock.{Whole, Waiting, Trading, Limit, Paused, Late, Closed, state_of}
use Rattle.rules.specs.Moments.{mark_z, mark_x, mark_p, mark_c, mark_f, fire}
use Rattle.rules.specs.Messages.{letter_q, letter_p, letter_x, letter, after}
use Rattle.rules.specs.Machine.{Event, message, moment, becomes}
use Rattle.rules.specs.Book.{machine}
use Rattle.rules.specs.Changes.{StartsOne, Closes, StartsPause, Looks, Enters, state_after}
use Rattle.rules.specs.Demands.{CanHappen}
use Rattle.rules.specs.declared.Stock.{Stock}
use Rattle.rules.specs.declared.Notice.{Notice}
use Rattle.rules.specs.declared.Message.{Message}
use Rattle.rules.specs.declared.Message.TheVariants.{Trade as T, Quote as Q, Opening as O, Pause as P, Reopening as R, Closing as X}
use Rattle.rules.proofs.Changed.{states}
use Rattle.rules.proofs.Changing.{Plain, plainly}

-- ------------------------------------------------------------------ the rows of the state's table, as cases

pub data AfterAs (h : Whole) (e : Event Message Notice) (s' : Stock) : Type 0 where
  closes : Closes e → state_of s' ≡ Closed → AfterAs h e s'
  pauses : StartsPause e → (state_of s' ≡ Paused) ⊎ (state_of s' ≡ Late) → AfterAs h e s'
  enters : ¬ StartsPause e → Enters h e s' → state_of s' ≡ Limit → AfterAs h e s'
  trades : ¬ StartsPause e → ¬ Enters h e s' → Looks h e → state_of s' ≡ Trading → AfterAs h e s'
  stays : ¬ Closes e → ¬ StartsPause e → ¬ Enters h e s' → ¬ Looks h e → state_of s' ≡ state_of h.stock → AfterAs h e s'

pub after_given : (h : Whole) (e : Event Message Notice) (s' : Stock) → Gives (state_after h e s') (state_of s') → AfterAs h e s'
unfolding Gives
after_given h e s' (inl (c, q)) = closes c q
after_given h e s' (inr (c, inl (p, q))) = pauses p.0 (inr q)
after_given h e s' (inr (c, inr (_, inl (p, q)))) = pauses p (inl q)
after_given h e s' (inr (c, inr (_, inr (p, inl (l, q))))) = enters p l q
after_given h e s' (inr (c, inr (_, inr (p, inr (l, inl (k, q)))))) = trades p l k q
after_given h e s' (inr (c, inr (_, inr (p, inr (l, inr (k, inl (_, q))))))) = stays c p l k q
after_given h e s' (inr (c, inr (_, inr (p, inr (l, inr (k, inr (n, _))))))) = absurd (n tt)

-- of the stock that an event leaves
abbrev pub After : Whole → Event Message Notice → Type 0
After h e = AfterAs h e (becomes machine h e).stock

pub state_after_lem : (h : Whole) (e : Event Message Notice) → CanHappen h e → After h e
state_after_lem h e v = after_given h e _ (states h e v)

pub closed_by : (h : Whole) (e : Event Message Notice) → CanHappen h e → Closes e → state_of (becomes machine h e).stock ≡ Closed
closed_by h e v c = ⊎_elim (λ q. q.1) (λ q. absurd (q.0 c)) (first_or_rest 5 _ _ _ (states h e v))

-- ------------------------------------------------------------------ events that leave the state as it is

pub unchanged : (h : Whole) (e : Event Message Notice) → CanHappen h e → ¬ Closes e → ¬ StartsPause e → ¬ Looks h e
    → state_of (becomes machine h e).stock ≡ state_of h.stock
unchanged h e v c p l = go (state_after_lem h e v)
  where
    go : After h e → state_of (becomes machine h e).stock ≡ state_of h.stock
    go (closes k q) = absurd (c k)
    go (pauses k q) = absurd (p k)
    go (enters n k q) = absurd (l k.0)
    go (trades n k x q) = absurd (l x)
    go (stays m n k x q) = q

-- w, v and h outside Trading: a Test is made in Trading only
pub quiet : (h : Whole) (n : Notice) → CanHappen h (moment n) → ¬ (state_of h.stock ≡ Trading) → (l : ℕ) → n.mark ≡ l
    → has (letter_x ∷ mark_z ∷ mark_c ∷ letter_p ∷ mark_x ∷ []) l ≡ false → has (mark_p ∷ mark_f ∷ []) l ≡ false
    → ¬ Looks h (moment n) × (state_of (fire h).stock ≡ state_of h.stock)
quiet h n v t l is a c = let plain = plainly (moment n) l is a in (unlooking, unchanged h (moment n) v plain.no_close plain.no_pause unlooking)
  where
    unstarting : ¬ StartsOne h (moment n)
    unstarting (r, inl k) = not_among (mark_p ∷ mark_f ∷ []) _ l is c (inl k.0)
    unstarting (r, inr (inl k)) = t k.1.0
    unstarting (r, inr (inr (inl k))) = not_among (mark_p ∷ mark_f ∷ []) _ l is c (inr (inl k.0))
    unstarting (r, inr (inr (inr k))) = t k.1.0

    unlooking : ¬ Looks h (moment n)
    unlooking (inl k) = unstarting k
    unlooking (inr k) = t k.0

-- a quote outside Trading and Limit
pub quiet_quote : (time participant bid offer : ℕ) (h : Whole) → CanHappen h (message (Q time participant bid offer)) → ¬ (state_of h.stock ≡ Trading)
    → ¬ (state_of h.stock ≡ Limit) → state_of (after (Q time participant bid offer) h).stock ≡ state_of h.stock
quiet_quote time participant bid offer h v t l =
    unchanged h (message (Q time participant bid offer)) v plain.no_close plain.no_pause (⊎_elim (λ k. l k.1.0.0) (λ k. t k.0))
  where
    plain : Plain (message (Q time participant bid offer))
    plain = plainly (message (Q time participant bid offer)) letter_q refl refl

-- no message is f
pub no_mark : (m : Message) → ¬ (letter m ≡ mark_f)
no_mark (T time price) e = omega arith
no_mark (Q time participant bid offer) e = omega arith
no_mark (O time participant price) e = omega arith
no_mark (P time participant) e = omega arith
no_mark (R time participant price) e = omega arith
no_mark (X time participant price) e = omega arith

-- a stock that is still Waiting was Waiting, and the event started no reference
pub waited : (h : Whole) (e : Event Message Notice) → CanHappen h e → state_of (becomes machine h e).stock ≡ Waiting
    → ¬ StartsOne h e × (state_of h.stock ≡ Waiting)
waited h e v w = go (state_after_lem h e v)
  where
    go : After h e → ¬ StartsOne h e × (state_of h.stock ≡ Waiting)
    go (closes c q) = absurd (omega arith)
    go (pauses p (inl q)) = absurd (omega arith)
    go (pauses p (inr q)) = absurd (omega arith)
    go (enters p n q) = absurd (omega arith)
    go (trades p n l q) = absurd (omega arith)
    go (stays c p n l q) = ((λ s. l (inl s)), sym q ∙ w)
