-- The ways in which an event changes a stock: it closes, starts a pause, has the quotes looked at, or leaves the state as it is.
-- Assumes nothing.
use Prim.Native.Nat.{ℕ, ◌-◌, ◌≤◌, ◌<◌}
use mathlib.Core.Bool.{Bool, true, false, not}
use mathlib.Core.List.{List, [], ◌∷◌}
use mathlib.Core.Logic.{◌⊎◌, inl, inr, ⊎_elim}
use mathlib.Core.Path.{◌≡◌, refl, sym, ap, subst, ◌∙◌}
use native.Mathlib.Omega.{arith}
use borrow.Author.Tests.{ne_eqb}
use lib.Dec.{leb}
use Rattle.forms.specs.Choice.{if◌then◌otherwise◌, all_of, any_of}
use Rattle.forms.specs.Words.{◌and◌, IsOneOf, Gives}
use Rattle.forms.proofs.Choice.{if_true, if_false, all_not_here}
use Rattle.forms.proofs.Decides.{Decides, words, is_true, is_false, either_way, by_le, skip, take, has, not_among, among}
use Rattle.band.specs.declared.Mean.{Mean}
use Rattle.rules.specs.Stock.{Whole, Trading, Limit, Paused, Late, state_of, clock_of, is, with_quotes, at_time, with_reference, in_state, enter_limit, enter_pause}
use Rattle.rules.specs.Quotes.{in_force, k_time, bands_in, best_of, flagged, at_limit, crossed}
use Rattle.rules.specs.States.{look, begin_trading, begin_pause, shut}
use Rattle.rules.specs.Moments.{mark_z, mark_w, mark_x, mark_c, mark_f, mark_h}
use Rattle.rules.specs.Messages.{letter_q, letter_p, letter_x}
use Rattle.rules.specs.Machine.{Event, dated}
use Rattle.rules.specs.Book.{machine}
use Rattle.rules.specs.Words.{AtBand, Crossing}
use Rattle.rules.specs.Changes.{letter_of, Starts, StartsOne, ReferenceAfter, Closes, StartsPause, Looks, state_after, IsNew, KeptAfter}
use Rattle.rules.specs.declared.Quotes.{Quotes}
use Rattle.rules.specs.declared.Reference.{Reference}
use Rattle.rules.specs.declared.Stock.{Stock}
use Rattle.rules.specs.declared.Notice.{Notice}
use Rattle.rules.specs.declared.Message.{Message}
use Rattle.rules.proofs.BestQuotes.{at_band_is, crossed_is}

-- ------------------------------------------------------------------ what has changed, of the stock s' that an event leaves

pub record Changed (h : Whole) (e : Event Message Notice) (s' : Stock) : Type 0 where
  pub state_is : Gives (state_after h e s') (state_of s')
  pub reference_is : ReferenceAfter h e s'
  pub kept_is : KeptAfter h e s'

-- ------------------------------------------------------------------ before the state rules

-- a stock to which an event has come, and the state rules have not: the clock is at its date, f or h may be marked as having happened
pub record Come (h : Whole) (e : Event Message Notice) (s : Stock) : Type 0 where
  pub clock : clock_of s ≡ dated machine e
  pub setup : s.setup ≡ h.stock.setup
  pub end : s.end ≡ h.stock.end
  pub state : state_of s ≡ state_of h.stock
  pub entry : s.course.entry ≡ h.stock.course.entry
  pub pause : s.course.pause ≡ h.stock.course.pause
  pub early : IsNew (letter_of e ≡ mark_f) s.course.early 0 h.stock.course.early
  pub price : s.reference.price ≡ h.stock.reference.price
  pub start : s.reference.start ≡ h.stock.reference.start
  pub hold : IsNew (letter_of e ≡ mark_h) s.reference.hold 0 h.stock.reference.hold

-- neither closes nor pauses
pub record Plain (e : Event Message Notice) : Type 0 where
  pub no_close : ¬ Closes e
  pub no_pause : ¬ StartsPause e

-- no bands, no side at one
no_band : (s : Stock) → Limit < state_of s → ¬ AtBand s
no_band s l k = ⊎_elim (λ b. omega (arith, b.0)) (λ b. omega (arith, b.0)) k.1

-- ------------------------------------------------------------------ looking at the quotes

best_entered : (s : Stock) → state_of s ≡ Trading → best_of (enter_limit s) ≡ best_of s
unfolding best_of bands_in in_force k_time any_of if◌then◌otherwise◌
best_entered s e = rw e

-- a stock that was looked at in Trading: it has entered Limit, or it has not and need not
data Looked (s s' : Stock) : Type 0 where
  enters : AtBand s' and ¬ Crossing s' → s' ≡ enter_limit s → Looked s s'
  keeps : ¬ (AtBand s' and ¬ Crossing s') → s' ≡ s → Looked s s'

band_entered : (s : Stock) → state_of s ≡ Trading → AtBand s and ¬ Crossing s → AtBand (enter_limit s) and ¬ Crossing (enter_limit s)
band_entered s t k = (
  (at_band_is (enter_limit s)).holds (ap (flagged 3) (best_entered s t) ∙ is_true _ (at_band_is s) k.0),
  (crossed_is (enter_limit s)).fails (ap crossed (best_entered s t) ∙ is_false _ (crossed_is s) k.1),
)

looked : (s : Stock) → state_of s ≡ Trading → Looked s (look s)
unfolding look
looked s t = go (all_of (is Trading s ∷ at_limit s ∷ not (crossed (best_of s)) ∷ [])) (search (words, at_band_is, crossed_is))
  where
    go : (b : Bool) → Decides b (state_of s ≡ Trading and AtBand s and ¬ Crossing s) → Looked s (if b then enter_limit s otherwise s)
    go true d = rw (if_true true (enter_limit s) s refl) (enters (band_entered s t (d.holds refl).1) refl)
    go false d = rw (if_false false (enter_limit s) s refl) (keeps (λ k. d.fails refl (t, k)) refl)

pub look_else : (s : Stock) → ¬ (state_of s ≡ Trading) → look s ≡ s
unfolding look
look_else s n = if_false _ _ _ (all_not_here _ _ (ne_eqb _ _ n))

-- ------------------------------------------------------------------ the ways in which an event changes a stock

module _ (h : Whole) (e : Event Message Notice) where
  -- it closes
  pub closed : (s : Stock) → Come h e s → Closes e → ¬ StartsPause e → ¬ StartsOne h e → Changed h e (shut s)
  unfolding shut
  closed s c k p n = record {
    state_is = take 5 _ _ _ k refl;
    reference_is = inr (n, (c.price, (c.start, c.hold)));
    kept_is = (c.clock, (c.setup, (c.end, (inr ((λ x. no_band (shut s) (omega arith) x.1.0), c.entry), (inr (p, c.pause), c.early)))));
  }

  -- it starts a pause
  pub paused : (s : Stock) → Come h e s → StartsPause e → ¬ Closes e → ¬ StartsOne h e → Changed h e (begin_pause s)
  unfolding begin_pause
  paused s c k x n = go (either_way _ (by_le (s.end - 600_000) (clock_of s)))
    where
      go : (s.end - 600_000 ≤ clock_of s) ⊎ (¬ (s.end - 600_000 ≤ clock_of s)) → Changed h e (enter_pause (if leb (s.end - 600_000) (clock_of s) then Late otherwise Paused) s)
      go (inl l) = rw (if_true _ Late Paused (is_true _ (by_le (s.end - 600_000) (clock_of s)) l)) (record {
        state_is = skip 5 _ _ _ x (take 4 _ _ _ (k, omega (arith, c.end, c.clock)) refl);
        reference_is = inr (n, (c.price, (c.start, c.hold)));
        kept_is = (c.clock, (c.setup, (c.end, (inr ((λ x. no_band (enter_pause Late s) (omega arith) x.1.0), c.entry), (inl (k, c.clock), c.early)))));
      })
      go (inr l) = rw (if_false _ Late Paused (is_false _ (by_le (s.end - 600_000) (clock_of s)) l)) (record {
        state_is = skip 5 _ _ _ x (skip 4 _ _ _ (λ q. l (omega (arith, c.end, c.clock, q.1))) (take 3 _ _ _ k refl));
        reference_is = inr (n, (c.price, (c.start, c.hold)));
        kept_is = (c.clock, (c.setup, (c.end, (inr ((λ x. no_band (enter_pause Paused s) (omega arith) x.1.0), c.entry), (inl (k, c.clock), c.early)))));
      })

  module _ (plain : Plain e) where
    -- the quotes are looked at, in Trading, with that reference
    by_look : (s : Stock) (r : Reference) → Come h e s → Looks h e → ReferenceAfter h e (with_reference r s)
        → Changed h e (look (with_reference r (in_state Trading s)))
    by_look s r c l ref = go (looked (with_reference r (in_state Trading s)) refl)
      where
        go : Looked (with_reference r (in_state Trading s)) (look (with_reference r (in_state Trading s)))
            → Changed h e (look (with_reference r (in_state Trading s)))
        go (enters k q) = record {
          state_is = skip 5 _ _ _ plain.no_close (skip 4 _ _ _ (λ z. plain.no_pause z.0) (skip 3 _ _ _ plain.no_pause
              (take 2 _ _ _ (l, k) (ap state_of q))));
          reference_is = rw q ref;
          kept_is = rw q (c.clock, (c.setup, (c.end, (inl ((l, rw q at k), c.clock), (inr (plain.no_pause, c.pause), c.early)))));
        }
        go (keeps k q) = record {
          state_is = skip 5 _ _ _ plain.no_close (skip 4 _ _ _ (λ z. plain.no_pause z.0) (skip 3 _ _ _ plain.no_pause
              (skip 2 _ _ _ (λ z. k z.1) (take 1 _ _ _ l (ap state_of q)))));
          reference_is = rw q ref;
          kept_is = rw q (c.clock, (c.setup, (c.end, (inr ((λ z. (rw q at k) z.1), c.entry), (inr (plain.no_pause, c.pause), c.early)))));
        }

    -- a reference starts, and the stock is in Trading
    pub begun : (s : Stock) (r : Mean) → Come h e s → Starts h e r → Changed h e (begin_trading r s)
    unfolding begin_trading
    begun s r c k = by_look s (record { price = r; start = clock_of s; hold = 1 }) c (inl (r, k)) (inl (k, (c.clock, refl)))

    -- no reference starts, and the quotes are looked at in Trading, on a quote or on w
    pub seen : (s : Stock) → Come h e s → state_of h.stock ≡ Trading → IsOneOf (letter_of e) (letter_q ∷ mark_w ∷ []) → ¬ StartsOne h e → Changed h e (look s)
    seen s c t l n = subst (λ state. Changed h e (look (in_state state s))) (sym (c.state ∙ t))
        (by_look s s.reference c (inr (t, l)) (inr (n, (c.price, (c.start, c.hold)))))

    -- nothing but what has come with the event
    pub same : (s : Stock) → Come h e s → ¬ Looks h e → Changed h e s
    same s c n = record {
      state_is = skip 5 _ _ _ plain.no_close (skip 4 _ _ _ (λ z. plain.no_pause z.0) (skip 3 _ _ _ plain.no_pause
          (skip 2 _ _ _ (λ z. n z.0) (skip 1 _ _ _ n (take _ _ _ _ tt c.state)))));
      reference_is = inr ((λ k. n (inl k)), (c.price, (c.start, c.hold)));
      kept_is = (c.clock, (c.setup, (c.end, (inr ((λ k. n k.0), c.entry), (inr (plain.no_pause, c.pause), c.early)))));
    }

-- ------------------------------------------------------------------ by its letter

module _ (e : Event Message Notice) (l : ℕ) (is : letter_of e ≡ l) where
  pub plainly : has (letter_x ∷ mark_z ∷ mark_c ∷ letter_p ∷ mark_x ∷ []) l ≡ false → Plain e
  plainly g = record {
    no_close = λ k. not_among others _ l is g (among (letter_x ∷ mark_z ∷ mark_c ∷ []) others _ refl k);
    no_pause = λ k. not_among others _ l is g (among (letter_p ∷ mark_x ∷ []) others _ refl k);
  }
    where
      others : List ℕ
      others = letter_x ∷ mark_z ∷ mark_c ∷ letter_p ∷ mark_x ∷ []

  -- neither a quote nor w: only a reference that starts makes it look
  pub unlooked : (h : Whole) → has (letter_q ∷ mark_w ∷ []) l ≡ false → ¬ StartsOne h e → ¬ Looks h e
  unlooked h g n (inl k) = n k
  unlooked h g n (inr k) = not_among (letter_q ∷ mark_w ∷ []) _ l is g k.1

-- what comes with an event that is neither f nor h: its time, and quotes
pub came : (h : Whole) (e : Event Message Notice) (l : ℕ) (q : Quotes) → letter_of e ≡ l → has (mark_f ∷ mark_h ∷ []) l ≡ false
    → Come h e (with_quotes q (at_time (dated machine e) h.stock))
came h e l q is g = record {
  clock = refl;
  setup = refl;
  end = refl;
  state = refl;
  entry = refl;
  pause = refl;
  early = inr ((λ k. not_among (mark_f ∷ mark_h ∷ []) _ l is g (inl k)), refl);
  price = refl;
  start = refl;
  hold = inr ((λ k. not_among (mark_f ∷ mark_h ∷ []) _ l is g (inr (inl k))), refl);
}
