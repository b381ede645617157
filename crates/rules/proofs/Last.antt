-- The clock is the date of the last event, and each quote is the participant's last.
-- Assumes nothing.
use Prim.Native.Nat.{ℕ, ◌≤◌}
use mathlib.Core.Bool.{Bool, true, false, true≢false}
use mathlib.Core.List.{List, [], ◌∷◌}
use mathlib.Core.Logic.{◌⊎◌, inl, inr}
use mathlib.Core.Path.{◌≡◌, refl, sym, ap, ◌∙◌}
use native.Mathlib.Omega.{arith}
use borrow.Author.Tests.{ne_eqb, eqb-true, eqb-false}
use lib.Dec.{eqb}
use lib.ListN.{length, get_or, set, replicate, length-set, get_or-replicate}
use lib.Seq.{get_or-set_same, get_or-set_other}
use Rattle.forms.specs.Choice.{if◌then◌otherwise◌}
use Rattle.forms.proofs.Choice.{if_arms, any_head, any_tail, any_not, any_empty}
use Rattle.rules.specs.Stock.{Whole, hold_ended}
use Rattle.rules.specs.States.{look, begin_trading, test, begin_pause, no_quotes, shut}
use Rattle.rules.specs.Moments.{mark_z, mark_c, first_five, effect, come, next_of, fire}
use Rattle.rules.specs.Messages.{letter_q, with_quote, does, after}
use Rattle.rules.specs.Numbers.{fresh, notice}
use Rattle.rules.specs.Machine.{Event, message, moment, Lawful, left, becomes}
use Rattle.rules.specs.Book.{machine, Story}
use Rattle.rules.specs.Changes.{letter_of, closing_mark, quote_by, Quoted, Closes}
use Rattle.rules.specs.Readings.{last_quote}
use Rattle.rules.specs.Demands.{CanHappen, QuotesAre, ClockIs, LastQuotes}
use Rattle.rules.specs.declared.Quotes.{Quotes}
use Rattle.rules.specs.declared.Stock.{Stock}
use Rattle.rules.specs.declared.Figures.{Figures}
use Rattle.rules.specs.declared.Notice.{Notice}
use Rattle.rules.specs.declared.Message.{Message}
use Rattle.rules.specs.declared.Message.TheVariants.{Trade as T, Quote as Q, Opening as O, Pause as P, Reopening as R, Closing as X}
use Rattle.rules.proofs.Events.{first_lawful, rest_lawful, kept_left}
use Rattle.rules.proofs.Kept.{Stands, look_stands, trading_stands, test_stands, five_stands, trade_stands, quote_stands, effect_by}

-- ------------------------------------------------------------------ the clock

pub clock : ClockIs
unfolding fresh
clock end u es a =
    let k = kept_left (fresh end u) es a.lawful in
    (ap (λ k. k.0) k, ap (λ k. k.1) k, ap (λ k. k.2) k)

-- ------------------------------------------------------------------ a moment that closes, and one that does not

closing_mark_lem : (mark : ℕ) → closing_mark mark ≡ true → (mark ≡ mark_z) ⊎ (mark ≡ mark_c)
closing_mark_lem mark e = go (eqb mark mark_z) refl (eqb mark mark_c) refl
  where
    go : (a : Bool) → eqb mark mark_z ≡ a → (b : Bool) → eqb mark mark_c ≡ b → (mark ≡ mark_z) ⊎ (mark ≡ mark_c)
    go true p b q = inl (eqb-true mark mark_z p)
    go false p true q = inr (eqb-true mark mark_c q)
    go false p false q = absurd (true≢false (sym e ∙ any_not _ _ p (any_not _ _ q any_empty)))

effect_closing : (mark : ℕ) (f : Figures) (s : Stock) → closing_mark mark ≡ true → effect mark f s ≡ shut s
unfolding effect if◌then◌otherwise◌
effect_closing mark f s e = go (closing_mark_lem mark e)
  where
    go : (mark ≡ mark_z) ⊎ (mark ≡ mark_c) → effect mark f s ≡ shut s
    go (inl p) = rw p
    go (inr p) = rw p

-- what each of the other effects gives, a moment that does not close gives
pub effect_open : (F : Stock → Type 0) (mark : ℕ) (f : Figures) (s : Stock) → closing_mark mark ≡ false → F (look s) → F (begin_pause s)
    → F (begin_trading s.reference.price s) → F (test f s) → F (first_five f s) → F (test f (hold_ended s)) → F (effect mark f s)
effect_open F mark f s e w x p v five h =
    effect_by F mark f s (λ z. absurd (eqb-false mark _ (any_head _ _ e) z)) (λ _. w) (λ _. x) (λ _. p)
    (λ c. absurd (eqb-false mark _ (any_head _ _ (any_tail _ _ e)) c)) (λ _. v) (λ _. five) h

-- ------------------------------------------------------------------ one participant's quotes

-- a side of the 16 participants, of which participant i has `price`
abbrev Holds : ℕ → List ℕ → ℕ → Type 0
Holds i side price = (length side ≡ 16) × (get_or side i 0 ≡ price)

set_same : (i price last : ℕ) (side : List ℕ) → i ≤ 15 → Holds i side last → Holds i (set side i price) price
set_same i price last side l h = (length-set side i price ∙ h.0, get_or-set_same side i price 0 (omega arith))

set_other : (i j price last : ℕ) (side : List ℕ) → (i ≡ j → ⊥) → Holds i side last → Holds i (set side j price) last
set_other i j price last side n h = (length-set side j price ∙ h.0, get_or-set_other side j i price 0 n ∙ h.1)

-- both sides
quoted : (i : ℕ) (q : Quotes) (last : ℕ × ℕ) → Holds i q.bids last.0 → Holds i q.offers last.1 → Quoted i q last
quoted i q last b o = (b.0, (b.1, (o.0, o.1)))

none_quoted : (i : ℕ) → i ≤ 15 → Quoted i no_quotes (0, 0)
none_quoted i l = let none : Holds i (replicate 16 0) 0 = (refl, get_or-replicate {A = ℕ} 16 i 0 0 (omega arith)) in quoted i no_quotes (0, 0) none none

set_quoted : (i : ℕ) → i ≤ 15 → (t j b o : ℕ) (s : Stock) (last : ℕ × ℕ) → Quoted i s.quotes last
    → Quoted i (with_quote j b o s).quotes (quote_by i last (message (Q t j b o)))
set_quoted i l t j b o s last h =
    let q = s.quotes in
    let bids : Holds i q.bids last.0 = (h.0, h.1.0) in
    let offers : Holds i q.offers last.1 = (h.1.1.0, h.1.1.1) in
    if_arms (Quoted i (with_quote j b o s).quotes) (eqb j i)
    (λ e. let same = eqb-true j i e in rw same (quoted i (with_quote i b o s).quotes (b, o) (set_same i b last.0 q.bids l bids) (set_same i o last.1 q.offers l offers)))
    (λ e. let other : i ≡ j → ⊥ = λ p. eqb-false j i e (sym p) in
    quoted i (with_quote j b o s).quotes last (set_other i j b last.0 q.bids other bids) (set_other i j o last.1 q.offers other offers))

-- ------------------------------------------------------------------ they change by a quote and by closing only

-- what is said of the quotes alone stands through the state rules
stands_quotes : (F : Quotes → Type 0) → Stands (λ s. F s.quotes)
stands_quotes F = record { in_limit = λ s e. e; referred = λ r s e. e; in_trading = λ r s e. e }

does_quoted : (m : Message) (h : Whole) (i : ℕ) (last : ℕ × ℕ) → i ≤ 15 → Quoted i h.stock.quotes last
    → Quoted i (does m h).stock.quotes (quote_by i last (message m))
unfolding does begin_pause shut
does_quoted (T t a) h i last l k = trade_stands (stands_quotes (λ q. Quoted i q last)) _ _ k
does_quoted (Q t j b o) h i last l k = quote_stands (stands_quotes (λ q. Quoted i q (quote_by i last (message (Q t j b o))))) _ (with_quote j b o h.stock) (set_quoted i l t j b o h.stock last k)
does_quoted (O t j a) h i last l k = trading_stands (stands_quotes (λ q. Quoted i q last)) _ _ k
does_quoted (P t j) h i last l k = k
does_quoted (R t j a) h i last l k = trading_stands (stands_quotes (λ q. Quoted i q last)) _ _ k
does_quoted (X t j a) h i last l k = none_quoted i l

effect_quoted : (mark : ℕ) (f : Figures) (s : Stock) (i : ℕ) (last : ℕ × ℕ) → i ≤ 15 → Quoted i s.quotes last
    → Quoted i (effect mark f s).quotes (if closing_mark mark then (0, 0) otherwise last)
unfolding shut begin_pause
effect_quoted mark f s i last l k =
    let stands = stands_quotes (λ q. Quoted i q last) in
    if_arms (Quoted i (effect mark f s).quotes) (closing_mark mark)
    (λ e. rw (effect_closing mark f s e) (none_quoted i l))
    (λ e. effect_open (λ r. Quoted i r.quotes last) mark f s e (look_stands stands s k) k (trading_stands stands _ s k) (test_stands stands f s k)
    (five_stands stands f s k) (test_stands stands f (hold_ended s) k))

pub quotes : QuotesAre
unfolding after fire come notice
quotes h (message m) v i last l k = does_quoted m _ i last l k
quotes h (moment n) v i last l k = rw v.1 (effect_quoted (next_of h).mark _ _ i last l k)

-- all of them stay where nothing of this happens
pub quotes_stay : (h : Whole) (e : Event Message Notice) → CanHappen h e → ¬ Closes e → ¬ (letter_of e ≡ letter_q)
    → (becomes machine h e).stock.quotes ≡ h.stock.quotes
unfolding after does begin_pause fire come notice
quotes_stay h (message (T t a)) v c q = trade_stands (stands_quotes (λ q. q ≡ h.stock.quotes)) _ _ refl
quotes_stay h (message (Q t i b o)) v c q = absurd (q refl)
quotes_stay h (message (O t i a)) v c q = trading_stands (stands_quotes (λ q. q ≡ h.stock.quotes)) _ _ refl
quotes_stay h (message (P t i)) v c q = refl
quotes_stay h (message (R t i a)) v c q = trading_stands (stands_quotes (λ q. q ≡ h.stock.quotes)) _ _ refl
quotes_stay h (message (X t i a)) v c q = absurd (c (inl refl))
quotes_stay h (moment n) v c q =
    let k = stands_quotes (λ q. q ≡ h.stock.quotes) in
    let same : n.mark ≡ (next_of h).mark = ap (λ n. n.mark) v.1 in
    let not_closing : closing_mark (next_of h).mark ≡ false = any_not _ _ (ne_eqb _ _ (λ z. c (inr (inl (same ∙ z)))))
    (any_not _ _ (ne_eqb _ _ (λ z. c (inr (inr (inl (same ∙ z)))))) any_empty) in
    effect_open (λ s. s.quotes ≡ h.stock.quotes) (next_of h).mark _ _ not_closing (look_stands k _ refl) refl (trading_stands k _ _ refl) (test_stands k _ _ refl)
    (five_stands k _ _ refl) (test_stands k _ _ refl)

-- ------------------------------------------------------------------ a story

pub last_quotes : LastQuotes
unfolding fresh
last_quotes end u es a i l = go es (fresh end u) (0, 0) a.lawful (none_quoted i l)
  where
    go : (es : Story) (h : Whole) (last : ℕ × ℕ) → Lawful machine h es → Quoted i h.stock.quotes last
        → Quoted i (left machine h es).stock.quotes (last_quote i last es)
    go [] h last v k = k
    go (e ∷ es) h last v k = go es (becomes machine h e) (quote_by i last e) (rest_lawful h e es v) (quotes h e (first_lawful h e es v) i last l k)
