-- What the look at the quotes comes to.
-- Assumes nothing.
use mathlib.Core.Bool.{Bool, true, false, not, false≢true}
use mathlib.Core.Path.{◌≡◌, refl, sym, ap, ◌∙◌}
use borrow.Author.Tests.{eqb-true, not-true}
use lib.Dec.{eqb}
use Rattle.forms.proofs.Choice.{if_true, if_false, all_yes, all_empty, all_head, all_tail, all_not_here}
use Rattle.rules.specs.Stock.{Trading, Limit, in_state, refer_to}
use Rattle.rules.specs.Quotes.{best_of, at_limit}
use Rattle.rules.specs.States.{look, begin_trading, leave}
use Rattle.rules.specs.Messages.{quote_rules}
use Rattle.rules.specs.declared.Figures.{Figures}
use Rattle.rules.specs.declared.Quotes.{Quotes}
use Rattle.rules.specs.declared.Stock.{Stock}
use Rattle.quotes.specs.Parts.{stock_of, kept_of, bare, basis_of, stock_by}
use Rattle.quotes.specs.Shown.{shown_of}
use Rattle.quotes.specs.declared.Basis.{Basis}
use Rattle.quotes.specs.declared.Kept.{Kept}
use Rattle.quotes.specs.declared.Shown.{Shown}
use Rattle.quotes.proofs.Laws.{shown_by, fitted_is}
use Rattle.states.specs.After.{after_of}
use Rattle.states.specs.Turns.{kept_in, ends_limit, turned_to, left_to, left_price}
use Rattle.states.specs.declared.After.{After}
use Rattle.states.specs.declared.room.Ready.{Ready}
use Rattle.states.specs.declared.rule.Turn.{Turn}
use Rattle.states.specs.declared.rule.Turn.TheVariants.{Still, Looking}
use Rattle.states.proofs.Laws as states

-- ------------------------------------------------------------------ what is shown

-- of a stock by its basis
module _ (k : Ready) (q : Quotes) (b : Basis) (shown : Shown) (eb : b ≡ basis_of k.kept) (es : shown ≡ shown_of (stock_by b q)) where
  shown_is : shown ≡ shown_of (stock_of k.kept q)
  shown_is = shown_by k.kept q b shown eb es ∙ ap (λ k. shown_of (stock_of k q)) ((fitted_is k.kept).0 k.room)

  best_is : shown.best ≡ best_of (stock_of k.kept q)
  best_is = ap (λ (x : Shown). x.best) shown_is

  -- a step that changes nothing that is shown
  shows : (n : Kept) (s : Stock) → stock_of n q ≡ s → shown_of s ≡ shown_of (stock_of k.kept q)
      → ◌≡◌ {A = After} (record { kept = n; quotes = q; shown = shown }) (after_of s)
  shows n s e same =
      let is : shown_of (stock_of n q) ≡ shown = ap shown_of e ∙ same ∙ sym shown_is in
      rw (← e, is)

  pub looked : (n : Kept) → ((p : Quotes) → shown.best ≡ best_of (stock_of k.kept p) → stock_of n p ≡ look (stock_of k.kept p)) → (s : Stock)
      → s ≡ look (stock_of k.kept q) → ◌≡◌ {A = After} (record { kept = n; quotes = q; shown = shown }) (after_of s)
  looked n r s e = shows n s (r q best_is ∙ sym e) (ap shown_of e ∙ (states.laws).look_shows_the_same (stock_of k.kept q))

-- ------------------------------------------------------------------ a turn

-- looking at the quotes shows the same
turned_shows : (t : Turn) (q : Quotes) → shown_of (turned_to t q) ≡ shown_of (stock_of (kept_in t) q)
unfolding turned_to
turned_shows (Still k) q = refl
turned_shows (Looking k) q = (states.laws).look_shows_the_same (stock_of k.kept q)

module _ (t : Turn) (k : Ready) (ek : k.kept ≡ kept_in t) (q : Quotes) (b : Basis) (shown : Shown) (eb : b ≡ basis_of k.kept)
    (es : shown ≡ shown_of (stock_by b q)) (n : Kept) where
  pub turned_is : ((p : Quotes) → shown.best ≡ best_of (stock_of (kept_in t) p) → stock_of n p ≡ turned_to t p)
      → ◌≡◌ {A = After} (record { kept = n; quotes = q; shown = shown }) (after_of (turned_to t q))
  turned_is r =
      let e : stock_of n q ≡ turned_to t q = r q (rw (← ek) (best_is k q b shown eb es)) in
      shows k q b shown eb es n (turned_to t q) e (rw ek (turned_shows t q))

-- ------------------------------------------------------------------ Limit ends

-- where a turn does not end Limit, the quotes are looked at as in Trading
lasts : (t : Turn) (f : Figures) (q : Quotes) → ends_limit t (best_of (stock_of (kept_in t) q)) ≡ false → left_to t f q ≡ turned_to t q
unfolding ends_limit turned_to left_to quote_rules leave look
lasts (Still k) f q h = refl
lasts (Looking k) f q h = go (eqb k.kept.course.state Limit) refl (at_limit (stock_of k.kept q)) refl
  where
    go : (x : Bool) → eqb k.kept.course.state Limit ≡ x → (y : Bool) → at_limit (stock_of k.kept q) ≡ y → quote_rules f (stock_of k.kept q) ≡ look (stock_of k.kept q)
    go true e true on =
        let other : eqb k.kept.course.state Trading ≡ false = rw (eqb-true k.kept.course.state Limit e) in
        simp (e, if_true, on) (sym (if_false _ _ _ (all_not_here _ _ other)))
    go true e false off = absurd (false≢true (sym h ∙ all_yes _ _ e (all_yes _ _ (ap not off) all_empty)))
    go false e y z = simp (e, if_false)

-- where it does, Trading begins anew
ended : (t : Turn) (f : Figures) (q : Quotes) → ends_limit t (best_of (stock_of (kept_in t) q)) ≡ true
    → left_to t f q ≡ begin_trading (left_price f (kept_in t).reference.price) (stock_of (kept_in t) q)
unfolding ends_limit left_to quote_rules leave
ended (Still k) f q h = absurd (false≢true h)
ended (Looking k) f q h =
    let state : eqb k.kept.course.state Limit ≡ true = all_head _ _ h in
    let off : at_limit (stock_of k.kept q) ≡ false = not-true _ (all_head _ _ (all_tail _ _ h)) in
    simp (state, if_true, off, if_false)

module _ (t : Turn) (f : Figures) (k : Ready) (ek : k.kept ≡ kept_in t) (q : Quotes) (b : Basis) (shown : Shown) (eb : b ≡ basis_of k.kept)
    (es : shown ≡ shown_of (stock_by b q)) (over : Bool) (eo : over ≡ ends_limit t shown.best) (n : Kept) where
  best_in : shown.best ≡ best_of (stock_of (kept_in t) q)
  best_in = rw (← ek) (best_is k q b shown eb es)

  ends : (x : Bool) → over ≡ x → ends_limit t (best_of (stock_of (kept_in t) q)) ≡ x
  ends x h = rw (← best_in) (sym eo ∙ h)

  pub left_as : over ≡ false → ((p : Quotes) → shown.best ≡ best_of (stock_of (kept_in t) p) → stock_of n p ≡ turned_to t p)
      → ◌≡◌ {A = After} (record { kept = n; quotes = q; shown = shown }) (after_of (left_to t f q))
  left_as h r = turned_is t k ek q b shown eb es n r ∙ ap after_of (sym (lasts t f q (ends false h)))

  pub left_anew : over ≡ true → (m : Ready) → m.kept ≡ kept_of (in_state Trading (refer_to (left_price f k.kept.reference.price) (bare k.kept)))
      → (c : Basis) (again : Shown) → c ≡ basis_of m.kept → again ≡ shown_of (stock_by c q)
      → ((p : Quotes) → again.best ≡ best_of (stock_of m.kept p) → stock_of n p ≡ look (stock_of m.kept p))
      → ◌≡◌ {A = After} (record { kept = n; quotes = q; shown = again }) (after_of (left_to t f q))
  unfolding begin_trading
  left_anew h m em c again ec ea r = looked m q c again ec ea n r (left_to t f q) (ended t f q (ends true h) ∙ rw (em, ek))
