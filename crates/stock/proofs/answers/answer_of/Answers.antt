use mathlib.Core.Bool.{Bool, true, false, ◌||◌, true≢false}
use mathlib.Core.List.{[], ◌∷◌}
use mathlib.Core.Path.{◌≡◌, sym, ap, ◌∙◌}
use Prim.Native.Nat.{ℕ}
use borrow.Author.Tests.{eq-eqb}
use lib.Dec.{eqb}
use Rattle.forms.specs.Choice.{any_of}
use Rattle.forms.proofs.Choice.{if_true, if_false, any_head}
use Rattle.forms.proofs.Bools.{joined}
use Rattle.rules.specs.Numbers.{zeros, answer}
use Rattle.rules.specs.Words.{IsReference}
use Rattle.rules.specs.declared.Answer.{Answer}
use Rattle.rules.specs.declared.Quotes.{Quotes}
use Rattle.quotes.specs.Parts.{stock_of, basis_of, stock_by}
use Rattle.quotes.specs.Shown.{shown_of}
use Rattle.quotes.specs.declared.Basis.{Basis}
use Rattle.quotes.specs.declared.Kept.{Kept}
use Rattle.quotes.specs.declared.Shown.{Shown}
use Rattle.quotes.proofs.Laws.{shown_by, fitted_is}
use Rattle.stock.specs.Steps.{Fits, answer_by}
use Rattle.stock.proofs.Calls.{in_room, shown_fits}
use Rattle.stock.proofs.answers.answer_of.Goals as goal

module _ (n : ℕ) (k : Kept) (q : Quotes) where
  tested : (b : Bool) → ((eqb n 1 || eqb n 2) || eqb n 3) ≡ b → any_of (eqb n 1 ∷ eqb n 2 ∷ eqb n 3 ∷ []) ≡ b
  tested b e = let same : any_of (eqb n 1 ∷ eqb n 2 ∷ eqb n 3 ∷ []) ≡ ((eqb n 1 || eqb n 2) || eqb n 3) = simp joined in same ∙ e

  blank : (a : Answer) → ((eqb n 1 || eqb n 2) || eqb n 3) ≡ true → a ≡ zeros n → a ≡ answer n (stock_of k q)
  unfolding answer
  blank a e ea = ea ∙ simp (tested true e, if_true)

  -- where the number is not 1 the reference is in range, so that what is shown is what the stock shows
  module _ (b : Basis) (s : Shown) (l : ¬ (n ≡ 1) → IsReference k.reference.price) (e : ((eqb n 1 || eqb n 2) || eqb n 3) ≡ false)
      (eb : b ≡ basis_of k) (es : s ≡ shown_of (stock_by b q)) where
    ranged : IsReference k.reference.price
    ranged = l (λ o. true≢false (sym (eq-eqb n 1 o) ∙ any_head _ _ (tested false e)))

    its_own : s ≡ shown_of (stock_of k q)
    its_own = shown_by k q b s eb es ∙ ap (λ k. shown_of (stock_of k q)) ((fitted_is k).0 (in_room _ ranged))

    shown : (a : Answer) → a ≡ answer_by n k s → a ≡ answer n (stock_of k q)
    unfolding answer
    shown a ea = simp (tested false e, if_false, ea, its_own)

    fits : Fits k s
    fits = rw its_own (shown_fits (stock_of k q) ranged)

pub returns-then-number : goal.returns-then-number
returns-then-number c = search blank

pub with_shown-requires : goal.with_shown-requires
with_shown-requires c = search fits

pub returns : goal.returns
returns c = search shown
