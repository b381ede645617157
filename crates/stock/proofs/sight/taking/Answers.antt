use mathlib.Core.Path.{◌≡◌, sym, ap, ◌∙◌}
use Prim.Native.Nat.{ℕ}
use Rattle.std.proofs.Common.{Option, Some}
use Rattle.forms.specs.Checks.{first}
use borrow.Author.Rules.{rules}
use Rattle.rules.specs.Numbers.{message_checks}
use Rattle.rules.specs.Refusals.{number_of}
use Rattle.rules.specs.declared.Message.{Message}
use Rattle.rules.specs.declared.Quotes.{Quotes}
use Rattle.quotes.specs.Parts.{stock_of, Room, fitted}
use Rattle.quotes.specs.declared.Kept.{Kept}
use Rattle.quotes.proofs.Laws.{fitted_is}
use Rattle.stock.specs.Steps.{message_number}
use Rattle.stock.specs.declared.sight.Sight.{Sight}
use Rattle.stock.proofs.sight.taking.Goals as goal

-- where something was seen there is room for the reference
judged : (m : Message) (seen : Option Sight) (g : Sight) (count : ℕ) (k : Kept) (q : Quotes) → ((g : Sight) → seen ≡ Some g → Room k) → seen ≡ Some g
    → first (message_checks m count g.earliest (stock_of (fitted k) q)) ≡ message_number m seen count (stock_of k q)
judged m seen g count k q r s =
    ap (λ k. first (message_checks m count g.earliest (stock_of k q))) ((fitted_is k).0 (r g s)) ∙ ap (λ o. message_number m o count (stock_of k q)) (sym s)

pub returns-in_err-message_refusal : goal.returns-in_err-message_refusal
returns-in_err-message_refusal c =
    let number : number_of c.in_err-message_refusal.field-0.0 ≡ message_number c.args.m c.args.seen c.args.count (stock_of c.args.k c.args.q) =
    c.in_err-message_refusal.ensures {u = tt} ∙ judged _ _ _ _ _ c.args.q c.requires c.in_ok-sight.ensures.ok_part in
    search rules

pub returns : goal.returns
returns c =
    let s = c.in_ok-sight.ensures.ok_part in
    (s, sym (c.in_ok-message_refusal.ensures {u = tt} ∙ judged _ _ _ _ _ c.args.q c.requires s))
