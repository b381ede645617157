-- Calls on one lent record follow the rules.
-- Assumes nothing.
use Prim.Native.Nat.{ℕ}
use mathlib.Core.List.{List, [], ◌∷◌}
use mathlib.Core.Path.{◌≡◌, sym, ap, ◌∙◌, subst}
use native.Mathlib.Omega.{arith}
use borrow.Author.Tests.{eqb-true}
use lib.Dec.{eqb}
use Rattle.forms.specs.Choice.{if◌then◌otherwise◌}
use Rattle.forms.proofs.Choice.{if_arms}
use Rattle.rules.specs.Machine.{tell, settle}
use Rattle.rules.specs.Numbers as numbers
use Rattle.rules.specs.Numbers.{zeros, no_notice}
use Rattle.rules.specs.Counted.{Counted, fresh, after_telling, after_settling}
use Rattle.rules.specs.declared.Answer.{Answer}
use Rattle.rules.specs.declared.Notice.{Notice}
use Rattle.stock.specs.View.{Bytes, Outcome, told_by, settled_by}
use Rattle.book.specs.Layout.{stock_bytes}
use Rattle.book.specs.Demands.{MadeOne, told_one, settled_one, OneChain, left_one, AnsweredOne, OneStock}
use Rattle.book.proofs.Chains.{call_fits}
use Rattle.book.proofs.Layouts.{Fits}
use Rattle.book.proofs.Follows.{made_is}

-- a rule's stock fits, or the one before it does
left_fits : (n : ℕ) (h h' : Counted) → Fits h → (n ≡ 0 → Fits h') → Fits (if eqb n 0 then h' otherwise h)
left_fits n h h' f d = if_arms Fits (eqb n 0) {x = h'} {y = h} (λ q. d (eqb-true _ _ q)) (λ _. f)

from : (h : Counted) → Fits h → (cs : List MadeOne) (x : Bytes) → OneChain (stock_bytes h) cs x → AnsweredOne h cs × (x ≡ stock_bytes (left_one h cs))
unfolding after_telling after_settling
from h f [] x k = (tt, sym k)
from h f (told_one m a ∷ cs) x k =
    let all = k.1 ∙ made_is h f (told_by m) zeros (call_fits (tell m) h) in
    let rest = from (after_telling m h) (left_fits _ h _ f (call_fits (tell m) h)) cs x (subst (λ c. OneChain c cs x) (ap (λ (o : Outcome Answer). o.bytes) all) k.2) in
    ((ap (λ (o : Outcome Answer). o.answer) all, rest.0), rest.1)
from h f (settled_one time a ∷ cs) x k =
    let all = k.1 ∙ made_is h f (settled_by time) no_notice (call_fits (settle time) h) in
    let rest = from (after_settling time h) (left_fits _ h _ f (call_fits (settle time) h)) cs x (subst (λ c. OneChain c cs x) (ap (λ (o : Outcome Notice). o.bytes) all) k.2) in
    ((ap (λ (o : Outcome Notice). o.answer) all, rest.0), rest.1)

pub one_stock : OneStock
unfolding fresh numbers.fresh
one_stock end u = from (fresh end u) (omega arith)
