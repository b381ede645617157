use Rattle.std.proofs.Common.{rules}
use Prim.Native.Nat.{ℕ}
use mathlib.Core.Path.{◌≡◌}
use Rattle.rules.specs.declared.Answer.{Answer}
use Rattle.quotes.specs.declared.Kept.{Kept}
use Rattle.quotes.specs.declared.Shown.{Shown}
use Rattle.stock.specs.Steps.{printed_in, answer_by}
use Rattle.stock.proofs.answers.with_shown.Goals as goal

put : (number reference : ℕ) (k : Kept) (s : Shown) → reference ≡ printed_in k
    → ◌≡◌ {A = Answer}
    (record { number = number; state = k.course.state; reference = reference; lower = s.bands.lower; upper = s.bands.upper; best = s.best })
    (answer_by number k s)
put number reference k s e = rw e

pub returns : goal.returns
returns c = let a = c.args in put a.number _ a.k a.s (search rules)
