-- How often a stock of a lent book can pause: what the rules say of its story holds for the notices that its calls were answered with.
-- Assumes nothing.
use Prim.Native.Nat.{ℕ, ◌≤◌, ◌<◌}
use mathlib.Core.List.{List}
use mathlib.Core.Path.{subst}
use native.Mathlib.Omega.{arith}
use lib.ListN.{length}
use Rattle.rules.specs.Machine.{Calls, notices}
use Rattle.rules.specs.Book.{counting, Accepted, story}
use Rattle.rules.specs.Readings.{limit_pauses}
use Rattle.rules.specs.LimitPauses.{Apart, least_distance, pauses_bound}
use Rattle.rules.specs.declared.Setup.{Setup}
use Rattle.rules.proofs.Demands.{demands as rules}
use Rattle.calls.specs.Setup.{setups_of}
use Rattle.book.specs.Demands.{Family, calls, Demand2, OfLimitPauses, PausesApart, PausesFew}
use Rattle.book.proofs.Chains.{started}
use Rattle.book.proofs.Alike.{number_0, records, stories_told}

-- what holds for the limit pauses of every story holds for those of the calls
by_the_rules : (Holds : List ℕ → Type 0)
    → ((end : ℕ) (us : List Setup) → Accepted end us → (cs : Calls counting) (i : ℕ) → i < length us → Holds (limit_pauses (notices (story end us cs i))))
    → (𝓕 : Family) → Demand2 𝓕 → OfLimitPauses 𝓕 Holds
by_the_rules Holds all 𝓕 d end list b₀ b b' a cs p z k i here =
    let long = records 𝓕 d end list b₀ b a p z b' cs k in
    subst (λ ns. Holds (limit_pauses ns)) (stories_told 𝓕 d end list b₀ b b' a cs p z k i).1
    (all end (setups_of list) (started end list b₀ (number_0 𝓕 d end list b₀ b a p z)).accepted (calls cs) i (omega (arith, here, long)))

pub pauses_apart : (𝓕 : Family) → Demand2 𝓕 → PausesApart 𝓕
pauses_apart = by_the_rules (Apart least_distance) rules.pauses_apart

pub pauses_few : (𝓕 : Family) → Demand2 𝓕 → PausesFew 𝓕
pauses_few = by_the_rules (λ starts. length starts ≤ pauses_bound) rules.pauses_few
