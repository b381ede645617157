-- The totals in the records of a book are those that the rules keep along its stocks' stories.
-- Assumes nothing.
use Prim.Native.Nat.{◌<◌}
use mathlib.Core.Path.{◌≡◌, ap, ◌∙◌, subst}
use native.Mathlib.Omega.{arith}
use lib.ListN.{length, get_or, length-map}
use Rattle.rules.specs.Counted.{fresh}
use Rattle.rules.specs.Machine.{run}
use Rattle.rules.specs.Book.{counting, no_setup, blank, book, story}
use Rattle.rules.specs.Demands.{Allowed, keeps}
use Rattle.rules.proofs.Demands.{demands as rules}
use Rattle.stock.specs.View.{Bytes}
use Rattle.calls.specs.Setup.{setups_of}
use Rattle.calls.specs.Words.{setup_in}
use Rattle.calls.proofs.Setups.{setups_are, fours}
use Rattle.book.specs.Lent.{bytes_of}
use Rattle.book.specs.Words.{record_at}
use Rattle.book.specs.Demands.{Family, calls, Demand2, TotalsTold}
use Rattle.book.proofs.Alike.{number_0, records}
use Rattle.book.proofs.Chains.{started, run_length, all_fit}
use Rattle.book.proofs.Layouts.{bytes_of_lem}

pub totals_told : (𝓕 : Family) → Demand2 𝓕 → TotalsTold 𝓕
totals_told 𝓕 d end list b₀ b b' a cs p z k i here =
    let us = setups_of list in
    let left = run counting (blank end) (book end us) (calls cs) in
    let accepted = number_0 𝓕 d end list b₀ b a p z in
    let are = setups_are list (length b₀.records) (fours _ _ _ end list accepted) in
    let there : i < length us = omega (arith, here, records 𝓕 d end list b₀ b a p z b' cs k) in
    let within : i < length left = omega (arith, there, run_length end (book end us) (calls cs), length-map us (fresh end)) in
    let its_setup : get_or us i no_setup ≡ setup_in list i = are.1 i (omega (arith, are.0, there)) in
    let is = ap (bytes_of i) (d.from_setup end list b₀ b b' a cs p z k).1 ∙ bytes_of_lem left (all_fit end us (calls cs)) i within (blank end) in
    let by = rules.by_story end us (started end list b₀ accepted).accepted (calls cs) i there in
    subst (λ u. Allowed end u (story end us (calls cs) i) × ((record_at i b').totals ≡ keeps end u (story end us (calls cs) i))) its_setup
    (by.0, ap (λ (x : Bytes). x.kept.totals) is ∙ by.2)
