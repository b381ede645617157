-- Why a message to a book is refused by 9, 15 and 16.
-- Assumes nothing.
use Prim.Native.Nat.{ℕ, ◌<◌}
use mathlib.Core.List.{List}
use mathlib.Core.Logic.Iff
use mathlib.Core.Logic.{◌↔◌}
use native.Mathlib.Omega.{arith}
use lib.ListN.{length}
use Rattle.forms.specs.Words.{◌and◌, Number, Gives}
use Rattle.forms.proofs.Decides.{Stable, stable, past, skip, exactly}
use Rattle.rules.specs.Stock.{Whole}
use Rattle.rules.specs.Words as words
use Rattle.rules.specs.TotalsWords.{refusals}
use Rattle.rules.specs.declared.Message.{Message}
use Rattle.rules.specs.declared.Stock.{Stock}
use Rattle.rules.proofs.Reasons.{gives_9, gives_15, gives_16}
use Rattle.book.specs.Lent.{Lent}
use Rattle.book.specs.Words.{InShape, call_table}
use Rattle.book.specs.Demands.{Family, Demand1, RefusedFor, Reasons}

in_shape_lem : (b : Lent) → Stable (InShape b)
in_shape_lem b = search stable

-- a number of the stock's own table is given where the book has the right shape and the stock
own : (i : ℕ) (b : Lent) (table : List Number) (n : ℕ) → 3 < n
    → Gives (call_table i b table) n ↔ (InShape b and i < length b.records and Gives table n)
own i b table n l = (
  (λ g.
      let shape = past 1 n _ _ (λ e. omega arith) g in
      let there = past 3 n _ _ (λ e. omega arith) shape.1 in
      let least = there.0 in
      ((in_shape_lem b).undenied shape.0, (omega arith, there.1))),
  (λ (shape, (there, g)). skip 1 n _ _ (λ k. k shape) (skip 3 n _ _ (λ k. omega arith) g)),
)

module _ (𝓕 : Family) (d : Demand1 𝓕) where
  for : (n : ℕ) (Words : Stock → Message → Type 0) → 3 < n
      → ((m : Message) (h : Whole) → Gives (words.refusals m h) n ↔ (words.ReachesTable m h and Words h.stock m)) → RefusedFor 𝓕 n Words
  for n Words l gives i m b a b' h told means =
      Iff.trans (exactly _ _ n (d.tell_number i m b a b' h told means)) (Iff.trans (own i b (refusals m h) n l) (
        (λ (shape, (there, g)).
            let right = past 1 n _ _ (λ e. omega arith) g in
            let k = (gives m h.whole).0 right.1 in
            (shape, (there, ((right.0, k.0), k.1)))),
        (λ (shape, (there, (reaches, own))). (shape, (there, skip 1 n _ _ reaches.0 ((gives m h.whole).1 (reaches.1, own))))),
      ))

  pub reasons : Reasons 𝓕
  reasons = record {
    wrong_state = for 9 _ (omega arith) gives_9;
    too_late = for 15 _ (omega arith) gives_15;
    no_straddle = for 16 _ (omega arith) gives_16;
  }
