-- A stock's part of the two arrays, and what a step of one stock promises, with its record by value and the whole arrays (document 01,
-- "What the book holds", "Numbers given back").
-- Assumes nothing.
use Rattle.std.specs.Prelude.{ℕ, ◌+◌, ◌*◌, List, ◌++◌, ◌≡◌, take, drop}
use Rattle.stock.specs.View.{Bytes, bytes, Outcome}
use Rattle.stock.specs.declared.Handed.{Handed}
use Rattle.stock.specs.declared.Record.{Record}

-- ------------------------------------------------------------------ the part of a stock

-- the part of an array that stock i owns: 512 places from 512 times its number
abbrev pub part : ℕ → List ℕ → List ℕ
part i xs = take 512 (drop (512 * i) xs)

-- the array with another part for stock i
abbrev pub put : ℕ → List ℕ → List ℕ → List ℕ
put i new xs = take (512 * i) xs ++ (new ++ drop (512 * i + 512) xs)

-- ------------------------------------------------------------------ a stock's step

-- the answer and the next record are those of the outcome, and of each array only the part of stock i changes
pub record Placed {A : Type 0} (i : ℕ) (o : Outcome A) (ts ps : List ℕ) (a : A) (kept : Record) (ts' ps' : List ℕ) : Type 0 where
  pub answer : a ≡ o.answer
  pub next : kept ≡ o.bytes.kept
  pub times : ts' ≡ put i o.bytes.times ts
  pub prices : ps' ≡ put i o.bytes.prices ps

-- the promise of a step of a record, where its places are the part of stock i
abbrev pub StepsAt : {A : Type 0} → ℕ → (Bytes → Outcome A) → Record → List ℕ → List ℕ → Handed A → List ℕ → List ℕ → Type 0
StepsAt i step r ts ps x ts' ps' = Placed i (step (bytes r (part i ts) (part i ps))) ts ps x.answer x.next ts' ps'
