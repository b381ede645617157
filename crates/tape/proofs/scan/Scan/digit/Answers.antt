use Prim.Native.Nat.{ℕ, ◌+◌, ◌<◌}
use mathlib.Core.Path.{◌≡◌}
use native.Mathlib.Omega.{arith}
use Rattle.std.specs.Prelude.{Option, Some, None}
use Rattle.forms.proofs.Choice.{arms, tests, goes, passes}
use Rattle.tape.specs.Lines.{further}
use Rattle.tape.specs.Scanning.{digit}
use Rattle.tape.specs.declared.scan.Scan.{Scan}
use Rattle.tape.proofs.scan.Scan.digit.Goals.{then-self-eq0-via-then-self-eq0, then-self-eq0-via-else-self-eq0+then-self-ge-MOST_DIGITS}
use Rattle.tape.proofs.scan.Scan.digit.Goals as goal

-- what is over the highest number, and what is not
too_much : (s : Scan) (c : ℕ) (r : Option Scan) → r ≡ None → 4_294_967_295 < further s.value c → r ≡ digit s c
unfolding digit
too_much s c r e h = goes _ _ _ _ (search tests depth 20) e

one_more : (s : Scan) (c v : ℕ) → (s.count ≡ 0 → ⊥) → s.digits < 10 → (v < 4_294_967_296) × (v ≡ further s.value c)
    → ◌≡◌ {A = Option Scan} (Some (record { count = s.count; digits = s.digits + 1; value = v })) (digit s c)
unfolding digit
one_more s c v h d e = passes _ _ _ _ (search tests depth 20) (rw e.1)

pub returns-then-self-eq0 : goal.returns-then-self-eq0
unfolding digit
returns-then-self-eq0 c =
    elim c.then-self-eq0.branch [
      | then-self-eq0-via-then-self-eq0 w ↦ search (arms, tests) depth 20
      | then-self-eq0-via-else-self-eq0+then-self-ge-MOST_DIGITS w ↦ search (arms, tests) depth 20
    ]

pub returns-in_err-tens : goal.returns-in_err-tens
unfolding further
returns-in_err-tens c = too_much _ _ _ c.from_residual.ensures (omega (arith, c.in_err-tens.ensures))

pub returns-in_err-value : goal.returns-in_err-value
unfolding further
returns-in_err-value c = too_much _ _ _ c.from_residual-in_err-value.ensures (omega (arith, c.in_err-value.ensures))

pub returns : goal.returns
unfolding further
returns c = one_more _ _ _ c.if-self-eq0.false (omega arith) (omega arith)
