use mathlib.Core.Path.{◌≡◌, refl, sym, ap, ◌∙◌}
use lib.ListN.{length, get_or}
use Rattle.tape.specs.Scanning.{kept}
use Rattle.tape.proofs.Scanning.{turned, failed, kept_other, kept_closed}
use Rattle.tape.proofs.scan.over.Goals.{then-c-eq32, else-c-eq32}
use Rattle.tape.proofs.scan.over.Goals as goal

pub returns-in_err-scan : goal.returns-in_err-scan
returns-in_err-scan c =
    let kept_is : c.if-c-eq32.numbers ≡ kept (record { scan = c.loop-c.scan; numbers = c.loop-c.numbers }) (get_or c.args.bytes.now c.loop-c.c-index 0) =
    elim c.if-c-eq32.branch [
      | then-c-eq32 w ↦ kept_closed _ _ _ w.if-c-eq32.true (w.numbers-is ∙ w.close.ensures)
      | else-c-eq32 w ↦ kept_other _ _ _ w.if-c-eq32.false w.numbers-is
    ] in
    failed _ _ _ _ _ _ _ refl c.loop-c-test.true c.loop-c.invariant.1 kept_is _ (sym c.in_err-scan.ensures) c.from_residual.ensures

pub loop-c-preserved : goal.loop-c-preserved
loop-c-preserved c =
    let kept_is : c.if-c-eq32.numbers ≡ kept (record { scan = c.loop-c.scan; numbers = c.loop-c.numbers }) (get_or c.args.bytes.now c.loop-c.c-index 0) =
    elim c.if-c-eq32.branch [
      | then-c-eq32 w ↦ kept_closed _ _ _ w.if-c-eq32.true (w.numbers-is ∙ w.close.ensures)
      | else-c-eq32 w ↦ kept_other _ _ _ w.if-c-eq32.false w.numbers-is
    ] in
    let long : length c.if-c-eq32.numbers ≡ 5 =
    elim c.if-c-eq32.branch [
      | then-c-eq32 w ↦ ap length w.numbers-is ∙ w.close.array_long
      | else-c-eq32 w ↦ ap length w.numbers-is ∙ c.loop-c.invariant.0
    ] in
    (long, turned _ _ _ _ _ _ _ refl c.loop-c-test.true c.loop-c.invariant.1 kept_is _ (sym c.in_ok-scan.ensures))
