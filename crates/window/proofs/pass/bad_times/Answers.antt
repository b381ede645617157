use Rattle.std.proofs.Common.{drop, take, arith, ◌≡◌, ◌<◌, get_or, length, ◌-◌, rules}
use borrow.Author.Tests.{tests}
use Rattle.std.proofs.lemmas.Iterator.{YieldsList-from_slice, YieldsList-from_zip}
use Rattle.std.proofs.lemmas.Iterator.Consumers.{fold_from_yields_List}
use Rattle.window.proofs.Passes.{falls, no_times, times_are}
use Rattle.window.proofs.pass.bad_times.Goals as goal

pub returns-in_default : goal.returns-in_default
returns-in_default c = search (rules, no_times)

pub returns : goal.returns
returns c =
    let ts = c.args.times.now in
    let some : 0 < length ts = omega (arith, c.in-Some.ensures.item.3.0) in
    let last : c.in-Some.last.now ≡ get_or ts (length ts - 1) 0 = c.in-Some.ensures.item.3.1 0 in
    let pairs = YieldsList-from_zip (YieldsList-from_slice ts cc) (YieldsList-from_slice (take (length ts - 1) (drop 1 ts)) c.zip.ensures.second.0) in
    let fall = fold_from_yields_List _ falls 0 c.fold-fall.result c.fold-fall.ensures.ran pairs (λ a x b q k. search (rules, tests)) in
    search times_are
