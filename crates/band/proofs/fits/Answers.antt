use lib.Dec.{ltb}
use mathlib.Core.Bool.{◌&&◌}
use mathlib.Core.Path.{◌≡◌}
use Rattle.forms.proofs.Bools.{and_all}
use Rattle.band.specs.Band.{fits}
use Rattle.band.specs.declared.Mean.{Mean}
use Rattle.band.proofs.fits.Goals as goal

both : (m : Mean) → (ltb m.sum 17_592_186_044_416 && ltb m.count 4_096) ≡ fits m
unfolding fits
both m = and_all _ _

pub returns : goal.returns
returns c = search both
