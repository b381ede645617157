-- What the promise of the version obeys; the laws of the calls are in book. Each field is a theorem: `laws` of proofs/Laws.antt proves
-- the record.
-- Assumes nothing.
use Rattle.std.specs.Prelude.{◌≡◌}
use Rattle.forms.specs.Promises.{Determines}
use Rattle.sumpheron.specs.Version.{version}

pub record Laws : Type 0 where
  -- a library has one version
  pub version_determined : Determines (λ r. r ≡ version)
