-- The laws of specs/Laws.antt.
-- Assumes nothing.
use Rattle.forms.proofs.Promises.{agree}
use Rattle.sumpheron.specs.Version.{version}
use Rattle.sumpheron.specs.Laws.{Laws}

pub laws : Laws
laws = record {
  version_determined = agree version;
}
