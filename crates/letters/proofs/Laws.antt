-- The laws of specs/Laws.antt.
-- Assumes nothing.
use Rattle.forms.proofs.Promises.{agree}
use Rattle.rules.specs.Messages.{time_of}
use Rattle.letters.specs.Laws.{Laws}

pub laws : Laws
laws = record {
  message_determined = λ m. agree m;
  time_of_determined = λ m. agree (time_of m);
}
