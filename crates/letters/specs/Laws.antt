-- What the promises of letters obey. Each field is a theorem: `laws` of proofs/Laws.antt proves the record.
-- Assumes nothing.
use Rattle.std.specs.Prelude.{◌≡◌}
use Rattle.forms.specs.Promises.{Determines}
use Rattle.rules.specs.Messages.{time_of}
use Rattle.rules.specs.declared.Message.{Message}

pub record Laws : Type 0 where
  -- each function promises one message of its numbers, so two results agree
  pub message_determined : (m : Message) → Determines (λ r. r ≡ m)
  -- a message has one time
  pub time_of_determined : (m : Message) → Determines (λ r. r ≡ time_of m)
