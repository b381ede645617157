use mathlib.Core.Path.{◌∙◌, ap}
use Rattle.calls.specs.Setup.{record_of}
use Rattle.calls.proofs.started_at.Goals as goal

pub returns : goal.returns
returns c = c.started.ensures ∙ ap (record_of _) c.setup_at-setup.ensures
