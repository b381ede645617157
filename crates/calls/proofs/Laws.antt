-- The laws of specs/Laws.antt.
-- Assumes nothing.
use mathlib.Core.Path.{sym, ◌∙◌}
use lib.ListN.{get_or}
use Rattle.forms.specs.Checks.{first}
use Rattle.forms.proofs.Promises.{agree}
use Rattle.rules.specs.Book.{no_setup}
use Rattle.rules.specs.Numbers.{call_checks, zeros}
use Rattle.rules.proofs.Refusals.{agree_by_number}
use Rattle.stock.specs.View.{bytes, asked}
use Rattle.calls.specs.Parts.{part}
use Rattle.calls.specs.Setup.{setups_of, record_of, setup_number}
use Rattle.calls.specs.Laws.{Laws}
use Rattle.calls.proofs.Parts.{part_is, part_put, part_put_other, put_part, length_put}
use Rattle.calls.proofs.Setups.{setups_are}
use Rattle.calls.proofs.InWords.{setup_number_is}

pub laws : Laws
laws = record {
  part_is = part_is;
  part_put = λ i new xs f. part_put i new xs f.places f.room;
  part_put_other = λ i new xs f. part_put_other i new xs f.places f.room;
  put_part = put_part;
  length_put = λ i new xs f. length_put i new xs f.places f.room;
  setups_are = setups_are;
  setup_number_is = setup_number_is;
  call_refusal_determined = λ stocks times prices i. agree_by_number (first (call_checks stocks times prices i));
  step_at_determined = λ i step r ts ps x y p q. rw (p.answer ∙ sym q.answer, p.next ∙ sym q.next, p.times ∙ sym q.times, p.prices ∙ sym q.prices);
  ask_at_determined = λ i own beside r ts ps. agree (asked own beside (bytes r (part i ts) (part i ps)));
  setup_answer_determined = λ stocks times prices end list. agree (zeros (setup_number stocks times prices end list));
  started_at_determined = λ list end i. agree (record_of end (get_or (setups_of list) i no_setup));
}
