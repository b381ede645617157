-- The laws of specs/Laws.antt.
-- Assumes nothing.
use Rattle.forms.proofs.Promises.{agree}
use Rattle.rules.specs.Numbers.{zeros, no_notice}
use Rattle.stock.specs.View.{telling, settling}
use Rattle.book.specs.Lent.{calling, asking, reading_in, coming_in, totalling_in}
use Rattle.book.specs.Setup.{setting}
use Rattle.book.specs.Laws.{Laws}
use Rattle.book.proofs.Calls.{let_through, written, of_others, leaves, told_refused, settled_refused, told_touches, settled_touches}
use Rattle.book.proofs.Meaning.{lent_is, one_meaning, told_by_the_rules, settled_by_the_rules, read_by_the_rules, next_by_the_rules, totals_by_the_rules}
use Rattle.book.proofs.Layouts.{layout_is}
use Rattle.book.proofs.SettingUp as SettingUp

pub laws : Laws
laws = record {
  lent_is = lent_is;
  let_through = let_through;
  bytes_written = written;
  bytes_of_others = of_others;
  one_meaning = one_meaning;
  layout_is = layout_is;
  told_by_the_rules = told_by_the_rules;
  settled_by_the_rules = settled_by_the_rules;
  read_by_the_rules = read_by_the_rules;
  next_by_the_rules = next_by_the_rules;
  totals_by_the_rules = totals_by_the_rules;
  call_leaves = λ A. leaves {A = A};
  told_refused = told_refused;
  settled_refused = settled_refused;
  told_touches = told_touches;
  settled_touches = settled_touches;
  set_up_by_the_rules = SettingUp.by_the_rules;
  set_up_one = SettingUp.one;
  set_up_starts = SettingUp.starts;
  set_up_refused = SettingUp.left;
  step_determined = λ i step beside b. agree (calling i step beside b);
  ask_determined = λ i given beside b. agree (asking i given beside b);
  tell_determined = λ i m b. agree (calling i (telling m) zeros b);
  settle_determined = λ i time b. agree (calling i (settling time) no_notice b);
  read_determined = λ i b. agree (reading_in i b);
  next_determined = λ i b. agree (coming_in i b);
  totals_determined = λ i b. agree (totalling_in i b);
  setup_determined = λ end list b. agree (setting end list b);
}
