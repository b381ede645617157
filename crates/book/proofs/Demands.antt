-- The record of specs/Demands.antt.
-- Assumes nothing.
use mathlib.Core.Path.{refl, sym, subst}
use Rattle.rules.specs.Counted.{tell_answer, settle_answer, read_answer, next_answer, no_summary, totals_answer}
use Rattle.rules.specs.Numbers.{zeros, no_notice, none_coming}
use Rattle.rules.specs.declared.Notice.{Notice}
use Rattle.rules.proofs.Demands.{demands as rules}
use Rattle.stock.specs.View.{telling, settling}
use Rattle.book.specs.Lent.{calling, reading_in, coming_in, totalling_in}
use Rattle.book.specs.Setup.{setting}
use Rattle.book.specs.Laws.{AnsweredBy}
use Rattle.book.specs.Demands.{ours, Demand1, Demands}
use Rattle.book.proofs.Laws.{laws}
use Rattle.book.proofs.Meaning.{number_by}
use Rattle.book.proofs.OneStock.{one_stock}
use Rattle.book.proofs.Chains.{demand2}
use Rattle.book.proofs.Alike.{stories_told, alike}
use Rattle.book.proofs.After.{after_setup}
use Rattle.book.proofs.Copies.{copied}
use Rattle.book.proofs.Entries.{journals_grow}
use Rattle.book.proofs.TotalsTold.{totals_told}
use Rattle.book.proofs.LimitPauses.{pauses_apart, pauses_few}
use Rattle.book.proofs.Reasons.{reasons}
use Rattle.book.proofs.Replay.{recovery}
use Rattle.book.proofs.Wrong.{silent_fails, refusing_fails, fixed_fails, leaving_fails, acknowledging_fails, blind_fails, unaware_fails, uncounting_fails}

demand1 : Demand1 ours
demand1 = record {
  setup_answered = λ end list b. ((setting end list b).answer, (setting end list b).book, refl);
  tell_answered = λ i m b. ((calling i (telling m) zeros b).answer, (calling i (telling m) zeros b).book, refl);
  settle_answered = λ i time b. ((calling i (settling time) no_notice b).answer, (calling i (settling time) no_notice b).book, refl);
  read_answered = λ i b. (reading_in i b, refl);
  next_answered = λ i b. (coming_in i b, refl);
  totals_answered = λ i b. (totalling_in i b, refl);
  setup_number_lem = demand2.setup_number_lem;
  tell_number = λ i m b a b' h e p.
      number_by i b a (tell_answer m h) zeros (λ x. x.number) (λ n. refl) _ ((rules.totals_numbers h).0 m) (laws.told_by_the_rules i m b a b' h e p).0;
  settle_number_lem = λ i time b a b' h e p.
      number_by i b a (settle_answer time h) no_notice (λ (x : Notice). x.answer.number) (λ n. refl) _ ((rules.totals_numbers h).1 time) (laws.settled_by_the_rules i time b a b' h e p).0;
  read_number = λ i b a h e p.
      number_by i b a (read_answer h) zeros (λ x. x.number) (λ n. refl) _ (rules.totals_numbers h).2 (subst (λ x. AnsweredBy i b x (read_answer h) zeros) (sym e) (laws.read_by_the_rules i b h p));
  next_number = λ i b u h e p.
      number_by i b u (next_answer h) none_coming (λ x. x.number) (λ n. refl) _ (rules.totals_numbers h).3 (subst (λ x. AnsweredBy i b x (next_answer h) none_coming) (sym e) (laws.next_by_the_rules i b h p));
  totals_number = λ i b x h e p.
      number_by i b x (totals_answer h) no_summary (λ y. y.number) (λ n. refl) _ (rules.totals_numbers h).4 (subst (λ y. AnsweredBy i b y (totals_answer h) no_summary) (sym e) (laws.totals_by_the_rules i b h p));
  setup_determined = laws.setup_determined;
  tell_determined = laws.tell_determined;
  settle_determined = laws.settle_determined;
  read_determined = laws.read_determined;
  next_determined = laws.next_determined;
  totals_determined = laws.totals_determined;
  setup_leaves = laws.set_up_refused;
  tell_leaves = laws.told_refused;
  settle_leaves = laws.settled_refused;
}

pub demands : Demands
demands = record {
  demand1 = demand1;
  reasons = reasons;
  demand2 = demand2;
  demand3 = alike;
  after_setup = after_setup;
  stories_told = stories_told;
  totals_told = totals_told;
  pauses_apart = pauses_apart;
  pauses_few = pauses_few;
  one_stock = one_stock;
  recovery = recovery;
  copied = copied;
  journals_grow = journals_grow;
  silent_fails = silent_fails;
  refusing_fails = refusing_fails;
  fixed_fails = fixed_fails;
  leaving_fails = leaving_fails;
  acknowledging_fails = acknowledging_fails;
  blind_fails = blind_fails;
  unaware_fails = unaware_fails;
  uncounting_fails = uncounting_fails;
}
