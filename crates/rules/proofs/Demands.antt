-- Every demand on the rules, proved.
-- Assumes nothing.
use Rattle.rules.specs.Demands.{Demands}
use Rattle.rules.proofs.Alike.{alike}
use Rattle.rules.proofs.Answers.{book_numbers, listed, calls_leave, shows, answers, fresh_is}
use Rattle.rules.proofs.Apart.{limit_pauses_lem, pauses_apart, pauses_few}
use Rattle.rules.proofs.Around.{around, numbers_with, kept_totals, book_totals_lem, fresh_totals}
use Rattle.rules.proofs.Books.{by_story, refused, others, settled_alike, same_journal, replayed, settled_on}
use Rattle.rules.proofs.Changed.{states, reference, kept}
use Rattle.rules.proofs.Coming.{moments_are}
use Rattle.rules.proofs.Counted.{counting_laws}
use Rattle.rules.proofs.Dates.{dates_few, no_fewer}
use Rattle.rules.proofs.Entries.{asked_grow, journals_grow}
use Rattle.rules.proofs.Examples.{by_hand_lem, as_printed_lem, pauses_counted, totals_counted, at_edges}
use Rattle.rules.proofs.Few.{few_moments}
use Rattle.rules.proofs.FirstFive.{one_f}
use Rattle.rules.proofs.FirstTrade.{first_trade}
use Rattle.rules.proofs.Fits.{fit}
use Rattle.rules.proofs.Held.{held_trades}
use Rattle.rules.proofs.Last.{quotes, clock, last_quotes}
use Rattle.rules.proofs.Journal.{journal_is, journals_are}
use Rattle.rules.proofs.Looks.{looked_at}
use Rattle.rules.proofs.Means.{mean, mean_between}
use Rattle.rules.proofs.Next.{next_is, book_next_lem, next_settles}
use Rattle.rules.proofs.Numbers.{numbers, setup_numbers}
use Rattle.rules.proofs.Only.{changes_only}
use Rattle.rules.proofs.Pauses.{dates, pauses}
use Rattle.rules.proofs.Reached.{no_farther}
use Rattle.rules.proofs.Reasons.{wrong_state, too_late, no_straddle}
use Rattle.rules.proofs.Resumes.{resumes, never_again}
use Rattle.rules.proofs.Since.{reference_since}
use Rattle.rules.proofs.Sound.{never_rubbish}
use Rattle.rules.proofs.Stories.{calls_step, stories_grow}
use Rattle.rules.proofs.TotalsAfter.{totals_after}
use Rattle.rules.proofs.TotalsRead.{times, times_add_up, counts, one_count, prices, never_wrong}
use Rattle.rules.proofs.Trades.{in_bands}
use Rattle.rules.proofs.Window.{trades}

pub demands : Demands
demands = record {
  numbers = numbers;
  book_numbers = book_numbers;
  setup_numbers = setup_numbers;
  listed = listed;
  wrong_state = wrong_state;
  too_late = too_late;
  no_straddle = no_straddle;
  calls_leave = calls_leave;
  shows = shows;
  fit = fit;
  answers = answers;
  next_is = next_is;
  book_next_lem = book_next_lem;
  next_settles = next_settles;
  fresh_is = fresh_is;
  by_story = by_story;
  calls_step = calls_step;
  stories_grow = stories_grow;
  refused = refused;
  others = others;
  never_rubbish = never_rubbish;
  of_any_machine = alike;
  machine_laws_lem = counting_laws;
  settled_alike = settled_alike;
  journal_is = journal_is;
  journals_are = journals_are;
  asked_grow = asked_grow;
  journals_grow = journals_grow;
  same_journal = same_journal;
  replayed = replayed;
  settled_on = settled_on;
  few_moments = few_moments;
  moments_are = moments_are;
  trades = trades;
  quotes = quotes;
  states = states;
  reference = reference;
  kept = kept;
  changes_only = changes_only;
  mean = mean;
  mean_between = mean_between;
  clock = clock;
  held_trades = held_trades;
  last_quotes = last_quotes;
  reference_since = reference_since;
  first_trade = first_trade;
  dates = dates;
  looked_at = looked_at;
  in_bands = in_bands;
  pauses = pauses;
  resumes = resumes;
  never_again = never_again;
  limit_pauses_lem = limit_pauses_lem;
  pauses_apart = pauses_apart;
  no_farther = no_farther;
  dates_few = dates_few;
  no_fewer = no_fewer;
  pauses_few = pauses_few;
  one_f = one_f;
  totals_around = around;
  totals_numbers = numbers_with;
  totals_kept = kept_totals;
  book_totals_lem = book_totals_lem;
  fresh_totals = fresh_totals;
  totals_after = totals_after;
  times = times;
  times_add_up = times_add_up;
  counts = counts;
  one_count = one_count;
  prices = prices;
  never_wrong = never_wrong;
  by_hand_lem = by_hand_lem;
  as_printed_lem = as_printed_lem;
  pauses_counted = pauses_counted;
  totals_counted = totals_counted;
  at_edges = at_edges;
}
