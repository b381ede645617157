-- The table of examples, the days and the edges, by computation.
-- Assumes nothing.
use mathlib.Core.Path.{refl}
use Rattle.forms.specs.Choice.{if◌then◌otherwise◌, all_of, any_of}
use Rattle.forms.specs.Checks.{first}
use Rattle.forms.specs.Tables.{every}
use Rattle.band.specs.Band.{percent_of, factor_of, spread_of, cent, lower_of, upper_of, bands_of, printed_of, distance, moves_of}
use Rattle.band.specs.Examples as arithmetic
use Rattle.rules.specs.Stock.{total, oldest, figures_of, staying}
use Rattle.rules.specs.Quotes.{in_force, k_time, bands_in, higher, lesser, best_bid, best_offer, bid_flag, offer_flag, best_of, flagged, crossed}
use Rattle.rules.specs.States.{look, begin_trading, leave, test, begin_pause, shut}
use Rattle.rules.specs.Moments.{moment_table, sooner, earliest, next, due_by, past_at, first_five, effect, window_after, come, fire}
use Rattle.rules.specs.Messages.{taken, trade_rules, quote_rules, does, after}
use Rattle.rules.specs.Numbers.{not_price, bad_end, bad_setup, bad_times, or_not_side, bad_quotes, not_reference, bad_reference, bad_trade, see, bad_trades, bad_stock, rubbish, out_of_range, not_primary, outside, own_checks, message_checks, checks, tells, time_checks, settle_checks, settles, read_checks, reads, answer, after_telling, after_settling, notice, tell_answer, settle_answer, next_answer, fresh, bad_shape, call_checks, or_bad_setup, setup_checks, sets_up, setup_answer}
use Rattle.rules.specs.Machine.{of, number_in, step_in, happens}
use Rattle.rules.specs.Totals.{wrong_totals, brought, longer, one_more, begins_limit, in_pause, begins_pause, highest_with, lowest_with}
use Rattle.rules.specs.Counted as counted
use Rattle.rules.specs.Book.{book_tells, book_settles, book_next, book_totals}
use Rattle.rules.specs.Readings.{limit_pauses}
use Rattle.rules.specs.Examples.{right, by_hand}
use Rattle.rules.specs.Days.{line, printed, same_numbers, same_lines, as_printed, days, pauses_by, reopened, evenly, totals_of}
use Rattle.rules.specs.Edges.{as_answered, edges}
use Rattle.rules.specs.Demands.{ByHand, AsPrinted, PausesCounted, TotalsCounted, AtEdges}

pub by_hand_lem : ByHand
unfolding if◌then◌otherwise◌ all_of any_of every percent_of factor_of spread_of cent lower_of upper_of bands_of printed_of distance moves_of arithmetic.right arithmetic.by_hand staying in_force k_time bands_in higher lesser best_bid best_offer bid_flag offer_flag best_of flagged crossed look test fresh right by_hand
by_hand_lem = refl

pub as_printed_lem : AsPrinted
unfolding if◌then◌otherwise◌ all_of any_of first every percent_of factor_of spread_of cent lower_of upper_of bands_of printed_of distance moves_of total oldest figures_of staying in_force k_time bands_in higher lesser best_bid best_offer bid_flag offer_flag best_of flagged crossed look begin_trading leave test begin_pause shut moment_table sooner earliest next due_by past_at first_five effect window_after come taken trade_rules quote_rules does after not_price bad_end bad_setup bad_times or_not_side bad_quotes not_reference bad_reference bad_trade see bad_trades bad_stock rubbish out_of_range not_primary outside own_checks message_checks checks tells time_checks settle_checks settles answer after_telling after_settling tell_answer settle_answer fresh line call_checks bad_shape fire notice number_in step_in book_tells book_settles printed same_numbers same_lines as_printed days counted.fresh counted.or_wrong counted.after counted.fire counted.after_telling counted.tell_answer counted.settle_answer wrong_totals brought longer one_more begins_limit in_pause begins_pause highest_with lowest_with
as_printed_lem = refl

pub at_edges : AtEdges
unfolding if◌then◌otherwise◌ all_of any_of first every percent_of factor_of spread_of cent lower_of upper_of bands_of printed_of distance moves_of total oldest figures_of staying in_force k_time bands_in higher lesser best_bid best_offer bid_flag offer_flag best_of flagged crossed look begin_trading leave test begin_pause shut moment_table sooner earliest next due_by past_at first_five effect window_after come taken trade_rules quote_rules does after not_price bad_end bad_setup bad_times or_not_side bad_quotes not_reference bad_reference bad_trade see bad_trades bad_stock rubbish out_of_range not_primary outside own_checks message_checks checks tells time_checks settle_checks settles read_checks reads answer after_telling after_settling tell_answer settle_answer next_answer fresh line same_numbers bad_shape call_checks or_bad_setup setup_checks sets_up setup_answer fire notice book_tells book_settles book_next book_totals as_answered edges counted.fresh counted.after_settling counted.totals_answer counted.or_wrong counted.after counted.fire counted.after_telling counted.tell_answer counted.settle_answer counted.next_answer wrong_totals brought longer one_more begins_limit in_pause begins_pause highest_with lowest_with
at_edges = refl

pub pauses_counted : PausesCounted
unfolding if◌then◌otherwise◌ all_of any_of first every percent_of factor_of spread_of cent lower_of upper_of bands_of printed_of distance moves_of total oldest figures_of staying in_force k_time bands_in higher lesser best_bid best_offer bid_flag offer_flag best_of flagged crossed look begin_trading leave test begin_pause shut moment_table sooner earliest next due_by past_at first_five effect window_after come taken trade_rules quote_rules does after not_price bad_end bad_setup bad_times or_not_side bad_quotes not_reference bad_reference bad_trade see bad_trades bad_stock rubbish out_of_range not_primary outside own_checks message_checks checks tells time_checks settle_checks settles answer after_telling after_settling tell_answer settle_answer fresh call_checks bad_shape fire notice number_in step_in of happens limit_pauses pauses_by reopened evenly counted.fresh counted.or_wrong counted.after counted.fire wrong_totals brought longer one_more begins_limit in_pause begins_pause highest_with lowest_with
pauses_counted = (refl, (refl, (refl, (refl, (refl, refl)))))

pub totals_counted : TotalsCounted
unfolding if◌then◌otherwise◌ all_of any_of first every percent_of factor_of spread_of cent lower_of upper_of bands_of printed_of distance moves_of total oldest figures_of staying in_force k_time bands_in higher lesser best_bid best_offer bid_flag offer_flag best_of flagged crossed look begin_trading leave test begin_pause shut moment_table sooner earliest next due_by past_at first_five effect window_after come taken trade_rules quote_rules does after not_price bad_end bad_setup bad_times or_not_side bad_quotes not_reference bad_reference bad_trade see bad_trades bad_stock rubbish out_of_range not_primary outside own_checks message_checks checks tells time_checks settle_checks settles answer after_telling after_settling tell_answer settle_answer fresh call_checks bad_shape fire notice number_in step_in totals_of counted.fresh counted.or_wrong counted.after counted.fire wrong_totals brought longer one_more begins_limit in_pause begins_pause highest_with lowest_with
totals_counted = (refl, (refl, (refl, (refl, (refl, (refl, refl))))))
