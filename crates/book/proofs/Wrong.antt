-- The eight wrong books fail, each at a few calls on a book of one stock: the silent one demand 1, the others demand 2.
-- Assumes nothing.
use Prim.Native.Nat.{ℕ, ◌*◌}
use mathlib.Core.List.{List, [], ◌∷◌, flatten}
use mathlib.Core.Path.{◌≡◌, refl, sym, ap, ◌∙◌}
use native.Mathlib.Omega.{arith}
use lib.ListN.{length, get_or, replicate}
use Rattle.forms.specs.Choice.{if◌then◌otherwise◌, all_of, any_of}
use Rattle.forms.specs.Checks.{first}
use Rattle.band.specs.Band.{percent_of, factor_of, spread_of, cent, lower_of, upper_of, bands_of}
use Rattle.rules.specs.Stock.{total, oldest, figures_of}
use Rattle.rules.specs.Quotes.{in_force, k_time, bands_in, higher, lesser, best_bid, best_offer, bid_flag, offer_flag, best_of, flagged, crossed}
use Rattle.rules.specs.States.{look, begin_trading}
use Rattle.rules.specs.Moments.{moment_table, sooner, earliest, next, due_by, past_at}
use Rattle.rules.specs.Messages.{taken, quote_rules, does, after}
use Rattle.rules.specs.Numbers.{not_price, bad_end, bad_setup, bad_times, or_not_side, bad_quotes, not_reference, bad_reference, bad_trade, see, bad_trades, bad_stock, rubbish, out_of_range, not_primary, own_checks, message_checks, checks, tells, read_checks, reads, answer, fresh, or_bad_setup, bad_shape, call_checks, setup_checks, zeros}
use Rattle.rules.specs.Totals.{wrong_totals, brought, longer, one_more, begins_limit, in_pause, begins_pause, highest_with, lowest_with}
use Rattle.rules.specs.Counted as counted
use Rattle.rules.specs.Counted.{Counted}
use Rattle.rules.specs.Machine.{tell, number_in, step_in, run}
use Rattle.rules.specs.Book.{counting, blank, book, book_reads, book_next, book_totals}
use Rattle.rules.specs.declared.Message.{Message}
use Rattle.rules.specs.declared.Message.TheVariants.{Quote, Opening}
use Rattle.window.specs.Places.{laid}
use Rattle.rules.specs.declared.Answer.{Answer}
use Rattle.rules.specs.declared.Notice.{Notice}
use Rattle.rules.specs.declared.Summary.{Summary}
use Rattle.rules.specs.declared.Upcoming.{Upcoming}
use Rattle.stock.specs.View.{telling}
use Rattle.calls.specs.Setup.{setups_of, setup_number}
use Rattle.book.specs.Lent.{Lent, lent, no_record, calling, reading_in, coming_in, totalling_in}
use Rattle.book.specs.Layout.{layout}
use Rattle.book.specs.Setup.{number_of, setting, SetsUp}
use Rattle.book.specs.Demands.{Made, told, was_read, next_given, totals_given, calls, Demand1, Demand2, silent, refusing, fixed, leaving, acknowledging, blind, unaware, uncounting}
use Rattle.book.proofs.Chains.{demand2}
use Rattle.book.proofs.SettingUp.{same_number}

-- one stock, one of whose places is not 0
abbrev used : Lent
used = lent (no_record ∷ []) (1 ∷ replicate 511 0) (replicate 512 0)

-- tier 1, leverage 1, primary 0, a close of a dollar
abbrev one : List ℕ
one = 1 ∷ 1 ∷ 0 ∷ 10_000 ∷ []

-- the session's end
abbrev end : ℕ
end = 23_400_000

-- it is set up; with a session's end of 0 it is not
accepted : number_of end one used ≡ 0
unfolding setup_number setup_checks bad_shape bad_end bad_setup or_bad_setup not_price first any_of all_of if◌then◌otherwise◌ setups_of
accepted = refl

not_accepted : number_of 0 one used ≡ 2
unfolding setup_number setup_checks bad_shape bad_end bad_setup or_bad_setup not_price first any_of all_of if◌then◌otherwise◌ setups_of
not_accepted = refl

pub silent_fails : Demand1 silent → ⊥
silent_fails d = (d.setup_answered end one used).2

pub refusing_fails : Demand2 refusing → ⊥
refusing_fails d = let n = same_number end one used 1 (d.setup_number_lem end one used used (zeros 1) (refl, refl)) in omega (arith, n, accepted)

pub fixed_fails : (x : Answer) (y : Notice) (u : Upcoming) (s : Summary) → Demand2 (fixed x y u s) → ⊥
fixed_fails x y u s d =
    let n = same_number end one used x.number (d.setup_number_lem end one used used x refl) in
    let m = same_number 0 one used x.number (d.setup_number_lem 0 one used used x refl) in
    omega (arith, n, m, accepted, not_accepted)

-- the setup is answered 0 on the used book
set_up : (setting end one used).answer ≡ zeros 0
unfolding setting setup_number setup_checks bad_shape bad_end bad_setup or_bad_setup not_price first any_of all_of if◌then◌otherwise◌ setups_of
set_up = refl

pub leaving_fails : Demand2 leaving → ⊥
unfolding flatten laid fresh counted.fresh setups_of
leaving_fails d =
    let same = (d.from_setup end one used used used (zeros 0) [] (sym set_up, refl) refl refl).1 in
    let z : ◌≡◌ {A = ℕ} 1 0 = ap (λ (b : Lent). get_or b.times 0 0) same in
    omega (arith, z)

-- a quote, which every stock takes that is not closed
abbrev quoted : List Made
quoted = told 0 (Quote 1 0 0 0) (zeros 0) ∷ []

-- it moves the clock
moves : (get_or (layout (run counting (blank end) (book end (setups_of one)) (calls quoted))).records 0 no_record).stock.course.clock ≡ 1
unfolding if◌then◌otherwise◌ all_of any_of first total oldest figures_of in_force k_time bands_in look moment_table sooner earliest next due_by past_at taken quote_rules does after not_price bad_end bad_setup bad_times or_not_side bad_quotes not_reference bad_reference bad_trade see bad_trades bad_stock rubbish out_of_range not_primary own_checks message_checks checks tells fresh number_in step_in setups_of counted.fresh counted.or_wrong counted.after wrong_totals brought longer one_more begins_limit in_pause begins_pause highest_with lowest_with
moves = refl

pub acknowledging_fails : Demand2 acknowledging → ⊥
unfolding fresh counted.fresh setups_of
acknowledging_fails d =
    let b = (setting end one used).book in
    let before = (d.from_setup end one used b b (zeros 0) [] (ap (λ a. record { answer = a; book = b }) (sym set_up)) refl refl).1 in
    let later = (d.from_setup end one used b b (zeros 0) quoted (ap (λ a. record { answer = a; book = b }) (sym set_up)) refl (b, (refl, refl), refl)).1 in
    let clock : Lent → ℕ = λ b. (get_or b.records 0 no_record).stock.course.clock in
    let z : ◌≡◌ {A = ℕ} 0 1 = ap clock (sym before ∙ later) ∙ moves in
    omega (arith, z)

-- ------------------------------------------------------------------ what reading, what comes next and the totals tell

-- the primary opens the stock
abbrev opens : Message
opens = Opening 1 0 10_000

-- the stock as the rules have it, fresh and opened
abbrev new : List Counted
new = book end (setups_of one)

abbrev opened : List Counted
opened = step_in counting (blank end) new (record { at = 0; it = tell opens })

-- what the rules answer
abbrev reads_in : List Counted → Answer
reads_in hs = book_reads end hs (512 * length hs) (512 * length hs) 0

abbrev comes_in : List Counted → Upcoming
comes_in hs = book_next end hs (512 * length hs) (512 * length hs) 0

abbrev totals_in : List Counted → Summary
totals_in hs = book_totals end hs (512 * length hs) (512 * length hs) 0

-- they answer 0 to all, but do not tell the same: the state is 0 and then 1, next comes f and then h, and the time in Waiting is 0 and then 1
tells_apart :
    ((reads_in new).number ≡ 0) × ((reads_in opened).number ≡ 0) × ((reads_in new).state ≡ 0) × ((reads_in opened).state ≡ 1)
    × ((comes_in new).number ≡ 0) × ((comes_in opened).number ≡ 0) × ((comes_in new).time ≡ 300_000) × ((comes_in opened).time ≡ 30_001)
    × ((totals_in new).number ≡ 0) × ((totals_in opened).number ≡ 0) × ((totals_in new).totals.spent.waiting ≡ 0) × ((totals_in opened).totals.spent.waiting ≡ 1)
unfolding if◌then◌otherwise◌ all_of any_of first percent_of factor_of spread_of cent lower_of upper_of bands_of total oldest figures_of in_force k_time bands_in higher lesser best_bid best_offer bid_flag offer_flag best_of flagged crossed look begin_trading moment_table sooner earliest next due_by past_at taken does after not_price bad_end bad_setup bad_times or_not_side bad_quotes not_reference bad_reference bad_trade see bad_trades bad_stock rubbish out_of_range not_primary own_checks message_checks checks tells read_checks reads answer fresh bad_shape call_checks number_in step_in book_reads book_next book_totals setups_of counted.fresh counted.or_wrong counted.after wrong_totals brought longer one_more begins_limit in_pause begins_pause highest_with lowest_with counted.read_answer counted.next_answer counted.totals_answer
tells_apart = (refl, refl, refl, refl, refl, refl, refl, refl, refl, refl, refl, refl)

-- the bytes of both
abbrev fresh_book : Lent
fresh_book = (setting end one used).book

abbrev opened_book : Lent
opened_book = (calling 0 (telling opens) zeros fresh_book).book

started : SetsUp end one used (zeros 0) fresh_book
started = ap (λ a. record { answer = a; book = fresh_book }) (sym set_up)

-- asked, opened and asked again
abbrev again : Made → Made → List Made
again x y = x ∷ told 0 opens (calling 0 (telling opens) zeros fresh_book).answer ∷ y ∷ []

-- a function of the number would give both the same
pub blind_fails : (x : ℕ → Answer) → Demand2 (blind x) → ⊥
unfolding setups_of
blind_fails x d =
    let r = (demand2.from_setup end one used fresh_book opened_book (zeros 0) (again (was_read 0 (reading_in 0 fresh_book)) (was_read 0 (reading_in 0 opened_book)))
    started refl (refl, (opened_book, refl, (refl, refl)))).0 in
    let k = (d.from_setup end one used fresh_book opened_book (zeros 0)
    (again (was_read 0 (x (reading_in 0 fresh_book).number)) (was_read 0 (x (reading_in 0 opened_book).number)))
    started refl (refl, (opened_book, refl, (refl, refl)))).0 in
    let same : (reading_in 0 fresh_book).number ≡ (reading_in 0 opened_book).number =
    ap (λ a. a.number) r.0 ∙ tells_apart.0 ∙ sym (ap (λ a. a.number) r.1.1.0 ∙ tells_apart.1) in
    let z : ◌≡◌ {A = ℕ} 0 1 = sym tells_apart.2 ∙ ap (λ a. a.state) (sym k.0 ∙ ap x same ∙ k.1.1.0) ∙ tells_apart.3 in
    omega (arith, z)

pub unaware_fails : (u : ℕ → Upcoming) → Demand2 (unaware u) → ⊥
unfolding setups_of
unaware_fails u d =
    let r = (demand2.from_setup end one used fresh_book opened_book (zeros 0) (again (next_given 0 (coming_in 0 fresh_book)) (next_given 0 (coming_in 0 opened_book)))
    started refl (refl, (opened_book, refl, (refl, refl)))).0 in
    let k = (d.from_setup end one used fresh_book opened_book (zeros 0)
    (again (next_given 0 (u (coming_in 0 fresh_book).number)) (next_given 0 (u (coming_in 0 opened_book).number)))
    started refl (refl, (opened_book, refl, (refl, refl)))).0 in
    let same : (coming_in 0 fresh_book).number ≡ (coming_in 0 opened_book).number =
    ap (λ a. a.number) r.0 ∙ tells_apart.4 ∙ sym (ap (λ a. a.number) r.1.1.0 ∙ tells_apart.5) in
    let z : ◌≡◌ {A = ℕ} 300_000 30_001 = sym tells_apart.6 ∙ ap (λ a. a.time) (sym k.0 ∙ ap u same ∙ k.1.1.0) ∙ tells_apart.7 in
    omega (arith, z)

pub uncounting_fails : (s : ℕ → Summary) → Demand2 (uncounting s) → ⊥
unfolding setups_of
uncounting_fails s d =
    let r = (demand2.from_setup end one used fresh_book opened_book (zeros 0) (again (totals_given 0 (totalling_in 0 fresh_book)) (totals_given 0 (totalling_in 0 opened_book)))
    started refl (refl, (opened_book, refl, (refl, refl)))).0 in
    let k = (d.from_setup end one used fresh_book opened_book (zeros 0)
    (again (totals_given 0 (s (totalling_in 0 fresh_book).number)) (totals_given 0 (s (totalling_in 0 opened_book).number)))
    started refl (refl, (opened_book, refl, (refl, refl)))).0 in
    let same : (totalling_in 0 fresh_book).number ≡ (totalling_in 0 opened_book).number =
    ap (λ a. a.number) r.0 ∙ tells_apart.8 ∙ sym (ap (λ a. a.number) r.1.1.0 ∙ tells_apart.9) in
    let z : ◌≡◌ {A = ℕ} 0 1 = sym tells_apart.10 ∙ ap (λ a. a.totals.spent.waiting) (sym k.0 ∙ ap s same ∙ k.1.1.0) ∙ tells_apart.11 in
    omega (arith, z)
