-- The laws of specs/Laws.antt.
-- Assumes nothing.
use Prim.Native.Nat.{ℕ, zero, suc, ◌+◌, ◌-◌, ◌*◌, ◌≤◌, ◌<◌}
use mathlib.Core.Bool.{Bool, true, false, not}
use mathlib.Core.List.{List, [], ◌∷◌, ◌++◌}
use mathlib.Core.Logic.{inl, inr}
use mathlib.Core.Path.{◌≡◌, refl, sym, ap, ◌∙◌}
use native.Mathlib.Nat.{mod-eq_of_lt}
use native.Mathlib.Decide.{dec_le}
use native.Mathlib.Omega.{arith}
use borrow.Author.Tests.{ltb-true, ltb-false, le-leb, ne_eqb}
use lib.Dec.{leb, ltb, eqb}
use lib.ListN.{length, get_or, set, take, drop, length-append, length-set, length-drop, get_or-append}
use lib.Seq.{sets, get_or-append_seam, take_at, length-take-le, get_or-take, get_or-drop}
use Rattle.std.specs.Prelude.{Option, Some, None}
use Rattle.std.specs.Option.{is_some}
use Rattle.std.proofs.lemmas.Grind.{common_steps}
use Rattle.std.proofs.lemmas.Option.{none-some}
use Rattle.forms.specs.Choice.{if◌then◌otherwise◌, all_of}
use Rattle.forms.specs.Words.{◌or◌, ◌and◌}
use Rattle.forms.proofs.Choice.{if_true, if_false, all_yes, all_empty}
use Rattle.forms.proofs.Decides.{Decides, words, exactly_where, reworded}
use Rattle.rules.specs.Words.{IsEnd, IsSetup}
use Rattle.rules.specs.Numbers.{bad_end, bad_setup}
use Rattle.rules.specs.declared.Setup.{Setup}
use Rattle.rules.proofs.Ranges.{end_is, in_end, setup_is, in_setup}
use Rattle.tape.specs.Lines.{line_of, Reads, to_feed}
use Rattle.tape.specs.Lines.Reads.{a_line}
use Rattle.tape.specs.Words.{IsFeed}
use Rattle.tape.specs.declared.Line.{Line}
use Rattle.tape.specs.Printing.{printed, printing}
use Rattle.tape.proofs.Laws.{laws as of_tape}
use Rattle.day.specs.Flow.{reach_of, between, Sees, lowered}
use Rattle.day.specs.Spoken.{spoken_of}
use Rattle.day.specs.Contents.{contents_of, is_setup, entered}
use Rattle.day.specs.Printed.{printed_of, place_of}
use Rattle.day.specs.declared.Contents.{Contents}
use Rattle.day.specs.declared.flow.Seen.{Seen}
use Rattle.day.specs.Laws.{TextFound, NoneFound, LineFound, LineTaken, NoneTaken, Flushes, Lowers, Messages, NoOther, AtMessage, SameMessage, Ended, QuoteHeard, GoodContents, SaysContents, WhichSetup, Enters, NineNumbers, LineIsPut, Laws}

-- ------------------------------------------------------------------ the lines of the input's block

-- the first line feed is behind a text that has none
feed_behind : (text rest : List ℕ) → ((j : ℕ) → j < length text → ¬ (get_or text j 0 ≡ 10)) → to_feed (text ++ 10 ∷ rest) ≡ length text
feed_behind text rest none = go (dec_le (length text) k) (dec_le k (length text))
  where
    k : ℕ
    k = to_feed (text ++ 10 ∷ rest)

    there : IsFeed (text ++ 10 ∷ rest) k
    there = of_tape.feed_is (text ++ 10 ∷ rest)

    too_soon : k < length text → k ≡ length (text ++ 10 ∷ rest) or (k < length (text ++ 10 ∷ rest) and get_or (text ++ 10 ∷ rest) k 0 ≡ 10) → ⊥
    too_soon l (inl q) = absurd (omega (arith, length-append text (10 ∷ rest), l, q))
    too_soon l (inr q) = none k l (sym (get_or-append text (10 ∷ rest) 0 k l) ∙ q.1)

    go : Dec (length text ≤ k) → Dec (k ≤ length text) → k ≡ length text
    go (yes h) (yes l) = omega (arith, h, l)
    go (yes h) (no l) = absurd (there.0 (length text) (omega (arith, l)) (get_or-append_seam text 10 rest 0))
    go (no h) l = absurd (too_soon (omega (arith, h)) there.1)

-- a line feed stands where the first one is
feed_at : (text : List ℕ) → to_feed text < length text → get_or text (to_feed text) 0 ≡ 10
feed_at text l = go (of_tape.feed_is text).1
  where
    go : to_feed text ≡ length text or (to_feed text < length text and get_or text (to_feed text) 0 ≡ 10) → get_or text (to_feed text) 0 ≡ 10
    go (inl q) = absurd (omega (arith, q, l))
    go (inr q) = q.1

-- the bytes up to some place behind a line feed
through : (text rest : List ℕ) (n : ℕ) → length text < n → (k : ℕ) × (take n (text ++ 10 ∷ rest) ≡ text ++ 10 ∷ take k rest)
through text rest zero l = absurd (omega arith)
through [] rest (suc n) l = (n, refl)
through (c ∷ text) rest (suc n) l = let t = through text rest n (omega arith) in (t.0, ap (λ xs. c ∷ xs) t.1)

-- a text that ends at its line feed, whatever follows, is found
found_there : (bytes text rest : List ℕ) (from to : ℕ) (r : Option Seen) → length text ≤ 56 → ((more : List ℕ) → to_feed (text ++ 10 ∷ more) ≡ length text)
    → drop from bytes ≡ text ++ 10 ∷ rest → from + length text < to → Sees bytes from to r
    → (s : Seen) × (r ≡ Some s and Reads text s.line and s.next ≡ from + length text + 1)
found_there bytes text rest from to r n there d l = go r
  where
    reached : from + length text < reach_of from to
    reached = omega arith

    ends : to_feed (between bytes from (reach_of from to)) ≡ length text
    ends =
        let t = through text rest (reach_of from to - from) (omega (arith, reached)) in
        ap (λ xs. to_feed (take (reach_of from to - from) xs)) d ∙ ap to_feed t.1 ∙ there (take t.0 rest)

    before : between bytes from (from + length text) ≡ text
    before = ap (take (from + length text - from)) d ∙ take_at text (10 ∷ rest) (from + length text - from) (omega arith)

    go : (r : Option Seen) → Sees bytes from to r → (s : Seen) × (r ≡ Some s and Reads text s.line and s.next ≡ from + length text + 1)
    go (Some s) e = (s, (refl, ((rw (ends, before) at e).1, (rw ends at e).2)))
    go None e = absurd (omega (arith, reached, ends))

text_found : TextFound
text_found bytes text rest from to r n others = found_there bytes text rest from to r n (λ more. feed_behind text more others)

none_found : NoneFound
none_found bytes from to r n others = go r
  where
    part : List ℕ
    part = between bytes from (reach_of from to)

    go : (r : Option Seen) → Sees bytes from to r → r ≡ None
    go (Some s) e =
        let s : from + to_feed part < reach_of from to = e.0 in
        let long : length part ≡ reach_of from to - from = length-take-le (reach_of from to - from) (drop from bytes) (rw (length-drop from bytes) (omega arith)) in
        let ten : get_or part (to_feed part) 0 ≡ 10 = feed_at part (omega (arith, s, long)) in
        let there = get_or-take (reach_of from to - from) (drop from bytes) (to_feed part) 0 (omega (arith, s)) ∙ get_or-drop from bytes (to_feed part) 0 in
        absurd (others (to_feed part) (omega (arith, s)) (omega (arith, s)) (sym there ∙ ten))
    go None e = refl

same_seen : (s : Seen) (line : Option Line) (next : ℕ) → s.line ≡ line → s.next ≡ next → s ≡ record { line = line; next = next }
same_seen s line next e n = rw (← e, ← n) refl

line_found : LineFound
line_found bytes text rest from to letter words r p d l sees =
    let f = found_there bytes text rest from to r (of_tape.no_longer text letter words p) (λ more. of_tape.ends_there text more letter words p) d l sees in
    let e : f.0.line ≡ Some (line_of letter words) = of_tape.read_determined text f.0.line (Some (line_of letter words)) f.1.1.0 (a_line letter words p refl) in
    let n : f.0.next ≡ from + length text + 1 = f.1.1.1 in
    f.1.0 ∙ ap (λ (s : Seen). Some s) (same_seen f.0 _ _ e n)

line_taken : LineTaken
line_taken line next f = (refl, (refl, (refl, (refl, (refl, (refl, refl))))))

none_taken : NoneTaken
none_taken f = (refl, refl)

flushes : Flushes
flushes live f = (refl, (refl, (refl, (refl, (refl, refl)))))

lowers : (bytes : List ℕ) (gone keep : ℕ) → gone + keep ≤ length bytes → Lowers bytes (lowered bytes gone keep) gone keep
lowers bytes gone keep h = record { kept_first = λ j l. grind (arith, common_steps); others_stay = λ j l. grind (arith, common_steps); as_long = grind (arith, common_steps) }

-- ------------------------------------------------------------------ the message of a line

messages : (stock time : ℕ) (rest : List ℕ) → Messages stock time rest
unfolding spoken_of if◌then◌otherwise◌
messages stock time rest = record {
  t_is = λ price. refl;
  q_is = λ participant bid offer. refl;
  o_is = λ participant price. refl;
  p_is = λ participant. refl;
  r_is = λ participant price. refl;
  x_is = λ participant price. refl;
}

no_other : NoOther
unfolding spoken_of
no_other numbers letter n = simp (
  if_false,
  ne_eqb letter 84 (λ e. n (inl e)),
  ne_eqb letter 81 (λ e. n (inr (inl e))),
  ne_eqb letter 79 (λ e. n (inr (inr (inl e)))),
  ne_eqb letter 80 (λ e. n (inr (inr (inr (inl e))))),
  ne_eqb letter 82 (λ e. n (inr (inr (inr (inr (inl e)))))),
  ne_eqb letter 88 (λ e. n (inr (inr (inr (inr (inr (inl e))))))),
)

at_message_lem : AtMessage
at_message_lem letter stock time last left rest m f = (if_true f.live _ None, (if_false f.live _ None, (refl, (refl, refl))))

same_message : SameMessage
same_message d f = (if_true f.live _ None, (if_false f.live _ None, (refl, (refl, refl))))

ended : Ended
ended last f = (refl, (refl, (refl, refl)))

quote_heard : QuoteHeard
unfolding spoken_of if◌then◌otherwise◌
quote_heard r p = (_, (of_tape.read_determined _ r _ p of_tape.lines_are_read.1.1.1.0, refl))

-- ------------------------------------------------------------------ the lines ahead of the messages

-- a choice is there where its test holds, and is what it says
picked : (b : Bool) (c : Contents) → is_some (if b then Some c otherwise None) ≡ b
unfolding if◌then◌otherwise◌
picked true c = refl
picked false c = refl

picked_is : (b : Bool) (c d : Contents) → (if b then Some c otherwise None) ≡ Some d → c ≡ d
unfolding if◌then◌otherwise◌
picked_is true c d e = cc
picked_is false c d e = absurd (none-some d e)

good_contents : GoodContents
unfolding contents_of
good_contents letter stocks messages end rest =
    exactly_where
    (rw (picked (all_of tests_of) (record { stocks = stocks; messages = messages; end = end }))
    (reworded ((λ w. (w.0, (w.1.0, (w.1.1.0, in_end end w.1.1.1)))), (λ w. (w.0, (w.1.0, (w.1.1.0, (λ n. n w.1.1.1)))))) decided))
  where
    tests_of : List Bool
    tests_of = eqb letter 67 ∷ ltb 0 stocks ∷ leb stocks 8 ∷ not (bad_end end) ∷ []

    decided : Decides (all_of tests_of) (letter ≡ 67 and 0 < stocks and stocks ≤ 8 and ¬ ¬ IsEnd end)
    decided = search (words, end_is) depth 20

says_contents : SaysContents
unfolding contents_of
says_contents letter stocks messages end rest c e =
    let s = picked_is _ (record { stocks = stocks; messages = messages; end = end }) c e in
    (sym (ap (λ x. x.stocks) s), (sym (ap (λ x. x.messages) s), sym (ap (λ x. x.end) s)))

which_setup : WhichSetup
unfolding is_setup
which_setup letter tier leverage primary close rest = exactly_where (reworded ((λ w. (w.0, in_setup u w.1)), (λ w. (w.0, (λ n. n w.1)))) decided)
  where
    u : Setup
    u = record { tier = tier; leverage = leverage; primary = primary; close = close }

    decided : Decides (all_of (eqb letter 83 ∷ not (bad_setup u) ∷ [])) (letter ≡ 83 and ¬ ¬ IsSetup u)
    decided = search (words, setup_is) depth 20

enters : (list : List ℕ) (i tier leverage primary close : ℕ) → 4 * i + 4 ≤ length list
    → Enters list (entered list i (record { tier = tier; leverage = leverage; primary = primary; close = close })) i tier leverage primary close
unfolding entered
enters list i tier leverage primary close h = record {
  tier_first = grind (arith, common_steps);
  then_leverage = grind (arith, common_steps);
  then_primary = grind (arith, common_steps);
  then_close = grind (arith, common_steps);
  others_stay = λ j o. stays j o;
  as_long = simp length-set;
}
  where
    stays : (j : ℕ) → j < 4 * i or 4 * i + 4 ≤ j → get_or (set (set (set (set list (4 * i) tier) (4 * i + 1) leverage) (4 * i + 2) primary) (4 * i + 3) close) j 0 ≡ get_or list j 0
    stays j (inl l) = grind (arith, common_steps)
    stays j (inr l) = grind (arith, common_steps)

-- ------------------------------------------------------------------ what is printed

nine_numbers : NineNumbers
nine_numbers number state reference lower upper bid bid_flag offer offer_flag = refl

line_is_put : LineIsPut
unfolding printing place_of
line_is_put bytes at stock time letter a h k = go (ltb (length bytes - at) 380) (ltb-true (length bytes - at) 380) (ltb-false (length bytes - at) 380)
  where
    room : (place : ℕ) → place + 380 ≤ length bytes → all_of (leb 9 16 ∷ leb (place + 380) (length bytes) ∷ []) ≡ true
    room place l = all_yes _ _ refl (all_yes _ _ (le-leb (place + 380) (length bytes) l) all_empty)

    go : (full : Bool) → (full ≡ true → length bytes - at < 380) → (full ≡ false → 380 ≤ length bytes - at)
        → let text = printed stock time letter (printed_of a) in
        let place = if full then 0 otherwise at in
        (at + 380 ≤ length bytes → place ≡ at) and (length bytes < at + 380 → place ≡ 0)
        and printing bytes place stock time letter (printed_of a) ≡ record { to = place + length text; bytes = sets bytes place text }
    go true s l = ((λ q. absurd (let m = s refl in omega arith)), ((λ _. if_true true 0 at refl), rw (if_true true 0 at refl) (if_true _ _ _ (room 0 h))))
    go false s l = ((λ _. if_false false 0 at refl), ((λ q. absurd (let m = l refl in omega arith)), rw (if_false false 0 at refl) (if_true _ _ _ (room at (let q = l refl in omega arith)))))

-- ------------------------------------------------------------------ all of them

pub laws : Laws
laws = record {
  text_found = text_found;
  none_found = none_found;
  line_found = line_found;
  line_taken = line_taken;
  none_taken = none_taken;
  flushes = flushes;
  lowers = lowers;
  messages = messages;
  no_other = no_other;
  at_message_lem = at_message_lem;
  same_message = same_message;
  ended = ended;
  quote_heard = quote_heard;
  good_contents = good_contents;
  says_contents = says_contents;
  which_setup = which_setup;
  enters = λ list i tier leverage primary close rest. enters list i tier leverage primary close;
  nine_numbers = nine_numbers;
  line_is_put = line_is_put;
  mark_stays = λ m l. mod-eq_of_lt l;
}
