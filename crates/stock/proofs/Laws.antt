-- The promises determine their results, and say what the rules say.
-- Assumes nothing.
use Prim.Native.Nat.{ℕ, ◌≤◌, max}
use mathlib.Core.Bool.{Bool, true, false}
use mathlib.Core.List.{List, map}
use mathlib.Core.Path.{◌≡◌, refl, sym, ap, subst, ◌∙◌}
use native.Mathlib.Nat.{max-le}
use native.Mathlib.Omega.{arith}
use borrow.Author.Tests.{lt-ltb, le-ltb, eq-eqb, ne_eqb, eqb-true}
use lib.Dec.{eqb}
use lib.ListN.{length, length-append, length-map, length-replicate, length-drop}
use Rattle.forms.specs.Choice.{if◌then◌otherwise◌}
use Rattle.forms.proofs.Choice.{if_true, if_false, if_arms, all_head, all_tail, all_yes, all_empty}
use Rattle.forms.proofs.Promises.{agree}
use Rattle.forms.specs.Promises.{Determines}
use Rattle.rules.specs.Stock.{Trade}
use Rattle.rules.specs.Numbers.{rubbish, zeros, no_notice, none_coming}
use Rattle.rules.specs.Counted.{Counted, after, fire, after_telling, after_settling, next_answer, no_summary, totals_answer}
use Rattle.rules.proofs.Answers.{nothing_shown, told_number, settled_number}
use Rattle.rules.proofs.Counted.{accepted}
use Rattle.rules.proofs.Passed.{told, settled}
use Rattle.window.specs.Places.{laid}
use Rattle.window.proofs.Laws as window
use Rattle.window.proofs.Window.{length_trades}
use Rattle.stock.proofs.Calls.{held_few, room, fired_few}
use Rattle.stock.specs.View.{Bytes, view, lay, in_shape, shaped, Outcome, Ruling, made, Leaves, told_by, telling, settled_by, settling, asked, answer_number, notice_number, reading, coming, totalling}
use Rattle.stock.specs.declared.Handed.{Handed}
use Rattle.stock.specs.Laws.{Left, NoNoticeIs, BytesAre, ShapedIs, ViewIs, ReadBack, ToldByTheRules, SettledByTheRules, ReadByTheRules, ToldInShape, SettledInShape, Unwritten, Laws}

bytes_are : BytesAre
bytes_are kept times prices = (refl, (refl, refl))

view_is : ViewIs
view_is b =
    (refl, (window.laws).trades_counted b.kept.count b.times b.prices, (window.laws).trade_in_place b.kept.count b.times b.prices, refl)

read_back : ReadBack
read_back h b = simp (window.laws).read_back

-- ------------------------------------------------------------------ how many places there are

length_laid : (n : ℕ) (front xs : List ℕ) → max n (length front) ≤ length xs → length (laid n front xs) ≡ length xs
unfolding laid
length_laid n front xs e = simp (length-append, length-replicate, length-drop) (omega arith)

shaped_is : ShapedIs
unfolding in_shape
shaped_is b = (
  (λ q. (eqb-true _ _ (all_head _ _ q), eqb-true _ _ (all_head _ _ (all_tail _ _ q)))),
  (λ k. all_yes _ _ (eq-eqb _ _ k.0) (all_yes _ _ (eq-eqb _ _ k.1) all_empty)),
)

lay_shaped : (h : Counted) (b : Bytes) → shaped b ≡ true → b.kept.count ≤ 512 → length h.whole.window ≤ 512 → shaped (lay h b) ≡ true
lay_shaped h b q c w =
    let k = (shaped_is b).0 q in
    (shaped_is (lay h b)).1 (as_long (λ t. t.at) b.times k.0, as_long (λ t. t.price) b.prices k.1)
  where
    as_long : (f : Trade → ℕ) (xs : List ℕ) → length xs ≡ 512 → length (laid b.kept.count (map f h.whole.window) xs) ≡ 512
    as_long f xs e = length_laid _ _ xs (max-le (omega arith) (simp length-map (omega arith))) ∙ e

-- what is laid writes no other unused place
laid_unwritten : (used : ℕ) (front xs : List ℕ) (held : ℕ) → length front ≡ held → Unwritten used held xs (laid used front xs)
laid_unwritten used front xs held e j h =
    let z = (window.laws).freed_are_zero used front xs j (omega arith) in
    ((λ l. z ∙ if_true _ _ _ (lt-ltb j used l)), (λ l. z ∙ if_false _ _ _ (le-ltb j used l)))

stays_unwritten : (used : ℕ) (xs : List ℕ) → Unwritten used used xs xs
stays_unwritten used xs j h = ((λ l. absurd (omega arith)), (λ _. refl))

abbrev Both : Bytes → Bytes → Type 0
Both b x = Unwritten b.kept.count x.kept.count b.times x.times × Unwritten b.kept.count x.kept.count b.prices x.prices

lay_unwritten : (h : Counted) (b : Bytes) → Both b (lay h b)
lay_unwritten h b = (laid_unwritten _ _ _ _ (length-map h.whole.window (λ t. t.at)), laid_unwritten _ _ _ _ (length-map h.whole.window (λ t. t.price)))

same_unwritten : (b : Bytes) → Both b b
same_unwritten b = (stays_unwritten b.kept.count b.times, stays_unwritten b.kept.count b.prices)

-- ------------------------------------------------------------------ what any call comes to

-- what a call by a rule leaves
module _ {A : Type 0} (rule : Ruling A) (beside : ℕ → A) (b : Bytes) (o : Outcome A) (e : o ≡ made rule beside b) where
  abbrev left : Bytes
  left = if eqb (rule.number (view b)) 0 then lay (rule.next (view b)) b otherwise b

  all_of_it : shaped b ≡ true → o ≡ record { answer = rule.answer (view b); bytes = left }
  unfolding made
  all_of_it q = e ∙ simp (q, if_true)

  -- the stock of the rule is left, and its answer given
  pub by_the_rules : shaped b ≡ true
      → (o.answer ≡ rule.answer (view b)) × (view o.bytes ≡ (if eqb (rule.number (view b)) 0 then rule.next (view b) otherwise view b))
  by_the_rules q =
      let all = all_of_it q in
      (ap (λ (o : Outcome A). o.answer) all, ap (λ (o : Outcome A). view o.bytes) all ∙ go (eqb (rule.number (view b)) 0) refl)
    where
      go : (x : Bool) → eqb (rule.number (view b)) 0 ≡ x → view left ≡ (if eqb (rule.number (view b)) 0 then rule.next (view b) otherwise view b)
      go true z = simp (z, if_true) (read_back (rule.next (view b)) b)
      go false z = simp (z, if_false)

  pub gets_one : shaped b ≡ false → o ≡ record { answer = beside 1; bytes = b }
  unfolding made
  gets_one q = e ∙ simp (q, if_false)

  pub unchanged : (number : A → ℕ) → ((h : Counted) → number (rule.answer h) ≡ rule.number h) → (number o.answer ≡ 0 → ⊥) → o.bytes ≡ b
  unchanged number is z = go (shaped b) refl
    where
      go : (x : Bool) → shaped b ≡ x → o.bytes ≡ b
      go true q =
          let all = all_of_it q in
          let not_0 : rule.number (view b) ≡ 0 → ⊥ = λ y. z (ap (λ (o : Outcome A). number o.answer) all ∙ is (view b) ∙ y) in
          ap (λ (o : Outcome A). o.bytes) all ∙ simp (ne_eqb _ 0 not_0, if_false)
      go false q = ap (λ (o : Outcome A). o.bytes) (gets_one q)

  unwritten : Both b o.bytes
  unfolding made
  unwritten = subst (λ (o : Outcome A). Both b o.bytes) (sym e) (if_arms (λ (o : Outcome A). Both b o.bytes) (shaped b) {x = record { answer = rule.answer (view b); bytes = left }} {y = record { answer = beside 1; bytes = b }}
      (λ _. if_arms (λ x. Both b x) (eqb (rule.number (view b)) 0) {x = lay (rule.next (view b)) b} {y = b} (λ _. lay_unwritten (rule.next (view b)) b) (λ _. same_unwritten b)) (λ _. same_unwritten b))

  -- the places stay as many where there is room for what is laid
  same_shape : (rule.number (view b) ≡ 0 → (b.kept.count ≤ 512) × (length (rule.next (view b)).whole.window ≤ 512)) → shaped o.bytes ≡ shaped b
  same_shape room = go (shaped b) refl
    where
      go : (x : Bool) → shaped b ≡ x → shaped o.bytes ≡ shaped b
      go true q = ap (λ (o : Outcome A). shaped o.bytes) (all_of_it q)
          ∙ if_arms (λ x. shaped x ≡ shaped b) (eqb (rule.number (view b)) 0) {x = lay (rule.next (view b)) b} {y = b}
          (λ z. let r = room (eqb-true _ 0 z) in lay_shaped (rule.next (view b)) b q r.0 r.1 ∙ sym q) (λ _. refl)
      go false q = ap (λ (o : Outcome A). shaped o.bytes) (gets_one q)

pub given_by : {A : Type 0} (own : Counted → A) (beside : ℕ → A) (b : Bytes)
    → (shaped b ≡ true → asked own beside b ≡ own (view b)) × (shaped b ≡ false → asked own beside b ≡ beside 1)
unfolding asked
given_by own beside b = (if_true _ _ _, if_false _ _ _)

-- ------------------------------------------------------------------ the laws

no_notice_is : NoNoticeIs
no_notice_is number = (refl, (nothing_shown number (zeros number) refl, (refl, refl)))

told_by_the_rules : ToldByTheRules
unfolding after_telling
told_by_the_rules m b r times prices = by_the_rules (told_by m) zeros b _

settled_by_the_rules : SettledByTheRules
unfolding after_settling
settled_by_the_rules time b r times prices = by_the_rules (settled_by time) no_notice b _

-- by itself, so that a wrong `asked` is refused by this statement
read_by_the_rules : ReadByTheRules
unfolding asked
read_by_the_rules b = (if_true _ _ _, if_false _ _ _)

-- what is held where a call is done
held : (b : Bytes) → rubbish (view b).whole ≡ false → b.kept.count ≤ 512
held b e = omega (arith, held_few (view b).whole e, length_trades b.kept.count b.times b.prices)

told_in_shape : ToldInShape
unfolding after
told_in_shape m b r times prices e = same_shape (told_by m) zeros b _ e
    (λ z. let own = accepted (view b) _ z in (held b (told m (view b).whole own).sound, room m (view b).whole own))

settled_in_shape : SettledInShape
unfolding fire
settled_in_shape time b r times prices e = same_shape (settled_by time) no_notice b _ e
    (λ z. let sound = (settled time (view b).whole (accepted (view b) _ z)).sound in (held b sound, fired_few (view b).whole sound))

-- what a call hands back and leaves, from its outcome
abbrev left_by : {A : Type 0} → Outcome A → Left (Handed A)
left_by o = record { result = record { answer = o.answer; next = o.bytes.kept }; times = o.bytes.times; prices = o.bytes.prices }

step_determined : {A : Type 0} (o : Outcome A) → Determines (λ (x : Left (Handed A)). Leaves o x.result x.times x.prices)
step_determined o x y e f = ap left_by (e ∙ sym f)

pub laws : Laws
laws = record {
  bytes_are = bytes_are;
  shaped_is = shaped_is;
  view_is = view_is;
  read_back = read_back;
  told_by_the_rules = told_by_the_rules;
  settled_by_the_rules = settled_by_the_rules;
  told_one = λ m b r times prices e q. ap (λ o. o.answer) (gets_one (told_by m) zeros b _ e q);
  settled_one = λ time b r times prices e q. ap (λ o. o.answer) (gets_one (settled_by time) no_notice b _ e q);
  read_by_the_rules = read_by_the_rules;
  next_by_the_rules = given_by next_answer none_coming;
  totals_by_the_rules = given_by totals_answer no_summary;
  told_refused = λ m b r times prices e. unchanged (told_by m) zeros b _ e (λ a. a.number) (told_number m);
  settled_refused = λ time b r times prices e. unchanged (settled_by time) no_notice b _ e (λ a. a.answer.number) (settled_number time);
  told_in_shape = told_in_shape;
  settled_in_shape = settled_in_shape;
  told_unused = λ m b r times prices. unwritten (told_by m) zeros b _;
  settled_unused = λ time b r times prices. unwritten (settled_by time) no_notice b _;
  no_notice_is = no_notice_is;
  zeros_determined = λ number. agree (zeros number);
  zero_notice_determined = λ number. agree (no_notice number);
  none_coming_determined = λ number. agree (none_coming number);
  no_summary_determined = λ number. agree (no_summary number);
  step_determined = step_determined;
  tell_determined = λ m b. step_determined (telling m b);
  settle_determined = λ time b. step_determined (settling time b);
  read_determined = λ b. agree (reading b);
  next_determined = λ b. agree (coming b);
  summary_determined = λ b. agree (totalling b);
  number_determined = λ a. agree (answer_number a);
  notice_number_determined = λ a. agree (notice_number a);
}
