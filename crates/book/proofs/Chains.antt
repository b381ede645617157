-- What chains of our calls come to: demand 2.
-- Assumes nothing.
use Prim.Native.Nat.{ℕ, zero, suc, ◌+◌, ◌*◌, ◌≤◌, ◌<◌}
use mathlib.Core.Bool.{Bool, true, false}
use mathlib.Core.List.{List, [], ◌∷◌, map, flatten}
use mathlib.Core.Path.{◌≡◌, refl, sym, ap, ◌∙◌, subst}
use native.Mathlib.Nat.{mul-suc, not-suc-le-zero, le_of_suc-le-suc}
use native.Mathlib.Omega.{arith}
use borrow.Author.Tests.{ltb-false, eqb-true, eqb-false}
use lib.Dec.{ltb, eqb}
use lib.ListN.{length, get_or, set, replicate, length-map, length-set, replicate-append-replicate}
use Rattle.forms.specs.Choice.{if◌then◌otherwise◌}
use Rattle.forms.specs.Checks.{first}
use Rattle.forms.specs.Words.{Gives}
use Rattle.forms.proofs.Choice.{if_true, if_false, if_arms, any_head, any_tail, eq_of_not}
use Rattle.forms.proofs.Checks.{beyond}
use Rattle.rules.specs.Counted.{Counted, fresh, after, fire}
use Rattle.rules.specs.Machine.{Every, On, Call, Calls, tell, settle, number, done, stock, number_in, step_in, run}
use Rattle.rules.specs.Book.{counting, blank, book, Accepted}
use Rattle.rules.specs.Numbers as numbers
use Rattle.rules.specs.Numbers.{sets_up, bad_shape, setup_checks}
use Rattle.rules.specs.declared.Answer.{Answer}
use Rattle.rules.specs.declared.Message.{Message}
use Rattle.rules.specs.declared.Notice.{Notice}
use Rattle.rules.specs.declared.Setup.{Setup}
use Rattle.rules.proofs.Counted.{accepted as without}
use Rattle.rules.proofs.Answers.{nothing_shown}
use Rattle.rules.proofs.Passed.{settled as passed_settling}
use Rattle.stock.proofs.Calls.{room, fired_few}
use Rattle.window.specs.Places.{laid}
use Rattle.calls.specs.Setup.{setups_of, record_of, setup_number}
use Rattle.calls.proofs.InWords.{setup_number_is}
use Rattle.book.specs.Lent.{Lent, lent, Given}
use Rattle.book.specs.Words.{setup_table}
use Rattle.book.specs.Layout.{empty, stock_bytes, layout}
use Rattle.book.specs.Setup.{number_of, SetsUp}
use Rattle.book.specs.Demands.{ours, Made, refused_setup, told, settled, was_read, next_given, totals_given, Chain, calls, Answered, Demand2}
use Rattle.book.proofs.SettingUp.{answered, number_0, started as set_up}
use Rattle.book.proofs.Laws.{laws}
use Rattle.book.proofs.Layouts.{Fits}
use Rattle.book.proofs.Follows.{tell_follows, settle_follows, read_follows, next_follows, totals_follows}

-- ------------------------------------------------------------------ the book that a setup starts

fresh_records : (end : ℕ) (us : List Setup) → map (λ h. (stock_bytes h).kept) (book end us) ≡ map (record_of end) us
unfolding fresh numbers.fresh
fresh_records end [] = refl
fresh_records end (u ∷ us) = ap (λ r. record_of end u ∷ r) (fresh_records end us)

-- the places of stocks that hold no trade are 0
fresh_places : (end : ℕ) (f : Counted → List ℕ) → ((u : Setup) → f (fresh end u) ≡ empty) → (us : List Setup)
    → flatten (map f (book end us)) ≡ replicate (512 * length us) 0
unfolding flatten
fresh_places end f z [] = refl
fresh_places end f z (u ∷ us) =
    let e : 512 * length (u ∷ us) ≡ 512 + 512 * length us = omega (arith, mul-suc 512 (length us)) in
    rw (z u, fresh_places end f z us, e) (replicate-append-replicate 512 (512 * length us) 0)

fresh_layout : (end : ℕ) (us : List Setup) → layout (book end us) ≡ lent (map (record_of end) us) (replicate (512 * length us) 0) (replicate (512 * length us) 0)
unfolding laid fresh numbers.fresh
fresh_layout end us =
    rw (fresh_records end us, fresh_places end (λ h. (stock_bytes h).times) (λ u. refl) us, fresh_places end (λ h. (stock_bytes h).prices) (λ u. refl) us)

fresh_fits : (end : ℕ) (us : List Setup) → Every Fits (book end us)
unfolding fresh numbers.fresh
fresh_fits end [] = tt
fresh_fits end (u ∷ us) = (omega arith, fresh_fits end us)

-- ------------------------------------------------------------------ a step keeps windows that fit

pub every_at : (hs : List Counted) (d : Counted) → Every Fits hs → (i : ℕ) → i < length hs → Fits (get_or hs i d)
every_at [] d a i l = absurd (not-suc-le-zero l)
every_at (h ∷ hs) d a zero l = a.0
every_at (h ∷ hs) d a (suc i) l = every_at hs d a.1 i (le_of_suc-le-suc l)

every_set : (hs : List Counted) → Every Fits hs → (i : ℕ) (h : Counted) → Fits h → Every Fits (set hs i h)
every_set [] a i h f = a
every_set (x ∷ hs) a zero h f = (f, a.1)
every_set (x ∷ hs) a (suc i) h f = (a.0, every_set hs a.1 i h f)

module _ (end : ℕ) (hs : List Counted) (c : On (Call Message)) where
  step_fits : (number_in counting (blank end) hs c ≡ 0 → Fits (done counting c.it (stock counting (blank end) hs c.at))) → Every Fits hs
      → Every Fits (step_in counting (blank end) hs c)
  unfolding step_in
  step_fits f a = if_arms (Every Fits) (eqb (number_in counting (blank end) hs c) 0) (λ q. every_set hs a c.at _ (f (eqb-true _ _ q))) (λ _. a)

  pub step_length : length (step_in counting (blank end) hs c) ≡ length hs
  unfolding step_in
  step_length = if_arms (λ (bs : List Counted). length bs ≡ length hs) (eqb (number_in counting (blank end) hs c) 0)
      {x = set hs c.at (done counting c.it (stock counting (blank end) hs c.at))} {y = hs} (λ _. length-set hs c.at _) (λ _. refl)

-- the stock that a done call names is there
there : (end : ℕ) (hs : List Counted) (i n : ℕ) → (if ltb i (length hs) then n otherwise 3) ≡ 0 → n ≡ 0
there end hs i n e = go (ltb i (length hs)) refl
  where
    go : (b : Bool) → ltb i (length hs) ≡ b → n ≡ 0
    go true q = simp (q, if_true) at e
    go false q = let z : ◌≡◌ {A = ℕ} 3 0 = simp (q, if_false) at e in absurd (omega arith)

-- what is done to a stock leaves a window that fits
pub call_fits : (it : Call Message) (h : Counted) → number counting it h ≡ 0 → Fits (done counting it h)
unfolding after fire
call_fits (tell m) h z = room m h.whole (without h _ z)
call_fits (settle time) h z = fired_few h.whole (passed_settling time h.whole (without h _ z)).sound

-- ------------------------------------------------------------------ calls after a setup

-- the calls of a chain from the layout of a book of the rules
abbrev Follow : ℕ → List Counted → List Made → Lent → Type 0
Follow end hs cs b' = Answered end hs cs × (b' ≡ layout (run counting (blank end) hs (calls cs)))

follows : (end : ℕ) (hs : List Counted) → Every Fits hs → 1 ≤ length hs → length hs ≤ 64 → (cs : List Made) (b' : Lent) → Chain ours (layout hs) cs b'
    → Follow end hs cs b'
unfolding number_in
follows end hs a s f [] b' k = (tt, sym k)
follows end hs a s f (refused_setup e list r ∷ cs) b' k =
    follows end hs a s f cs b' (subst (λ x. Chain ours x cs b') (laws.set_up_refused e list (layout hs) k.0 r k.1 k.2) k.3)
follows end hs a s f (told i m r ∷ cs) b' k =
    let c : On (Call Message) = record { at = i; it = tell m } in
    let all = k.1 ∙ tell_follows end hs a s f i m (λ l z. call_fits (tell m) _ z) (every_at hs (blank end) a i) in
    let fit = step_fits end hs c (λ z. call_fits (tell m) _ (there end hs i _ z)) a in
    let long = step_length end hs c in
    let rest = follows end (step_in counting (blank end) hs c) fit (omega arith) (omega arith) cs b'
    (subst (λ x. Chain ours x cs b') (ap (λ (o : Given Answer). o.book) all) k.2) in
    ((ap (λ (o : Given Answer). o.answer) all, rest.0), rest.1)
follows end hs a s f (settled i time r ∷ cs) b' k =
    let c : On (Call Message) = record { at = i; it = settle time } in
    let all = k.1 ∙ settle_follows end hs a s f i time (λ l z. call_fits (settle time) _ z) (every_at hs (blank end) a i) in
    let fit = step_fits end hs c (λ z. call_fits (settle time) _ (there end hs i _ z)) a in
    let long = step_length end hs c in
    let rest = follows end (step_in counting (blank end) hs c) fit (omega arith) (omega arith) cs b'
    (subst (λ x. Chain ours x cs b') (ap (λ (o : Given Notice). o.book) all) k.2) in
    ((ap (λ (o : Given Notice). o.answer) all, rest.0), rest.1)
follows end hs a s f (was_read i r ∷ cs) b' k =
    let rest = follows end hs a s f cs b' k.1 in
    ((k.0 ∙ read_follows end hs a s f i (every_at hs (blank end) a i), rest.0), rest.1)
follows end hs a s f (next_given i u ∷ cs) b' k =
    let rest = follows end hs a s f cs b' k.1 in
    ((k.0 ∙ next_follows end hs a s f i (every_at hs (blank end) a i), rest.0), rest.1)
follows end hs a s f (totals_given i x ∷ cs) b' k =
    let rest = follows end hs a s f cs b' k.1 in
    ((k.0 ∙ totals_follows end hs a s f i (every_at hs (blank end) a i), rest.0), rest.1)

-- ------------------------------------------------------------------ an accepted setup

-- what it needs: a setup per stock, and the shape
pub record Started (end : ℕ) (list : List ℕ) (b₀ : Lent) : Type 0 where
  pub some : 1 ≤ length (setups_of list)
  pub few : length (setups_of list) ≤ 64
  pub times : length b₀.times ≡ 512 * length (setups_of list)
  pub prices : length b₀.prices ≡ 512 * length (setups_of list)
  pub accepted : Accepted end (setups_of list)

pub started : (end : ℕ) (list : List ℕ) (b₀ : Lent) → number_of end list b₀ ≡ 0 → Started end list b₀
unfolding setup_number setup_checks bad_shape sets_up
started end list b₀ n =
    let one = beyond 0 _ 1 _ tt n in
    let two = beyond 0 _ 1 _ tt one.1 in
    let shape = any_head _ _ two.0 in
    let us : length (setups_of list) ≡ length b₀.records = eq_of_not _ _ (any_head _ _ (any_tail _ _ two.0)) in
    let not_None = eqb-false (length b₀.records) 0 (any_head _ _ shape) in
    let few = ltb-false 64 (length b₀.records) (any_head _ _ (any_tail _ _ shape)) in
    let times : length b₀.times ≡ 512 * length b₀.records = eq_of_not _ _ (any_head _ _ (any_tail _ _ (any_tail _ _ shape))) in
    let prices : length b₀.prices ≡ 512 * length b₀.records = eq_of_not _ _ (any_head _ _ (any_tail _ _ (any_tail _ _ (any_tail _ _ shape)))) in
    record {
      some = omega arith;
      few = omega arith;
      times = omega arith;
      prices = omega arith;
      accepted = subst (λ n. first (setup_checks n (512 * n) (512 * n) end (setups_of list)) ≡ 0) (sym us) (rw (times, prices) at one.1);
    }

-- ------------------------------------------------------------------ demand 2

-- ours leaves the layout of the book that it starts
starts : (end : ℕ) (list : List ℕ) (b₀ b : Lent) (a : Answer) → SetsUp end list b₀ a b → a.number ≡ 0 → b ≡ layout (book end (setups_of list))
starts end list b₀ b a e z =
    let s = started end list b₀ (number_0 end list b₀ b a e z) in
    set_up end list b₀ b a e z ∙ simp (s.times, s.prices) (sym (fresh_layout end (setups_of list)))

pub demand2 : Demand2 ours
demand2 = record {
  setup_number_lem = λ end list b b' a e. subst (λ (x : Answer). Gives (setup_table end list b) x.number) (sym (answered end list b b' a e)) (setup_number_is (length b.records) (length b.times) (length b.prices) end list);
  setup_zeros = λ end list b b' a e. nothing_shown _ a (answered end list b b' a e);
  setup_leaves = laws.set_up_refused;
  from_setup = λ end list b₀ b b' a cs e z k.
      let s = started end list b₀ (number_0 end list b₀ b a e z) in
      follows end (book end (setups_of list)) (fresh_fits end (setups_of list)) (simp length-map s.some) (simp length-map s.few) cs b'
      (subst (λ x. Chain ours x cs b') (starts end list b₀ b a e z) k);
}

-- ------------------------------------------------------------------ the book after any calls

pub run_length : (end : ℕ) (hs : List Counted) (cs : Calls counting) → length (run counting (blank end) hs cs) ≡ length hs
run_length end hs [] = refl
run_length end hs (c ∷ cs) = run_length end (step_in counting (blank end) hs c) cs ∙ step_length end hs c

-- whatever the calls, every window fits
run_fits : (end : ℕ) (hs : List Counted) (cs : Calls counting) → Every Fits hs → Every Fits (run counting (blank end) hs cs)
unfolding number_in
run_fits end hs [] a = a
run_fits end hs (c ∷ cs) a =
    run_fits end (step_in counting (blank end) hs c) cs (step_fits end hs c (λ z. call_fits c.it _ (there end hs c.at _ z)) a)

pub all_fit : (end : ℕ) (us : List Setup) (cs : Calls counting) → Every Fits (run counting (blank end) (book end us) cs)
all_fit end us cs = run_fits end (book end us) cs (fresh_fits end us)
