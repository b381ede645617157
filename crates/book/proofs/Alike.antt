-- What calls were answered is what the rules' stories say; and demand 3 of every family that meets demand 2.
-- Assumes nothing.
use Prim.Native.Nat.{ℕ, ◌*◌, ◌≤◌, ◌<◌}
use mathlib.Core.Bool.{Bool, true, false}
use mathlib.Core.List.{List, [], ◌∷◌, ◌++◌}
use mathlib.Core.Path.{◌≡◌, refl, sym, ap, ◌∙◌, subst}
use native.Mathlib.Omega.{arith}
use borrow.Author.Tests.{eqb-true}
use lib.Dec.{eqb}
use lib.Seq.{ext_get_or}
use lib.ListN.{length, length-map}
use Rattle.forms.specs.Choice.{if◌then◌otherwise◌, all_of}
use Rattle.forms.specs.Words.{Gives}
use Rattle.forms.proofs.Decides.{past}
use Rattle.rules.specs.Counted.{Counted, fresh, settles, notice, settle_answer}
use Rattle.rules.specs.Machine.{messages, notices, On, of, Event, Call, tell, settle, Every, stock, number_in, step_in, happens, run, log}
use Rattle.rules.specs.Book.{counting, blank, book, Settled, book_tells, book_settles}
use Rattle.rules.specs.Words.{IsShape}
use Rattle.rules.specs.declared.Answer.{Answer}
use Rattle.rules.specs.declared.Message.{Message}
use Rattle.rules.specs.declared.Notice.{Notice}
use Rattle.rules.specs.declared.Setup.{Setup}
use Rattle.rules.proofs.Answers as answered
use Rattle.rules.proofs.Counted.{noticed_by_settling}
use Rattle.rules.proofs.Demands.{demands}
use Rattle.calls.specs.Setup.{setups_of}
use Rattle.book.specs.Lent.{Lent}
use Rattle.book.specs.Layout.{layout}
use Rattle.book.specs.Words.{setup_table}
use Rattle.book.specs.Setup.{number_of}
use Rattle.book.specs.Demands.{Family, Made, refused_setup, told, settled, was_read, next_given, totals_given, Chain, calls, Answered, accepted, noticed, SettledTo, Demand2, Demand3, StoriesTold}
use Rattle.book.proofs.Layouts.{length_records}
use Rattle.book.proofs.SettingUp.{same_number}
use Rattle.book.proofs.Chains.{Started, started, step_length, run_length, all_fit}

-- ------------------------------------------------------------------ one call: what it makes happen, and what it was answered

abbrev Happened : Type 0
Happened = List (On (Event Message Notice))

module _ (end : ℕ) (hs : List Counted) (i j : ℕ) (later : Happened) where
  -- an accepted message is in the story of its stock, and no other is
  tell_happens : (m : Message) (a : Answer) → number_in counting (blank end) hs (record { at = j; it = tell m }) ≡ a.number
      → let es = of i (happens counting (blank end) hs (record { at = j; it = tell m }) ++ later) in
      (messages es ≡ (if all_of (eqb i j ∷ eqb a.number 0 ∷ []) then m ∷ messages (of i later) otherwise messages (of i later))) × (notices es ≡ notices (of i later))
  unfolding happens of all_of if◌then◌otherwise◌
  tell_happens m a e = go (eqb a.number 0) refl (eqb i j) refl
    where
      go : (x : Bool) → eqb a.number 0 ≡ x → (y : Bool) → eqb i j ≡ y → let es = of i (happens counting (blank end) hs (record { at = j; it = tell m }) ++ later) in
          (messages es ≡ (if all_of (eqb i j ∷ eqb a.number 0 ∷ []) then m ∷ messages (of i later) otherwise messages (of i later))) × (notices es ≡ notices (of i later))
      go true q true r = rw (e, q, r) (refl, refl)
      go true q false r = rw (e, q, r) (refl, refl)
      go false q true r = rw (e, q, r) (refl, refl)
      go false q false r = rw (e, q, r) (refl, refl)

  -- a settled moment is, with its notice
  settle_happens : (time : ℕ) (a : Notice) → number_in counting (blank end) hs (record { at = j; it = settle time }) ≡ a.answer.number
      → (a.answer.number ≡ 0 → a ≡ notice (stock counting (blank end) hs j))
      → let es = of i (happens counting (blank end) hs (record { at = j; it = settle time }) ++ later) in
      (messages es ≡ messages (of i later)) × (notices es ≡ (if all_of (eqb i j ∷ eqb a.answer.number 0 ∷ []) then a ∷ notices (of i later) otherwise notices (of i later)))
  unfolding happens of all_of if◌then◌otherwise◌
  settle_happens time a e is = go (eqb a.answer.number 0) refl (eqb i j) refl
    where
      go : (x : Bool) → eqb a.answer.number 0 ≡ x → (y : Bool) → eqb i j ≡ y → let es = of i (happens counting (blank end) hs (record { at = j; it = settle time }) ++ later) in
          (messages es ≡ messages (of i later)) × (notices es ≡ (if all_of (eqb i j ∷ eqb a.answer.number 0 ∷ []) then a ∷ notices (of i later) otherwise notices (of i later)))
      go true q true r = rw (e, q, r) (refl, ap (λ (n : Notice). n ∷ notices (of i later)) (sym (is (eqb-true _ _ q))))
      go true q false r = rw (e, q, r) (refl, refl)
      go false q true r = rw (e, q, r) (refl, refl)
      go false q false r = rw (e, q, r) (refl, refl)

-- ------------------------------------------------------------------ a book of the right shape

module _ (end : ℕ) (hs : List Counted) (some : 1 ≤ length hs) (few : length hs ≤ 64) where
  abbrev places : ℕ
  places = 512 * length hs

  right_shape : IsShape (length hs) places places
  right_shape = (some, (few, (refl, refl)))

  -- the number by which a call changes the book is the one that it is answered
  told_number : (j : ℕ) (m : Message) (a : Answer) → a ≡ book_tells end hs places places j m → number_in counting (blank end) hs (record { at = j; it = tell m }) ≡ a.number
  told_number j m a e = ((demands.book_numbers end hs places places j 0).4 right_shape).0 m ∙ sym (ap (λ (x : Answer). x.number) e)

  settled_number : (j time : ℕ) (a : Notice) → a ≡ book_settles end hs places places j time
      → number_in counting (blank end) hs (record { at = j; it = settle time }) ≡ a.answer.number
  settled_number j time a e = ((demands.book_numbers end hs places places j 0).4 right_shape).1 time ∙ sym (ap (λ (x : Notice). x.answer.number) e)

  -- settling a stock that there is is answered as the stock answers it
  settled_own : (j time : ℕ) (a : Notice) → a ≡ book_settles end hs places places j time → j < length hs
      → (a ≡ settle_answer time (stock counting (blank end) hs j)) × (a.answer.number ≡ settles time (stock counting (blank end) hs j))
  settled_own j time a e l =
      let own = e ∙ ((demands.answers end hs places places j).1 time).0 (right_shape, l) in
      (own, ap (λ (x : Notice). x.answer.number) own ∙ answered.settled_number time (stock counting (blank end) hs j))

  -- where that was 0, with the notice
  settled_notice : (j time : ℕ) (a : Notice) → a ≡ book_settles end hs places places j time → a.answer.number ≡ 0 → a ≡ notice (stock counting (blank end) hs j)
  settled_notice j time a e z =
      let given = ((demands.book_numbers end hs places places j 0).1 time).0 (sym (ap (λ (x : Notice). x.answer.number) e) ∙ z) in
      let there = (past 3 0 _ _ (λ q. omega (arith, q)) (past 1 0 _ _ (λ q. omega (arith, q)) given).1).0 in
      let own = settled_own j time a e (omega (arith, there)) in
      own.0 ∙ noticed_by_settling time (stock counting (blank end) hs j) (sym own.1 ∙ z)

-- ------------------------------------------------------------------ calls: the story of a stock is what its calls were answered

abbrev AsAnswered : ℕ → ℕ → List Counted → List Made → Type 0
AsAnswered i end hs cs = let es = of i (log counting (blank end) hs (calls cs)) in (messages es ≡ accepted i cs) × (notices es ≡ noticed i cs)

as_answered_lem : (i end : ℕ) (hs : List Counted) → 1 ≤ length hs → length hs ≤ 64 → (cs : List Made) → Answered end hs cs → AsAnswered i end hs cs
unfolding of
as_answered_lem i end hs s f [] k = (refl, refl)
as_answered_lem i end hs s f (refused_setup e list a ∷ cs) k = as_answered_lem i end hs s f cs k
as_answered_lem i end hs s f (told j m a ∷ cs) k =
    let c : On (Call Message) = record { at = j; it = tell m } in
    let long = step_length end hs c in
    let rest = as_answered_lem i end (step_in counting (blank end) hs c) (omega (arith, s, long)) (omega (arith, f, long)) cs k.1 in
    let this = tell_happens end hs i j (log counting (blank end) (step_in counting (blank end) hs c) (calls cs)) m a (told_number end hs s f j m a k.0) in
    (this.0 ∙ ap (λ (l : List Message). if all_of (eqb i j ∷ eqb a.number 0 ∷ []) then m ∷ l otherwise l) rest.0, this.1 ∙ rest.1)
as_answered_lem i end hs s f (settled j time a ∷ cs) k =
    let c : On (Call Message) = record { at = j; it = settle time } in
    let long = step_length end hs c in
    let rest = as_answered_lem i end (step_in counting (blank end) hs c) (omega (arith, s, long)) (omega (arith, f, long)) cs k.1 in
    let this = settle_happens end hs i j (log counting (blank end) (step_in counting (blank end) hs c) (calls cs)) time a
    (settled_number end hs s f j time a k.0) (settled_notice end hs s f j time a k.0) in
    (this.0 ∙ rest.0, this.1 ∙ ap (λ (l : List Notice). if all_of (eqb i j ∷ eqb a.answer.number 0 ∷ []) then a ∷ l otherwise l) rest.1)
as_answered_lem i end hs s f (was_read j a ∷ cs) k = as_answered_lem i end hs s f cs k.1
as_answered_lem i end hs s f (next_given j u ∷ cs) k = as_answered_lem i end hs s f cs k.1
as_answered_lem i end hs s f (totals_given j x ∷ cs) k = as_answered_lem i end hs s f cs k.1

-- ------------------------------------------------------------------ one more call: settling

one_more_lem : (𝓕 : Family) (b c d : Lent) (i time : ℕ) (a : Notice) → 𝓕.Settle i time c a d → (cs : List Made) → Chain 𝓕 b cs c → Chain 𝓕 b (cs ++ (settled i time a ∷ [])) d
one_more_lem 𝓕 b c d i time a q [] k = (d, subst (λ x. 𝓕.Settle i time x a d) (sym k) q, refl)
one_more_lem 𝓕 b c d i time a q (refused_setup e list x ∷ cs) k = (k.0, k.1, k.2, one_more_lem 𝓕 k.0 c d i time a q cs k.3)
one_more_lem 𝓕 b c d i time a q (told j m x ∷ cs) k = (k.0, k.1, one_more_lem 𝓕 k.0 c d i time a q cs k.2)
one_more_lem 𝓕 b c d i time a q (settled j t x ∷ cs) k = (k.0, k.1, one_more_lem 𝓕 k.0 c d i time a q cs k.2)
one_more_lem 𝓕 b c d i time a q (was_read j x ∷ cs) k = (k.0, one_more_lem 𝓕 b c d i time a q cs k.1)
one_more_lem 𝓕 b c d i time a q (next_given j u ∷ cs) k = (k.0, one_more_lem 𝓕 b c d i time a q cs k.1)
one_more_lem 𝓕 b c d i time a q (totals_given j x ∷ cs) k = (k.0, one_more_lem 𝓕 b c d i time a q cs k.1)

the_last : (end i time : ℕ) (a : Notice) (hs : List Counted) (cs : List Made) → Answered end hs (cs ++ (settled i time a ∷ []))
    → let left = run counting (blank end) hs (calls cs) in a ≡ book_settles end left (512 * length left) (512 * length left) i time
the_last end i time a hs [] k = k.0
the_last end i time a hs (refused_setup e list x ∷ cs) k = the_last end i time a hs cs k
the_last end i time a hs (told j m x ∷ cs) k = the_last end i time a (step_in counting (blank end) hs (record { at = j; it = tell m })) cs k.1
the_last end i time a hs (settled j t x ∷ cs) k = the_last end i time a (step_in counting (blank end) hs (record { at = j; it = settle t })) cs k.1
the_last end i time a hs (was_read j x ∷ cs) k = the_last end i time a hs cs k.1
the_last end i time a hs (next_given j u ∷ cs) k = the_last end i time a hs cs k.1
the_last end i time a hs (totals_given j x ∷ cs) k = the_last end i time a hs cs k.1

-- ------------------------------------------------------------------ demand 3

module _ (𝓕 : Family) (d : Demand2 𝓕) (end : ℕ) (list : List ℕ) (b₀ b : Lent) (a : Answer) (p : 𝓕.SetUp end list b₀ a b) (z : a.number ≡ 0) where
  abbrev us : List Setup
  us = setups_of list

  -- the setup was accepted
  pub number_0 : number_of end list b₀ ≡ 0
  number_0 = same_number end list b₀ 0 (subst (Gives (setup_table end list b₀)) z (d.setup_number_lem end list b₀ b a p))

  s : Started end list b₀
  s = started end list b₀ number_0

  module _ (b' : Lent) (cs : List Made) (k : Chain 𝓕 b cs b') where
    abbrev left : List Counted
    left = run counting (blank end) (book end us) (calls cs)

    abbrev follows : Answered end (book end us) cs × (b' ≡ layout left)
    follows = d.from_setup end list b₀ b b' a cs p z k

    long : length left ≡ length us
    long = run_length end (book end us) (calls cs) ∙ length-map us (fresh end)

    pub records : length b'.records ≡ length us
    records = ap (λ (x : Lent). length x.records) follows.1 ∙ length_records left (all_fit end us (calls cs)) ∙ long

    stories : (i : ℕ) → AsAnswered i end (book end us) cs
    stories i = as_answered_lem i end (book end us) (simp length-map s.some) (simp length-map s.few) cs follows.0

    is_settled : (time : ℕ) → SettledTo 𝓕 time cs b' → Settled end time us (calls cs)
    is_settled time t = record {
      nothing_left = λ i l.
          let here : i < length us = rw length-map at l in
          let n = t.nothing_left i (omega (arith, here, records)) in
          let q = (d.from_setup end list b₀ b n.1 a (cs ++ (settled i time n.0 ∷ [])) p z (one_more_lem 𝓕 b b' n.1 i time n.0 n.2 cs k)).0 in
          let own = the_last end i time n.0 (book end us) cs q in
          sym (settled_own end left (omega (arith, long, s.some)) (omega (arith, long, s.few)) i time n.0 own (omega (arith, long, here))).1 ∙ n.3;
      nothing_later = λ i. subst (Every (λ (n : Notice). n.time ≤ time)) (sym (stories i).1) (t.nothing_later i);
    }

-- what the calls were answered is what the stories say
pub stories_told : (𝓕 : Family) → Demand2 𝓕 → StoriesTold 𝓕
stories_told 𝓕 d end list b₀ b b' a cs p z k = stories 𝓕 d end list b₀ b a p z b' cs k

pub alike : (𝓕 : Family) → Demand2 𝓕 → Demand3 𝓕
alike 𝓕 d end time list b₀ b b' c₀ c c' a e cs ds p p0 pk q q0 qk ps qs same =
    let us = setups_of list in
    let on_left = stories 𝓕 d end list b₀ b a p p0 b' cs pk in
    let on_right = stories 𝓕 d end list c₀ c e q q0 c' ds qk in
    let hs = run counting (blank end) (book end us) (calls cs) in
    let ks = run counting (blank end) (book end us) (calls ds) in
    let many = long 𝓕 d end list b₀ b a p p0 b' cs pk in
    let each = demands.settled_alike end us (calls cs) (calls ds) time
    (is_settled 𝓕 d end list b₀ b a p p0 b' cs pk time ps) (is_settled 𝓕 d end list c₀ c e q q0 c' ds qk time qs)
    (λ i. (on_left i).0 ∙ same i ∙ sym (on_right i).0) in
    let books : hs ≡ ks = ext_get_or (blank end) hs ks (many ∙ sym (long 𝓕 d end list c₀ c e q q0 c' ds qk)) (λ i l. (each i (omega (arith, many, l))).0) in (
      (d.from_setup end list b₀ b b' a cs p p0 pk).1 ∙ ap layout books ∙ sym (d.from_setup end list c₀ c c' e ds q q0 qk).1,
      λ i l. sym (on_left i).1 ∙ (each i (omega (arith, l, records 𝓕 d end list b₀ b a p p0 b' cs pk))).1 ∙ (on_right i).1,
    )
