-- What recovery from a journal needs, of every family that meets demand 2.
-- Assumes nothing.
use Prim.Native.Nat.{ℕ, ◌*◌, ◌≤◌, ◌<◌}
use mathlib.Core.Bool.{Bool, true, false}
use mathlib.Core.List.{List, [], ◌∷◌, ◌++◌, map, append_cancel_left}
use mathlib.Core.Logic.{inl, inr}
use mathlib.Core.Path.{◌≡◌, refl, sym, ap, ◌∙◌, subst}
use native.Mathlib.Omega.{arith}
use borrow.Author.Tests.{eqb-true}
use lib.Dec.{eqb}
use lib.ListN.{length, get_or, length-map}
use Rattle.forms.specs.Choice.{if◌then◌otherwise◌, all_of}
use Rattle.forms.specs.Words.{Some}
use Rattle.rules.specs.Counted.{Counted, fresh, settles, tell_answer, settle_answer}
use Rattle.rules.specs.Machine.{On, of, Every, journal, IsJournal, Call, tell, settle, number, Asked, number_of, Calls, stock, step_in, run, asked}
use Rattle.rules.specs.Machine as machines
use Rattle.rules.specs.Book.{counting, no_setup, blank, book, now, asked_of}
use Rattle.rules.specs.Book as books
use Rattle.rules.specs.Demands.{SetUpAlike}
use Rattle.rules.specs.Demands as rules
use Rattle.rules.specs.declared.Message.{Message}
use Rattle.rules.specs.declared.Notice.{Notice}
use Rattle.rules.specs.declared.Setup.{Setup}
use Rattle.rules.proofs.Answers.{told_number, settled_number}
use Rattle.rules.proofs.Demands.{demands}
use Rattle.rules.proofs.Journal.{refused_in, run_append}
use Rattle.calls.specs.Setup.{setups_of}
use Rattle.calls.proofs.Setups.{setups_are, fours}
use Rattle.book.specs.Lent.{Lent, bytes_of}
use Rattle.book.specs.Layout.{stock_bytes, layout}
use Rattle.book.specs.Demands.{Family, Made, refused_setup, told, settled, was_read, next_given, totals_given, calls, Answered, noticed, Demand2, MadeOne, told_one, settled_one, number_made, call_made, called, made_of, journal_of, Ran, SameStock, Recovery}
use Rattle.book.proofs.Layouts.{length_records, bytes_of_lem}
use Rattle.book.proofs.Chains.{Started, started, step_length, run_length, all_fit}
use Rattle.book.proofs.Alike.{number_0}

-- ------------------------------------------------------------------ journals, of calls under other names with the same numbers

module _ {A B : Type 0} (f : A → B) (m : A → ℕ) (n : B → ℕ) (e : (x : A) → n (f x) ≡ m x) where
  journal_map : (xs : List A) → journal n (map f xs) ≡ map f (journal m xs)
  unfolding if◌then◌otherwise◌
  journal_map [] = refl
  journal_map (x ∷ xs) = go (eqb (m x) 0) refl (journal_map xs)
    where
      go : (b : Bool) → eqb (m x) 0 ≡ b → journal n (map f xs) ≡ map f (journal m xs) → journal n (map f (x ∷ xs)) ≡ map f (journal m (x ∷ xs))
      go true q k = rw (e x, q) (ap (λ l. f x ∷ l) k)
      go false q k = rw (e x, q) k

  entries_map : (xs : List A) (es : List B) → IsJournal n (map f xs) es → (ys : List A) × IsJournal m xs ys × (es ≡ map f ys)
  entries_map [] es k = ([], refl, k)
  entries_map (x ∷ xs) es (inl k) =
      let rest = entries_map xs k.0 k.2 in
      (x ∷ rest.0, inl (rest.0, refl, rest.1), k.1 ∙ ap (λ l. f x ∷ l) rest.2)
  entries_map (x ∷ xs) es (inr k) =
      let rest = entries_map xs es k.1 in
      (rest.0, inr ((λ z. k.0 (e x ∙ z)), rest.1), rest.2)

  some_map : (xs : List A) → Some (λ y. ¬ (n y ≡ 0)) (map f xs) → Some (λ x. ¬ (m x ≡ 0)) xs
  some_map [] k = k
  some_map (x ∷ xs) (inl k) = inl (λ z. k (e x ∙ z))
  some_map (x ∷ xs) (inr k) = inr (some_map xs k)

every_map : {A B : Type 0} (f : A → B) (P : B → Type 0) (xs : List A) → Every (λ x. P (f x)) xs → Every P (map f xs)
every_map f P [] k = tt
every_map f P (x ∷ xs) k = (k.0, every_map f P xs k.1)

-- ------------------------------------------------------------------ calls, as they were made and as the rules know them

-- the notices among answered calls
abbrev pub given : List MadeOne → List Notice
given [] = []
given (told_one m a ∷ xs) = given xs
given (settled_one time a ∷ xs) = a ∷ given xs

-- one more of them
one_called : (b : Bool) (x : MadeOne) (cs : List (Call Message)) (xs : List MadeOne) → cs ≡ called xs
    → (if b then call_made x ∷ [] otherwise []) ++ cs ≡ called (if b then x ∷ xs otherwise xs)
unfolding if◌then◌otherwise◌
one_called true x cs xs e = ap (λ l. call_made x ∷ l) e
one_called false x cs xs e = e

module _ (i : ℕ) where
  -- the notices of a stock are in its journal
  pub noticed_is : (cs : List Made) → noticed i cs ≡ given (journal_of i cs)
  unfolding if◌then◌otherwise◌ all_of
  noticed_is [] = refl
  noticed_is (refused_setup end list a ∷ cs) = noticed_is cs
  noticed_is (told j m a ∷ cs) = go (eqb i j) refl (eqb a.number 0) refl (noticed_is cs)
    where
      go : (x : Bool) → eqb i j ≡ x → (y : Bool) → eqb a.number 0 ≡ y → noticed i cs ≡ given (journal_of i cs) → noticed i cs ≡ given (journal_of i (told j m a ∷ cs))
      go true q true r k = rw (q, r) k
      go true q false r k = rw (q, r) k
      go false q y r k = rw q k
  noticed_is (settled j time a ∷ cs) = go (eqb i j) refl (eqb a.answer.number 0) refl (noticed_is cs)
    where
      go : (x : Bool) → eqb i j ≡ x → (y : Bool) → eqb a.answer.number 0 ≡ y → noticed i cs ≡ given (journal_of i cs)
          → noticed i (settled j time a ∷ cs) ≡ given (journal_of i (settled j time a ∷ cs))
      go true q true r k = rw (q, r) (ap (λ (l : List Notice). a ∷ l) k)
      go true q false r k = rw (q, r) k
      go false q y r k = rw q k
  noticed_is (was_read j a ∷ cs) = noticed_is cs
  noticed_is (next_given j u ∷ cs) = noticed_is cs
  noticed_is (totals_given j x ∷ cs) = noticed_is cs

  noticed_append : (cs ds : List Made) → noticed i (cs ++ ds) ≡ noticed i cs ++ noticed i ds
  unfolding if◌then◌otherwise◌ all_of
  noticed_append [] ds = refl
  noticed_append (refused_setup end list a ∷ cs) ds = noticed_append cs ds
  noticed_append (told j m a ∷ cs) ds = noticed_append cs ds
  noticed_append (settled j time a ∷ cs) ds = go (all_of (eqb i j ∷ eqb a.answer.number 0 ∷ [])) refl (noticed_append cs ds)
    where
      go : (x : Bool) → all_of (eqb i j ∷ eqb a.answer.number 0 ∷ []) ≡ x → noticed i (cs ++ ds) ≡ noticed i cs ++ noticed i ds
          → noticed i (settled j time a ∷ (cs ++ ds)) ≡ noticed i (settled j time a ∷ cs) ++ noticed i ds
      go true q k = rw q (ap (λ (l : List Notice). a ∷ l) k)
      go false q k = rw q k
  noticed_append (was_read j a ∷ cs) ds = noticed_append cs ds
  noticed_append (next_given j u ∷ cs) ds = noticed_append cs ds
  noticed_append (totals_given j x ∷ cs) ds = noticed_append cs ds

  -- the calls on a stock
  called_is : (cs : List Made) → of i (calls cs) ≡ called (made_of i cs)
  unfolding of
  called_is [] = refl
  called_is (refused_setup end list a ∷ cs) = called_is cs
  called_is (told j m a ∷ cs) = one_called (eqb i j) (told_one m a) _ _ (called_is cs)
  called_is (settled j time a ∷ cs) = one_called (eqb i j) (settled_one time a) _ _ (called_is cs)
  called_is (was_read j a ∷ cs) = called_is cs
  called_is (next_given j u ∷ cs) = called_is cs
  called_is (totals_given j x ∷ cs) = called_is cs

calls_append : (cs ds : List Made) → calls (cs ++ ds) ≡ calls cs ++ calls ds
calls_append [] ds = refl
calls_append (refused_setup end list a ∷ cs) ds = calls_append cs ds
calls_append (told j m a ∷ cs) ds = ap (λ (l : Calls counting). record { at = j; it = tell m } ∷ l) (calls_append cs ds)
calls_append (settled j time a ∷ cs) ds = ap (λ (l : Calls counting). record { at = j; it = settle time } ∷ l) (calls_append cs ds)
calls_append (was_read j a ∷ cs) ds = calls_append cs ds
calls_append (next_given j u ∷ cs) ds = calls_append cs ds
calls_append (totals_given j x ∷ cs) ds = calls_append cs ds

-- the answers of a first part, and those of the rest, of the book that the first part left
answered_append : (end : ℕ) (hs : List Counted) (cs ds : List Made) → Answered end hs (cs ++ ds)
    → Answered end hs cs × Answered end (run counting (blank end) hs (calls cs)) ds
answered_append end hs [] ds k = (tt, k)
answered_append end hs (refused_setup e list a ∷ cs) ds k = answered_append end hs cs ds k
answered_append end hs (told j m a ∷ cs) ds k =
    let rest = answered_append end (step_in counting (blank end) hs (record { at = j; it = tell m })) cs ds k.1 in
    ((k.0, rest.0), rest.1)
answered_append end hs (settled j time a ∷ cs) ds k =
    let rest = answered_append end (step_in counting (blank end) hs (record { at = j; it = settle time })) cs ds k.1 in
    ((k.0, rest.0), rest.1)
answered_append end hs (was_read j a ∷ cs) ds k = let rest = answered_append end hs cs ds k.1 in ((k.0, rest.0), rest.1)
answered_append end hs (next_given j u ∷ cs) ds k = let rest = answered_append end hs cs ds k.1 in ((k.0, rest.0), rest.1)
answered_append end hs (totals_given j x ∷ cs) ds k = let rest = answered_append end hs cs ds k.1 in ((k.0, rest.0), rest.1)

-- ------------------------------------------------------------------ a call, with what the rules answer it

abbrev answers : Call Message → Counted → MadeOne
answers (tell m) h = told_one m (tell_answer m h)
answers (settle time) h = settled_one time (settle_answer time h)

abbrev reply : Asked counting → MadeOne
reply x = answers x.call x.found

reply_number : (x : Asked counting) → number_made (reply x) ≡ number_of counting x
reply_number x = go x.call x.found
  where
    go : (c : Call Message) (h : Counted) → number_made (answers c h) ≡ number counting c h
    go (tell m) h = told_number m h
    go (settle time) h = settled_number time h

reply_call : (xs : List (Asked counting)) → called (map reply xs) ≡ machines.called counting xs
reply_call [] = refl
reply_call (x ∷ xs) = rw (go x.call x.found, reply_call xs)
  where
    go : (c : Call Message) (h : Counted) → call_made (answers c h) ≡ c
    go (tell m) h = refl
    go (settle time) h = refl

-- the calls on a stock that there is were answered so
module _ (end i : ℕ) where
  abbrev replies : List Counted → Calls counting → List MadeOne
  replies hs cs = map reply (of i (asked counting (blank end) hs cs))

  one_made : (hs : List Counted) (c : On (Call Message)) (x : MadeOne) (made : List MadeOne) (cs : Calls counting)
      → (i ≡ c.at → x ≡ answers c.it (stock counting (blank end) hs c.at)) → made ≡ replies (step_in counting (blank end) hs c) cs
      → (if eqb i c.at then x ∷ made otherwise made) ≡ replies hs (c ∷ cs)
  unfolding of if◌then◌otherwise◌
  one_made hs c x made cs e k = go (eqb i c.at) refl
    where
      go : (b : Bool) → eqb i c.at ≡ b → (if eqb i c.at then x ∷ made otherwise made) ≡ replies hs (c ∷ cs)
      go true q = rw (q, e (eqb-true i c.at q), k)
      go false q = rw (q, k)

  made_are : (hs : List Counted) → 1 ≤ length hs → length hs ≤ 64 → i < length hs → (cs : List Made) → Answered end hs cs → made_of i cs ≡ replies hs (calls cs)
  unfolding of
  made_are hs s f l [] k = refl
  made_are hs s f l (refused_setup e list a ∷ cs) k = made_are hs s f l cs k
  made_are hs s f l (told j m a ∷ cs) k =
      let c : On (Call Message) = record { at = j; it = tell m } in
      let long = step_length end hs c in
      one_made hs c (told_one m a) (made_of i cs) (calls cs)
      (λ e. ap (told_one m) (k.0 ∙ ((demands.answers end hs (512 * length hs) (512 * length hs) j).0 m).0 ((s, (f, (refl, refl))), subst (λ n. n < length hs) e l)))
      (made_are (step_in counting (blank end) hs c) (omega (arith, s, long)) (omega (arith, f, long)) (omega (arith, l, long)) cs k.1)
  made_are hs s f l (settled j time a ∷ cs) k =
      let c : On (Call Message) = record { at = j; it = settle time } in
      let long = step_length end hs c in
      one_made hs c (settled_one time a) (made_of i cs) (calls cs)
      (λ e. ap (settled_one time) (k.0 ∙ ((demands.answers end hs (512 * length hs) (512 * length hs) j).1 time).0 ((s, (f, (refl, refl))), subst (λ n. n < length hs) e l)))
      (made_are (step_in counting (blank end) hs c) (omega (arith, s, long)) (omega (arith, f, long)) (omega (arith, l, long)) cs k.1)
  made_are hs s f l (was_read j a ∷ cs) k = made_are hs s f l cs k.1
  made_are hs s f l (next_given j u ∷ cs) k = made_are hs s f l cs k.1
  made_are hs s f l (totals_given j x ∷ cs) k = made_are hs s f l cs k.1

  -- in rows: those that were made, their journal, and what was called
  module _ (hs : List Counted) (cs : List Made) (e : made_of i cs ≡ replies hs (calls cs)) where
    abbrev met : List (Asked counting)
    met = of i (asked counting (blank end) hs (calls cs))

    journal_are : journal_of i cs ≡ map reply (journal (number_of counting) met)
    journal_are = ap (journal number_made) e ∙ journal_map reply (number_of counting) number_made reply_number met

    called_are : called (journal_of i cs) ≡ machines.called counting (journal (number_of counting) met)
    called_are = ap called journal_are ∙ reply_call (journal (number_of counting) met)

-- ------------------------------------------------------------------ a stock that was set up, and then called

module _ (𝓕 : Family) (d : Demand2 𝓕) (end : ℕ) (u : Setup) (i : ℕ) (cs : List Made) (b : Lent) (r : Ran 𝓕 end u i cs b) where
  abbrev us : List Setup
  us = setups_of r.list

  abbrev left : List Counted
  left = run counting (blank end) (book end us) (calls cs)

  follows : Answered end (book end us) cs × (b ≡ layout left)
  follows = d.from_setup end r.list r.before r.start b r.answer cs r.set_up r.accepted r.chain

  -- the setup was accepted, of four numbers for each stock
  begun : Started end r.list r.before
  begun = started end r.list r.before (number_0 𝓕 d end r.list r.before r.start r.answer r.set_up r.accepted)

  four_each : length r.list ≡ 4 * length r.before.records
  four_each = fours _ _ _ end r.list (number_0 𝓕 d end r.list r.before r.start r.answer r.set_up r.accepted)

  long : length left ≡ length us
  long = run_length end (book end us) (calls cs) ∙ length-map us (fresh end)

  here : i < length us
  here = let n = ap (λ (x : Lent). length x.records) follows.1 ∙ length_records left (all_fit end us (calls cs)) ∙ long in omega (arith, n, r.there)

  setup_is : get_or us i no_setup ≡ u
  setup_is =
      let are = setups_are r.list (length r.before.records) four_each in
      are.1 i (omega (arith, are.0, here)) ∙ r.its_setup

  bytes_are : bytes_of i b ≡ stock_bytes (now end us (calls cs) i)
  bytes_are = ap (bytes_of i) follows.1 ∙ bytes_of_lem left (all_fit end us (calls cs)) i (omega (arith, long, here)) (blank end)

  some : 1 ≤ length (book end us)
  some = simp length-map begun.some

  few : length (book end us) ≤ 64
  few = simp length-map begun.few

  in_book : i < length (book end us)
  in_book = simp length-map here

  made : made_of i cs ≡ replies end i (book end us) (calls cs)
  made = made_are end i (book end us) some few in_book cs follows.0

-- after calls in two parts
module _ (𝓕 : Family) (d : Demand2 𝓕) (end : ℕ) (u : Setup) (i : ℕ) (cs es : List Made) (b : Lent) (r : Ran 𝓕 end u i (cs ++ es) b) where
  abbrev vs : List Setup
  vs = setups_of r.list

  abbrev between : List Counted
  between = run counting (blank end) (book end vs) (calls cs)

  parts : Answered end (book end vs) cs × Answered end between es
  parts = answered_append end (book end vs) cs es (follows 𝓕 d end u i (cs ++ es) b r).0

  first_made : made_of i cs ≡ replies end i (book end vs) (calls cs)
  first_made = made_are end i (book end vs) (some 𝓕 d end u i (cs ++ es) b r) (few 𝓕 d end u i (cs ++ es) b r) (in_book 𝓕 d end u i (cs ++ es) b r) cs parts.0

  between_has : i < length between
  between_has = let n = run_length end (book end vs) (calls cs) in omega (arith, n, in_book 𝓕 d end u i (cs ++ es) b r)

  second_made : made_of i es ≡ replies end i between (calls es)
  second_made =
      let n = run_length end (book end vs) (calls cs) in
      made_are end i between (omega (arith, n, some 𝓕 d end u i (cs ++ es) b r)) (omega (arith, n, few 𝓕 d end u i (cs ++ es) b r)) between_has es parts.1

  -- the journal and the stock, by the rules' calls in two parts
  whole : journal_of i (cs ++ es) ≡ map reply (books.journal_of end vs (calls cs ++ calls es) i)
  whole =
      journal_are end i (book end vs) (cs ++ es) (made 𝓕 d end u i (cs ++ es) b r)
      ∙ ap (λ (l : Calls counting). map reply (books.journal_of end vs l i)) (calls_append cs es)

  whole_now : now end vs (calls (cs ++ es)) i ≡ now end vs (calls cs ++ calls es) i
  whole_now = ap (λ (l : Calls counting). now end vs l i) (calls_append cs es)

  -- where the second part settles to a time until that is refused, so do the rules
  module _ (time : ℕ) (all : Every (λ x. call_made x ≡ settle time) (made_of i es)) where
    settlings : Every (λ c. c ≡ settle time) (of i (calls es))
    settlings = subst (Every (λ c. c ≡ settle time)) (sym (called_is i es)) (every_map call_made (λ c. c ≡ settle time) (made_of i es) all)

    refuses : Some (λ x. ¬ (number_made x ≡ 0)) (made_of i es) → ¬ (settles time (now end vs (calls cs ++ calls es) i) ≡ 0)
    refuses one =
        subst (λ (l : List Counted). ¬ (settles time (stock counting (blank end) l i) ≡ 0)) (sym (run_append counting (blank end) (book end vs) (calls cs) (calls es)))
        (refused_in counting (blank end) time between (calls es) i between_has settlings
        (some_map reply (number_of counting) number_made reply_number (of i (asked counting (blank end) between (calls es))) (subst (Some (λ x. ¬ (number_made x ≡ 0))) second_made one)))

-- ------------------------------------------------------------------ two stocks that were set up alike

module _ (𝓕 : Family) (d : Demand2 𝓕) (end : ℕ) (u : Setup) (i j : ℕ) (cs ds : List Made) (b c : Lent)
    (r : Ran 𝓕 end u i cs b) (q : Ran 𝓕 end u j ds c) where
  set_up_alike : SetUpAlike (setups_of r.list) (setups_of q.list) i j
  set_up_alike = record {
    first = here 𝓕 d end u i cs b r;
    second = here 𝓕 d end u j ds c q;
    alike = setup_is 𝓕 d end u i cs b r ∙ sym (setup_is 𝓕 d end u j ds c q);
  }

  same_stock : journal_of i cs ≡ journal_of j ds → now end (setups_of r.list) (calls cs) i ≡ now end (setups_of q.list) (calls ds) j → SameStock i j cs ds b c
  same_stock k e = record {
    journals = k;
    stocks = bytes_are 𝓕 d end u i cs b r ∙ ap stock_bytes e ∙ sym (bytes_are 𝓕 d end u j ds c q);
    notices = noticed_is i cs ∙ ap given k ∙ sym (noticed_is j ds);
  }

  by_journal : called (journal_of i cs) ≡ called (journal_of j ds) → SameStock i j cs ds b c
  by_journal k =
      let hs = book end (setups_of r.list) in
      let ks = book end (setups_of q.list) in
      let made₁ = made 𝓕 d end u i cs b r in
      let made₂ = made 𝓕 d end u j ds c q in
      let both = demands.same_journal end (setups_of r.list) (setups_of q.list) (calls cs) (calls ds) i j set_up_alike
      (sym (called_are end i hs cs made₁) ∙ k ∙ called_are end j ks ds made₂) in
      same_stock (journal_are end i hs cs made₁ ∙ ap (map reply) both.journals ∙ sym (journal_are end j ks ds made₂)) both.stocks

module _ (𝓕 : Family) (d : Demand2 𝓕) (end : ℕ) (u : Setup) (i j : ℕ) (cs ds es fs : List Made) (b c : Lent)
    (r : Ran 𝓕 end u i (cs ++ es) b) (q : Ran 𝓕 end u j (ds ++ fs) c) (k : called (journal_of i cs) ≡ called (journal_of j ds)) where
  abbrev vs₁ : List Setup
  vs₁ = setups_of r.list

  abbrev vs₂ : List Setup
  vs₂ = setups_of q.list

  alike : SetUpAlike vs₁ vs₂ i j
  alike = set_up_alike 𝓕 d end u i j (cs ++ es) (ds ++ fs) b c r q

  -- the first parts
  calls_alike : machines.called counting (books.journal_of end vs₁ (calls cs) i) ≡ machines.called counting (books.journal_of end vs₂ (calls ds) j)
  calls_alike =
      sym (called_are end i (book end vs₁) cs (first_made 𝓕 d end u i cs es b r)) ∙ k ∙ called_are end j (book end vs₂) ds (first_made 𝓕 d end u j ds fs c q)

  noticed_alike : noticed i cs ≡ noticed j ds
  noticed_alike =
      let journals = (demands.same_journal end vs₁ vs₂ (calls cs) (calls ds) i j alike calls_alike).journals in
      noticed_is i cs ∙ ap given (journal_are end i (book end vs₁) cs (first_made 𝓕 d end u i cs es b r) ∙ ap (map reply) journals
      ∙ sym (journal_are end j (book end vs₂) ds (first_made 𝓕 d end u j ds fs c q))) ∙ sym (noticed_is j ds)

  -- both parts
  same_parts : rules.SameStock end vs₁ vs₂ (calls cs ++ calls es) (calls ds ++ calls fs) i j → SameStock i j (cs ++ es) (ds ++ fs) b c
  same_parts e = same_stock 𝓕 d end u i j (cs ++ es) (ds ++ fs) b c r q
      (whole 𝓕 d end u i cs es b r ∙ ap (map reply) e.journals ∙ sym (whole 𝓕 d end u j ds fs c q))
      (whole_now 𝓕 d end u i cs es b r ∙ e.stocks ∙ sym (whole_now 𝓕 d end u j ds fs c q))

  by_entries : (entries : List MadeOne) → IsJournal number_made (made_of i es) entries → called (made_of j fs) ≡ called entries
      → (made_of j fs ≡ entries) × SameStock i j (cs ++ es) (ds ++ fs) b c
  by_entries entries is e =
      let xs = entries_map reply (number_of counting) number_made reply_number (asked_of end vs₁ (calls cs) (calls es) i) entries
      (subst (λ l. IsJournal number_made l entries) (second_made 𝓕 d end u i cs es b r) is) in
      let both = demands.replayed end vs₁ vs₂ (calls cs) (calls ds) (calls es) (calls fs) i j alike calls_alike xs.0 xs.1
      (called_is j fs ∙ e ∙ ap called xs.2 ∙ reply_call xs.0) in
      (second_made 𝓕 d end u j ds fs c q ∙ ap (map reply) both.0 ∙ sym xs.2, same_parts both.1)

  by_settling : (time : ℕ)
      → Every (λ x. call_made x ≡ settle time) (made_of i es) → Some (λ x. ¬ (number_made x ≡ 0)) (made_of i es)
      → Every (λ x. call_made x ≡ settle time) (made_of j fs) → Some (λ x. ¬ (number_made x ≡ 0)) (made_of j fs)
      → SameStock i j (cs ++ es) (ds ++ fs) b c × (noticed i es ≡ noticed j fs)
  by_settling time m n m' n' =
      let same = same_parts (demands.settled_on end time vs₁ vs₂ (calls cs) (calls ds) (calls es) (calls fs) i j alike calls_alike
      (settlings 𝓕 d end u i cs es b r time m) (refuses 𝓕 d end u i cs es b r time m n)
      (settlings 𝓕 d end u j ds fs c q time m') (refuses 𝓕 d end u j ds fs c q time m' n')) in (
        same,
        append_cancel_left (noticed i cs) (noticed i es) (noticed j fs)
            (sym (noticed_append i cs es) ∙ same.notices ∙ noticed_append j ds fs ∙ ap (λ (l : List Notice). l ++ noticed j fs) (sym noticed_alike)),
      )

pub recovery : (𝓕 : Family) → Demand2 𝓕 → Recovery 𝓕
recovery 𝓕 d = record {
  same_journal = by_journal 𝓕 d;
  replayed = by_entries 𝓕 d;
  settled_on = λ end time u i j cs ds es fs gs b c r q k m n m' n'.
      let both = by_settling 𝓕 d end u i j cs ds es (fs ++ gs) b c r q k time m n m' n' in
      (both.0, both.1 ∙ noticed_append j fs gs);
}
