-- Of any machine: a stock of a book is what its own calls leave, and of these the accepted ones; so a journal rebuilds it.
-- Assumes nothing.
use Prim.Native.Nat.{ℕ, ◌≤◌, ◌<◌}
use mathlib.Core.Bool.{Bool, true, false}
use mathlib.Core.List.Sublistᴰ
use mathlib.Core.List.{List, [], ◌∷◌, ◌++◌, tail-eq_of_cons-eq, Sublistᴰ}
use mathlib.Core.Logic.{◌⊎◌, inl, inr}
use mathlib.Core.Path.{◌≡◌, refl, sym, ap, ◌∙◌, subst}
use native.Mathlib.Omega.{arith}
use borrow.Author.Tests.{eqb-true, eqb-false, eq-eqb, ne_eqb, lt-ltb}
use lib.Dec.{eqb}
use lib.ListN.{length}
use lib.Seq.{get_or-set_same, get_or-set_other}
use Rattle.forms.specs.Choice.{if◌then◌otherwise◌}
use Rattle.forms.specs.Words.{Some}
use Rattle.forms.proofs.Choice.{if_true, if_false}
use Rattle.rules.specs.Machine.{Machine, Call, settle, On, of, Every, journal, IsJournal, History, number, done, event, Asked, number_of, called, Book, Calls, stock, number_in, step_in, happens, run, log, asked}
use Rattle.rules.specs.Demands.{JournalIs, JournalsAre}
use Rattle.rules.proofs.Alike.{of_append, length_step, length_run}

-- a journal has every call that was answered 0, and no other
pub journal_is : JournalIs
unfolding if◌then◌otherwise◌
journal_is A n [] = (refl, tt)
journal_is A n (x ∷ xs) = go (eqb (n x) 0) refl (journal_is A n xs)
  where
    Is : List A → Type 0
    Is l = IsJournal n l (journal n l) × Every (λ y. n y ≡ 0) (journal n l)

    go : (b : Bool) → eqb (n x) 0 ≡ b → Is xs → Is (x ∷ xs)
    go true q k = rw q (inl (journal n xs, refl, k.0), (eqb-true _ 0 q, k.1))
    go false q k = rw q (inr (eqb-false _ 0 q, k.0), k.1)

-- a longer one has the same that were answered 0
pub same_accepted : {A : Type 0} (n : A → ℕ) (xs es : List A) → IsJournal n xs es → journal n xs ≡ journal n es
unfolding if◌then◌otherwise◌
same_accepted n [] es k = rw k
same_accepted {A = A} n (x ∷ xs) es (inl k) =
    subst (λ l. journal n (x ∷ xs) ≡ journal n l) (sym k.1) (ap (λ (l : List A). if eqb (n x) 0 then x ∷ l otherwise l) (same_accepted n xs k.0 k.2))
same_accepted n (x ∷ xs) es (inr k) = if_false _ _ _ (ne_eqb _ 0 k.0) ∙ same_accepted n xs es k.1

-- with some left out there are no more of those
no_more : {A : Type 0} (n : A → ℕ) {es xs : List A} → Sublistᴰ es xs → length (journal n es) ≤ length (journal n xs)
unfolding if◌then◌otherwise◌
no_more n Sublistᴰ.slnil = omega arith
no_more {A = A} n (Sublistᴰ.cons {a = a} {l₁ = es} {l₂ = xs} s) = go (eqb (n a) 0) refl (no_more n s)
  where
    go : (b : Bool) → eqb (n a) 0 ≡ b → length (journal n es) ≤ length (journal n xs) → length (journal n es) ≤ length (journal n (a ∷ xs))
    go true q k = rw q (omega (arith, k))
    go false q k = rw q k
no_more {A = A} n (Sublistᴰ.cons-cons {a = a} {b = b} {l₁ = es} {l₂ = xs} e s) =
    subst (λ x. length (journal n (a ∷ es)) ≤ length (journal n (x ∷ xs))) e (go (eqb (n a) 0) refl (no_more n s))
  where
    go : (y : Bool) → eqb (n a) 0 ≡ y → length (journal n es) ≤ length (journal n xs) → length (journal n (a ∷ es)) ≤ length (journal n (a ∷ xs))
    go true q k = rw q (omega (arith, k))
    go false q k = rw q k

left_out : {A : Type 0} (n : A → ℕ) (xs es : List A) → IsJournal n xs es → Sublistᴰ es xs
left_out n [] es k = subst (λ l. Sublistᴰ l []) (sym k) Sublistᴰ.slnil
left_out n (x ∷ xs) es (inl k) = subst (λ l. Sublistᴰ l (x ∷ xs)) (sym k.1) (Sublistᴰ.cons-cons refl (left_out n xs k.0 k.2))
left_out n (x ∷ xs) es (inr k) = Sublistᴰ.cons (left_out n xs es k.1)

-- a call that is left out was refused, since the others have too few
pub journals_are : JournalsAre
unfolding if◌then◌otherwise◌
journals_are A n [] es = ((λ k. (left_out n [] es k, ap (journal n) k)), (λ k. Sublistᴰ.eq-nil k.0))
journals_are A n (x ∷ xs) es = (
  (λ k. (left_out n (x ∷ xs) es k, sym (same_accepted n (x ∷ xs) es k))),
  (λ k. go (Sublistᴰ.cases_cons k.0) (eqb (n x) 0) refl k.1 (λ l s e. (journals_are A n xs l).1 (s, e))),
)
  where
    Rest : Type 0
    Rest = (l : List A) → Sublistᴰ l xs → journal n l ≡ journal n xs → IsJournal n xs l

    same_rest : (b : Bool) → eqb (n x) 0 ≡ b → (l : List A) → journal n (x ∷ l) ≡ journal n (x ∷ xs) → journal n l ≡ journal n xs
    same_rest true q l e = tail-eq_of_cons-eq (sym (if_true _ (x ∷ journal n l) _ q) ∙ (e ∙ if_true _ (x ∷ journal n xs) _ q))
    same_rest false q l e = sym (if_false _ _ (journal n l) q) ∙ (e ∙ if_false _ _ (journal n xs) q)

    go : Sublistᴰ es xs ⊎ ((r : List A) × (es ≡ x ∷ r) × Sublistᴰ r xs) → (b : Bool) → eqb (n x) 0 ≡ b → journal n es ≡ journal n (x ∷ xs) → Rest
        → IsJournal n (x ∷ xs) es
    go (inl s) true q e rest = absurd (omega (arith, no_more n s, ap length (e ∙ if_true _ (x ∷ journal n xs) _ q)))
    go (inl s) false q e rest = inr (eqb-false _ 0 q, rest es s (e ∙ if_false _ _ (journal n xs) q))
    go (inr k) b q e rest = inl (k.0, k.1, rest k.0 k.2 (same_rest b q k.0 (subst (λ l. journal n l ≡ journal n (x ∷ xs)) k.1 e)))

pub journal_append : {A : Type 0} (n : A → ℕ) (xs ys : List A) → journal n (xs ++ ys) ≡ journal n xs ++ journal n ys
unfolding if◌then◌otherwise◌
journal_append n [] ys = refl
journal_append {A = A} n (x ∷ xs) ys = go (eqb (n x) 0) refl (journal_append n xs ys)
  where
    go : (b : Bool) → eqb (n x) 0 ≡ b → journal n (xs ++ ys) ≡ journal n xs ++ journal n ys → journal n ((x ∷ xs) ++ ys) ≡ journal n (x ∷ xs) ++ journal n ys
    go true q k = rw q (ap (λ l. x ∷ l) k)
    go false q k = rw q k

module _ (𝓜 : Machine) where
  open 𝓜 use {Stock, Message, Notice, settles, fire}

  -- ---------------------------------------------------------------- calls on one stock

  -- the stock after a call, and what the call made happen
  abbrev next : Call Message → Stock → Stock
  next c s = if eqb (number 𝓜 c s) 0 then done 𝓜 c s otherwise s

  abbrev makes : Call Message → Stock → History 𝓜
  makes c s = if eqb (number 𝓜 c s) 0 then event 𝓜 c s ∷ [] otherwise []

  -- the same of calls in a row, and what each of them finds
  abbrev ends : Stock → List (Call Message) → Stock
  ends s [] = s
  ends s (c ∷ cs) = ends (next c s) cs

  abbrev tale : Stock → List (Call Message) → History 𝓜
  tale s [] = []
  tale s (c ∷ cs) = makes c s ++ tale (next c s) cs

  abbrev asks : Stock → List (Call Message) → List (Asked 𝓜)
  asks s [] = []
  asks s (c ∷ cs) = record { call = c; found = s } ∷ asks (next c s) cs

  -- those of them that were answered 0
  abbrev accepts : Stock → List (Call Message) → List (Asked 𝓜)
  accepts s cs = journal (number_of 𝓜) (asks s cs)

  -- in two parts
  ends_append : (s : Stock) (cs ds : List (Call Message)) → ends s (cs ++ ds) ≡ ends (ends s cs) ds
  ends_append s [] ds = refl
  ends_append s (c ∷ cs) ds = ends_append (next c s) cs ds

  accepts_append : (s : Stock) (cs ds : List (Call Message)) → accepts s (cs ++ ds) ≡ accepts s cs ++ accepts (ends s cs) ds
  unfolding if◌then◌otherwise◌
  accepts_append s [] ds = refl
  accepts_append s (c ∷ cs) ds = go (eqb (number 𝓜 c s) 0) refl (λ s'. accepts_append s' cs ds)
    where
      go : (b : Bool) → eqb (number 𝓜 c s) 0 ≡ b → ((s' : Stock) → accepts s' (cs ++ ds) ≡ accepts s' cs ++ accepts (ends s' cs) ds)
          → accepts s ((c ∷ cs) ++ ds) ≡ accepts s (c ∷ cs) ++ accepts (ends s (c ∷ cs)) ds
      go true q rest = rw q (ap (λ l. record { call = c; found = s } ∷ l) (rest (done 𝓜 c s)))
      go false q rest = rw q (rest s)

  -- ---------------------------------------------------------------- the accepted calls decide

  -- what accepted calls leave, what they make happen, and what they find
  abbrev through : Stock → List (Call Message) → Stock
  through s [] = s
  through s (c ∷ cs) = through (done 𝓜 c s) cs

  abbrev events : Stock → List (Call Message) → History 𝓜
  events s [] = []
  events s (c ∷ cs) = event 𝓜 c s ∷ events (done 𝓜 c s) cs

  abbrev finds : Stock → List (Call Message) → List (Asked 𝓜)
  finds s [] = []
  finds s (c ∷ cs) = record { call = c; found = s } ∷ finds (done 𝓜 c s) cs

  -- all that calls do is what those of the journal do
  abbrev Decided : Stock → List (Call Message) → Type 0
  Decided s cs = let es = called 𝓜 (accepts s cs) in (ends s cs ≡ through s es) × (tale s cs ≡ events s es) × (accepts s cs ≡ finds s es)

  decided : (s : Stock) (cs : List (Call Message)) → Decided s cs
  unfolding if◌then◌otherwise◌
  decided s [] = (refl, refl, refl)
  decided s (c ∷ cs) = go (eqb (number 𝓜 c s) 0) refl (λ s'. decided s' cs)
    where
      go : (b : Bool) → eqb (number 𝓜 c s) 0 ≡ b → ((s' : Stock) → Decided s' cs) → Decided s (c ∷ cs)
      go true q rest =
          let k = rest (done 𝓜 c s) in
          rw q (k.0, ap (λ l. event 𝓜 c s ∷ l) k.1, ap (λ l. record { call = c; found = s } ∷ l) k.2)
      go false q rest = rw q (rest s)

  -- ---------------------------------------------------------------- a journal is replayed

  -- each entry finds what it found
  replays : (s : Stock) (cs : List (Call Message)) (es : List (Asked 𝓜)) → IsJournal (number_of 𝓜) (asks s cs) es → asks s (called 𝓜 es) ≡ es
  replays s [] es k = rw k
  replays s (c ∷ cs) es (inl k) =
      rw k.1 (ap (λ l. record { call = c; found = s } ∷ l) (replays (next c s) cs k.0 k.2))
  replays s (c ∷ cs) es (inr k) =
      let stays : next c s ≡ s = if_false _ _ _ (ne_eqb _ 0 k.0) in
      replays s cs es (subst (λ s'. IsJournal (number_of 𝓜) (asks s' cs) es) stays k.1)

  -- ---------------------------------------------------------------- settling to a time until that is refused

  module _ (time : ℕ) where
    abbrev Settlings : List (Call Message) → Type 0
    Settlings cs = Every (λ c. c ≡ settle time) cs

    abbrev Refuses : Stock → Type 0
    Refuses s = ¬ (settles time s ≡ 0)

    -- once it is refused, all are
    quiet : (s : Stock) (cs : List (Call Message)) → Settlings cs → Refuses s → accepts s cs ≡ []
    unfolding if◌then◌otherwise◌
    quiet s [] k n = refl
    quiet s (c ∷ cs) k n =
        subst (λ x. accepts s (x ∷ cs) ≡ []) (sym k.0) (rw (ne_eqb _ 0 n) (quiet s cs k.1 n))

    -- while it is accepted, the first is
    first : (s : Stock) (c : Call Message) (cs : List (Call Message)) → c ≡ settle time → eqb (settles time s) 0 ≡ true
        → (accepts s (c ∷ cs) ≡ record { call = settle time; found = s } ∷ accepts (fire s) cs) × (ends s (c ∷ cs) ≡ ends (fire s) cs)
    unfolding if◌then◌otherwise◌
    first s c cs e q =
        subst (λ x. (accepts s (x ∷ cs) ≡ record { call = settle time; found = s } ∷ accepts (fire s) cs) × (ends s (x ∷ cs) ≡ ends (fire s) cs)) (sym e)
        (rw q (refl, refl))

    same : (s : Stock) (cs ds : List (Call Message)) → Settlings cs → Refuses (ends s cs) → Settlings ds → Refuses (ends s ds) → accepts s cs ≡ accepts s ds
    unfolding if◌then◌otherwise◌
    same s [] ds k m l n = sym (quiet s ds l m)
    same s (c ∷ cs) [] k m l n = quiet s (c ∷ cs) k n
    same s (c ∷ cs) (d ∷ ds) k m l n = go (eqb (settles time s) 0) refl (same (fire s) cs ds k.1)
      where
        go : (b : Bool) → eqb (settles time s) 0 ≡ b → (Refuses (ends (fire s) cs) → Settlings ds → Refuses (ends (fire s) ds) → accepts (fire s) cs ≡ accepts (fire s) ds)
            → accepts s (c ∷ cs) ≡ accepts s (d ∷ ds)
        go true q rest =
            let a = first s c cs k.0 q in
            let b = first s d ds l.0 q in
            a.0 ∙ (ap (λ l. record { call = settle time; found = s } ∷ l) (rest (subst Refuses a.1 m) l.1 (subst Refuses b.1 n)) ∙ sym b.0)
        go false q rest = quiet s (c ∷ cs) k (eqb-false _ 0 q) ∙ sym (quiet s (d ∷ ds) l (eqb-false _ 0 q))

    -- where one was refused, the next would be
    refusing : (s : Stock) (cs : List (Call Message)) → Settlings cs → Refuses s → Refuses (ends s cs)
    refusing s [] k n = n
    refusing s (c ∷ cs) k n =
        let stays : next c s ≡ s = if_false _ _ _ (ne_eqb _ 0 (subst (λ x. ¬ (number 𝓜 x s ≡ 0)) (sym k.0) n)) in
        subst (λ s'. Refuses (ends s' cs)) (sym stays) (refusing s cs k.1 n)

    refused : (s : Stock) (cs : List (Call Message)) → Settlings cs → Some (λ x. ¬ (number_of 𝓜 x ≡ 0)) (asks s cs) → Refuses (ends s cs)
    refused s [] k n = absurd n
    refused s (c ∷ cs) k (inl n) = refusing s (c ∷ cs) k (subst (λ x. ¬ (number 𝓜 x s ≡ 0)) k.0 n)
    refused s (c ∷ cs) k (inr n) = refused (next c s) cs k.1 n

  -- ---------------------------------------------------------------- a book: a stock meets its own calls and no others

  module _ (blank : Stock) where
    abbrev at : Book 𝓜 → ℕ → Stock
    at = stock 𝓜 blank

    module _ (b : Book 𝓜) (c : On (Call Message)) where
      -- the stock i after a call, and what of it happened to the stock i
      abbrev Steps : ℕ → Stock → History 𝓜 → Type 0
      Steps i s es = (at (step_in 𝓜 blank b c) i ≡ s) × (of i (happens 𝓜 blank b c) ≡ es)

      own : c.at < length b → Steps c.at (next c.it (at b c.at)) (makes c.it (at b c.at))
      unfolding step_in happens of number_in if◌then◌otherwise◌
      own l = go (eqb (number 𝓜 c.it (at b c.at)) 0) refl
        where
          go : (x : Bool) → eqb (number 𝓜 c.it (at b c.at)) 0 ≡ x → Steps c.at (next c.it (at b c.at)) (makes c.it (at b c.at))
          go true q = rw (lt-ltb c.at (length b) l, q, eq-eqb c.at c.at refl) (get_or-set_same b c.at _ blank l, refl)
          go false q = rw (lt-ltb c.at (length b) l, q) (refl, refl)

      other : (i : ℕ) → ¬ (i ≡ c.at) → Steps i (at b i) []
      unfolding step_in happens of if◌then◌otherwise◌
      other i n = go (eqb (number_in 𝓜 blank b c) 0) refl
        where
          go : (x : Bool) → eqb (number_in 𝓜 blank b c) 0 ≡ x → Steps i (at b i) []
          go true q = rw (q, ne_eqb i c.at n) (get_or-set_other b c.at i _ blank n, refl)
          go false q = rw q (refl, refl)

    -- whatever the book and the calls on its other stocks
    pub record Alone (b : Book 𝓜) (cs : Calls 𝓜) (i : ℕ) : Type 0 where
      pub ended : at (run 𝓜 blank b cs) i ≡ ends (at b i) (of i cs)
      pub told : of i (log 𝓜 blank b cs) ≡ tale (at b i) (of i cs)
      pub met : of i (asked 𝓜 blank b cs) ≡ asks (at b i) (of i cs)

    alone : (b : Book 𝓜) (cs : Calls 𝓜) (i : ℕ) → i < length b → Alone b cs i
    unfolding of if◌then◌otherwise◌
    alone b [] i l = record { ended = refl; told = refl; met = refl }
    alone b (c ∷ cs) i l = go (eqb i c.at) refl (alone (step_in 𝓜 blank b c) cs i (rw (length_step 𝓜 blank b c) l))
      where
        b' : Book 𝓜
        b' = step_in 𝓜 blank b c

        logs : of i (log 𝓜 blank b (c ∷ cs)) ≡ of i (happens 𝓜 blank b c) ++ of i (log 𝓜 blank b' cs)
        logs = of_append i (happens 𝓜 blank b c) (log 𝓜 blank b' cs)

        go : (x : Bool) → eqb i c.at ≡ x → Alone b' cs i → Alone b (c ∷ cs) i
        go true q k =
            let e : i ≡ c.at = eqb-true i c.at q in
            let step = subst (λ j. j < length b → Steps b c j (next c.it (at b j)) (makes c.it (at b j))) (sym e) (own b c) l in
            record {
              ended = rw q (k.ended ∙ ap (λ s. ends s (of i cs)) step.0);
              told = logs ∙ rw q (ap (λ es. es ++ of i (log 𝓜 blank b' cs)) step.1
                  ∙ ap (λ es. makes c.it (at b i) ++ es) (k.told ∙ ap (λ s. tale s (of i cs)) step.0));
              met = rw q (ap (λ j. record { call = c.it; found = at b j } ∷ of i (asked 𝓜 blank b' cs)) (sym e)
                  ∙ ap (λ xs. record { call = c.it; found = at b i } ∷ xs) (k.met ∙ ap (λ s. asks s (of i cs)) step.0));
            }
        go false q k =
            let step = other b c i (eqb-false i c.at q) in
            record {
              ended = rw q (k.ended ∙ ap (λ s. ends s (of i cs)) step.0);
              told = logs ∙ rw q (ap (λ es. es ++ of i (log 𝓜 blank b' cs)) step.1 ∙ (k.told ∙ ap (λ s. tale s (of i cs)) step.0));
              met = rw q (k.met ∙ ap (λ s. asks s (of i cs)) step.0);
            }

    abbrev journals : Book 𝓜 → Calls 𝓜 → ℕ → List (Asked 𝓜)
    journals b cs i = journal (number_of 𝓜) (of i (asked 𝓜 blank b cs))

    -- the stock and all that happened to it, by its journal
    abbrev Rebuilt : Book 𝓜 → Calls 𝓜 → ℕ → Stock → List (Call Message) → Type 0
    Rebuilt b cs i s es = (journals b cs i ≡ finds s es) × (at (run 𝓜 blank b cs) i ≡ through s es) × (of i (log 𝓜 blank b cs) ≡ events s es)

    rebuilt : (b : Book 𝓜) (cs : Calls 𝓜) (i : ℕ) → i < length b → Rebuilt b cs i (at b i) (called 𝓜 (journals b cs i))
    rebuilt b cs i l =
        let own = alone b cs i l in
        let by = decided (at b i) (of i cs) in
        let same : journals b cs i ≡ accepts (at b i) (of i cs) = ap (journal (number_of 𝓜)) own.met in
        subst (λ xs. Rebuilt b cs i (at b i) (called 𝓜 xs)) (sym same) (same ∙ by.2, own.ended ∙ by.0, own.told ∙ by.1)

    pub refused_in : (time : ℕ) (b : Book 𝓜) (cs : Calls 𝓜) (i : ℕ) → i < length b → Every (λ c. c ≡ settle time) (of i cs)
        → Some (λ x. ¬ (number_of 𝓜 x ≡ 0)) (of i (asked 𝓜 blank b cs)) → ¬ (settles time (at (run 𝓜 blank b cs) i) ≡ 0)
    refused_in time b cs i l k n =
        let own = alone b cs i l in
        subst (Refuses time) (sym own.ended) (refused time (at b i) (of i cs) k (subst (Some (λ x. ¬ (number_of 𝓜 x ≡ 0))) own.met n))

    pub run_append : (b : Book 𝓜) (cs es : Calls 𝓜) → run 𝓜 blank b (cs ++ es) ≡ run 𝓜 blank (run 𝓜 blank b cs) es
    run_append b [] es = refl
    run_append b (c ∷ cs) es = run_append (step_in 𝓜 blank b c) cs es

    -- the calls in two parts
    module _ (b : Book 𝓜) (cs es : Calls 𝓜) (i : ℕ) (l : i < length b) where
      ended_on : at (run 𝓜 blank b (cs ++ es)) i ≡ ends (at (run 𝓜 blank b cs) i) (of i es)
      ended_on =
          (alone b (cs ++ es) i l).ended ∙ ap (ends (at b i)) (of_append i cs es) ∙ ends_append (at b i) (of i cs) (of i es)
          ∙ ap (λ s. ends s (of i es)) (sym (alone b cs i l).ended)

      journal_on : journals b (cs ++ es) i ≡ journals b cs i ++ accepts (at (run 𝓜 blank b cs) i) (of i es)
      journal_on =
          let own = alone b cs i l in
          ap (journal (number_of 𝓜)) (alone b (cs ++ es) i l).met ∙ ap (accepts (at b i)) (of_append i cs es)
          ∙ accepts_append (at b i) (of i cs) (of i es)
          ∙ ap (λ xs. journal (number_of 𝓜) xs ++ accepts (ends (at b i) (of i cs)) (of i es)) (sym own.met)
          ∙ ap (λ s. journals b cs i ++ accepts s (of i es)) (sym own.ended)

    -- ---------------------------------------------------------------- two stocks that began alike

    module _ (b b' : Book 𝓜) (i j : ℕ) (l : i < length b) (l' : j < length b') (e : at b i ≡ at b' j) where
      -- they have accepted the same calls and are equal, and so are their histories
      abbrev Same : Calls 𝓜 → Calls 𝓜 → Type 0
      Same cs ds =
          (journals b cs i ≡ journals b' ds j) × (at (run 𝓜 blank b cs) i ≡ at (run 𝓜 blank b' ds) j)
          × (of i (log 𝓜 blank b cs) ≡ of j (log 𝓜 blank b' ds))

      pub by_journal : (cs ds : Calls 𝓜) → called 𝓜 (journals b cs i) ≡ called 𝓜 (journals b' ds j) → Same cs ds
      by_journal cs ds q =
          let x = subst (Rebuilt b cs i (at b i)) q (rebuilt b cs i l) in
          let y = subst (λ s. Rebuilt b' ds j s (called 𝓜 (journals b' ds j))) (sym e) (rebuilt b' ds j l') in
          (x.0 ∙ sym y.0, x.1 ∙ sym y.1, x.2 ∙ sym y.2)

      -- after that, calls of which the same are accepted
      module _ (cs ds es fs : Calls 𝓜) (q : called 𝓜 (journals b cs i) ≡ called 𝓜 (journals b' ds j)) where
        abbrev s : Stock
        s = at (run 𝓜 blank b cs) i

        before : Same cs ds
        before = by_journal cs ds q

        go_on : accepts s (of i es) ≡ accepts s (of j fs) → Same (cs ++ es) (ds ++ fs)
        go_on on =
            let both : journals b (cs ++ es) i ≡ journals b' (ds ++ fs) j =
            journal_on b cs es i l ∙ ap (λ xs. journals b cs i ++ xs) on ∙ ap (λ xs. xs ++ accepts s (of j fs)) before.0
            ∙ ap (λ x. journals b' ds j ++ accepts x (of j fs)) before.1 ∙ sym (journal_on b' ds fs j l') in
            by_journal (cs ++ es) (ds ++ fs) (ap (called 𝓜) both)

        pub by_entries : (xs : List (Asked 𝓜)) → IsJournal (number_of 𝓜) (of i (asked 𝓜 blank (run 𝓜 blank b cs) es)) xs → of j fs ≡ called 𝓜 xs
            → (of j (asked 𝓜 blank (run 𝓜 blank b' ds) fs) ≡ xs) × Same (cs ++ es) (ds ++ fs)
        by_entries xs k p =
            let here = (alone (run 𝓜 blank b cs) es i (rw (length_run 𝓜 blank b cs) l)).met in
            let there = (alone (run 𝓜 blank b' ds) fs j (rw (length_run 𝓜 blank b' ds) l')).met in
            let is : IsJournal (number_of 𝓜) (asks s (of i es)) xs = subst (λ ys. IsJournal (number_of 𝓜) ys xs) here k in
            let again : asks s (of j fs) ≡ xs = ap (asks s) p ∙ replays s (of i es) xs is in (
              there ∙ ap (λ x. asks x (of j fs)) (sym before.1) ∙ again,
              go_on (same_accepted (number_of 𝓜) (asks s (of i es)) xs is ∙ ap (journal (number_of 𝓜)) (sym again)),
            )

        pub by_settling : (time : ℕ) → Every (λ c. c ≡ settle time) (of i es) → ¬ (settles time (at (run 𝓜 blank b (cs ++ es)) i) ≡ 0)
            → Every (λ c. c ≡ settle time) (of j fs) → ¬ (settles time (at (run 𝓜 blank b' (ds ++ fs)) j) ≡ 0)
            → Same (cs ++ es) (ds ++ fs)
        by_settling time k m k' m' =
            go_on (same time s (of i es) (of j fs) k (subst (Refuses time) (ended_on b cs es i l) m) k'
            (subst (Refuses time) (ended_on b' ds fs j l' ∙ ap (λ x. ends x (of j fs)) (sym before.1)) m'))
