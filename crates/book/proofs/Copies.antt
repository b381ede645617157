-- Calls on a book do to a stock what its own calls do to its bytes alone; so its bytes, copied, go on alike.
-- Assumes nothing.
use Prim.Native.Nat.{ℕ, ◌<◌}
use mathlib.Core.Bool.{Bool, true, false}
use mathlib.Core.List.{List, [], ◌∷◌}
use mathlib.Core.Logic.{inl, inr}
use mathlib.Core.Path.{◌≡◌, refl, sym, ap, ◌∙◌, subst}
use borrow.Author.Tests.{eqb-true, eqb-false, eq-eqb}
use lib.Dec.{eqb}
use lib.ListN.{length}
use Rattle.forms.specs.Choice.{if◌then◌otherwise◌}
use Rattle.forms.proofs.Choice.{if_true}
use Rattle.rules.specs.Machine.{journal, IsJournal, Call, tell, settle}
use Rattle.rules.specs.Numbers.{zeros, no_notice}
use Rattle.rules.specs.declared.Answer.{Answer}
use Rattle.rules.specs.declared.Message.{Message}
use Rattle.rules.specs.declared.Notice.{Notice}
use Rattle.rules.proofs.Journal.{same_accepted}
use Rattle.stock.specs.View.{Bytes, Outcome, telling, settling}
use Rattle.stock.proofs.Laws as stock
use Rattle.book.specs.Lent.{Lent, bytes_of, Given, calling}
use Rattle.book.specs.Words.{InShape}
use Rattle.book.specs.Laws.{Touched}
use Rattle.book.specs.Demands.{ours, Made, refused_setup, told, settled, was_read, next_given, totals_given, Chain, MadeOne, told_one, settled_one, OneChain, number_made, called, made_of, Copied}
use Rattle.book.proofs.Laws.{laws}
use Rattle.book.proofs.Meaning.{let_in}
use Rattle.book.proofs.Replay.{given, noticed_is}

-- ------------------------------------------------------------------ a chain on one stock's bytes

-- without some refused calls
dropped : (x x' : Bytes) (xs es : List MadeOne) → OneChain x xs x' → IsJournal number_made xs es → OneChain x es x'
dropped x x' [] es k j = subst (λ l. OneChain x l x') (sym j) k
dropped x x' (told_one m a ∷ xs) es k (inl j) =
    subst (λ l. OneChain x l x') (sym j.1) (k.0, k.1, dropped k.0 x' xs j.0 k.2 j.2)
dropped x x' (told_one m a ∷ xs) es k (inr j) =
    dropped x x' xs es (subst (λ y. OneChain y xs x') ((stock.laws).told_refused m x _ _ _ k.1 j.0) k.2) j.1
dropped x x' (settled_one time a ∷ xs) es k (inl j) =
    subst (λ l. OneChain x l x') (sym j.1) (k.0, k.1, dropped k.0 x' xs j.0 k.2 j.2)
dropped x x' (settled_one time a ∷ xs) es k (inr j) =
    dropped x x' xs es (subst (λ y. OneChain y xs x') ((stock.laws).settled_refused time x _ _ _ k.1 j.0) k.2) j.1

-- what each call is answered, and the bytes that they leave
abbrev walk : Bytes → List (Call Message) → List MadeOne
walk x [] = []
walk x (tell m ∷ cs) = told_one m (telling m x).answer ∷ walk (telling m x).bytes cs
walk x (settle time ∷ cs) = settled_one time (settling time x).answer ∷ walk (settling time x).bytes cs

abbrev ends : Bytes → List (Call Message) → Bytes
ends x [] = x
ends x (tell m ∷ cs) = ends (telling m x).bytes cs
ends x (settle time ∷ cs) = ends (settling time x).bytes cs

-- the calls decide them
walked : (x x' : Bytes) (xs : List MadeOne) → OneChain x xs x' → (xs ≡ walk x (called xs)) × (x' ≡ ends x (called xs))
walked x x' [] k = (refl, sym k)
walked x x' (told_one m a ∷ xs) k =
    let rest = walked (telling m x).bytes x' xs (subst (λ c. OneChain c xs x') (ap (λ (o : Outcome Answer). o.bytes) k.1) k.2) in
    (rw (← rest.0) (ap (λ (r : Answer). told_one m r ∷ xs) (ap (λ (o : Outcome Answer). o.answer) k.1)), rest.1)
walked x x' (settled_one time a ∷ xs) k =
    let rest = walked (settling time x).bytes x' xs (subst (λ c. OneChain c xs x') (ap (λ (o : Outcome Notice). o.bytes) k.1) k.2) in
    (rw (← rest.0) (ap (λ (r : Notice). settled_one time r ∷ xs) (ap (λ (o : Outcome Notice). o.answer) k.1)), rest.1)

-- ------------------------------------------------------------------ a chain on a book

-- one call on stock j
module _ {A : Type 0} (j : ℕ) (step : Bytes → Outcome A) (beside : ℕ → A) (b c : Lent) (a : A)
    (e : ◌≡◌ {A = Given A} (record { answer = a; book = c }) (calling j step beside b)) (t : Touched j (step (bytes_of j b)).bytes b c) (s : InShape b) where
  in_shape_lem : InShape c
  in_shape_lem = rw (t.stocks, t.times, t.prices) s

  still : (i : ℕ) → i < length b.records → i < length c.records
  still i l = rw t.stocks l

  stepped : j < length b.records → ◌≡◌ {A = Outcome A} (record { answer = a; bytes = bytes_of j c }) (step (bytes_of j b))
  unfolding calling
  stepped l =
      let z = let_in j b s l in
      outcome (ap (λ (g : Given A). g.answer) (e ∙ if_true _ _ _ (eq-eqb _ 0 z))) (t.own z)
    where
      outcome : {o : Outcome A} {x : Bytes} → a ≡ o.answer → x ≡ o.bytes → ◌≡◌ {A = Outcome A} (record { answer = a; bytes = x }) o
      outcome p q = λ y. record { answer = p y; bytes = q y }

-- of the calls on a book those on stock i are a chain on its bytes
apart : (i : ℕ) (cs : List Made) (b b' : Lent) → InShape b → i < length b.records → Chain ours b cs b' → OneChain (bytes_of i b) (made_of i cs) (bytes_of i b')
unfolding if◌then◌otherwise◌
apart i [] b b' s l k = ap (bytes_of i) k
apart i (refused_setup end list a ∷ cs) b b' s l k =
    apart i cs b b' s l (subst (λ x. Chain ours x cs b') (laws.set_up_refused end list b k.0 a k.1 k.2) k.3)
apart i (told j m a ∷ cs) b b' s l k =
    let t = laws.told_touches j m b a k.0 k.1 in
    go (eqb i j) refl t (apart i cs k.0 b' (in_shape_lem j (telling m) zeros b k.0 a k.1 t s) (still j (telling m) zeros b k.0 a k.1 t s i l) k.2)
  where
    go : (x : Bool) → eqb i j ≡ x → Touched j (telling m (bytes_of j b)).bytes b k.0 → OneChain (bytes_of i k.0) (made_of i cs) (bytes_of i b')
        → OneChain (bytes_of i b) (made_of i (told j m a ∷ cs)) (bytes_of i b')
    go true q t rest =
        let e = eqb-true i j q in
        rw q (
          bytes_of i k.0,
          subst (λ n. ◌≡◌ {A = Outcome Answer} (record { answer = a; bytes = bytes_of n k.0 }) (telling m (bytes_of n b))) (sym e)
              (stepped j (telling m) zeros b k.0 a k.1 t s (subst (λ n. n < length b.records) e l)),
          rest,
        )
    go false q t rest = rw q (subst (λ x. OneChain x (made_of i cs) (bytes_of i b')) (t.others i (eqb-false i j q)) rest)
apart i (settled j time a ∷ cs) b b' s l k =
    let t = laws.settled_touches j time b a k.0 k.1 in
    go (eqb i j) refl t (apart i cs k.0 b' (in_shape_lem j (settling time) no_notice b k.0 a k.1 t s) (still j (settling time) no_notice b k.0 a k.1 t s i l) k.2)
  where
    go : (x : Bool) → eqb i j ≡ x → Touched j (settling time (bytes_of j b)).bytes b k.0 → OneChain (bytes_of i k.0) (made_of i cs) (bytes_of i b')
        → OneChain (bytes_of i b) (made_of i (settled j time a ∷ cs)) (bytes_of i b')
    go true q t rest =
        let e = eqb-true i j q in
        rw q (
          bytes_of i k.0,
          subst (λ n. ◌≡◌ {A = Outcome Notice} (record { answer = a; bytes = bytes_of n k.0 }) (settling time (bytes_of n b))) (sym e)
              (stepped j (settling time) no_notice b k.0 a k.1 t s (subst (λ n. n < length b.records) e l)),
          rest,
        )
    go false q t rest = rw q (subst (λ x. OneChain x (made_of i cs) (bytes_of i b')) (t.others i (eqb-false i j q)) rest)
apart i (was_read j a ∷ cs) b b' s l k = apart i cs b b' s l k.1
apart i (next_given j u ∷ cs) b b' s l k = apart i cs b b' s l k.1
apart i (totals_given j x ∷ cs) b b' s l k = apart i cs b b' s l k.1

pub copied : Copied
copied i j cs ds b b' c c' s l s' l' e k k' entries is q =
    let first = walked (bytes_of i b) (bytes_of i b') entries (dropped (bytes_of i b) (bytes_of i b') (made_of i cs) entries (apart i cs b b' s l k) is) in
    let second = subst (λ x. (made_of j ds ≡ walk x (called (made_of j ds))) × (bytes_of j c' ≡ ends x (called (made_of j ds)))) (sym e)
    (walked (bytes_of j c) (bytes_of j c') (made_of j ds) (apart j ds c c' s' l' k')) in
    let same : made_of j ds ≡ entries = second.0 ∙ ap (walk (bytes_of i b)) q ∙ sym first.0 in
    let journals = same_accepted number_made (made_of i cs) entries is ∙ ap (journal number_made) (sym same) in (
      same,
      record {
        journals = journals;
        stocks = first.1 ∙ ap (ends (bytes_of i b)) (sym q) ∙ sym second.1;
        notices = noticed_is i cs ∙ ap given journals ∙ sym (noticed_is j ds);
      },
    )
