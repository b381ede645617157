-- What follows an accepted setup: number 1 is never given, and unused places are 0.
-- Assumes nothing.
use Prim.Native.Nat.{ℕ, ◌*◌, ◌≤◌, ◌<◌}
use mathlib.Core.Bool.{Bool, true, false}
use mathlib.Core.List.{List, [], ◌∷◌, ◌++◌}
use mathlib.Core.Path.{◌≡◌, refl, sym, ap, ◌∙◌, subst}
use native.Mathlib.Omega.{arith}
use borrow.Author.Tests.{ltb-true, eq-eqb, ne_eqb}
use lib.Dec.{ltb}
use lib.ListN.{length, length-map}
use Rattle.forms.specs.Choice.{if◌then◌otherwise◌}
use Rattle.forms.specs.Checks.{first}
use Rattle.forms.proofs.Choice.{if_true, if_false}
use Rattle.rules.specs.Counted.{Counted, reads, fresh, tell_answer, settle_answer, read_answer, or_wrong}
use Rattle.rules.specs.TotalsWords.{Wrong}
use Rattle.rules.specs.Machine.{On, Call, Calls, tell, settle, step_in, run}
use Rattle.rules.specs.Book.{counting, blank, book, Accepted, now, book_tells, book_settles, book_reads, book_next, book_totals}
use Rattle.rules.specs.Numbers.{answer, call_checks}
use Rattle.rules.specs.Words.{Rubbish}
use Rattle.rules.specs.declared.Message.{Message}
use Rattle.rules.specs.declared.Setup.{Setup}
use Rattle.rules.proofs.Answers.{told_number, settled_number, read_number}
use Rattle.rules.proofs.Counted.{if_right}
use Rattle.rules.proofs.Demands.{demands}
use Rattle.rules.proofs.Numbers.{told_1, settled_1, read_1}
use Rattle.calls.specs.Setup.{setups_of}
use Rattle.book.specs.Lent.{Lent}
use Rattle.book.specs.Words.{UnusedAre0}
use Rattle.book.specs.Demands.{Family, Made, refused_setup, told, settled, was_read, next_given, totals_given, calls, Answered, Demand2, Never1, AfterSetup}
use Rattle.book.proofs.Layouts.{layout_is}
use Rattle.book.proofs.Chains.{run_length, all_fit, started}
use Rattle.book.proofs.Alike.{number_0}
use Rattle.book.proofs.Follows.{first_number}

-- ------------------------------------------------------------------ after any calls no stock is rubbish

run_snoc : (end : ℕ) (hs : List Counted) (cs : Calls counting) (c : On (Call Message))
    → run counting (blank end) hs (cs ++ (c ∷ [])) ≡ step_in counting (blank end) (run counting (blank end) hs cs) c
run_snoc end hs [] c = refl
run_snoc end hs (x ∷ cs) c = run_snoc end (step_in counting (blank end) hs x) cs c

module _ (end : ℕ) (us : List Setup) (accepted : Accepted end us) where
  abbrev hs : Calls counting → List Counted
  hs cs = run counting (blank end) (book end us) cs

  clean : (cs : Calls counting) (i : ℕ) → i < length us → ¬ Rubbish (now end us cs i).whole
  clean cs i l =
      let k = demands.by_story end us accepted cs i l in
      rw k.1 (demands.never_rubbish end _ _ k.0)

  right : (cs : Calls counting) (i : ℕ) → i < length us → ¬ Wrong (now end us cs i)
  right cs i l =
      let k = demands.by_story end us accepted cs i l in
      rw (k.1, k.2) (demands.never_wrong end _ _ k.0)

  -- so 1 would be the number of the stock without totals
  own_1 : (cs : Calls counting) (i : ℕ) → i < length us → (own : ℕ) → or_wrong (now end us cs i) own ≡ 1 → own ≡ 1
  own_1 cs i l own e = sym (if_right (now end us cs i) own (right cs i l)) ∙ e

  long : (cs : Calls counting) → length (hs cs) ≡ length us
  long cs = run_length end (book end us) cs ∙ length-map us (fresh end)

  -- the first checks of a book that calls left look at the stock's number alone
  module _ (cs : Calls counting) (i : ℕ) (s : 1 ≤ length us) (f : length us ≤ 64) where
    abbrev places : ℕ
    places = 512 * length (hs cs)

    first_is : first (call_checks (length (hs cs)) places places i) ≡ (if ltb i (length (hs cs)) then 0 otherwise 3)
    first_is = first_number end (hs cs) (all_fit end us cs) (omega (arith, long cs)) (omega (arith, long cs)) i

    told_not_one : (m : Message) → (book_tells end (hs cs) places places i m).number ≡ 1 → ⊥
    unfolding book_tells
    told_not_one m = go (ltb i (length (hs cs))) refl
      where
        go : (b : Bool) → ltb i (length (hs cs)) ≡ b → (book_tells end (hs cs) places places i m).number ≡ 1 → ⊥
        go true q e =
            let l = ltb-true i (length (hs cs)) q in
            let n : (tell_answer m (now end us cs i)).number ≡ 1 = simp (first_is, q, if_true, eq-eqb 0 0 refl) at e in
            let here : i < length us = omega (arith, long cs, l) in
            clean cs i here (told_1 m _ (own_1 cs i here _ (sym (told_number m _) ∙ n)))
        go false q e = let n : ◌≡◌ {A = ℕ} 3 1 = simp (first_is, q, if_false, ne_eqb 3 0 (λ z. omega (arith, z))) at e in omega (arith, n)

    settled_not_one : (time : ℕ) → (book_settles end (hs cs) places places i time).answer.number ≡ 1 → ⊥
    unfolding book_settles
    settled_not_one time = go (ltb i (length (hs cs))) refl
      where
        go : (b : Bool) → ltb i (length (hs cs)) ≡ b → (book_settles end (hs cs) places places i time).answer.number ≡ 1 → ⊥
        go true q e =
            let l = ltb-true i (length (hs cs)) q in
            let n : (settle_answer time (now end us cs i)).answer.number ≡ 1 = simp (first_is, q, if_true, eq-eqb 0 0 refl) at e in
            let here : i < length us = omega (arith, long cs, l) in
            clean cs i here (settled_1 time _ (own_1 cs i here _ (sym (settled_number time _) ∙ n)))
        go false q e = let n : ◌≡◌ {A = ℕ} 3 1 = simp (first_is, q, if_false, ne_eqb 3 0 (λ z. omega (arith, z))) at e in omega (arith, n)

    read_not_one : (book_reads end (hs cs) places places i).number ≡ 1 → ⊥
    unfolding book_reads read_answer
    read_not_one = go (ltb i (length (hs cs))) refl
      where
        go : (b : Bool) → ltb i (length (hs cs)) ≡ b → (book_reads end (hs cs) places places i).number ≡ 1 → ⊥
        go true q e =
            let l = ltb-true i (length (hs cs)) q in
            let n : (answer (reads (now end us cs i)) (now end us cs i).whole.stock).number ≡ 1 = simp (first_is, q, if_true, eq-eqb 0 0 refl) at e in
            let here : i < length us = omega (arith, long cs, l) in
            clean cs i here (read_1 _ (own_1 cs i here _ (sym (read_number _) ∙ n)))
        go false q e = let n : ◌≡◌ {A = ℕ} 3 1 = simp (first_is, q, if_false, ne_eqb 3 0 (λ z. omega (arith, z))) at e in omega (arith, n)

    next_not_one : (book_next end (hs cs) places places i).number ≡ 1 → ⊥
    next_not_one e = read_not_one (sym (demands.book_next_lem end (hs cs) places places i).0 ∙ e)

    totals_not_one : (book_totals end (hs cs) places places i).number ≡ 1 → ⊥
    totals_not_one e = let both = demands.book_numbers end (hs cs) places places i 1 in read_not_one (both.2.1 (both.3.0 e))

  -- ---------------------------------------------------------------- along a chain

  never : 1 ≤ length us → length us ≤ 64 → (pre : Calls counting) (cs : List Made) → Answered end (hs pre) cs → Never1 cs
  never s f pre [] k = tt
  never s f pre (refused_setup e list a ∷ cs) k = never s f pre cs k
  never s f pre (told i m a ∷ cs) k = (
    (λ e. told_not_one pre i s f m (sym (ap (λ x. x.number) k.0) ∙ e)),
    never s f (pre ++ (record { at = i; it = tell m } ∷ [])) cs (subst (λ x. Answered end x cs) (sym (run_snoc end (book end us) pre _)) k.1),
  )
  never s f pre (settled i time a ∷ cs) k = (
    (λ e. settled_not_one pre i s f time (sym (ap (λ x. x.answer.number) k.0) ∙ e)),
    never s f (pre ++ (record { at = i; it = settle time } ∷ [])) cs (subst (λ x. Answered end x cs) (sym (run_snoc end (book end us) pre _)) k.1),
  )
  never s f pre (was_read i a ∷ cs) k = ((λ e. read_not_one pre i s f (sym (ap (λ x. x.number) k.0) ∙ e)), never s f pre cs k.1)
  never s f pre (next_given i u ∷ cs) k = ((λ e. next_not_one pre i s f (sym (ap (λ x. x.number) k.0) ∙ e)), never s f pre cs k.1)
  never s f pre (totals_given i x ∷ cs) k = ((λ e. totals_not_one pre i s f (sym (ap (λ y. y.number) k.0) ∙ e)), never s f pre cs k.1)

-- ------------------------------------------------------------------ of every family that meets demand 2

pub after_setup : (𝓕 : Family) → Demand2 𝓕 → AfterSetup 𝓕
after_setup 𝓕 d end list b₀ b b' a cs p z k =
    let us = setups_of list in
    let s = started end list b₀ (number_0 𝓕 d end list b₀ b a p z) in
    let both = d.from_setup end list b₀ b b' a cs p z k in
    let hs = run counting (blank end) (book end us) (calls cs) in
    let laid = layout_is hs (all_fit end us (calls cs)) in (
      never end us s.accepted s.some s.few [] cs both.0,
      subst (λ (x : Lent). (i : ℕ) → i < length x.records → UnusedAre0 i x) (sym both.1) (λ i l. laid.unused i (omega (arith, l, laid.stocks))),
    )
