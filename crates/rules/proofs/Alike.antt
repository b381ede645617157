-- Every machine that has the laws: a stock is what its history leaves, and settled to one time the messages decide that history.
-- Assumes nothing.
use Prim.Native.Nat.{ℕ, ◌≤◌, ◌<◌}
use mathlib.Core.Bool.{Bool, true, false}
use mathlib.Core.List.{List, [], ◌∷◌, ◌++◌}
use mathlib.Core.Path.{◌≡◌, refl, sym, ap, ◌∙◌, subst}
use native.Mathlib.Omega.{arith}
use borrow.Author.Tests.{eqb-true, eqb-false}
use lib.Dec.{eqb, ltb}
use lib.ListN.{length, set, length-set}
use lib.Seq.{get_or-set_same, get_or-set_other}
use Rattle.forms.proofs.Choice.{if_true, if_false, if_arms}
use Rattle.rules.specs.Machine.{Machine, MachineLaws, Call, tell, settle, message, moment, messages, notices, On, of, Every, History, number, done, event, Lawful, left, Book, Calls, stock, number_in, step_in, happens, run, log, ByHistory, Alike}

pub of_append : {A : Type 0} (i : ℕ) (xs ys : List (On A)) → of i (xs ++ ys) ≡ of i xs ++ of i ys
unfolding of
of_append i [] ys = refl
of_append i (x ∷ xs) ys =
    if_arms (λ ws. ws ++ of i (xs ++ ys) ≡ (ws ++ of i xs) ++ of i ys) _ (λ _. ap (λ zs. x.it ∷ zs) (of_append i xs ys)) (λ _. of_append i xs ys)

-- calls leave as many stocks as there were
module _ (𝓜 : Machine) (blank : 𝓜.Stock) where
  pub length_step : (b : Book 𝓜) (c : On (Call 𝓜.Message)) → length (step_in 𝓜 blank b c) ≡ length b
  unfolding step_in
  length_step b c = if_arms (λ (x : Book 𝓜). length x ≡ length b) _ (λ _. length-set b c.at _) (λ _. refl)

  pub length_run : (b : Book 𝓜) (cs : Calls 𝓜) → length (run 𝓜 blank b cs) ≡ length b
  length_run b [] = refl
  length_run b (c ∷ cs) = length_run (step_in 𝓜 blank b c) cs ∙ length_step b c

module _ (𝓜 : Machine) (L : MachineLaws 𝓜) where
  open 𝓜 use {Stock, Message, Notice, time, date, clock, Due, tells, settles, after, fire, notice}

  abbrev Events : Type 0
  Events = History 𝓜

  -- ---------------------------------------------------------------- one stock

  -- the first message is not before the clock
  first_message : (s : Stock) (es : Events) (m : Message) (ms : List Message) → Lawful 𝓜 s es → messages es ≡ m ∷ ms → clock s ≤ time m
  first_message s [] m ms v e = let z : ◌≡◌ {A = ℕ} 0 1 = cc in omega arith
  first_message s (message n ∷ es) m ms v e =
      let p : n ≡ m = cc in
      rw (← p) (L.not_back n s v.0)
  first_message s (moment n ∷ es) m ms v e =
      let h = first_message (fire s) es m ms v.2 e in
      omega (arith, L.forward v.0.0 s v.0.1, L.at_moment s)

  module _ (T : ℕ) where
    abbrev Quiet : Stock → Type 0
    Quiet s = (d : ℕ) → Due s d → T < d

    abbrev Until : Events → Type 0
    Until es = Every (λ n. date n ≤ T) (notices es)

    not_here : (s : Stock) (n : Notice) (t : ℕ) → settles t s ≡ 0 → n ≡ notice s → Quiet s → date n ≤ T → ⊥
    not_here s n t a e q h =
        let h' : date (notice s) ≤ T = rw (← e) h in
        omega (arith, q (date (notice s)) (L.its_time t s a))

    not_first : (s : Stock) (m : Message) (t : ℕ) → tells m s ≡ 0 → settles t s ≡ 0 → clock (fire s) ≤ time m → ⊥
    not_first s m t a b h = omega (arith, L.none_due m s a (date (notice s)) (L.its_time t s b), L.at_moment s)

    -- the messages decide what has happened
    same : (s : Stock) (es fs : Events) → Lawful 𝓜 s es → Lawful 𝓜 s fs → messages es ≡ messages fs
        → Quiet (left 𝓜 s es) → Quiet (left 𝓜 s fs) → Until es → Until fs → es ≡ fs
    same s [] [] v w p q r u x = refl
    same s [] (message m ∷ fs) v w p q r u x = cc
    same s [] (moment n ∷ fs) v w p q r u x = absurd (not_here s n w.0.0 w.0.1 w.1 q x.0)
    same s (message m ∷ es) [] v w p q r u x = cc
    same s (message m ∷ es) (message n ∷ fs) v w p q r u x =
        let e : n ≡ m = cc in
        let t : messages es ≡ messages fs = cc in
        let ih : es ≡ fs = same (after m s) es fs v.1 (subst (λ k. Lawful 𝓜 (after k s) fs) e w.1) t q
        (subst (λ k. Quiet (left 𝓜 (after k s) fs)) e r) u x in
        cc
    same s (message m ∷ es) (moment n ∷ fs) v w p q r u x =
        absurd (not_first s m w.0.0 v.0 w.0.1 (first_message (fire s) fs m (messages es) w.2 (sym p)))
    same s (moment m ∷ es) [] v w p q r u x = absurd (not_here s m v.0.0 v.0.1 v.1 r u.0)
    same s (moment m ∷ es) (message n ∷ fs) v w p q r u x =
        absurd (not_first s n v.0.0 w.0 v.0.1 (first_message (fire s) es n (messages fs) v.2 p))
    same s (moment m ∷ es) (moment n ∷ fs) v w p q r u x =
        let ih : es ≡ fs = same (fire s) es fs v.2 w.2 p q r u.1 x.1 in
        let a : m ≡ notice s = v.1 in
        let b : n ≡ notice s = w.1 in
        cc

  -- ---------------------------------------------------------------- a book: each stock of it goes its own way

  prepend : (s : Stock) (c : Call Message) (es : Events) → number 𝓜 c s ≡ 0 → Lawful 𝓜 (done 𝓜 c s) es → Lawful 𝓜 s (event 𝓜 c s ∷ es)
  prepend s (tell m) es e v = (e, v)
  prepend s (settle t) es e v = ((t, e), refl, v)

  left_cons : (s : Stock) (c : Call Message) (es : Events) → left 𝓜 s (event 𝓜 c s ∷ es) ≡ left 𝓜 (done 𝓜 c s) es
  left_cons s (tell m) es = refl
  left_cons s (settle t) es = refl

  module _ (blank : Stock) where
    abbrev at : Book 𝓜 → ℕ → Stock
    at = stock 𝓜 blank

    -- a call does nothing to the stock i, or is done to it
    data Does (b : Book 𝓜) (c : On (Call Message)) (i : ℕ) : Type 0 where
      nothing : at (step_in 𝓜 blank b c) i ≡ at b i → of i (happens 𝓜 blank b c) ≡ [] → Does b c i
      something : number 𝓜 c.it (at b i) ≡ 0 → at (step_in 𝓜 blank b c) i ≡ done 𝓜 c.it (at b i)
          → of i (happens 𝓜 blank b c) ≡ event 𝓜 c.it (at b i) ∷ [] → Does b c i

    does : (b : Book 𝓜) (c : On (Call Message)) (i : ℕ) → i < length b → Does b c i
    unfolding step_in happens of number_in
    does b c i h = by_number (eqb (number_in 𝓜 blank b c) 0) refl
      where
        s : Stock
        s = at b c.at

        by_stock : number 𝓜 c.it s ≡ 0 → eqb (number_in 𝓜 blank b c) 0 ≡ true → (same : Bool) → eqb i c.at ≡ same → Does b c i
        by_stock z t true e =
            let j : i ≡ c.at = eqb-true i c.at e in
            something (rw j z)
            (rw (t, if_true) (subst (λ k. at (set b k (done 𝓜 c.it (at b k))) i ≡ done 𝓜 c.it (at b i)) j
            (get_or-set_same b i (done 𝓜 c.it (at b i)) blank h)))
            (rw (t, if_true, e, if_true) (ap (λ k. event 𝓜 c.it (at b k) ∷ []) (sym j)))
        by_stock z t false e =
            nothing (rw (t, if_true) (get_or-set_other b c.at i (done 𝓜 c.it s) blank (eqb-false i c.at e)))
            (rw (t, if_true, e, if_false) refl)

        in_range : (r : Bool) → ltb c.at (length b) ≡ r → number_in 𝓜 blank b c ≡ 0 → number 𝓜 c.it s ≡ 0
        in_range true e z = sym (if_true _ _ _ e) ∙ z
        in_range false e z = let w : ◌≡◌ {A = ℕ} 3 0 = sym (if_false _ _ _ e) ∙ z in absurd (omega arith)

        by_number : (n : Bool) → eqb (number_in 𝓜 blank b c) 0 ≡ n → Does b c i
        by_number true t = by_stock (in_range (ltb c.at (length b)) refl (eqb-true _ _ t)) t (eqb i c.at) refl
        by_number false t = nothing (rw (t, if_false) refl) (rw (t, if_false) refl)

    pub by_history : ByHistory 𝓜 blank
    unfolding of
    by_history b [] i h = (tt, refl)
    by_history b (c ∷ cs) i h = join (does b c i h) (of_append i (happens 𝓜 blank b c) (log 𝓜 blank (step_in 𝓜 blank b c) cs))
        (by_history (step_in 𝓜 blank b c) cs i (rw (length_step 𝓜 blank b c) h))
      where
        b' : Book 𝓜
        b' = step_in 𝓜 blank b c

        es : Events
        es = of i (log 𝓜 blank b' cs)

        end : Stock
        end = at (run 𝓜 blank b' cs) i

        join : Does b c i → of i (log 𝓜 blank b (c ∷ cs)) ≡ of i (happens 𝓜 blank b c) ++ es
            → Lawful 𝓜 (at b' i) es × (end ≡ left 𝓜 (at b' i) es)
            → Lawful 𝓜 (at b i) (of i (log 𝓜 blank b (c ∷ cs))) × (end ≡ left 𝓜 (at b i) (of i (log 𝓜 blank b (c ∷ cs))))
        join (nothing p q) a r =
            subst (λ l. Lawful 𝓜 (at b i) l × (end ≡ left 𝓜 (at b i) l)) (sym (a ∙ ap (λ l. l ++ es) q))
            (subst (λ s. Lawful 𝓜 s es × (end ≡ left 𝓜 s es)) p r)
        join (something z p q) a r =
            subst (λ l. Lawful 𝓜 (at b i) l × (end ≡ left 𝓜 (at b i) l)) (sym (a ∙ ap (λ l. l ++ es) q)) (
              prepend (at b i) c.it es z (subst (λ s. Lawful 𝓜 s es) p r.0),
              (r.1 ∙ ap (λ s. left 𝓜 s es) p) ∙ sym (left_cons (at b i) c.it es),
            )

    pub alike : Alike 𝓜 blank
    alike b cs ds T x y p i h =
        let u = by_history b cs i h in
        let w = by_history b ds i h in
        let e : of i (log 𝓜 blank b cs) ≡ of i (log 𝓜 blank b ds) =
        same T (at b i) (of i (log 𝓜 blank b cs)) (of i (log 𝓜 blank b ds)) u.0 w.0 (p i)
        (subst (Quiet T) u.1 (λ d. L.nothing_due T (at (run 𝓜 blank b cs) i) (x.nothing_left i h) d))
        (subst (Quiet T) w.1 (λ d. L.nothing_due T (at (run 𝓜 blank b ds) i) (y.nothing_left i h) d))
        (x.nothing_later i) (y.nothing_later i) in
        (u.1 ∙ (ap (left 𝓜 (at b i)) e ∙ sym w.1), ap notices e)
