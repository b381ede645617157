-- What an accepted call does to a book, and to the story of the stock that it names.
-- Assumes nothing.
use Prim.Native.Nat.{ℕ, ◌<◌}
use mathlib.Core.Bool.{true, false}
use mathlib.Core.List.{List, [], ◌∷◌, ◌++◌, append_assoc, append-nil}
use mathlib.Core.Logic.{◌⊎◌, inl, inr}
use mathlib.Core.Path.{◌≡◌, refl, sym, ap, ◌∙◌}
use borrow.Author.Tests.{eq-eqb, ne_eqb, lt-ltb}
use lib.Dec.{eqb}
use lib.ListN.{length, length-map}
use lib.Seq.{get_or-set_same}
use Rattle.forms.specs.Words.{◌and◌}
use Rattle.forms.proofs.Choice.{if_true, if_false}
use Rattle.forms.proofs.Decides.{either_way, by_eq}
use Rattle.rules.specs.Counted.{Counted, fresh}
use Rattle.rules.specs.Machine.{Call, tell, settle, On, of, number, done, event, Calls, stock, number_in, step_in, happens, run, log}
use Rattle.rules.specs.Book.{counting, blank, book, now, story}
use Rattle.rules.specs.Demands.{CallsStep, StoriesGrow}
use Rattle.rules.specs.declared.Message.{Message}
use Rattle.rules.proofs.Alike.{of_append, length_step, length_run}
use Rattle.rules.proofs.Counted.{left_by_telling, left_by_settling}

-- ------------------------------------------------------------------ a call

module _ (end : ℕ) (b : List Counted) (c : On (Call Message)) (l : c.at < length b) where
  -- the number that the stock which the call names gives
  abbrev given : ℕ
  given = number counting c.it (stock counting (blank end) b c.at)

  number_there : number_in counting (blank end) b c ≡ given
  unfolding number_in
  number_there = if_true _ _ _ (lt-ltb c.at (length b) l)

  accepted : given ≡ 0 → eqb (number_in counting (blank end) b c) 0 ≡ true
  accepted z = eq-eqb _ 0 (number_there ∙ z)

  refused : ¬ (given ≡ 0) → eqb (number_in counting (blank end) b c) 0 ≡ false
  refused n = ne_eqb _ 0 (λ z. n (sym number_there ∙ z))

pub calls_step : CallsStep
unfolding step_in
calls_step end b i = (
  (λ m. (
    length_step counting (blank end) b _,
    λ l. go (record { at = i; it = tell m }) l (left_by_telling m (stock counting (blank end) b i)) (either_way _ (by_eq _ 0)),
  )),
  (λ time. (
    length_step counting (blank end) b _,
    λ l. go (record { at = i; it = settle time }) l (left_by_settling time (stock counting (blank end) b i)) (either_way _ (by_eq _ 0)),
  )),
)
  where
    -- by what the call on the stock leaves
    go : (c : On (Call Message)) (l : c.at < length b) {h' : Counted} → let h = stock counting (blank end) b c.at in
        (given end b c l ≡ 0 → h' ≡ done counting c.it h) × (¬ (given end b c l ≡ 0) → h' ≡ h)
        → (given end b c l ≡ 0) ⊎ (¬ (given end b c l ≡ 0)) → stock counting (blank end) (step_in counting (blank end) b c) c.at ≡ h'
    go c l k (inl z) = rw (if_true _ _ _ (accepted end b c l z)) (get_or-set_same b c.at _ (blank end) l) ∙ sym (k.0 z)
    go c l k (inr n) = rw (if_false _ _ _ (refused end b c l n)) (sym (k.1 n))

-- ------------------------------------------------------------------ a story

pub stories_grow : StoriesGrow
unfolding happens of
stories_grow end us = (
  length-map us (fresh end),
  λ i. (
    refl,
    λ cs j l. (
      (λ m. let c : On (Call Message) = record { at = j; it = tell m } in (grows i cs c l, stays i cs c l)),
      (λ time. let c : On (Call Message) = record { at = j; it = settle time } in (grows i cs c l, stays i cs c l)),
    ),
  ),
)
  where
    there : Calls counting → List Counted
    there cs = run counting (blank end) (book end us) cs

    in_book : (cs : Calls counting) (c : On (Call Message)) → c.at < length us → c.at < length (there cs)
    in_book cs c l = rw (length_run counting (blank end) (book end us) cs ∙ length-map us (fresh end)) l

    -- the call named the stock and was accepted
    Its : ℕ → Calls counting → On (Call Message) → Type 0
    Its i cs c = i ≡ c.at and number counting c.it (now end us cs c.at) ≡ 0

    log_more : (b : List Counted) (cs : Calls counting) (c : On (Call Message))
        → log counting (blank end) b (cs ++ (c ∷ [])) ≡ log counting (blank end) b cs ++ happens counting (blank end) (run counting (blank end) b cs) c
    log_more b [] c = append-nil (happens counting (blank end) b c)
    log_more b (x ∷ cs) c = rw (log_more (step_in counting (blank end) b x) cs c) (sym (append_assoc (happens counting (blank end) b x) _ _))

    story_more : (i : ℕ) (cs : Calls counting) (c : On (Call Message))
        → story end us (cs ++ (c ∷ [])) i ≡ story end us cs i ++ of i (happens counting (blank end) (there cs) c)
    story_more i cs c = ap (of i) (log_more (book end us) cs c) ∙ of_append i (log counting (blank end) (book end us) cs) _

    none : (i : ℕ) (cs : Calls counting) (c : On (Call Message)) → c.at < length us → ¬ Its i cs c
        → let n = number counting c.it (now end us cs c.at) in (n ≡ 0) ⊎ (¬ (n ≡ 0)) → of i (happens counting (blank end) (there cs) c) ≡ []
    none i cs c l n (inl z) = rw (if_true _ _ _ (accepted end (there cs) c (in_book cs c l) z), if_false _ _ _ (ne_eqb i c.at (λ e. n (e, z))))
    none i cs c l n (inr m) = rw (if_false _ _ _ (refused end (there cs) c (in_book cs c l) m))

    grows : (i : ℕ) (cs : Calls counting) (c : On (Call Message)) → c.at < length us → Its i cs c
        → story end us (cs ++ (c ∷ [])) i ≡ story end us cs i ++ (event counting c.it (now end us cs c.at) ∷ [])
    grows i cs c l k = story_more i cs c
        ∙ rw (if_true _ _ _ (accepted end (there cs) c (in_book cs c l) k.1), if_true _ _ _ (eq-eqb i c.at k.0))

    stays : (i : ℕ) (cs : Calls counting) (c : On (Call Message)) → c.at < length us → ¬ Its i cs c
        → story end us (cs ++ (c ∷ [])) i ≡ story end us cs i
    stays i cs c l n = story_more i cs c ∙ ap (λ es. story end us cs i ++ es) (none i cs c l n (either_way _ (by_eq _ 0))) ∙ append-nil _
