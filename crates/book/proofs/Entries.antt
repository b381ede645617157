-- What one call more adds to the calls on a stock, and to its journal.
-- Assumes nothing.
use Prim.Native.Nat.{ℕ}
use mathlib.Core.Bool.{Bool, true, false}
use mathlib.Core.List.{List, [], ◌∷◌, ◌++◌, append-nil}
use mathlib.Core.Logic.{◌⊎◌, inl, inr}
use mathlib.Core.Path.{◌≡◌, refl, ap, ◌∙◌}
use borrow.Author.Tests.{eq-eqb, ne_eqb}
use lib.Dec.{eqb}
use Rattle.forms.specs.Choice.{if◌then◌otherwise◌}
use Rattle.forms.specs.Words.{◌and◌, Otherwise}
use Rattle.forms.proofs.Choice.{if_true, if_false}
use Rattle.forms.proofs.Decides.{either_way, by_eq}
use Rattle.rules.specs.Machine.{journal}
use Rattle.rules.proofs.Journal.{journal_append}
use Rattle.book.specs.Demands.{Made, refused_setup, told, settled, was_read, next_given, totals_given, MadeOne, told_one, settled_one, number_made, made_of, journal_of, JournalsGrow}

-- one more of a stock's calls
one_more_lem : (b : Bool) (x : MadeOne) (ws xs ys : List MadeOne) → ws ≡ xs ++ ys → (if b then x ∷ ws otherwise ws) ≡ (if b then x ∷ xs otherwise xs) ++ ys
unfolding if◌then◌otherwise◌
one_more_lem true x ws xs ys e = ap (λ l. x ∷ l) e
one_more_lem false x ws xs ys e = e

module _ (i : ℕ) where
  made_append : (cs ds : List Made) → made_of i (cs ++ ds) ≡ made_of i cs ++ made_of i ds
  made_append [] ds = refl
  made_append (refused_setup end list a ∷ cs) ds = made_append cs ds
  made_append (told j m a ∷ cs) ds = one_more_lem (eqb i j) (told_one m a) _ _ _ (made_append cs ds)
  made_append (settled j time a ∷ cs) ds = one_more_lem (eqb i j) (settled_one time a) _ _ _ (made_append cs ds)
  made_append (was_read j a ∷ cs) ds = made_append cs ds
  made_append (next_given j u ∷ cs) ds = made_append cs ds
  made_append (totals_given j x ∷ cs) ds = made_append cs ds

  -- what a call adds to the calls on the stock, and to its journal
  module _ (cs : List Made) (c : Made) where
    made_more : (xs : List MadeOne) → made_of i (c ∷ []) ≡ xs → made_of i (cs ++ (c ∷ [])) ≡ made_of i cs ++ xs
    made_more xs e = made_append cs (c ∷ []) ∙ ap (λ l. made_of i cs ++ l) e

    none_more : made_of i (c ∷ []) ≡ [] → made_of i (cs ++ (c ∷ [])) ≡ made_of i cs
    none_more e = made_more [] e ∙ append-nil _

    entered : (xs ys : List MadeOne) → made_of i (c ∷ []) ≡ xs → journal number_made xs ≡ ys → journal_of i (cs ++ (c ∷ [])) ≡ journal_of i cs ++ ys
    entered xs ys e k = ap (journal number_made) (made_more xs e) ∙ journal_append number_made (made_of i cs) xs ∙ ap (λ l. journal_of i cs ++ l) k

    not_entered : (xs : List MadeOne) → made_of i (c ∷ []) ≡ xs → journal number_made xs ≡ [] → journal_of i (cs ++ (c ∷ [])) ≡ journal_of i cs
    not_entered xs e k = entered xs [] e k ∙ append-nil _

    -- a call x on stock j
    module _ (j : ℕ) (x : MadeOne) (is : made_of i (c ∷ []) ≡ (if eqb i j then x ∷ [] otherwise [])) where
      own : i ≡ j → made_of i (c ∷ []) ≡ x ∷ []
      own e = is ∙ if_true _ _ _ (eq-eqb i j e)

      other : ¬ (i ≡ j) → made_of i (c ∷ []) ≡ []
      other n = is ∙ if_false _ _ _ (ne_eqb i j n)

      collects : (i ≡ j and Otherwise → made_of i (cs ++ (c ∷ [])) ≡ made_of i cs ++ (x ∷ [])) × (¬ (i ≡ j and Otherwise) → made_of i (cs ++ (c ∷ [])) ≡ made_of i cs)
      collects = ((λ k. made_more (x ∷ []) (own k.0)), (λ n. none_more (other (λ e. n (e, tt)))))

      enters : (i ≡ j and number_made x ≡ 0 → journal_of i (cs ++ (c ∷ [])) ≡ journal_of i cs ++ (x ∷ []))
          × (¬ (i ≡ j and number_made x ≡ 0) → journal_of i (cs ++ (c ∷ [])) ≡ journal_of i cs)
      enters = ((λ k. entered (x ∷ []) (x ∷ []) (own k.0) (if_true _ _ _ (eq-eqb _ 0 k.1))), (λ n. go n (either_way _ (by_eq i j))))
        where
          go : ¬ (i ≡ j and number_made x ≡ 0) → (i ≡ j) ⊎ (¬ (i ≡ j)) → journal_of i (cs ++ (c ∷ [])) ≡ journal_of i cs
          go n (inl e) = not_entered (x ∷ []) (own e) (if_false _ _ _ (ne_eqb _ 0 (λ z. n (e, z))))
          go n (inr m) = not_entered [] (other m) refl

pub journals_grow : JournalsGrow
journals_grow i = (
  record {
    at_first = refl;
    a_message = λ cs j m a. collects i cs (told j m a) j (told_one m a) refl;
    a_settling = λ cs j time n. collects i cs (settled j time n) j (settled_one time n) refl;
    a_refused_setup = λ cs end numbers a. none_more i cs (refused_setup end numbers a) refl;
    a_reading = λ cs j a. none_more i cs (was_read j a) refl;
    a_next = λ cs j u. none_more i cs (next_given j u) refl;
    some_totals = λ cs j x. none_more i cs (totals_given j x) refl;
  },
  record {
    at_first = refl;
    a_message = λ cs j m a. enters i cs (told j m a) j (told_one m a) refl;
    a_settling = λ cs j time n. enters i cs (settled j time n) j (settled_one time n) refl;
    a_refused_setup = λ cs end numbers a. not_entered i cs (refused_setup end numbers a) [] refl refl;
    a_reading = λ cs j a. not_entered i cs (was_read j a) [] refl refl;
    a_next = λ cs j u. not_entered i cs (next_given j u) [] refl refl;
    some_totals = λ cs j x. not_entered i cs (totals_given j x) [] refl refl;
  },
)
