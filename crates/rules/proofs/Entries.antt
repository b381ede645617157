-- What one call more adds to the calls on a stock, and to its journal.
-- Assumes nothing.
use Prim.Native.Nat.{ℕ}
use mathlib.Core.List.{List, [], ◌∷◌, ◌++◌, append-nil}
use mathlib.Core.Logic.{◌⊎◌, inl, inr}
use mathlib.Core.Path.{◌≡◌, refl, sym, ap, ◌∙◌}
use borrow.Author.Tests.{eq-eqb, ne_eqb}
use Rattle.forms.specs.Words.{◌and◌}
use Rattle.forms.proofs.Choice.{if_true, if_false}
use Rattle.forms.proofs.Decides.{either_way, by_eq}
use Rattle.rules.specs.Counted.{Counted}
use Rattle.rules.specs.Machine.{Call, tell, settle, On, of, journal, number, Asked, number_of, Calls, stock, step_in, run, asked}
use Rattle.rules.specs.Book.{counting, blank, book, now, asked_of, journal_of}
use Rattle.rules.specs.Demands.{AskedGrow, JournalsGrow}
use Rattle.rules.specs.declared.Message.{Message}
use Rattle.rules.proofs.Alike.{of_append}
use Rattle.rules.proofs.Journal.{run_append, journal_append}

asked_more : (end : ℕ) (b : List Counted) (cs : Calls counting) (c : On (Call Message))
    → asked counting (blank end) b (cs ++ (c ∷ []))
    ≡ asked counting (blank end) b cs
    ++ (record { at = c.at; it = record { call = c.it; found = stock counting (blank end) (run counting (blank end) b cs) c.at } } ∷ [])
asked_more end b [] c = refl
asked_more end b (x ∷ cs) c =
    ap (λ (l : List (On (Asked counting))). record { at = x.at; it = record { call = x.it; found = stock counting (blank end) b x.at } } ∷ l)
    (asked_more end (step_in counting (blank end) b x) cs c)

pub asked_grow : AskedGrow
unfolding of
asked_grow end us cs i there = (
  refl,
  λ ds j it. (
    (λ e. more ds j it ∙ ap (λ l. asked_of end us cs ds i ++ (l ++ [])) (if_true _ (found ds j it ∷ []) _ (eq-eqb i j e))
        ∙ ap (λ h. asked_of end us cs ds i ++ (record { call = it; found = h } ∷ [])) (its ds j e)),
    (λ n. more ds j it ∙ ap (λ l. asked_of end us cs ds i ++ (l ++ [])) (if_false _ (found ds j it ∷ []) _ (ne_eqb i j n)) ∙ append-nil _),
  ),
)
  where
    left : Calls counting → List Counted
    left ds = run counting (blank end) (run counting (blank end) (book end us) cs) ds

    found : (ds : Calls counting) (j : ℕ) (it : Call Message) → Asked counting
    found ds j it = record { call = it; found = stock counting (blank end) (left ds) j }

    its : (ds : Calls counting) (j : ℕ) → i ≡ j → stock counting (blank end) (left ds) j ≡ now end us (cs ++ ds) i
    its ds j e = ap (stock counting (blank end) (left ds)) (sym e)
        ∙ ap (λ b. stock counting (blank end) b i) (sym (run_append counting (blank end) (book end us) cs ds))

    more : (ds : Calls counting) (j : ℕ) (it : Call Message)
        → asked_of end us cs (ds ++ (record { at = j; it = it } ∷ [])) i ≡ asked_of end us cs ds i ++ of i (record { at = j; it = found ds j it } ∷ [])
    more ds j it = ap (of i) (asked_more end (run counting (blank end) (book end us) cs) ds (record { at = j; it = it }))
        ∙ of_append i (asked counting (blank end) (run counting (blank end) (book end us) cs) ds) _

pub journals_grow : JournalsGrow
unfolding of
journals_grow end us i there = (refl, λ cs j. ((λ m. (grows cs j (tell m), stays cs j (tell m))), (λ time. (grows cs j (settle time), stays cs j (settle time)))))
  where
    entered : Calls counting → ℕ → Call Message → List (Asked counting)
    entered cs j it = journal_of end us (cs ++ (record { at = j; it = it } ∷ [])) i

    own : (cs : Calls counting) → Call Message → Asked counting
    own cs it = record { call = it; found = now end us cs i }

    on_it : (cs : Calls counting) (j : ℕ) (it : Call Message) → i ≡ j
        → entered cs j it ≡ journal_of end us cs i ++ journal (number_of counting) (own cs it ∷ [])
    on_it cs j it e = ap (journal (number_of counting)) (((asked_grow end us [] i there).1 cs j it).0 e) ∙ journal_append (number_of counting) (asked_of end us [] cs i) _

    grows : (cs : Calls counting) (j : ℕ) (it : Call Message) → i ≡ j and number counting it (now end us cs i) ≡ 0
        → entered cs j it ≡ journal_of end us cs i ++ (own cs it ∷ [])
    grows cs j it k = on_it cs j it k.0 ∙ ap (λ l. journal_of end us cs i ++ l) (if_true _ (own cs it ∷ []) _ (eq-eqb _ 0 k.1))

    refused : (cs : Calls counting) (j : ℕ) (it : Call Message) → ¬ (number counting it (now end us cs i) ≡ 0) → i ≡ j → entered cs j it ≡ journal_of end us cs i
    refused cs j it n e = on_it cs j it e ∙ ap (λ l. journal_of end us cs i ++ l) (if_false _ (own cs it ∷ []) _ (ne_eqb _ 0 n)) ∙ append-nil _

    stays : (cs : Calls counting) (j : ℕ) (it : Call Message) → ¬ (i ≡ j and number counting it (now end us cs i) ≡ 0) → entered cs j it ≡ journal_of end us cs i
    stays cs j it n = go (either_way _ (by_eq i j))
      where
        go : (i ≡ j) ⊎ (¬ (i ≡ j)) → entered cs j it ≡ journal_of end us cs i
        go (inl e) = refused cs j it (λ z. n (e, z)) e
        go (inr m) = ap (journal (number_of counting)) (((asked_grow end us [] i there).1 cs j it).1 m)
