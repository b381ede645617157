-- A setup of a whole book: the records that are made one after the other, and what it comes to.
-- Assumes nothing.
use Prim.Native.Nat.{ℕ, suc, ◌*◌, ◌<◌}
use mathlib.Core.List.{List, ◌++◌, map, append-nil}
use mathlib.Core.Path.{◌≡◌, sym, ◌∙◌}
use native.Mathlib.Nat.{zero-add}
use native.Mathlib.Omega.{arith}
use borrow.Author.Tests.{eq-eqb, ne_eqb}
use lib.ListN.{length, get_or, set, take, drop, replicate, drop_of_length-le, length-map, get_or-map}
use lib.Seq.{take_all, paste-suc}
use Rattle.forms.proofs.Choice.{if_true, if_false}
use Rattle.rules.specs.Book.{no_setup}
use Rattle.rules.specs.Numbers.{zeros}
use Rattle.rules.specs.declared.Answer.{Answer}
use Rattle.stock.specs.declared.Record.{Record}
use Rattle.calls.specs.Setup.{setups_of, record_of}
use Rattle.calls.proofs.Setups.{setups_length}
use Rattle.book.specs.Lent.{Lent, lent, Given}
use Rattle.book.specs.Setup.{number_of, setting, SetsUp}

-- ------------------------------------------------------------------ the records, made one after the other

module _ (end : ℕ) (list : List ℕ) (ys : List Record) (enough : length list ≡ 4 * length ys) where
  abbrev new : List Record
  new = map (record_of end) (setups_of list)

  as_many : length new ≡ length ys
  as_many = length-map (setups_of list) (record_of end) ∙ setups_length (length ys) list enough

  -- one more is stored
  pub one_more_lem : (i : ℕ) (l : List Record) (r : Record) → i < length ys → l ≡ take i new ++ drop i ys → r ≡ record_of end (get_or (setups_of list) i no_setup)
      → set l i r ≡ take (suc i) new ++ drop (suc i) ys
  one_more_lem i l r small e q =
      let d : Record = record_of end no_setup in
      let p : r ≡ get_or new i d = q ∙ sym (get_or-map (record_of end) (setups_of list) i no_setup) in
      rw (e, p) (simp zero-add at (paste-suc ys 0 new i d (omega (arith, zero-add i)) (omega (arith, as_many))))

  pub all_made : (i : ℕ) (l : List Record) → i ≡ length ys → l ≡ take i new ++ drop i ys → l ≡ new
  all_made i l m e = e ∙ simp (take_all i new (omega (arith, as_many)), drop_of_length-le ys {i = i} (omega arith), append-nil)

-- ------------------------------------------------------------------ the whole setup

-- an outcome by its parts
outcome : (r s : Answer) (bs cs : List Record) (ts us ps qs : List ℕ) → r ≡ s → bs ≡ cs → ts ≡ us → ps ≡ qs
    → ◌≡◌ {A = Given Answer} (record { answer = r; book = lent bs ts ps }) (record { answer = s; book = lent cs us qs })
outcome r s bs cs ts us ps qs e f g h = rw (e, f, g, h)

module _ (end : ℕ) (list : List ℕ) (b : Lent) (r : Answer) (is : r ≡ zeros (number_of end list b)) where
  number_is : r.number ≡ number_of end list b
  number_is = rw is

  pub refused : (r.number ≡ 0 → ⊥) → SetsUp end list b r b
  unfolding setting
  refused e = rw (if_false _ _ _ (ne_eqb (number_of end list b) 0 (λ k. e (number_is ∙ k)))) (search is)

  pub done : (bs : List Record) (ts ps : List ℕ) → r.number ≡ 0 → bs ≡ map (record_of end) (setups_of list)
      → ts ≡ replicate (length b.times) 0 → ps ≡ replicate (length b.prices) 0 → SetsUp end list b r (lent bs ts ps)
  unfolding setting
  done bs ts ps e of-bs of-ts of-ps = rw (if_true _ _ _ (eq-eqb (number_of end list b) 0 (sym number_is ∙ e))) (search outcome)
