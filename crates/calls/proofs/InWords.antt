-- The number of a setup in words.
-- Assumes nothing.
use Prim.Native.Nat.{ℕ, zero, suc, ◌*◌, ◌<◌}
use mathlib.Core.Bool.{Bool, true, false}
use mathlib.Core.List.{List, [], ◌∷◌}
use mathlib.Core.Logic.{◌⊎◌, inl, inr}
use mathlib.Core.Path.{◌≡◌, refl, sym, ◌∙◌, ap, subst}
use native.Mathlib.Nat.{not-suc-le-zero, le_of_suc-le-suc, zero-lt-suc}
use native.Mathlib.Omega.{arith}
use borrow.Author.Tests.{eqb-true, eqb-false}
use lib.Dec.{eqb}
use lib.ListN.{length, get_or}
use Rattle.forms.specs.Words.{◌or◌, Some, Gives, Number}
use Rattle.forms.specs.Words.Number.{◌for◌}
use Rattle.forms.proofs.Checks.{hit, miss}
use Rattle.forms.proofs.Choice.{eq_not, ne_not}
use Rattle.forms.proofs.Decides.{eq_stable, take, skip, first_or_rest}
use Rattle.rules.specs.Book.{no_setup}
use Rattle.rules.specs.Numbers.{sets_up}
use Rattle.rules.specs.Words as ruled
use Rattle.rules.specs.Words.{IsShape, IsEnd, IsSetup}
use Rattle.rules.specs.declared.Setup.{Setup}
use Rattle.rules.proofs.Demands.{demands}
use Rattle.calls.specs.Setup.{setups_of, setup_number}
use Rattle.calls.specs.Words.{setup_in, setup_refusals}
use Rattle.calls.specs.Laws.{SetupNumberIs}
use Rattle.calls.proofs.Setups.{setups_length, setups_are}

-- ------------------------------------------------------------------ one of a list, by its place

-- one of a list is so: by its place
some_at : (P : Setup → Type 0) (us : List Setup) → Some P us → (i : ℕ) × (i < length us) × P (get_or us i no_setup)
some_at P [] k = absurd k
some_at P (u ∷ us) (inl p) = (zero, zero-lt-suc (length us), p)
some_at P (u ∷ us) (inr k) = let at = some_at P us k in (suc at.0, omega (arith, at.1), at.2)

at_some : (P : Setup → Type 0) (us : List Setup) (i : ℕ) → i < length us → P (get_or us i no_setup) → Some P us
at_some P [] i h p = absurd (not-suc-le-zero h)
at_some P (u ∷ us) zero h p = inl p
at_some P (u ∷ us) (suc i) h p = inr (at_some P us i (le_of_suc-le-suc h) p)

-- ------------------------------------------------------------------ the number, in words

module _ (stocks times prices end : ℕ) (list : List ℕ) where
  abbrev Shape : Type 0
  Shape = IsShape stocks times prices

  abbrev table : List Number
  table = setup_refusals stocks times prices end list

  abbrev us : List Setup
  us = setups_of list

  -- of a list with four numbers for each setup the words are those of the rules
  module _ (k : length list ≡ 4 * length us) where
    not_one : ¬ Shape or ¬ (length us ≡ stocks) → ¬ Shape or ¬ (length list ≡ 4 * stocks)
    not_one (inl n) = inl n
    not_one (inr n) = inr (λ e. n (omega (arith, e, k)))

    one_not : ¬ Shape or ¬ (length list ≡ 4 * stocks) → ¬ Shape or ¬ (length us ≡ stocks)
    one_not (inl n) = inl n
    one_not (inr n) = inr (λ e. n (k ∙ ap (λ x. 4 * x) e))

    abbrev Out : Type 0
    Out = (i : ℕ) × (i < stocks) × ¬ IsSetup (setup_in list i)

    module _ (e : length us ≡ stocks) where
      in_list : (i : ℕ) → i < stocks → get_or us i no_setup ≡ setup_in list i
      in_list = (setups_are list stocks (k ∙ ap (λ x. 4 * x) e)).1

      out_of : ¬ IsEnd end or Some (λ u. ¬ IsSetup u) us → ¬ IsEnd end or Out
      out_of (inl n) = inl n
      out_of (inr s) =
          let at = some_at (λ u. ¬ IsSetup u) us s in
          let l : at.0 < stocks = omega (arith, at.1, e) in
          inr (at.0, l, subst (λ u. ¬ IsSetup u) (in_list at.0 l) at.2)

      of_out : ¬ IsEnd end or Out → ¬ IsEnd end or Some (λ u. ¬ IsSetup u) us
      of_out (inl n) = inl n
      of_out (inr o) = inr (at_some (λ u. ¬ IsSetup u) us o.0 (omega (arith, o.1, e)) (subst (λ u. ¬ IsSetup u) (sym (in_list o.0 o.1)) o.2))

    reworded : (n : ℕ) → Gives (ruled.setup_refusals stocks times prices end us) n → Gives (table) n
    reworded n g = shape (first_or_rest 1 n _ _ g)
      where
        range : ¬ (¬ Shape or ¬ (length us ≡ stocks)) → ((¬ IsEnd end or Some (λ u. ¬ IsSetup u) us) × (n ≡ 2)) ⊎ (¬ (¬ IsEnd end or Some (λ u. ¬ IsSetup u) us) × Gives [] n)
            → Gives (table) n
        range w (inl x) = skip 1 n _ _ (λ z. w (one_not z)) (take 2 n _ _ (out_of ((eq_stable (length us) stocks).undenied (λ z. w (inr z))) x.0) x.1)
        range w (inr x) = skip 1 n _ _ (λ z. w (one_not z)) (skip 2 n _ _ (λ z. x.0 (of_out ((eq_stable (length us) stocks).undenied (λ z. w (inr z))) z)) x.1)

        shape : ((¬ Shape or ¬ (length us ≡ stocks)) × (n ≡ 1)) ⊎ (¬ (¬ Shape or ¬ (length us ≡ stocks)) × Gives (2 for (¬ IsEnd end or Some (λ u. ¬ IsSetup u) us) ∷ []) n)
            → Gives (table) n
        shape (inl x) = take 1 n _ _ (not_one x.0) x.1
        shape (inr x) = range x.0 (first_or_rest 2 n _ _ x.1)

  number_is : Gives (table) (setup_number stocks times prices end list)
  unfolding setup_number sets_up
  number_is = go (eqb (length list) (4 * length us)) refl
    where
      go : (c : Bool) → eqb (length list) (4 * length us) ≡ c → Gives (table) (setup_number stocks times prices end list)
      go true q =
          let k = eqb-true _ _ q in
          subst (Gives (table)) (miss _ 1 _ _ (eq_not (length list) _ k) refl)
          (reworded k _ ((demands.setup_numbers stocks times prices end us _).0 refl))
      go false q =
          let n = eqb-false _ _ q in
          take 1 _ _ _ (inr (λ e. n (e ∙ ap (λ x. 4 * x) (sym (setups_length stocks list e))))) (sym (hit _ 1 _ (ne_not (length list) _ n)))

pub setup_number_is : SetupNumberIs
setup_number_is = number_is
