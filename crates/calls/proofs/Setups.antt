-- The list of setups by its places, and the loops that go over it.
-- Assumes nothing.
use Prim.Native.Nat.{ℕ, zero, suc, ◌+◌, ◌-◌, ◌*◌, ◌/◌, ◌≤◌, ◌<◌}
use mathlib.Core.Bool.{Bool, true, false, ◌||◌}
use mathlib.Core.List.{List, [], ◌∷◌, ◌++◌, foldl}
use mathlib.Core.Path.{◌≡◌, refl, sym, ◌∙◌, ap}
use native.Mathlib.Omega.{arith}
use borrow.Author.Tests.{ltb-false}
use lib.ListN.{length, get_or, take, drop, length-drop}
use lib.Seq.{take_all, get_or-drop}
use Rattle.forms.specs.Choice.{if◌then◌otherwise◌}
use Rattle.forms.specs.Checks.{Check, first}
use Rattle.forms.specs.Checks.Check.{◌when◌}
use Rattle.forms.proofs.Bools.{either}
use Rattle.forms.proofs.Checks.{hit, miss, passed}
use Rattle.forms.proofs.Choice.{eq_not, ne_not, eq_of_not, any_here, any_there, any_not, any_empty, any_head, any_tail}
use Rattle.rules.specs.Book.{no_setup}
use Rattle.rules.specs.Numbers.{bad_end, bad_setup, or_bad_setup, bad_shape, setup_checks}
use Rattle.rules.specs.declared.Setup.{Setup}
use Rattle.calls.specs.Setup.{setups_of, setup_number}
use Rattle.calls.specs.Words.{setup_in}
use Rattle.calls.specs.Laws.{SetupsAre}

-- ------------------------------------------------------------------ four numbers for each setup

pub setups_length : (n : ℕ) (list : List ℕ) → length list ≡ 4 * n → length (setups_of list) ≡ n
unfolding setups_of
setups_length zero [] e = refl
setups_length (suc n) [] e = absurd (omega arith)
setups_length n (_ ∷ []) e = absurd (omega arith)
setups_length n (_ ∷ _ ∷ []) e = absurd (omega arith)
setups_length n (_ ∷ _ ∷ _ ∷ []) e = absurd (omega arith)
setups_length zero (_ ∷ _ ∷ _ ∷ _ ∷ rest) e = absurd (omega arith)
setups_length (suc n) (_ ∷ _ ∷ _ ∷ _ ∷ rest) e = rw (setups_length n rest (omega arith))

-- the four numbers of stock i stand in the list
pub four_more : (i n k : ℕ) → i < n → k ≡ 4 * n → 4 * i + 4 ≤ k
four_more i n k small enough = omega arith

past : (k m a b c d : ℕ) (rest : List ℕ) → k ≡ suc (suc (suc (suc m))) → get_or (a ∷ b ∷ c ∷ d ∷ rest) k 0 ≡ get_or rest m 0
past k m a b c d rest e = rw e

-- the setup of stock i is made of them
setup_at : (i : ℕ) (list : List ℕ) → 4 * i + 4 ≤ length list → setup_in list i ≡ get_or (setups_of list) i no_setup
unfolding setups_of
setup_at i [] h = absurd (omega arith)
setup_at i (_ ∷ []) h = absurd (omega arith)
setup_at i (_ ∷ _ ∷ []) h = absurd (omega arith)
setup_at i (_ ∷ _ ∷ _ ∷ []) h = absurd (omega arith)
setup_at zero (a ∷ b ∷ c ∷ d ∷ rest) h = refl
setup_at (suc i) (a ∷ b ∷ c ∷ d ∷ rest) h =
    rw (
      past (4 * suc i) (4 * i) a b c d rest (omega arith),
      past (4 * suc i + 1) (4 * i + 1) a b c d rest (omega arith),
      past (4 * suc i + 2) (4 * i + 2) a b c d rest (omega arith),
      past (4 * suc i + 3) (4 * i + 3) a b c d rest (omega arith),
    )
    (setup_at i rest (omega arith))

-- where they do not, there is none
no_setup_lem : (i : ℕ) (list : List ℕ) → length list < 4 * i + 4 → get_or (setups_of list) i no_setup ≡ no_setup
unfolding setups_of
no_setup_lem i [] h = refl
no_setup_lem i (_ ∷ []) h = refl
no_setup_lem i (_ ∷ _ ∷ []) h = refl
no_setup_lem i (_ ∷ _ ∷ _ ∷ []) h = refl
no_setup_lem zero (_ ∷ _ ∷ _ ∷ _ ∷ rest) h = absurd (omega arith)
no_setup_lem (suc i) (_ ∷ _ ∷ _ ∷ _ ∷ rest) h = no_setup_lem i rest (omega arith)

-- by the number of setups that the list has
pub setup_here : (i : ℕ) (list : List ℕ) → i < length list / 4 → setup_in list i ≡ get_or (setups_of list) i no_setup
setup_here i list h = setup_at i list (omega arith)

-- of the first four
pub setup_first : (list : List ℕ) → 4 ≤ length list → setup_in list 0 ≡ get_or (setups_of list) 0 no_setup
setup_first list h = setup_at 0 list h

-- and by the list from its first number on
pub setup_from : (i : ℕ) (list : List ℕ) (u : Setup) → i < length list / 4 → u ≡ get_or (setups_of (take (length list - 4 * i) (drop (4 * i) list))) 0 no_setup
    → u ≡ get_or (setups_of list) i no_setup
setup_from i list u h e =
    let whole = take_all (length list - 4 * i) (drop (4 * i) list) (simp length-drop (omega arith)) in
    let reads = get_or-drop (4 * i) list in
    let first : 4 * i + 0 ≡ 4 * i = omega arith in
    let same : setup_in (drop (4 * i) list) 0 ≡ setup_in list i = rw (reads 0 0, reads 1 0, reads 2 0, reads 3 0, first) in
    let there = setup_first (drop (4 * i) list) (simp length-drop (omega arith)) in
    e ∙ ap (λ l. get_or (setups_of l) 0 no_setup) whole ∙ sym there ∙ same ∙ setup_here i list h

pub setup_past : (i : ℕ) (list : List ℕ) → length list / 4 ≤ i → no_setup ≡ get_or (setups_of list) i no_setup
setup_past i list h = sym (no_setup_lem i list (omega arith))

pub setups_are : SetupsAre
setups_are list stocks e = (setups_length stocks list e, λ i l. sym (setup_at i list (four_more i stocks (length list) l e)))

-- ------------------------------------------------------------------ the judgement

or_bad : (bad this : Bool) (u : Setup) → this ≡ bad_setup u → (bad || this) ≡ or_bad_setup bad u
unfolding or_bad_setup if◌then◌otherwise◌
or_bad true this u e = refl
or_bad false this u e = e

-- a list that begins with four numbers has their setup first
four_first : (x rest : List ℕ) → length x ≡ 4 → setups_of (x ++ rest) ≡ get_or (setups_of x) 0 no_setup ∷ setups_of rest
unfolding setups_of
four_first [] rest e = absurd (omega arith)
four_first (_ ∷ []) rest e = absurd (omega arith)
four_first (_ ∷ _ ∷ []) rest e = absurd (omega arith)
four_first (_ ∷ _ ∷ _ ∷ []) rest e = absurd (omega arith)
four_first (a ∷ b ∷ c ∷ d ∷ []) rest e = refl
four_first (_ ∷ _ ∷ _ ∷ _ ∷ _ ∷ more) rest e = absurd (omega arith)

-- one more setup is judged
pub judge_more : (bad this w : Bool) (u : Setup) (list x rest : List ℕ) → list ≡ x ++ rest → length x ≡ 4 → u ≡ get_or (setups_of x) 0 no_setup → this ≡ bad_setup u
    → foldl or_bad_setup bad (setups_of list) ≡ w → foldl or_bad_setup (bad || this) (setups_of rest) ≡ w
judge_more bad this w u list x rest parts four of is q =
    let first = get_or (setups_of x) 0 no_setup in
    let all : setups_of list ≡ first ∷ setups_of rest = ap setups_of parts ∙ four_first x rest four in
    let turn : (bad || this) ≡ or_bad_setup bad first = or_bad bad this first (is ∙ ap bad_setup of) in
    ap (λ b. foldl or_bad_setup b (setups_of rest)) turn ∙ sym (ap (foldl or_bad_setup bad) all) ∙ q

-- fewer than four numbers are no setup
pub judge_all : (bad w : Bool) (rest : List ℕ) → length rest < 4 → foldl or_bad_setup bad (setups_of rest) ≡ w → bad ≡ w
unfolding setups_of
judge_all bad w [] h q = q
judge_all bad w (_ ∷ []) h q = q
judge_all bad w (_ ∷ _ ∷ []) h q = q
judge_all bad w (_ ∷ _ ∷ _ ∷ []) h q = q
judge_all bad w (_ ∷ _ ∷ _ ∷ _ ∷ rest) h q = absurd (omega arith)

-- 1 by either of its checks
one : (a b : Bool) (cs : List Check) → (a ≡ false → b ≡ true) → 1 ≡ first (1 when a ∷ 1 when b ∷ cs)
one true b cs h = hit true 1 (1 when b ∷ cs) refl
one false b cs h = miss false 1 1 (1 when b ∷ cs) refl (hit b 1 cs (h refl))

-- 64 stocks at most
pub few : (stocks times prices : ℕ) (shape : Bool) → shape ≡ bad_shape stocks times prices → shape ≡ false → stocks ≤ 64
unfolding bad_shape
few stocks times prices shape of_shape e = ltb-false 64 stocks (any_head _ _ (any_tail _ _ (sym of_shape ∙ e)))

module _ (stocks times prices end : ℕ) (list : List ℕ) (shape : Bool) (of_shape : shape ≡ bad_shape stocks times prices) where
  pub number_by_shape : shape ≡ true → 1 ≡ setup_number stocks times prices end list
  unfolding setup_number setup_checks
  number_by_shape e = one _ _ _ (λ _. any_here _ _ (sym of_shape ∙ e))

  pub number_by_list : (length list ≡ 4 * stocks → ⊥) → 1 ≡ setup_number stocks times prices end list
  unfolding setup_number setup_checks
  number_by_list e =
      one _ _ _ (λ q. any_there _ _ (any_here _ _ (ne_not (length (setups_of list)) stocks (λ k. e (eq_of_not _ _ q ∙ rw k)))))

  pub number_by_range : (r : ℕ) (bad_end_lem bad_setup_lem : Bool) → length list ≡ 4 * stocks → shape ≡ false → bad_end_lem ≡ bad_end end
      → bad_setup_lem ≡ foldl or_bad_setup false (setups_of list) → r ≡ first (2 when (bad_end_lem || bad_setup_lem) ∷ []) → r ≡ setup_number stocks times prices end list
  unfolding setup_number setup_checks
  number_by_range r bad_end_lem bad_setup_lem enough ok e f q =
      let l : length (setups_of list) ≡ stocks = setups_length stocks list enough in
      miss _ _ _ _ (eq_not (length list) (4 * length (setups_of list)) (rw l enough))
      (miss _ _ _ _ (any_not _ _ (sym of_shape ∙ ok) (any_not _ _ (eq_not (length (setups_of list)) stocks l) any_empty))
      (rw (← either bad_end_lem bad_setup_lem _ _ e f) q))

-- where it is done, the list has four numbers for each stock
pub fours : (stocks times prices end : ℕ) (list : List ℕ) → setup_number stocks times prices end list ≡ 0 → length list ≡ 4 * stocks
unfolding setup_number setup_checks
fours stocks times prices end list e =
    let p = passed _ tt e in
    let as_many = eq_of_not (length (setups_of list)) stocks (any_head _ _ (any_tail _ _ p.1.0)) in
    eq_of_not _ _ p.0 ∙ ap (λ n. 4 * n) as_many
