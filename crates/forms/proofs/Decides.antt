-- A test decides words: the laws by which `search words` goes down a test and its words together, and the law of ordered checks.
-- Assumes nothing.
use Prim.Native.Nat.{ℕ, zero, suc, ◌≤◌, ◌<◌}
use mathlib.Core.Bool.{Bool, true, false, not, ◌&&◌, ◌||◌, false≢true, true≢false}
use mathlib.Core.List.{List, [], ◌∷◌, ◌++◌, foldl}
use mathlib.Core.Logic.{◌⊎◌, inl, inr, ⊎_map, ⊎_elim, ◌↔◌}
use mathlib.Core.Path.{◌≡◌, refl, sym, ◌∙◌, subst}
use native.Mathlib.Nat.{le_of_suc-le-suc, not-suc-le-zero}
use native.Mathlib.Omega.{arith}
use borrow.Author.Tests.{ltb-true, ltb-false, leb-true, leb-false, eqb-true, eqb-false, ne_eqb}
use lib.Dec.{leb, ltb, eqb}
use Rattle.forms.specs.Choice.{if◌then◌otherwise◌, all_of, any_of}
use Rattle.forms.specs.Checks.{Check, first}
use Rattle.forms.specs.Checks.Check.{◌when◌}
use Rattle.forms.proofs.Choice.{if_yes}
use Rattle.forms.specs.Words.{◌or◌, ◌and◌, Some, IsOneOf, Number, Gives}
use Rattle.forms.specs.Words.Number.{◌for◌}

-- where the test is true the words hold, and where it is false they do not
pub record Decides (b : Bool) (P : Type 0) : Type 0 where
  pub holds : b ≡ true → P
  pub fails : b ≡ false → ¬ P

pub is_true : (b : Bool) {P : Type 0} → Decides b P → P → b ≡ true
is_true true d p = refl
is_true false d p = absurd (d.fails refl p)

pub is_false : (b : Bool) {P : Type 0} → Decides b P → ¬ P → b ≡ false
is_false true d n = absurd (n (d.holds refl))
is_false false d n = refl

-- so the test is true exactly where the words hold
pub exactly_where : {b : Bool} {P : Type 0} → Decides b P → (b ≡ true) ↔ P
exactly_where d = (d.holds, is_true _ d)

-- the words hold or do not
pub either_way : (b : Bool) {P : Type 0} → Decides b P → P ⊎ (¬ P)
either_way true d = inl (d.holds refl)
either_way false d = inr (d.fails refl)

-- other words for the same
pub reworded : {b : Bool} {P Q : Type 0} → P ↔ Q → Decides b P → Decides b Q
reworded e d = record { holds = λ t. e.0 (d.holds t); fails = λ f q. d.fails f (e.1 q) }

-- words that hold where they are not denied
pub record Stable (P : Type 0) : Type 0 where
  pub undenied : ¬ ¬ P → P

-- a test of what is not so, and is false
pub is_so : {b : Bool} {P : Type 0} → Decides b (¬ P) → Stable P → b ≡ false → P
is_so d p f = p.undenied (d.fails f)

-- ------------------------------------------------------------------ one test

pub by_lt : (a b : ℕ) → Decides (ltb a b) (a < b)
by_lt a b = record { holds = ltb-true a b; fails = λ f l. omega (arith, ltb-false a b f) }

pub by_le : (a b : ℕ) → Decides (leb a b) (a ≤ b)
by_le a b = record { holds = leb-true a b; fails = λ f l. omega (arith, leb-false a b f) }

pub by_eq : (a b : ℕ) → Decides (eqb a b) (a ≡ b)
by_eq a b = record { holds = eqb-true a b; fails = eqb-false a b }

pub by_not : (b : Bool) (P : Type 0) → Decides b P → Decides (not b) (¬ P)
by_not true P d = record { holds = λ t. absurd (false≢true t); fails = λ f n. n (d.holds refl) }
by_not false P d = record { holds = λ t. d.fails refl; fails = λ f. absurd (true≢false f) }

pub never : (P : Type 0) → ¬ P → Decides false P
never P n = record { holds = λ t. absurd (false≢true t); fails = λ f. n }

pub always : (P : Type 0) → P → Decides true P
always P p = record { holds = λ t. p; fails = λ f. absurd (true≢false f) }

-- ------------------------------------------------------------------ tests put together

pub one_test : (b : Bool) (P : Type 0) → Decides b P → Decides (any_of (b ∷ [])) P
unfolding any_of if◌then◌otherwise◌
one_test true P d = d
one_test false P d = d

pub or_more : (b : Bool) (bs : List Bool) (P Q : Type 0) → Decides b P → Decides (any_of bs) Q → Decides (any_of (b ∷ bs)) (P or Q)
unfolding any_of if◌then◌otherwise◌
or_more true bs P Q d e = record { holds = λ t. inl (d.holds refl); fails = λ f. absurd (true≢false f) }
or_more false bs P Q d e = record { holds = λ t. inr (e.holds t); fails = λ f. go (d.fails refl) (e.fails f) }
  where
    go : ¬ P → ¬ Q → P ⊎ Q → ⊥
    go n m (inl p) = n p
    go n m (inr q) = m q

pub all_one : (b : Bool) (P : Type 0) → Decides b P → Decides (all_of (b ∷ [])) P
unfolding all_of if◌then◌otherwise◌
all_one true P d = d
all_one false P d = d

pub and_more : (b : Bool) (bs : List Bool) (P Q : Type 0) → Decides b P → Decides (all_of bs) Q → Decides (all_of (b ∷ bs)) (P and Q)
unfolding all_of if◌then◌otherwise◌
and_more true bs P Q d e = record { holds = λ t. (d.holds refl, e.holds t); fails = λ f k. e.fails f k.1 }
and_more false bs P Q d e = record { holds = λ t. absurd (false≢true t); fails = λ f k. d.fails refl k.0 }

-- ------------------------------------------------------------------ the same of what is not so: a range, said by what lies in it

pub not_le : (a b : ℕ) → Decides (ltb a b) (¬ (b ≤ a))
not_le a b = record { holds = λ t l. omega (arith, ltb-true a b t); fails = λ f n. n (ltb-false a b f) }

pub not_lt : (a b : ℕ) → Decides (leb a b) (¬ (b < a))
not_lt a b = record { holds = λ t l. omega (arith, leb-true a b t); fails = λ f n. n (leb-false a b f) }

pub not_one : (a : ℕ) → Decides (eqb a 0) (¬ (1 ≤ a))
not_one a = record { holds = λ t l. omega (arith, eqb-true a 0 t); fails = λ f n. n (let z = eqb-false a 0 f in omega arith) }

pub nor_more : (b : Bool) (bs : List Bool) (P Q : Type 0) → Decides b (¬ P) → Decides (any_of bs) (¬ Q) → Decides (any_of (b ∷ bs)) (¬ (P and Q))
unfolding any_of if◌then◌otherwise◌
nor_more true bs P Q d e = record { holds = λ t k. d.holds refl k.0; fails = λ f. absurd (true≢false f) }
nor_more false bs P Q d e = record { holds = λ t k. e.holds t k.1; fails = λ f n. d.fails refl (λ p. e.fails f (λ q. n (p, q))) }

pub nand : (b c : Bool) (P Q : Type 0) → Decides b P → Decides c (¬ Q) → Decides (all_of (b ∷ c ∷ [])) (¬ (P → Q))
unfolding all_of if◌then◌otherwise◌
nand false c P Q d e = record { holds = λ t. absurd (false≢true t); fails = λ f n. n (λ p. absurd (d.fails refl p)) }
nand true true P Q d e = record { holds = λ t k. e.holds refl (k (d.holds refl)); fails = λ f. absurd (true≢false f) }
nand true false P Q d e = record { holds = λ t. absurd (false≢true t); fails = λ f n. e.fails refl (λ q. n (λ p. q)) }

pub decided_stable : (b : Bool) (P : Type 0) → Decides b P → Stable P
decided_stable true P d = record { undenied = λ n. d.holds refl }
decided_stable false P d = record { undenied = λ n. absurd (n (d.fails refl)) }

pub le_stable : (a b : ℕ) → Stable (a ≤ b)
le_stable a b = decided_stable _ _ (by_le a b)

pub eq_stable : (a b : ℕ) → Stable (a ≡ b)
eq_stable a b = decided_stable _ _ (by_eq a b)

pub and_stable : (P Q : Type 0) → Stable P → Stable Q → Stable (P and Q)
and_stable P Q p q = record { undenied = λ n. (p.undenied (λ k. n (λ b. k b.0)), q.undenied (λ k. n (λ b. k b.1))) }

pub then_stable : (P Q : Type 0) → Stable Q → Stable (P → Q)
then_stable P Q q = record { undenied = λ n p. q.undenied (λ k. n (λ f. k (f p))) }

-- `search stable` proves that a range, which is said by `≤`, `≡` and `and`, is stable
pub ruleset stable = (le_stable, eq_stable, and_stable, then_stable)

-- `search words` proves that a test decides its words, where both are put together alike
pub ruleset words = (by_lt, by_le, by_eq, by_not, one_test, or_more, all_one, and_more, not_le, not_lt, not_one, nor_more, nand)

-- ------------------------------------------------------------------ a list gone over from the front

module _ {A : Type 0} (test : A → Bool) (P : A → Type 0) (each : (x : A) → Decides (test x) (P x)) where
  abbrev or_test : Bool → A → Bool
  or_test bad x = if bad then true otherwise test x

  pub or_some : (b : Bool) (Q : Type 0) (xs : List A) → Decides b Q → Decides (foldl or_test b xs) (Q or Some P xs)
  unfolding if◌then◌otherwise◌
  or_some b Q [] d = record { holds = λ t. inl (d.holds t); fails = λ f. go (d.fails f) }
    where
      go : ¬ Q → Q ⊎ ⊥ → ⊥
      go n (inl q) = n q
      go n (inr z) = z
  or_some true Q (x ∷ xs) d = reworded ((λ _. inl (d.holds refl)), (λ _. inl tt)) (or_some true (Unit {0}) xs (always _ tt))
  or_some false Q (x ∷ xs) d = reworded (inr, out) (or_some (test x) (P x) xs (each x))
    where
      out : Q ⊎ (P x ⊎ Some P xs) → P x ⊎ Some P xs
      out (inl q) = absurd (d.fails refl q)
      out (inr k) = k

  pub some : (xs : List A) → Decides (foldl or_test false xs) (Some P xs)
  some xs = reworded (out, inr) (or_some false ⊥ xs (never _ (λ z. z)))
    where
      out : ⊥ ⊎ Some P xs → Some P xs
      out (inl z) = absurd z
      out (inr k) = k

-- ------------------------------------------------------------------ lists of numbers, by computation

abbrev pub has : List ℕ → ℕ → Bool
has [] n = false
has (k ∷ ks) n = eqb n k || has ks n

abbrev pub within : List ℕ → List ℕ → Bool
within [] ls = true
within (k ∷ ks) ls = has ls k && within ks ls

either : (a b : Bool) → (a || b) ≡ true → (a ≡ true) ⊎ (b ≡ true)
either true b e = inl refl
either false b e = inr e

neither : (a b : Bool) → (a || b) ≡ false → (a ≡ false) × (b ≡ false)
neither true b e = absurd (true≢false e)
neither false b e = (refl, e)

both : (a b : Bool) → (a && b) ≡ true → (a ≡ true) × (b ≡ true)
both true b e = (refl, e)
both false b e = absurd (false≢true e)

has_it : (ls : List ℕ) (n : ℕ) → has ls n ≡ true → IsOneOf n ls
has_it [] n e = absurd (false≢true e)
has_it (k ∷ ks) n e = ⊎_map (eqb-true n k) (has_it ks n) (either (eqb n k) (has ks n) e)

-- a number that is not there
pub not_among : (ls : List ℕ) (n k : ℕ) → n ≡ k → has ls k ≡ false → ¬ IsOneOf n ls
not_among [] n k q e m = m
not_among (l ∷ ls) n k q e (inl p) = eqb-false k l (neither (eqb k l) (has ls k) e).0 (sym q ∙ p)
not_among (l ∷ ls) n k q e (inr m) = not_among ls n k q (neither (eqb k l) (has ls k) e).1 m

-- one of a list that is within another is one of that
pub among : (ks ls : List ℕ) (n : ℕ) → within ks ls ≡ true → IsOneOf n ks → IsOneOf n ls
among [] ls n e m = absurd m
among (k ∷ ks) ls n e (inl q) = subst (λ n. IsOneOf n ls) (sym q) (has_it ls k (both (has ls k) (within ks ls) e).0)
among (k ∷ ks) ls n e (inr m) = among ks ls n (both (has ls k) (within ks ls) e).1 m

-- ------------------------------------------------------------------ ordered checks

-- a row: its test decides its words, and where they do not hold the rest give what the rest say
pub row : (n : ℕ) (b : Bool) (P : Type 0) (cs : List Check) (rest : List Number) → Decides b P
    → (¬ P → Gives rest (first cs)) → Gives (n for P ∷ rest) (first (n when b ∷ cs))
unfolding Gives first if◌then◌otherwise◌
row n true P cs rest d k = inl (d.holds refl, refl)
row n false P cs rest d k = let nay = d.fails refl in inr (nay, k nay)

-- a row that does not apply here
pub skip : (k n : ℕ) (P : Type 0) (rest : List Number) → ¬ P → Gives rest n → Gives (k for P ∷ rest) n
unfolding Gives
skip k n P rest not g = inr (not, g)

-- a row that applies here
pub take : (k n : ℕ) (P : Type 0) (rest : List Number) → P → n ≡ k → Gives (k for P ∷ rest) n
unfolding Gives
take k n P rest p e = inl (p, e)

-- the first row applies, or the rest give what is given
pub first_or_rest : (k n : ℕ) (P : Type 0) (rest : List Number) → Gives (k for P ∷ rest) n → (P × (n ≡ k)) ⊎ ((¬ P) × Gives rest n)
unfolding Gives
first_or_rest k n P rest g = g

-- a row of another number did not apply, and the rest gave what was given
pub past : (k n : ℕ) (P : Type 0) (rest : List Number) → ¬ (n ≡ k) → Gives (k for P ∷ rest) n → (¬ P) × Gives rest n
unfolding Gives
past k n P rest other (inl g) = absurd (other g.1)
past k n P rest other (inr g) = g

-- a check that does not apply here
pub passed_over : (n : ℕ) (cs : List Check) (ns : List Number) → Gives ns (first cs) → Gives ns (first (n when false ∷ cs))
unfolding first if◌then◌otherwise◌
passed_over n cs ns g = g

-- a choice by a test, and the last of a row of choices
pub choice : (k : ℕ) (b : Bool) (x : ℕ) (P : Type 0) (rest : List Number) → Decides b P → (¬ P → Gives rest x) → Gives (k for P ∷ rest) (if b then k otherwise x)
unfolding Gives if◌then◌otherwise◌
choice k true x P rest d f = inl (d.holds refl, refl)
choice k false x P rest d f = let nay = d.fails refl in inr (nay, f nay)

pub no_choice : Gives [] 0
unfolding Gives
no_choice = refl

-- `search (words, choices)` goes down choices and their table
pub ruleset choices = (choice, no_choice)

-- the numbers of a table's rows
abbrev pub numbers_in : List Number → List ℕ
numbers_in [] = []
numbers_in (k for P ∷ rest) = k ∷ numbers_in rest

-- a number that is its own check: where its table does not give it, the checks behind it give what theirs says
pub own_table : (ns rest : List Number) (n : ℕ) (cs : List Check) → has (numbers_in ns) 0 ≡ false → Gives ns n → Gives rest (first cs)
    → Gives (ns ++ rest) (first (n when not (eqb n 0) ∷ cs))
unfolding Gives first if◌then◌otherwise◌
own_table [] rest n cs z e g = rw e g
own_table (k for P ∷ ns) rest n cs z (inl (p, e)) g =
    let other : ¬ (n ≡ 0) = λ q. eqb-false 0 k (neither (eqb 0 k) _ z).0 (sym q ∙ e) in
    inl (p, rw (ne_eqb n 0 other) e)
own_table (k for P ∷ ns) rest n cs z (inr (np, h)) g = inr (np, own_table ns rest n cs (neither (eqb 0 k) _ z).1 h g)

-- the end of both
pub no_more : Gives [] (first [])
unfolding Gives first
no_more = refl

-- `search (words, numbers)` goes down a list of checks and its table
pub ruleset numbers = (row, passed_over, no_more)

-- a table gives one number only
pub one_number : (ns : List Number) (m n : ℕ) → Gives ns m → Gives ns n → m ≡ n
unfolding Gives
one_number [] m n e f = e ∙ sym f
one_number (k for P ∷ rest) m n (inl p) (inl q) = p.1 ∙ sym q.1
one_number (k for P ∷ rest) m n (inl p) (inr q) = absurd (q.0 p.0)
one_number (k for P ∷ rest) m n (inr p) (inl q) = absurd (p.0 q.0)
one_number (k for P ∷ rest) m n (inr p) (inr q) = one_number rest m n p.1 q.1

-- so what is given is given exactly where the table says
pub exactly : (ns : List Number) (m n : ℕ) → Gives ns m → (m ≡ n) ↔ Gives ns n
exactly ns m n g = ((λ e. subst (Gives ns) e g), one_number ns m n g)

-- and it is 0 or a number of the table
pub listed : (ns : List Number) (n : ℕ) → Gives ns n → IsOneOf n (0 ∷ numbers_in ns)
unfolding Gives
listed [] n e = inl e
listed (k for P ∷ rest) n (inl p) = inr (inl p.1)
listed (k for P ∷ rest) n (inr p) = ⊎_map (λ z. z) inr (listed rest n p.1)

-- so it is no number that the table does not have
pub not_given : (ns : List Number) (n : ℕ) → has (0 ∷ numbers_in ns) n ≡ false → ¬ Gives ns n
not_given ns n none g = not_among (0 ∷ numbers_in ns) n n refl none (listed ns n g)

-- no row's words hold
abbrev pub None : List Number → Type 0
None [] = Unit {0}
None (k for P ∷ rest) = (¬ P) × None rest

-- a number of one row only is given exactly where this row's words hold, and those of no row above it
pub once : (above : List Number) (n : ℕ) (P : Type 0) (rest : List Number) → has (numbers_in above) n ≡ false → has (0 ∷ numbers_in rest) n ≡ false
    → Gives (above ++ (n for P ∷ rest)) n ↔ (None above × P)
once [] n P rest a b = ((λ g. (tt, ⊎_elim (λ k. k.0) (λ k. absurd (not_given rest n b k.1)) (first_or_rest n n P rest g))), (λ k. take n n P rest k.1 refl))
once (k for Q ∷ above) n P rest a b =
    let other = neither (eqb n k) _ a in
    let below = once above n P rest other.1 b in (
      (λ g. let p = past k n Q _ (eqb-false n k other.0) g in let q = below.0 p.1 in ((p.0, q.0), q.1)),
      (λ x. skip k n Q _ x.0.0 (below.1 (x.0.1, x.1))),
    )

-- ------------------------------------------------------------------ a table of cells, by computation

unfoldable pub below : ℕ → (ℕ → Bool) → Bool
below zero F = true
below (suc n) F = if F 0 then below n (λ i. F (suc i)) otherwise false

pub each_below : (n : ℕ) (F : ℕ → Bool) → below n F ≡ true → (i : ℕ) → i < n → F i ≡ true
unfolding below
each_below zero F e i h = absurd (not-suc-le-zero h)
each_below (suc n) F e zero h = (if_yes (F 0) _ e).0
each_below (suc n) F e (suc i) h = each_below n (λ i. F (suc i)) (if_yes (F 0) _ e).1 i (le_of_suc-le-suc h)

-- two functions that agree at every number below a bound
pub cells : (n : ℕ) (f g : ℕ → ℕ) → below n (λ i. eqb (f i) (g i)) ≡ true → (i : ℕ) → i < n → f i ≡ g i
cells n f g e i h = eqb-true _ _ (each_below n _ e i h)
