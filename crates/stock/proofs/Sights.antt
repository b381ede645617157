-- What a call sees first is what the rules judge, and its number theirs.
-- Assumes nothing.
use Prim.Native.Nat.{ℕ}
use Rattle.std.proofs.Common.{Option, Some, None, is_some}
use Rattle.rules.specs.declared.Figures.{Figures}
use mathlib.Core.Bool.{Bool, true, false, not, ◌&&◌, ◌||◌, true≢false, false≢true}
use mathlib.Core.List.{List, [], ◌∷◌}
use mathlib.Core.Path.{◌≡◌, refl, sym, ap, ◌∙◌}
use borrow.Author.Tests.{lt-ltb, le-ltb, leb-true, leb-false}
use lib.Dec.{leb, ltb}
use Rattle.forms.specs.Choice.{if◌then◌otherwise◌, all_of, any_of}
use Rattle.forms.specs.Checks.{first}
use Rattle.forms.proofs.Choice.{if_true, if_false}
use Rattle.rules.specs.Stock.{Trade, clock_of, figures_of}
use Rattle.rules.specs.Moments.{next, past_at, next_of}
use Rattle.rules.specs.Numbers.{bad_stock, bad_trades, rubbish, checks, tells, settle_checks, settles}
use Rattle.rules.specs.Counted as counted
use Rattle.rules.specs.Counted.{wrong}
use Rattle.rules.specs.declared.Message.{Message}
use Rattle.rules.specs.declared.Stock.{Stock}
use Rattle.judge.specs.Verdict.{verdict_of}
use Rattle.judge.specs.declared.Verdict.{Verdict}
use Rattle.window.specs.Places.{trades, whole, survey_of}
use Rattle.window.proofs.Window.{length_trades}
use Rattle.stock.specs.View.{Bytes, view, in_shape, shaped, holding}
use Rattle.stock.specs.Steps.{seen_of, message_number, settle_number}
use Rattle.stock.specs.declared.sight.Sight.{Sight}

-- ------------------------------------------------------------------ the judgement

over : (n : ℕ) → ltb 512 n ≡ not (leb n 512)
over n = go (leb n 512) refl
  where
    go : (b : Bool) → leb n 512 ≡ b → ltb 512 n ≡ not (leb n 512)
    go true e = rw e (le-ltb 512 n (leb-true _ _ e))
    go false e = rw e (lt-ltb 512 n (leb-false _ _ e))

-- the tests of a survey and those beside it are those of the rules: a and b the lengths, c the count, t the trades, k the stock, q its moment, and w
-- whether the totals are wrong
judged : (a b c t k q w : Bool) → all_of (all_of (a ∷ b ∷ []) ∷ not (any_of (k ∷ not c ∷ t ∷ q ∷ [])) ∷ not w ∷ [])
    ≡ (all_of (all_of (a ∷ b ∷ c ∷ []) ∷ not t ∷ []) && not (any_of (k ∷ q ∷ []) || w))
unfolding all_of any_of if◌then◌otherwise◌
judged false b c t k q w = refl
judged true false c t k q w = refl
judged true true false t true q w = refl
judged true true false t false q w = refl
judged true true true true true q w = refl
judged true true true true false q w = refl
judged true true true false true q true = refl
judged true true true false true q false = refl
judged true true true false false true true = refl
judged true true true false false true false = refl
judged true true true false false false true = refl
judged true true true false false false false = refl

module _ (wrong : Bool) (s : Stock) (count : ℕ) (ts ps : List ℕ) where
  abbrev w : List Trade
  w = trades count ts ps

  abbrev surveyed : Bool
  surveyed = all_of (whole count ts ps ∷ not (bad_trades (clock_of s) w) ∷ [])

  abbrev own : Bool
  own = any_of (bad_stock s ∷ past_at (clock_of s) (next_of (holding s count ts ps)) ∷ [])

  tests_are : all_of (in_shape ts ps ∷ not (rubbish (holding s count ts ps)) ∷ not wrong ∷ []) ≡ (surveyed && not (own || wrong))
  unfolding whole in_shape rubbish
  tests_are = rw (length_trades, over) (judged _ _ _ _ _ _ _)

  is_seen : (b : Bool) → (surveyed && not (own || wrong)) ≡ b
      → seen_of wrong s count ts ps ≡ (if b then Some (record { figures = figures_of w; earliest = next_of (holding s count ts ps) }) otherwise None)
  unfolding seen_of
  is_seen b e = let t = tests_are ∙ e in rw t refl

  -- of what a survey gives
  pub unseen : None ≡ survey_of (clock_of s) count ts ps → None ≡ seen_of wrong s count ts ps
  unfolding survey_of
  unseen e = go surveyed refl
    where
      go : (b : Bool) → surveyed ≡ b → None ≡ seen_of wrong s count ts ps
      go true q = let no : None ≡ Some (figures_of w) = e ∙ simp (q, if_true) in absurd (cc)
      go false q = sym (is_seen false (ap (λ b. b && not (own || wrong)) q) ∙ if_false _ _ _ refl)

  module _ (f : Figures) (e : Some f ≡ survey_of (clock_of s) count ts ps) where
    figures_are : (surveyed ≡ true) × (f ≡ figures_of w)
    unfolding survey_of
    figures_are = go surveyed refl
      where
        go : (b : Bool) → surveyed ≡ b → (surveyed ≡ true) × (f ≡ figures_of w)
        go true q = let is : Some f ≡ Some (figures_of w) = e ∙ simp (q, if_true) in (q, cc)
        go false q = let no : Some f ≡ None = e ∙ simp (q, if_false) in absurd (cc)

    tested : (b : Bool) → (any_of (bad_stock s ∷ past_at (clock_of s) (next f s) ∷ []) || wrong) ≡ b → (surveyed && not (own || wrong)) ≡ not b
    tested b q = let is = figures_are in rw (is.0, ← is.1, q) refl

    module _ (d : Verdict) (v : d ≡ verdict_of f s) where
      pub refused : (d.rubbish || wrong) ≡ true → None ≡ seen_of wrong s count ts ps
      refused q = sym (is_seen false (tested true (rw v at q)) ∙ if_false _ _ _ refl)

      pub seen_by : (d.rubbish || wrong) ≡ false → Some (record { figures = f; earliest = d.earliest }) ≡ seen_of wrong s count ts ps
      seen_by q = sym (is_seen true (tested false (rw v at q)) ∙ if_true _ _ _ refl ∙ rw (sym (figures_are.1), v) refl)

-- ------------------------------------------------------------------ what was seen

-- what a call finds of the stock that bytes mean
abbrev pub SeenOf : Bytes → Option Sight → Type 0
SeenOf b o = o ≡ seen_of (wrong (view b)) b.kept.stock b.kept.count b.times b.prices

-- of a stock that is shaped and no rubbish, and whose totals are not wrong
pub record Found (b : Bytes) (g : Sight) : Type 0 where
  pub tests : all_of (shaped b ∷ not (rubbish (view b).whole) ∷ not (wrong (view b)) ∷ []) ≡ true
  pub figures : g.figures ≡ figures_of (view b).whole.window
  pub earliest : g.earliest ≡ next_of (view b).whole

module _ (b : Bytes) where
  abbrev tests : Bool
  tests = all_of (shaped b ∷ not (rubbish (view b).whole) ∷ not (wrong (view b)) ∷ [])

  abbrev all : Sight
  all = record { figures = figures_of (view b).whole.window; earliest = next_of (view b).whole }

  pub found : (g : Sight) → SeenOf b (Some g) → Found b g
  unfolding seen_of
  found g k = go tests refl
    where
      go : (t : Bool) → tests ≡ t → Found b g
      go true q =
          let is : Some g ≡ Some all = k ∙ simp (q, if_true) in
          let own : g ≡ all = cc in
          record { tests = q; figures = ap (λ g. g.figures) own; earliest = ap (λ g. g.earliest) own }
      go false q = let no : Some g ≡ None = k ∙ simp (q, if_false) in absurd (cc)

  pub missed : SeenOf b None → tests ≡ false
  unfolding seen_of
  missed k = go tests refl
    where
      go : (t : Bool) → tests ≡ t → tests ≡ false
      go true q = let no : None ≡ Some all = k ∙ simp (q, if_true) in absurd (cc)
      go false q = q

-- ------------------------------------------------------------------ the number

-- a call on a stock of the shape is answered 1 where its totals are wrong or it is rubbish, and by the further checks where not
by_sight : (shape rub wrong : Bool) (n : ℕ)
    → (if all_of (shape ∷ not rub ∷ not wrong ∷ []) then n otherwise 1) ≡ (if shape then (if wrong then 1 otherwise (if rub then 1 otherwise n)) otherwise 1)
unfolding all_of if◌then◌otherwise◌
by_sight false rub wrong n = refl
by_sight true true true n = refl
by_sight true true false n = refl
by_sight true false true n = refl
by_sight true false false n = refl

module _ (b : Bytes) (o : Option Sight) (k : SeenOf b o) where
  seen_number : (number : Option Sight → ℕ) → number None ≡ 1
      → number o ≡ (if shaped b then (if wrong (view b) then 1 otherwise (if rubbish (view b).whole then 1 otherwise number (Some (all b)))) otherwise 1)
  unfolding seen_of
  seen_number number none = ap number k ∙ go (tests b) refl ∙ by_sight (shaped b) (rubbish (view b).whole) (wrong (view b)) (number (Some (all b)))
    where
      go : (t : Bool) → tests b ≡ t → number (seen_of (wrong (view b)) b.kept.stock b.kept.count b.times b.prices) ≡ (if tests b then number (Some (all b)) otherwise 1)
      go true q = simp (q, if_true)
      go false q = simp (q, if_false) none

  pub message_number_is : (m : Message) → message_number m o b.kept.count b.kept.stock ≡ (if shaped b then counted.tells m (view b) otherwise 1)
  unfolding counted.or_wrong tells checks first
  message_number_is m = seen_number (λ o. message_number m o b.kept.count b.kept.stock) refl ∙ rw length_trades refl

  pub settle_number_is : (time : ℕ) → settle_number time o b.kept.stock ≡ (if shaped b then counted.settles time (view b) otherwise 1)
  unfolding counted.or_wrong settles settle_checks first
  settle_number_is time = seen_number (λ o. settle_number time o b.kept.stock) refl

-- where another number than that of nothing is given, something was seen
pub some_unless : (number : Option Sight → ℕ) (o : Option Sight) → ¬ (number o ≡ number None) → (g : Sight) × (o ≡ Some g)
some_unless number None e = absurd (e refl)
some_unless number (Some g) e = (g, refl)

pub some_of : (o : Option Sight) → is_some o ≡ true → (g : Sight) × (o ≡ Some g)
some_of None e = absurd (false≢true e)
some_of (Some g) e = (g, refl)

pub none_of : (o : Option Sight) → is_some o ≡ false → o ≡ None
none_of None e = refl
none_of (Some g) e = absurd (true≢false e)
