use mathlib.Core.Bool.{Bool, true, false, ◌||◌, or-true}
use mathlib.Core.List.{[], ◌∷◌}
use mathlib.Core.Path.{◌≡◌, refl, ◌∙◌}
use Rattle.forms.specs.Choice.{if◌then◌otherwise◌, any_of}
use Rattle.forms.proofs.Bools.{joined, or_any}
use Rattle.rules.specs.Moments.{moment_table, next, past_at}
use Rattle.rules.specs.States.{no_quotes}
use Rattle.rules.specs.Numbers.{or_not_side, bad_times, bad_quotes, bad_reference, bad_stock}
use Rattle.rules.specs.declared.Figures.{Figures}
use Rattle.rules.specs.declared.Moment.{Moment}
use Rattle.rules.specs.declared.Quotes.{Quotes}
use Rattle.quotes.specs.Parts.{stock_of, bare}
use Rattle.quotes.specs.declared.Kept.{Kept}
use Rattle.judge.specs.Verdict.{verdict_of}
use Rattle.judge.specs.declared.Verdict.{Verdict}
use Rattle.judge.proofs.judged.Goals as goal

-- one test of a row may be asked at its end
moved : (a b c d x r p : Bool) → any_of (a ∷ b ∷ c ∷ d ∷ x ∷ r ∷ p ∷ []) ≡ (any_of (a ∷ b ∷ c ∷ d ∷ false ∷ r ∷ p ∷ []) || x)
moved a b c d true r p = simp (joined, or-true)
moved a b c d false r p = simp joined

none_bad : bad_quotes no_quotes ≡ false
unfolding bad_quotes or_not_side if◌then◌otherwise◌
none_bad = refl

module _ (f : Figures) (k : Kept) (q : Quotes) where
  bad_apart : bad_stock (stock_of k q) ≡ (bad_stock (bare k) || bad_quotes q)
  unfolding bad_stock bad_times bad_reference
  bad_apart = rw none_bad (moved _ _ _ _ (bad_quotes q) _ _)

  same_next : next f (bare k) ≡ next f (stock_of k q)
  unfolding next moment_table
  same_next = refl

  found : (m : Moment) (kept quotes past : Bool) → m ≡ next f (bare k) → kept ≡ bad_stock (bare k) → quotes ≡ bad_quotes q
      → past ≡ past_at k.course.clock m
      → ◌≡◌ {A = Verdict} (record { earliest = m; rubbish = (kept || quotes) || past }) (verdict_of f (stock_of k q))
  found m kept quotes past em ek eq ep =
      let is : m ≡ next f (stock_of k q) = em ∙ same_next in
      simp (ep, is, bad_apart, ek, eq, or_any)

pub returns : goal.returns
returns c = search found
