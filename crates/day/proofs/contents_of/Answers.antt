use mathlib.Core.Path.{refl}
use Rattle.forms.proofs.Choice.{goes, passes, tests, by_true, by_false}
use Rattle.forms.proofs.Bools.{not_yes, not_no}
use Rattle.day.specs.Contents.{contents_of}
use Rattle.day.proofs.contents_of.Goals.{then-line-ne67-via-then-line-ne67, then-line-ne67-via-else-line-ne67+then-stocks-eq0, then-line-ne67-via-else-line-ne67+else-stocks-eq0+then-stocks-gt-DAY_STOCKS, then-line-ne67-via-else-line-ne67+else-stocks-eq0+else-stocks-gt-DAY_STOCKS+then-bad_end}
use Rattle.day.proofs.contents_of.Goals as goal

pub returns-then-line-ne67-clause-value : goal.returns-then-line-ne67-clause-value
unfolding contents_of
returns-then-line-ne67-clause-value c =
    passes _ _ _ _
    (elim c.then-line-ne67.branch [
      | then-line-ne67-via-then-line-ne67 w ↦ search tests depth 20
      | then-line-ne67-via-else-line-ne67+then-stocks-eq0 w ↦ search tests depth 20
      | then-line-ne67-via-else-line-ne67+else-stocks-eq0+then-stocks-gt-DAY_STOCKS w ↦ search tests depth 20
      | then-line-ne67-via-else-line-ne67+else-stocks-eq0+else-stocks-gt-DAY_STOCKS+then-bad_end w ↦ search (tests, by_true, not_yes) depth 20
    ])
    refl

pub returns-clause-value : goal.returns-clause-value
unfolding contents_of
returns-clause-value c = goes _ _ _ _ (search (tests, by_false, not_no) depth 20) refl
