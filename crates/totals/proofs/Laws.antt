-- The laws of specs/Laws.antt.
-- Assumes nothing.
use Rattle.forms.proofs.Choice.{if_true, if_false}
use Rattle.forms.proofs.Decides.{is_true, is_false}
use Rattle.forms.proofs.Promises.{agree}
use Rattle.rules.specs.Stock.{clock_of}
use Rattle.rules.specs.Machine.{message}
use Rattle.rules.specs.Totals.{traded_by, brought, wrong_totals}
use Rattle.rules.proofs.Counted.{wrong_is}
use Rattle.quotes.specs.Parts.{bare}
use Rattle.totals.specs.Bringing.{bringing}
use Rattle.totals.specs.Laws.{BringingIs, Laws}

pub bringing_is : BringingIs
unfolding bringing
bringing_is price s s' t = (
  (λ r. if_false _ t (brought price s s' t) (is_false _ (wrong_is (clock_of s) t) r)),
  (λ w. if_true _ t (brought price s s' t) (is_true _ (wrong_is (clock_of s) t) w)),
)

pub laws : Laws
laws = record {
  bringing_is = bringing_is;
  is_wrong_determined = λ t clock. agree (wrong_totals clock t);
  traded_determined = λ m. agree (traded_by (message m));
  brought_determined = λ t price before after. agree (bringing price (bare before) (bare after) t);
}
