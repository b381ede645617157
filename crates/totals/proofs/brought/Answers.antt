use borrow.Author.Rules.{rules}
use Prim.Native.Nat.{ℕ, ◌+◌, ◌-◌, ◌^◌, ◌<◌, min, max}
use mathlib.Core.Bool.{Bool, true, false}
use mathlib.Core.Path.{◌≡◌, sym, ◌∙◌}
use native.Mathlib.Omega.{arith}
use Rattle.forms.proofs.Choice.{if_true, if_false, any_head, eq_of_not, tests}
use Rattle.std.specs.Int.{from_bool}
use Rattle.rules.specs.Totals.{most_counted, one_more, begins_limit, in_pause, begins_pause, highest_with, lowest_with, spend, spent_in_all, brought, wrong_totals}
use Rattle.rules.specs.declared.StateTimes.{StateTimes}
use Rattle.rules.specs.declared.Totals.{Totals}
use Rattle.quotes.specs.Parts.{bare}
use Rattle.quotes.specs.declared.Kept.{Kept}
use Rattle.totals.specs.Bringing.{bringing, pause_begins}
use Rattle.totals.proofs.brought.Goals as goal

-- totals that are not wrong add up to the clock
adds_up : (t : Totals) (clock : ℕ) (wrong : Bool) → wrong ≡ wrong_totals clock t → wrong ≡ false → spent_in_all t.spent ≡ clock
unfolding wrong_totals
adds_up t clock wrong is r = eq_of_not _ _ (any_head _ _ (sym is ∙ r))

-- a count that stops at the most that 32 bits hold is counted as the rules count, and the greater of two is the highest
counted : (one : Bool) (n m : ℕ) → n < 2 ^ 32 → m ≡ from_bool one → min (n + m) most_counted ≡ one_more one n
unfolding one_more
counted true n m l e = rw e (search (tests, l))
counted false n m l e = rw e (search (tests, l))

highest : (n price : ℕ) → max n price ≡ highest_with price n
unfolding highest_with
highest n price = search tests

module _ (t : Totals) (k k' : Kept) (wrong : Bool) (is : wrong ≡ wrong_totals k.course.clock t) where
  as_it_was : (price : ℕ) → wrong ≡ true → t ≡ bringing price (bare k) (bare k') t
  unfolding bringing
  as_it_was price w = sym (if_true _ _ _ (sym is ∙ w))

  all : (price : ℕ) → wrong ≡ false → t.limits < 2 ^ 32 → t.pauses < 2 ^ 32 → (more : ℕ) → more ≡ k'.course.clock - k.course.clock → (limit pause : Bool)
      → limit ≡ begins_limit (bare k) (bare k') → pause ≡ pause_begins k.course.state k'.course.state → (x y : ℕ) → x ≡ from_bool limit → y ≡ from_bool pause
      → (spent : StateTimes) → spent ≡ spend k.course.state more t.spent → (limits pauses high lowest : ℕ) → limits ≡ min (t.limits + x) most_counted
      → pauses ≡ min (t.pauses + y) most_counted → high ≡ max t.highest price → lowest ≡ lowest_with price t.lowest
      → ◌≡◌ {A = Totals} (record { spent = spent; limits = limits; pauses = pauses; highest = high; lowest = lowest }) (bringing price (bare k) (bare k') t)
  unfolding bringing brought begins_pause in_pause pause_begins
  all price r l₀ l₁ more e limit pause a b x y i j spent c limits pauses high lowest d f g h =
      rw (
        if_false (wrong_totals k.course.clock t) t (brought price (bare k) (bare k') t) (sym is ∙ r),
        d ∙ counted limit t.limits x l₀ i,
        f ∙ counted pause t.pauses y l₁ j,
        g ∙ highest t.highest price,
        h,
        c,
        e,
        a,
        b,
      )

pub returns-then-is_wrong : goal.returns-then-is_wrong
returns-then-is_wrong c = search as_it_was

-- right times are the clock together, and the next clock fits 32 bits
room : (n clock next more : ℕ) → n ≡ clock → clock < 2 ^ 32 → next < 2 ^ 32 → more ≡ next - clock → n + more < 2 ^ 32
room n clock next more e l m s = omega arith

pub spent-requires : goal.spent-requires
spent-requires c = room _ _ _ _ (adds_up _ _ _ c.is_wrong.ensures c.if-is_wrong.false) (search rules) (search rules) c.saturating_sub-more.ensures

pub returns : goal.returns
returns c = search (all, rules) depth 30
