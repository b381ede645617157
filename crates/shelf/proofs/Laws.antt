-- The laws of specs/Laws.antt.
-- Assumes nothing.
use Prim.Native.Nat.{◌≤◌, ◌<◌}
use mathlib.Core.List.{◌++◌}
use mathlib.Core.Path.{◌≡◌, sym, ap, subst, ◌∙◌}
use native.Mathlib.Decide.{dec_le}
use native.Mathlib.Omega.{arith}
use lib.ListN.{length, drop, length-append, length-drop}
use lib.Seq.{take_at, drop_at}
use Rattle.rules.specs.Numbers.{zeros, no_notice}
use Rattle.rules.specs.declared.Answer.{Answer}
use Rattle.rules.proofs.Answers.{nothing_shown}
use Rattle.stock.specs.View.{telling, settling}
use Rattle.book.specs.Lent.{Lent, lent, Given, calling, TellsIn, SettlesIn}
use Rattle.book.specs.Setup.{setting, SetsUp}
use Rattle.forms.proofs.Promises.{agree as one_value}
use Rattle.shelf.specs.Blank.{blank_shelf}
use Rattle.shelf.specs.First.{Shelved, shelved, front, in_front, First, Same, Within}
use Rattle.shelf.specs.Laws.{Left, OnFirst, Fits, SetUpIs, ToldIs, SettledIs, Refused, OverEight, Laws}

-- the first records go on as a call leaves them: one outcome fixes the answer, the records and the places
module _ {A : Type 0} (s : Shelved) (o : Given A) (given : A) where
  abbrev Promise : Left A → Type 0
  Promise x = Within s.shelf.stocks (First (λ b r b'. ◌≡◌ {A = Given A} (record { answer = r; book = b' }) o) s x.result x.shelved) (Same x.result given s x.shelved)

  -- what a method gives and leaves by the outcome
  by : Given A → Left A
  by g = record { result = g.answer; shelved = in_front g.book s }

  is_by : (x : Left A) → s.shelf.stocks ≤ 8 → Promise x → x ≡ by o
  unfolding by
  is_by x fits p =
      let q = p.0 fits in
      let left : x ≡ by (record { answer = x.result; book = q.0 }) = ap (λ k. record { result = x.result; shelved = k }) q.1.0 in
      left ∙ ap by q.1.1

  is_same : (x : Left A) → 8 < s.shelf.stocks → Promise x → x ≡ record { result = given; shelved = s }
  is_same x more p = let q = p.1 more in rw (q.0, q.1)

  agree : (x y : Left A) → Promise x → Promise y → x ≡ y
  agree x y p q = go (dec_le s.shelf.stocks 8)
    where
      go : Dec (s.shelf.stocks ≤ 8) → x ≡ y
      go (yes fits) = is_by x fits p ∙ sym (is_by y fits q)
      go (no fits) = is_same x (omega arith) p ∙ sym (is_same y (omega arith) q)

-- what was lent comes back in front of the others
on_first : {A : Type 0} (s : Shelved) (Call : Lent → A → Lent → Type 0) (r : A) (s' : Shelved) → Fits s s' → First Call s r s' → OnFirst s Call r s'
on_first s Call r s' fits p =
    let b = p.0 in
    let n = s.shelf.stocks in
    let others = drop n s.shelf.records in
    let e : s'.shelf.records ≡ b.records ++ others = ap (λ k. k.shelf.records) p.1.0 in
    let k : length b.records ≡ n = omega (arith, ap length e, length-append b.records others, length-drop n s.shelf.records) in
    let back : front s' ≡ b = ap front p.1.0 ∙ ap (λ z. lent z b.times b.prices) (take_at b.records others n k) in
    (subst (λ x. Call (front s) r x) (sym back) p.1.1, (ap (drop n) e ∙ drop_at b.records others n k, ap (λ k. k.shelf.stocks) p.1.0))

set_up_is : (s : Shelved) → SetUpIs s
set_up_is s end list r s' fits p = on_first s (SetsUp end list) r s' fits p

told_is : (s : Shelved) → ToldIs s
told_is s i m r s' fits p = on_first s (TellsIn i m) r s' fits p

settled_is : (s : Shelved) → SettledIs s
settled_is s i time r s' fits p = on_first s (SettlesIn i time) r s' fits p

over_eight : (s : Shelved) → OverEight s
over_eight s s' more = (
  (λ end list r p. refused r (p.1 more)),
  (
    (λ i m r p. refused r (p.1 more)),
    λ i time r p. let q = p.1 more in
        (refused r.answer (ap (λ x. x.answer) q.0, q.1), (ap (λ x. x.mark) q.0, ap (λ x. x.time) q.0)),
  ),
)
  where
    refused : (r : Answer) → Same r (zeros 1) s s' → Refused s r s'
    refused r p = (ap (λ x. x.number) p.0, (nothing_shown 1 r p.0, p.1))

pub laws : Laws
laws = record {
  set_up_is = set_up_is;
  told_is = told_is;
  settled_is = settled_is;
  over_eight = over_eight;
  blank_determined = λ n. one_value (blank_shelf n);
  setup_determined = λ shelf times prices end list. let s = shelved shelf times prices in agree s (setting end list (front s)) (zeros 1);
  step_determined = λ i step beside shelf times prices. let s = shelved shelf times prices in agree s (calling i step beside (front s)) (beside 1);
  tell_determined = λ shelf times prices i m. let s = shelved shelf times prices in agree s (calling i (telling m) zeros (front s)) (zeros 1);
  settle_determined = λ shelf times prices i time. let s = shelved shelf times prices in agree s (calling i (settling time) no_notice (front s)) (no_notice 1);
}
