-- The part of a stock in an array: what it obeys, and what a call did to it, said of the whole.
-- Assumes nothing.
use Prim.Native.Nat.{ℕ, ◌+◌, ◌-◌, ◌*◌, ◌≤◌, min}
use mathlib.Core.Bool.{Bool, true, false, ◌||◌}
use mathlib.Core.List.{List, [], ◌∷◌, ◌++◌, append_assoc}
use mathlib.Core.Path.{◌≡◌, refl, sym, ap, ◌∙◌}
use native.Mathlib.Nat.{add-sub_cancel_left}
use native.Mathlib.Omega.{arith}
use borrow.Author.Tests.{ltb-true, ltb-false, le-ltb}
use borrow.Rule.Slice.PartMut.{mid_of, put_mid}
use lib.Dec.{ltb}
use lib.ListN.{length, take, drop, length-append, length-take, length-drop, take-append-drop}
use lib.Seq.{length-take-le, get_or-take, get_or-drop, drop-drop, take_at, drop_at, take-append-le, drop-append-le}
use Rattle.forms.specs.Choice.{any_of}
use Rattle.forms.proofs.Bools.{or_any}
use Rattle.forms.proofs.Choice.{any_head, any_tail}
use Rattle.rules.specs.Counted.{Counted}
use Rattle.stock.specs.View.{Bytes, bytes, shaped, Outcome, Ruling, made, asked}
use Rattle.stock.specs.declared.Record.{Record}
use Rattle.stock.proofs.Laws as stock
use Rattle.calls.specs.Parts.{part, put, Placed}
use Rattle.calls.specs.Laws.{PartIs}

-- ------------------------------------------------------------------ the places of a part

pub part_is : PartIs
part_is i xs = (simp length-take (omega arith), λ j h. get_or-take 512 (drop (512 * i) xs) j 0 h ∙ get_or-drop (512 * i) xs j 0)

-- ------------------------------------------------------------------ a part that is put

-- a part that lies in front of what is changed, and one that lies behind it
part_before : (j : ℕ) (front rest : List ℕ) → 512 * j + 512 ≤ length front → part j (front ++ rest) ≡ part j front
part_before j front rest h =
    ap (take 512) (drop-append-le (512 * j) front rest (omega arith)) ∙ take-append-le 512 (drop (512 * j) front) rest (simp length-drop (omega arith))

part_behind : (j end : ℕ) (xs ys : List ℕ) → end ≤ 512 * j → drop end xs ≡ drop end ys → part j xs ≡ part j ys
part_behind j end xs ys h e =
    let on : end + (512 * j - end) ≡ 512 * j = omega arith in
    let all = ap (λ l. take 512 (drop (512 * j - end) l)) e in
    simp (drop-drop, on) at all

pub put_part : (i : ℕ) (xs : List ℕ) → put i (part i xs) xs ≡ xs
put_part i xs =
    let tail : part i xs ++ drop (512 * i + 512) xs ≡ drop (512 * i) xs = rw (← drop-drop 512 (512 * i) xs) (take-append-drop 512 (drop (512 * i) xs)) in
    ap (λ l. take (512 * i) xs ++ l) tail ∙ take-append-drop (512 * i) xs

module _ (i : ℕ) (new xs : List ℕ) (n : length new ≡ 512) (room : 512 * i + 512 ≤ length xs) where
  front : length (take (512 * i) xs) ≡ 512 * i
  front = length-take-le (512 * i) xs (omega arith)

  pub part_put : part i (put i new xs) ≡ new
  part_put = ap (take 512) (drop_at (take (512 * i) xs) _ (512 * i) front) ∙ take_at new _ 512 n

  pub length_put : length (put i new xs) ≡ length xs
  length_put = simp (length-append, front, n, length-drop) (omega arith)

  behind : drop (512 * i + 512) (put i new xs) ≡ drop (512 * i + 512) xs
  behind =
      ap (drop (512 * i + 512)) (sym (append_assoc (take (512 * i) xs) new (drop (512 * i + 512) xs)))
      ∙ drop_at (take (512 * i) xs ++ new) (drop (512 * i + 512) xs) (512 * i + 512) (simp (length-append, front, n))

  pub part_put_other : (j : ℕ) → (j ≡ i → ⊥) → part j (put i new xs) ≡ part j xs
  part_put_other j other = go (ltb j i) refl
    where
      go : (x : Bool) → ltb j i ≡ x → part j (put i new xs) ≡ part j xs
      go true q =
          let fits : 512 * j + 512 ≤ length (take (512 * i) xs) = omega (arith, ltb-true j i q, front) in
          part_before j (take (512 * i) xs) _ fits ∙ sym (part_before j (take (512 * i) xs) (drop (512 * i) xs) fits)
          ∙ ap (part j) (take-append-drop (512 * i) xs)
      go false q = part_behind j (512 * i + 512) (put i new xs) xs (omega (arith, ltb-false j i q, other)) behind

-- ------------------------------------------------------------------ a part that is lent

-- the 512 places from a start on, which is 512 times the stock's number
abbrev lent_part : ℕ → List ℕ → List ℕ
lent_part s xs = mid_of s (s + 512 - s) xs

abbrev part_back : ℕ → List ℕ → List ℕ → List ℕ
part_back s xs new = put_mid s (s + 512 - s) xs new

module _ (i s : ℕ) (start : s ≡ 512 * i) where
  is_part : (xs : List ℕ) → lent_part s xs ≡ part i xs
  is_part xs = rw (start, add-sub_cancel_left)

  is_put : (xs new : List ℕ) → part_back s xs new ≡ put i new xs
  is_put xs new = rw (start, add-sub_cancel_left, drop-drop)

  -- what was promised of the parts that were lent, and of a copy of the record
  pub of_part : {A : Type 0} (step : Bytes → A) (r own : Record) (ts ps : List ℕ) (a : A) → own ≡ r
      → a ≡ step (bytes own (lent_part s ts) (lent_part s ps)) → a ≡ step (bytes r (part i ts) (part i ps))
  of_part step r own ts ps a same e = rw (is_part ts, is_part ps, same) at e

  -- and of parts that came back changed
  pub placed : {A : Type 0} (step : Bytes → Outcome A) (r own : Record) (ts ps : List ℕ) (a : A) (next : Record) (us qs : List ℕ) → own ≡ r
      → ◌≡◌ {A = Outcome A} (record { answer = a; bytes = bytes next us qs }) (step (bytes own (lent_part s ts) (lent_part s ps)))
      → Placed i (step (bytes r (part i ts) (part i ps))) ts ps a next (part_back s ts us) (part_back s ps qs)
  placed {A} step r own ts ps a next us qs same e =
      let all = of_part step r own ts ps _ same e in
      record {
        answer = ap (λ (o : Outcome A). o.answer) all;
        next = ap (λ (o : Outcome A). o.bytes.kept) all;
        times = is_put ts us ∙ ap (λ (o : Outcome A). put i o.bytes.times ts) all;
        prices = is_put ps qs ∙ ap (λ (o : Outcome A). put i o.bytes.prices ps) all;
      }

-- ------------------------------------------------------------------ whether it is there

-- one of the arrays, by their lengths, ends before the part does
abbrev Short : ℕ → ℕ → ℕ → Bool → Type 0
Short i m n short = short ≡ (ltb m (512 * i + 512) || ltb n (512 * i + 512))

-- none does
module _ (i s m n : ℕ) (start : s ≡ 512 * i) (short : Bool) (of : Short i m n short) (none : short ≡ false) where
  neither : any_of (ltb m (512 * i + 512) ∷ ltb n (512 * i + 512) ∷ []) ≡ false
  neither = sym (or_any _ _) ∙ sym of ∙ none

  pub times_end : s + 512 ≤ m
  times_end = omega (arith, start, ltb-false m (512 * i + 512) (any_head _ _ neither))

  pub prices_end : s + 512 ≤ n
  prices_end = omega (arith, start, ltb-false n (512 * i + 512) (any_head _ _ (any_tail _ _ neither)))

-- one does: the stock has not 512 places in it
enough : (i k : ℕ) → min 512 (k - 512 * i) ≡ 512 → 512 * i + 512 ≤ k
enough i k m = omega arith

whole : (i : ℕ) (xs : List ℕ) → length (part i xs) ≡ 512 → ltb (length xs) (512 * i + 512) ≡ false
whole i xs n = le-ltb (length xs) (512 * i + 512) (enough i (length xs) (simp (length-take, length-drop) at n))

module _ (i : ℕ) (r : Record) (ts ps : List ℕ) (short : Bool) (of : Short i (length ts) (length ps) short) (one : short ≡ true) where
  abbrev own : Bytes
  own = bytes r (part i ts) (part i ps)

  unshaped : shaped own ≡ false
  unshaped = go (shaped own) refl
    where
      go : (b : Bool) → shaped own ≡ b → shaped own ≡ false
      go false q = q
      go true q =
          let n = ((stock.laws).shaped_is own).0 q in
          let no : true ≡ false = sym one ∙ of ∙ rw (whole i ts n.0, whole i ps n.1) in
          q ∙ no

  -- nothing is done to it
  unplaced : {A : Type 0} (o : Outcome A) (a : A) → o ≡ record { answer = a; bytes = own } → Placed i o ts ps a r ts ps
  unplaced {A} o a e = record {
    answer = sym (ap (λ (o : Outcome A). o.answer) e);
    next = sym (ap (λ (o : Outcome A). o.bytes.kept) e);
    times = sym (ap (λ (o : Outcome A). put i o.bytes.times ts) e ∙ put_part i ts);
    prices = sym (ap (λ (o : Outcome A). put i o.bytes.prices ps) e ∙ put_part i ps);
  }

  pub unstepped : {A : Type 0} (rule : Ruling A) (beside : ℕ → A) (a : A) → a ≡ beside 1 → Placed i (made rule beside own) ts ps a r ts ps
  unstepped rule beside a e = unplaced _ a (stock.gets_one rule beside own _ refl unshaped ∙ rw e)

  pub unasked : {A : Type 0} (given : Counted → A) (beside : ℕ → A) (a : A) → a ≡ beside 1 → a ≡ asked given beside own
  unasked given beside a e = e ∙ sym ((stock.given_by given beside own).1 unshaped)
