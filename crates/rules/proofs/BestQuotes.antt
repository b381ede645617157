-- The best bid is the highest bid that counts, the best offer the lowest offer that counts, and their flags say where they stand.
-- Assumes nothing.
use Prim.Native.Nat.{ℕ, max, min, ◌≤◌, ◌<◌}
use mathlib.Core.Bool.{Bool, true, false}
use mathlib.Core.List.{List, [], ◌∷◌, foldl}
use mathlib.Core.Logic.{◌⊎◌, inl, inr, ⊎_elim, ⊎_map}
use mathlib.Core.Path.{◌≡◌, refl, sym, ap, ◌∙◌, subst}
use native.Mathlib.Omega.{arith}
use borrow.Author.Tests.{eqb-true, eqb-false}
use lib.Dec.{ltb, eqb}
use Rattle.forms.specs.Choice.{if◌then◌otherwise◌, all_of, any_of}
use Rattle.forms.specs.Words.{◌or◌, ◌and◌, IsOneOf, Gives, Otherwise}
use Rattle.forms.specs.Words.Number.{◌for◌}
use Rattle.forms.proofs.Choice.{if_true, if_false, if_arms}
use Rattle.forms.proofs.Decides.{Decides, words, is_true, is_false, either_way, reworded, never, always, by_lt, by_eq, and_more, all_one, or_more, one_test, skip, take}
use Rattle.band.specs.Band.{bands_of}
use Rattle.band.specs.declared.Bands.{Bands}
use Rattle.band.proofs.Laws.{ordered}
use Rattle.rules.specs.Stock.{Trading, Limit, state_of, clock_of}
use Rattle.rules.specs.Quotes.{in_force, k_time, bands_in, higher, lesser, best_bid, best_offer, bid_flag, offer_flag, best_of, flagged, at_limit, straddle, crossed}
use Rattle.rules.specs.Numbers.{outside}
use Rattle.rules.specs.Words.{bands_at, HasBands, BidCounts, OfferCounts, BestBid, BestOffer, Straddle, AtBand, Crossing, BidShown, OfferShown, Outside, BandsShown}
use Rattle.rules.specs.declared.Stock.{Stock}

-- ------------------------------------------------------------------ bands in force

in_trading : (s : Stock) → state_of s ≡ Trading → bands_in s ≡ bands_at s (clock_of s)
unfolding in_force bands_in k_time if◌then◌otherwise◌ any_of
in_trading s e = rw e

in_limit : (s : Stock) → state_of s ≡ Limit → bands_in s ≡ bands_at s s.course.entry
unfolding in_force bands_in k_time if◌then◌otherwise◌ any_of
in_limit s e = rw e

abbrev Force : Stock → Type 0
Force s = state_of s ≡ Trading or state_of s ≡ Limit

force_is : (s : Stock) → Decides (in_force s) (Force s)
unfolding in_force
force_is s = search words

-- the bands in words are those of the rules
only_bands : (s : Stock) (l : Bands) → HasBands s l → Force s × (bands_in s ≡ l)
only_bands s l (inl k) = (inl k.0, in_trading s k.0 ∙ sym k.1)
only_bands s l (inr k) = (inr k.0, in_limit s k.0 ∙ sym k.1)

bands_on : (s : Stock) → Force s → HasBands s (bands_in s)
bands_on s (inl e) = inl (e, in_trading s e)
bands_on s (inr e) = inr (e, in_limit s e)

-- a test that asks A of the bands in force, and is false without them
banded : (s : Stock) (A : Bands → Type 0) (b : Bool) → Decides b (A (bands_in s)) → Decides (all_of (in_force s ∷ b ∷ [])) ((l : Bands) × HasBands s l × A l)
banded s A b d = reworded {P = Force s and A (bands_in s)} (
  (λ k. (bands_in s, bands_on s k.0, k.1)),
  (λ k. let o = only_bands s k.0 k.1 in (o.0, subst A (sym o.1) k.2)),
) (and_more _ _ _ _ (force_is s) (all_one _ _ d))

-- one of two such tests
either_banded : (s : Stock) (A B : Bands → Type 0) (a b : Bool) → Decides a ((l : Bands) × HasBands s l × A l) → Decides b ((l : Bands) × HasBands s l × B l)
    → Decides (any_of (a ∷ b ∷ [])) ((l : Bands) × HasBands s l × (A l or B l))
either_banded s A B a b d e = reworded (to, from) (or_more _ _ _ _ d (one_test _ _ e))
  where
    to : ((l : Bands) × HasBands s l × A l) ⊎ ((l : Bands) × HasBands s l × B l) → (l : Bands) × HasBands s l × (A l or B l)
    to (inl k) = (k.0, k.1, inl k.2)
    to (inr k) = (k.0, k.1, inr k.2)

    from : ((l : Bands) × HasBands s l × (A l or B l)) → ((l : Bands) × HasBands s l × A l) ⊎ ((l : Bands) × HasBands s l × B l)
    from k = go k.2
      where
        go : A k.0 ⊎ B k.0 → ((l : Bands) × HasBands s l × A l) ⊎ ((l : Bands) × HasBands s l × B l)
        go (inl a) = inl (k.0, k.1, a)
        go (inr b) = inr (k.0, k.1, b)

pub outside_is : (s : Stock) (price : ℕ) → Decides (outside s price) (Outside s price)
unfolding outside
outside_is s price = banded s _ _ (search words)

pub bands_shown : (s : Stock) → BandsShown s (bands_in s)
unfolding bands_in
bands_shown s = go (either_way _ (force_is s))
  where
    go : Force s ⊎ (¬ Force s) → BandsShown s (bands_in s)
    go (inl o) = inl (bands_on s o)
    go (inr n) = rw (if_false _ _ _ (is_false _ (force_is s) n)) (inr ((λ k. n (only_bands s k.0 k.1).0), (refl, refl)))

lower_upper : (s : Stock) → Force s → (bands_in s).lower ≤ (bands_in s).upper
unfolding bands_in bands_of
lower_upper s o = rw (if_true _ _ _ (is_true _ (force_is s) o)) (ordered _ _ _ _)

-- ------------------------------------------------------------------ a fold that keeps the better of two

-- pick gives the best so far, or one more that counts, and never what is worse than the best so far or than one more that counts
record Picks (pick : ℕ → ℕ → ℕ) (Counts : ℕ → Type 0) (Better : ℕ → ℕ → Type 0) : Type 0 where
  same : (x : ℕ) → Better x x
  trans : (x y z : ℕ) → Better x y → Better y z → Better x z
  one : (best x : ℕ) → (pick best x ≡ best) ⊎ ((pick best x ≡ x) × Counts x)
  keeps : (best x : ℕ) → Better best (pick best x)
  takes : (best x : ℕ) → Counts x → Better x (pick best x)

module _ {pick : ℕ → ℕ → ℕ} {Counts : ℕ → Type 0} {Better : ℕ → ℕ → Type 0} (p : Picks pick Counts Better) where
  fold_keeps : (best : ℕ) (xs : List ℕ) → Better best (foldl pick best xs)
  fold_keeps best [] = p.same best
  fold_keeps best (x ∷ xs) = p.trans _ _ _ (p.keeps best x) (fold_keeps (pick best x) xs)

  fold_takes : (best : ℕ) (xs : List ℕ) (x : ℕ) → IsOneOf x xs → Counts x → Better x (foldl pick best xs)
  fold_takes best [] x m c = absurd m
  fold_takes best (y ∷ ys) x (inl e) c =
      p.trans _ _ _ (subst (λ y. Better x (pick best y)) e (p.takes best x c)) (fold_keeps (pick best y) ys)
  fold_takes best (y ∷ ys) x (inr m) c = fold_takes (pick best y) ys x m c

  fold_one : (best : ℕ) (xs : List ℕ)
      → (foldl pick best xs ≡ best) ⊎ (IsOneOf (foldl pick best xs) xs × Counts (foldl pick best xs))
  fold_one best [] = inl refl
  fold_one best (x ∷ xs) = go (fold_one (pick best x) xs) (p.one best x)
    where
      r : ℕ
      r = foldl pick (pick best x) xs

      go : (r ≡ pick best x) ⊎ (IsOneOf r xs × Counts r) → (pick best x ≡ best) ⊎ ((pick best x ≡ x) × Counts x)
          → (r ≡ best) ⊎ (IsOneOf r (x ∷ xs) × Counts r)
      go (inr k) q = inr (inr k.0, k.1)
      go (inl e) (inl q) = inl (e ∙ q)
      go (inl e) (inr q) = inr (inl (e ∙ q.0), subst Counts (sym (e ∙ q.0)) q.1)

-- ------------------------------------------------------------------ bids and offers

module _ (s : Stock) where
  -- a bid above the upper band in force, and an offer below the lower, is left out
  bid_out : (x : ℕ) → Decides (all_of (in_force s ∷ ltb (bands_in s).upper x ∷ [])) ((l : Bands) × HasBands s l × (l.upper < x))
  bid_out x = banded s (λ l. l.upper < x) _ (by_lt _ _)

  offer_out : (x : ℕ) → Decides (all_of (in_force s ∷ ltb x (bands_in s).lower ∷ [])) ((l : Bands) × HasBands s l × (x < l.lower))
  offer_out x = banded s (λ l. x < l.lower) _ (by_lt _ _)

  bids : Picks (higher (in_force s) (bands_in s).upper) (BidCounts s) (λ x y. x ≤ y)
  unfolding higher
  bids = record {
    same = λ x. omega arith;
    trans = λ x y z. omega arith;
    one = λ best x. if_arms (λ r. (r ≡ best) ⊎ ((r ≡ x) × BidCounts s x)) _ (λ _. inl refl) (λ out. larger best x ((bid_out x).fails out) (either_way _ (by_lt best x)));
    keeps = λ best x. if_arms (λ r. best ≤ r) _ (λ _. omega arith) (λ _. omega arith);
    takes = λ best x c. rw (if_false _ _ _ (is_false _ (bid_out x) (λ k. omega (arith, c.1 k.0 k.1, k.2)))) (omega arith);
  }
    where
      larger : (best x : ℕ) → ¬ ((l : Bands) × HasBands s l × (l.upper < x)) → (best < x) ⊎ (¬ (best < x)) → (max best x ≡ best) ⊎ ((max best x ≡ x) × BidCounts s x)
      larger best x n (inl m) = inr (omega arith, (omega arith, λ l b. let k : ¬ (l.upper < x) = λ k. n (l, b, k) in omega arith))
      larger best x n (inr m) = inl (omega arith)

-- no higher, where there is an offer at all
abbrev Lower : ℕ → ℕ → Type 0
Lower x y = 1 ≤ x → (1 ≤ y) × (y ≤ x)

module _ (s : Stock) where
  -- absent or left out
  no_offer : (x : ℕ) → Decides (any_of (eqb x 0 ∷ all_of (in_force s ∷ ltb x (bands_in s).lower ∷ []) ∷ [])) (x ≡ 0 or ((l : Bands) × HasBands s l × (x < l.lower)))
  no_offer x = or_more _ _ _ _ (by_eq x 0) (one_test _ _ (offer_out s x))

  offers : Picks (lesser (in_force s) (bands_in s).lower) (OfferCounts s) Lower
  unfolding lesser
  offers = record {
    same = λ x. omega arith;
    trans = λ x y z p q a. let b = p a in let c = q b.0 in omega arith;
    one = λ best x. if_arms (λ r. (r ≡ best) ⊎ ((r ≡ x) × OfferCounts s x)) _
        (λ _. inl refl)
        (λ out. if_arms (λ r. (r ≡ best) ⊎ ((r ≡ x) × OfferCounts s x)) _
        (λ _. inr (refl, counts x ((no_offer x).fails out))) (λ _. smaller best x (counts x ((no_offer x).fails out)) (either_way _ (by_lt x best))));
    keeps = λ best x. if_arms (Lower best) _
        (λ _. omega arith)
        (λ out. if_arms (Lower best) _ (λ e a. absurd (omega (arith, eqb-true best 0 e))) (λ _ a. omega (arith, (counts x ((no_offer x).fails out)).0)));
    takes = λ best x c a. rw (if_false _ _ _ (is_false _ (no_offer x) (⊎_elim (λ z. omega arith) (λ k. omega (arith, c.1 k.0 k.1, k.2)))))
        (if_arms (λ r. (1 ≤ r) × (r ≤ x)) _ (λ _. omega arith) (λ e. let n = eqb-false best 0 e in omega arith));
  }
    where
      counts : (x : ℕ) → ¬ (x ≡ 0 or ((l : Bands) × HasBands s l × (x < l.lower))) → OfferCounts s x
      counts x n =
          let z : ¬ (x ≡ 0) = λ z. n (inl z) in
          (omega arith, λ l b. let k : ¬ (x < l.lower) = λ k. n (inr (l, b, k)) in omega arith)

      smaller : (best x : ℕ) → OfferCounts s x → (x < best) ⊎ (¬ (x < best)) → (min best x ≡ best) ⊎ ((min best x ≡ x) × OfferCounts s x)
      smaller best x c (inl l) = inr (omega arith, c)
      smaller best x c (inr l) = inl (omega arith)

-- what a fold from 0 gives counts, unless it is 0
counted : {A : Type 0} {n : ℕ} → (n ≡ 0) ⊎ A → 1 ≤ n → A
counted (inl e) a = absurd (omega arith)
counted (inr k) a = k

-- ------------------------------------------------------------------ the best, in words

module _ (s : Stock) where
  abbrev bid : ℕ
  bid = (best_of s).bid.price

  abbrev offer : ℕ
  offer = (best_of s).offer.price

  pub is_bid : ¬ (bid ≡ 0) → BestBid s bid
  unfolding best_of best_bid
  is_bid n = let k = counted (fold_one (bids s) 0 s.quotes.bids) (omega arith) in (k.0, (k.1, fold_takes (bids s) 0 s.quotes.bids))

  pub only_bid : (b : ℕ) → BestBid s b → (b ≡ bid) × ¬ (bid ≡ 0)
  unfolding best_of best_bid
  only_bid b k =
      let most = fold_takes (bids s) 0 s.quotes.bids b k.0 k.1.0 in
      let a = k.1.0.0 in
      let c = counted (fold_one (bids s) 0 s.quotes.bids) (omega arith) in
      let least = k.1.1 bid c.0 c.1 in
      (omega arith, λ z. omega arith)

  pub is_offer : ¬ (offer ≡ 0) → BestOffer s offer
  unfolding best_of best_offer
  is_offer n =
      let k = counted (fold_one (offers s) 0 s.quotes.offers) (omega arith) in
      (k.0, (k.1, λ x m c. (fold_takes (offers s) 0 s.quotes.offers x m c c.0).1))

  pub only_offer : (b : ℕ) → BestOffer s b → (b ≡ offer) × ¬ (offer ≡ 0)
  unfolding best_of best_offer
  only_offer b k =
      let a = k.1.0.0 in
      let most = fold_takes (offers s) 0 s.quotes.offers b k.0 k.1.0 a in
      let c = counted (fold_one (offers s) 0 s.quotes.offers) (omega arith) in
      let least = k.1.1 offer c.0 c.1 in
      (omega arith, λ z. omega arith)

-- ------------------------------------------------------------------ the flags

-- a flag by whether the side is absent, beyond a band, and at the other, in words
abbrev flag_of : (z on x y : Bool) → ℕ
flag_of z on x y = if z then 0 otherwise if on then (if x then 2 otherwise if y then 3 otherwise 1) otherwise 1

flag_2 : {Z A : Type 0} (z on x y : Bool) → Decides z Z → Decides (all_of (on ∷ x ∷ [])) A → Decides (eqb (flag_of z on x y) 2) (¬ Z and A)
unfolding if◌then◌otherwise◌ all_of
flag_2 true on x y dz dx = never _ (λ k. k.0 (dz.holds refl))
flag_2 false true true y dz dx = always _ (dz.fails refl, dx.holds refl)
flag_2 false true false true dz dx = never _ (λ k. dx.fails refl k.1)
flag_2 false true false false dz dx = never _ (λ k. dx.fails refl k.1)
flag_2 false false x y dz dx = never _ (λ k. dx.fails refl k.1)

flag_3 : {Z A B : Type 0} (z on x y : Bool) → Decides z Z → Decides (all_of (on ∷ x ∷ [])) A → Decides (all_of (on ∷ y ∷ [])) B
    → Decides (eqb (flag_of z on x y) 3) (¬ Z and ¬ A and B)
unfolding if◌then◌otherwise◌ all_of
flag_3 true on x y dz dx dy = never _ (λ k. k.0 (dz.holds refl))
flag_3 false true true y dz dx dy = never _ (λ k. k.1.0 (dx.holds refl))
flag_3 false true false true dz dx dy = always _ (dz.fails refl, (dx.fails refl, dy.holds refl))
flag_3 false true false false dz dx dy = never _ (λ k. dy.fails refl k.1.1)
flag_3 false false x y dz dx dy = never _ (λ k. dy.fails refl k.1.1)

flag_gives : {A B : Type 0} (on x y : Bool) → Decides (all_of (on ∷ x ∷ [])) A → Decides (all_of (on ∷ y ∷ [])) B
    → Gives (2 for A ∷ 3 for B ∷ 1 for Otherwise ∷ []) (if on then (if x then 2 otherwise if y then 3 otherwise 1) otherwise 1)
unfolding if◌then◌otherwise◌ all_of
flag_gives true true y dx dy = take 2 _ _ _ (dx.holds refl) refl
flag_gives true false true dx dy = skip 2 _ _ _ (dx.fails refl) (take 3 _ _ _ (dy.holds refl) refl)
flag_gives true false false dx dy = skip 2 _ _ _ (dx.fails refl) (skip 3 _ _ _ (dy.fails refl) (take 1 _ _ _ tt refl))
flag_gives false x y dx dy = skip 2 _ _ _ (dx.fails refl) (skip 3 _ _ _ (dy.fails refl) (take 1 _ _ _ tt refl))

-- a side of a stock: its best price and its flag, what the best is in words, and when a price is beyond a band and at the other
module _ (s : Stock) (best : ℕ) (Best : ℕ → Type 0) (Beyond : ℕ → Bands → Type 0) (band : Bands → ℕ) where
  record Flagged (flag : ℕ) : Type 0 where
    two : Decides (eqb flag 2) ((l : Bands) × HasBands s l × ((b : ℕ) × Best b × Beyond b l))
    three : Decides (eqb flag 3) ((l : Bands) × HasBands s l × Best (band l))
    shown : (¬ ((b : ℕ) × Best b) and best ≡ 0 and flag ≡ 0)
        or (Best best and Gives (
        2 for ((l : Bands) × HasBands s l × Beyond best l) ∷
        3 for ((l : Bands) × HasBands s l × (best ≡ band l)) ∷
        1 for Otherwise ∷
        []) flag)

  module _ (is : ¬ (best ≡ 0) → Best best) (only : (b : ℕ) → Best b → (b ≡ best) × ¬ (best ≡ 0))
      (apart : Force s → best ≡ band (bands_in s) → ¬ Beyond best (bands_in s)) (beyond : Bool) (d : Decides beyond (Beyond best (bands_in s))) where
    is_beyond : Decides (all_of (in_force s ∷ beyond ∷ [])) ((l : Bands) × HasBands s l × Beyond best l)
    is_beyond = banded s (Beyond best) _ d

    is_at : Decides (all_of (in_force s ∷ eqb best (band (bands_in s)) ∷ [])) ((l : Bands) × HasBands s l × (best ≡ band l))
    is_at = banded s (λ l. best ≡ band l) _ (by_eq _ _)

    side_flagged : Flagged (flag_of (eqb best 0) (in_force s) beyond (eqb best (band (bands_in s))))
    side_flagged = record {
      two = reworded (
        (λ k. (k.1.0, k.1.1, (best, is k.0, k.1.2))),
        (λ k. let o = only k.2.0 k.2.1 in (o.1, (k.0, k.1, subst (λ b. Beyond b k.0) o.0 k.2.2))),
      ) (flag_2 _ _ _ _ (by_eq best 0) is_beyond);
      three = reworded (
        (λ k. (k.1.1.0, k.1.1.1, subst Best k.1.1.2 (is k.0))),
        (λ k.
            let o = only (band k.0) k.2 in
            let b = only_bands s k.0 k.1 in
            let e : best ≡ band (bands_in s) = sym o.0 ∙ sym (ap band b.1) in
            (o.1, ((λ a. apart b.0 e (subst (Beyond best) (sym (only_bands s a.0 a.1).1) a.2)), (k.0, k.1, sym o.0)))),
      ) (flag_3 _ _ _ _ (by_eq best 0) is_beyond is_at);
      shown = ⊎_map
          (λ z. ((λ k. (only k.0 k.1).1 z), (z, if_true _ _ _ (is_true _ (by_eq best 0) z))))
          (λ n. (is n, rw (if_false _ _ _ (is_false _ (by_eq best 0) n)) (flag_gives _ _ _ is_beyond is_at)))
          (either_way _ (by_eq best 0));
    }

module _ (s : Stock) where
  bid_flagged : Flagged s (bid s) (BestBid s) (λ b l. b < l.lower) (λ l. l.upper) (best_of s).bid.flag
  unfolding best_of bid_flag
  bid_flagged = side_flagged s _ _ _ _ (is_bid s) (only_bid s) (λ o e l. omega (arith, lower_upper s o)) _ (by_lt _ _)

  offer_flagged : Flagged s (offer s) (BestOffer s) (λ b l. l.upper < b) (λ l. l.lower) (best_of s).offer.flag
  unfolding best_of offer_flag
  offer_flagged = side_flagged s _ _ _ _ (is_offer s) (only_offer s) (λ o e l. omega (arith, lower_upper s o)) _ (by_lt _ _)

  pub bid_shown : BidShown s (best_of s).bid
  bid_shown = bid_flagged.shown

  pub offer_shown : OfferShown s (best_of s).offer
  offer_shown = offer_flagged.shown

  -- ---------------------------------------------------------------- what the rules ask of them

  pub straddle_is : Decides (straddle s) (Straddle s)
  unfolding flagged
  straddle_is = either_banded s _ _ _ _ bid_flagged.two offer_flagged.two

  pub at_band_is : Decides (at_limit s) (AtBand s)
  unfolding flagged
  at_band_is = either_banded s _ _ _ _ bid_flagged.three offer_flagged.three

  pub crossed_is : Decides (crossed (best_of s)) (Crossing s)
  unfolding crossed
  crossed_is = reworded (
    (λ k. (bid s, offer s, is_bid s (λ z. omega (arith, k.1)), is_offer s k.0, k.1)),
    (λ k. let b = only_bid s k.0 k.2 in let a = only_offer s k.1 k.3 in (a.1, omega (arith, k.4))),
  ) (unless_0 (eqb (offer s) 0) (by_eq (offer s) 0))
    where
      unless_0 : (b : Bool) → Decides b (offer s ≡ 0)
          → Decides (if b then false otherwise ltb (offer s) (bid s)) (¬ (offer s ≡ 0) and offer s < bid s)
      unless_0 true d = rw (if_true true false (ltb (offer s) (bid s)) refl) (never _ (λ k. k.0 (d.holds refl)))
      unless_0 false d = rw (if_false false false (ltb (offer s) (bid s)) refl)
          (reworded ((λ k. (d.fails refl, k)), (λ k. k.1)) (by_lt (offer s) (bid s)))
