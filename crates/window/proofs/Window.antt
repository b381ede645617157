-- The window that places hold, and its figures: what proofs about a window in its places cite.
-- Assumes nothing.
use Rattle.std.proofs.Common.{◌≡◌, ℕ, zero, suc, ◌+◌, ◌-◌, ◌*◌, ◌<◌, ◌≤◌, max, true, false, eqb, List, [], ◌∷◌, ◌++◌, map, length, get_or, take, drop, sym, refl, ◌∙◌, add-zero, mul-suc, add-one, arith, length-append, length-drop, take-append-drop, length-take, length-take-le, get_or-drop, take-suc, take-take, ltb-false, eq-eqb, ne_eqb, le-leb}
use mathlib.Core.List.{map-append, foldl, foldl-append, foldl-map}
use native.Mathlib.Nat.{max-eq_left}
use native.Mathlib.Decide.{dec_le}
use borrow.Author.Tests.{lt-leb}
use Rattle.forms.specs.Choice.{if◌then◌otherwise◌}
use Rattle.forms.proofs.Choice.{if_true, if_false, if_no, any_head, any_tail, tests}
use Rattle.rules.specs.Stock.{Trade, total, oldest, figures_of}
use Rattle.rules.specs.Numbers.{Seen, not_price, bad_trade, see, bad_trades}
use Rattle.window.specs.Places.{trades, laid, placed, whole}

-- ------------------------------------------------------------------ the trades in the first n places

pub length_trades : (n : ℕ) (ts ps : List ℕ) → length (trades n ts ps) ≡ n
unfolding trades
length_trades zero ts ps = refl
length_trades (suc n) ts ps = simp (length-append, length_trades n ts ps) (add-one n)

-- a field that stands in the places of one array
field_of : (f : Trade → ℕ) (xs ts ps : List ℕ) → ((i : ℕ) → f (record { at = get_or ts i 0; price = get_or ps i 0 }) ≡ get_or xs i 0)
    → (n : ℕ) → n ≤ length xs → map f (trades n ts ps) ≡ take n xs
unfolding trades
field_of f xs ts ps e zero h = refl
field_of f xs ts ps e (suc n) h = rw (map-append, field_of f xs ts ps e n (omega arith), take-suc xs n 0 (omega arith), e n)

pub times_of : (n : ℕ) (ts ps : List ℕ) → n ≤ length ts → map (λ t. t.at) (trades n ts ps) ≡ take n ts
times_of n ts ps h = field_of _ ts ts ps (λ i. refl) n h

pub prices_of : (n : ℕ) (ts ps : List ℕ) → n ≤ length ps → map (λ t. t.price) (trades n ts ps) ≡ take n ps
prices_of n ts ps h = field_of _ ps ts ps (λ i. refl) n h

pub map_drop : {A B : Type 0} (f : A → B) (k : ℕ) (w : List A) → map f (drop k w) ≡ drop k (map f w)
map_drop f zero w = refl
map_drop f (suc k) [] = refl
map_drop f (suc k) (x ∷ w) = map_drop f k w

map_take : {A B : Type 0} (f : A → B) (k : ℕ) (w : List A) → map f (take k w) ≡ take k (map f w)
map_take f zero w = refl
map_take f (suc k) [] = refl
map_take f (suc k) (x ∷ w) = rw (map_take f k w)

-- ------------------------------------------------------------------ its figures

-- the oldest is what stands first, the total the sum of the prices
oldest_first : (w : List Trade) → oldest w ≡ get_or (map (λ t. t.at) w) 0 0
unfolding oldest
oldest_first [] = refl
oldest_first (t ∷ w) = refl

total_sum : (w : List Trade) → total w ≡ foldl ◌+◌ 0 (map (λ t. t.price) w)
unfolding total
total_sum w = sym (foldl-map _ ◌+◌ w 0)

pub total_of : (n : ℕ) (ts ps : List ℕ) → n ≤ length ps → total (trades n ts ps) ≡ foldl ◌+◌ 0 (take n ps)
total_of n ts ps h = simp (total_sum, prices_of n ts ps h)

-- of the first k trades, and of those without them
module _ (k n : ℕ) (ts ps : List ℕ) where
  pub total_first : k ≤ n → n ≤ length ps → total (take k (trades n ts ps)) ≡ foldl ◌+◌ 0 (take k ps)
  total_first h m = simp (total_sum, map_take, prices_of n ts ps m, take-take k n ps h)

  pub length_rest : length (drop k (trades n ts ps)) ≡ n - k
  length_rest = simp (length-drop, length_trades)

  pub oldest_rest : n ≤ length ts → oldest (drop k (trades n ts ps)) ≡ get_or (take n ts) k 0
  oldest_rest h = simp (oldest_first, map_drop, times_of n ts ps h, get_or-drop, add-zero)

-- both parts make up the total
sum_onto : (a : ℕ) (w : List Trade) → foldl (λ sum t. sum + t.price) a w ≡ a + foldl (λ sum t. sum + t.price) 0 w
sum_onto a [] = sym (add-zero a)
sum_onto a (t ∷ w) = omega (arith, sum_onto (a + t.price) w, sum_onto (0 + t.price) w)

pub total_parts : (k : ℕ) (w : List Trade) → total w ≡ total (take k w) + total (drop k w)
unfolding total
total_parts k w =
    let e = foldl-append (λ sum t. sum + t.price) 0 (take k w) (drop k w) ∙ sum_onto _ (drop k w) in
    rw take-append-drop at e

-- with a trade joined
total_snoc : (w : List Trade) (t : Trade) → total (w ++ (t ∷ [])) ≡ total w + t.price
unfolding total
total_snoc w t = foldl-append _ _ w (t ∷ [])

oldest_snoc : (w : List Trade) (t : Trade) → oldest (w ++ (t ∷ [])) ≡ (if eqb (length w) 0 then t.at otherwise oldest w)
unfolding oldest
oldest_snoc [] t = simp (eq-eqb 0 0 refl, if_true)
oldest_snoc (u ∷ w) t = simp (ne_eqb (suc (length w)) 0 (λ e. omega arith), if_false)

pub figures_snoc : (w : List Trade) (t : Trade)
    → figures_of (w ++ (t ∷ [])) ≡ record { count = length w + 1; oldest = if eqb (length w) 0 then t.at otherwise oldest w; sum = total w + t.price }
unfolding figures_of
figures_snoc w t = simp (length-append, oldest_snoc, total_snoc)

-- ------------------------------------------------------------------ what is placed into one array

-- there is room
pub placed_fits : (n : ℕ) (front xs : List ℕ) → max n (length front) ≤ length xs → placed n front xs ≡ laid n front xs
unfolding placed
placed_fits n front xs h = if_true _ _ _ (le-leb _ _ h)

-- there is none
pub placed_short : (n : ℕ) (front xs : List ℕ) → length xs < max n (length front) → placed n front xs ≡ xs
unfolding placed
placed_short n front xs h = if_false _ _ _ (lt-leb _ _ h)

-- what stands in the used places, laid again
pub laid_same : (n : ℕ) (xs : List ℕ) → n ≤ length xs → laid n (take n xs) xs ≡ xs
unfolding laid
laid_same n xs h =
    let l : length (take n xs) ≡ n = length-take-le n xs h in
    let z : n - n ≡ 0 = omega arith in
    let y : max n n ≡ n = max-eq_left (omega arith) in
    simp (l, z, y, take-append-drop)

-- the same, whether there is room or not
pub placed_take : (n : ℕ) (xs : List ℕ) → placed n (take n xs) xs ≡ xs
placed_take n xs = go (dec_le n (length xs))
  where
    go : Dec (n ≤ length xs) → placed n (take n xs) xs ≡ xs
    go (yes h) = placed_fits n _ xs (simp length-take (omega arith)) ∙ laid_same n xs h
    go (no z) = placed_short n _ xs (omega arith)

-- ------------------------------------------------------------------ places that are whole

pub is_whole : (n : ℕ) (ts ps : List ℕ) → length ts ≡ 512 → length ps ≡ 512 → n ≤ 512 → whole n ts ps ≡ true
unfolding whole
is_whole n ts ps a b h = search tests

-- ------------------------------------------------------------------ sums are small

good_price : (clock last : ℕ) (t : Trade) → bad_trade clock last t ≡ false → t.price ≤ 999_999_999
unfolding bad_trade not_price
good_price clock last t e = ltb-false _ _ (any_head _ _ (any_tail _ _ (any_head _ _ e)))

good_sum : (clock : ℕ) (s : Seen) (sum : ℕ) (w : List Trade) → (foldl (see clock) s w).bad ≡ false
    → (s.bad ≡ false) × (foldl (λ sum t. sum + t.price) sum w ≤ sum + 999_999_999 * length w)
unfolding see
good_sum clock s sum [] e = (e, omega arith)
good_sum clock s sum (t ∷ w) e =
    let rest = good_sum clock (see clock s t) (sum + t.price) w e in
    let here = if_no s.bad _ rest.0 in
    let price = good_price clock s.last t here.1 in
    (here.0, omega (arith, rest.1, mul-suc 999_999_999 (length w)))

-- of good trades without the first k too
rest_sum : (clock k : ℕ) (s : Seen) (w : List Trade) → (foldl (see clock) s w).bad ≡ false → total (drop k w) ≤ 999_999_999 * length (drop k w)
unfolding total
rest_sum clock zero s w e = omega (arith, (good_sum clock s 0 w e).1)
rest_sum clock (suc k) s [] e = omega arith
rest_sum clock (suc k) s (t ∷ w) e = rest_sum clock k (see clock s t) w e

pub rest_most : (clock k : ℕ) (w : List Trade) → bad_trades clock w ≡ false → total (drop k w) ≤ 999_999_999 * length (drop k w)
unfolding bad_trades
rest_most clock k w e = rest_sum clock k _ w e

pub total_most : (clock : ℕ) (w : List Trade) → bad_trades clock w ≡ false → total w ≤ 999_999_999 * length w
total_most clock w e = rest_most clock 0 w e
