use Rattle.std.proofs.Common.{◌≡◌, ℕ, ◌≤◌, List, [], ◌∷◌, ◌++◌, map, length, take, drop, sym, ◌∙◌, arith}
use mathlib.Core.List.{map-append}
use native.Mathlib.Decide.{dec_le}
use Rattle.rules.specs.Stock.{Trade}
use Rattle.window.specs.Places.{trades, placed, changed, Written}
use Rattle.window.specs.declared.Change.{Change}
use Rattle.window.specs.declared.Change.TheVariants.{Stay, Join, Leave, Empty, Start}
use Rattle.window.proofs.Window.{times_of, prices_of, map_drop, placed_short, placed_take}
use Rattle.window.proofs.Arrays.{none_left}
use Rattle.window.proofs.write.Goals as goal

-- ------------------------------------------------------------------ one array: f is the time or the price of a trade
-- where there is no room it is one what is written
alike : (n : ℕ) (front other xs : List ℕ) → (n ≤ length xs → front ≡ other) → placed n front xs ≡ placed n other xs
alike n front other xs e = go (dec_le n (length xs))
  where
    go : Dec (n ≤ length xs) → placed n front xs ≡ placed n other xs
    go (yes h) = rw (e h)
    go (no z) = placed_short n front xs (omega arith) ∙ sym (placed_short n other xs (omega arith))

module _ (f : Trade → ℕ) (n : ℕ) (w : List Trade) (xs : List ℕ) (held : n ≤ length xs → map f w ≡ take n xs) where
  stays : xs ≡ placed n (map f w) xs
  stays = sym (alike n _ _ xs held ∙ placed_take n xs)

  joins : (t : Trade) (ys : List ℕ) → ys ≡ placed n (take n xs ++ (f t ∷ [])) xs → ys ≡ placed n (map f (w ++ (t ∷ []))) xs
  joins t ys e = e ∙ sym (alike n _ _ xs (λ h. map-append f w (t ∷ []) ∙ rw (held h)))

  leaves : (g : ℕ) (ys : List ℕ) → ys ≡ placed n (drop g (take n xs)) xs → ys ≡ placed n (map f (drop g w)) xs
  leaves g ys e = e ∙ sym (alike n _ _ xs (λ h. map_drop f g w ∙ rw (held h)))

-- ------------------------------------------------------------------ both arrays, by what changes
module _ (change : Change) (n : ℕ) (ts ps : List ℕ) where
  stayed : change ≡ Stay → Written change n ts ps ts ps
  unfolding changed
  stayed e =
      let w = trades n ts ps in
      rw e (record { times = stays (λ t. t.at) n w ts (times_of n ts ps); prices = stays (λ t. t.price) n w ps (prices_of n ts ps) })

module _ (change : Change) (n : ℕ) (ts ps ts' ps' : List ℕ) where
  joined : (time price : ℕ) → change ≡ Join time price → ts' ≡ placed n (take n ts ++ (time ∷ [])) ts → ps' ≡ placed n (take n ps ++ (price ∷ [])) ps
      → Written change n ts ps ts' ps'
  unfolding changed
  joined time price e a b =
      let w = trades n ts ps in
      let t : Trade = record { at = time; price = price } in
      rw e (record {
        times = joins (λ t. t.at) n w ts (times_of n ts ps) t ts' a;
        prices = joins (λ t. t.price) n w ps (prices_of n ts ps) t ps' b;
      })

  left : (g : ℕ) → change ≡ Leave g → ts' ≡ placed n (drop g (take n ts)) ts → ps' ≡ placed n (drop g (take n ps)) ps → Written change n ts ps ts' ps'
  unfolding changed
  left g e a b =
      let w = trades n ts ps in
      rw e (record {
        times = leaves (λ t. t.at) n w ts (times_of n ts ps) g ts' a;
        prices = leaves (λ t. t.price) n w ps (prices_of n ts ps) g ps' b;
      })

  emptied : change ≡ Empty → ts' ≡ placed n (drop n (take n ts)) ts → ps' ≡ placed n (drop n (take n ps)) ps → Written change n ts ps ts' ps'
  unfolding changed
  emptied e a b = rw e (record { times = a ∙ rw (none_left n n ts (omega arith)); prices = b ∙ rw (none_left n n ps (omega arith)) })

  started : (time price : ℕ) → change ≡ Start time price → ts' ≡ placed n (time ∷ []) ts → ps' ≡ placed n (price ∷ []) ps → Written change n ts ps ts' ps'
  unfolding changed
  started time price e a b = rw e (record { times = a; prices = b })

pub returns-in-Stay : goal.returns-in-Stay
returns-in-Stay c = search stayed

pub returns-in-Join : goal.returns-in-Join
returns-in-Join c = search joined

pub returns-in-Leave : goal.returns-in-Leave
returns-in-Leave c = search left

pub returns-in-Empty : goal.returns-in-Empty
returns-in-Empty c = search emptied

pub returns-in-Start : goal.returns-in-Start
returns-in-Start c = search started
