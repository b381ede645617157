-- A loop over an array, as a fold from the front. Its invariant, with `drop i l` the elements still to come:
-- folding them onto what the loop has so far gives the whole fold.
-- Assumes nothing.
use Prim.Native.Nat.{ℕ, ◌+◌, ◌<◌}
use mathlib.Core.List.{List, foldl}
use mathlib.Core.Path.{◌≡◌}
use native.Mathlib.Numerals.{add-one}
use native.Mathlib.Omega.{arith}
use lib.ListN.{length, get_or, drop}
use lib.Seq.{drop-cons}

module _ {A B : Type 0} (f : A → B → A) (l : List B) where
  pub fold_turn : (d : B) (a b w : A) (n i : ℕ) → length l ≡ n → i < n → b ≡ f a (get_or l i d)
      → foldl f a (drop i l) ≡ w → foldl f b (drop (i + 1) l) ≡ w
  fold_turn d a b w n i m h e q = rw (add-one, e) (rw (drop-cons l i d (omega arith)) at q)
