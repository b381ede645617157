-- The steps of src/one.rt: what becomes of the places of one array.
-- Assumes nothing.
use Rattle.std.proofs.Common.{min, ◌≡◌, ℕ, zero, suc, ◌+◌, ◌-◌, ◌<◌, ◌≤◌, max, List, [], ◌∷◌, ◌++◌, length, take, drop, set, replicate, sym, ◌∙◌, append_assoc, add_comm, zero-add, add-one, arith, length-append, length-drop, drop_of_length-le, length-take, length-take-le, drop-drop, take_at, take-add, drop_at}
use native.Mathlib.Decide.{dec_le}
use native.Mathlib.Nat.{max-eq_left, max-eq_right, min-eq_left, min-eq_right, min-le_right}
use borrow.Rule.Slice.PartMut.{mid_of, put_mid}
use lib.Seq.{paste, set_split}
use Rattle.window.specs.Places.{laid, placed}
use Rattle.window.proofs.Window.{placed_fits, placed_short}

-- ------------------------------------------------------------------ the first of the used places leave

-- what is laid then
laid_rest : (n g : ℕ) (xs : List ℕ) → g ≤ n → n ≤ length xs → placed n (drop g (take n xs)) xs ≡ drop g (take n xs) ++ (replicate g 0 ++ drop n xs)
unfolding laid
laid_rest n g xs h i =
    let l : length (drop g (take n xs)) ≡ n - g = simp (length-drop, length-take) (omega arith) in
    let z : n - (n - g) ≡ g = omega arith in
    let y : max n (n - g) ≡ n = max-eq_left (omega arith) in
    placed_fits n _ xs (rw (l, y) i) ∙ simp (l, z, y)

-- moved down by g, and then the freed places made 0
lowered_parts : (g k : ℕ) (d : List ℕ) → g + k ≤ length d
    → take k (take k (drop g d) ++ drop k d) ++ (replicate g 0 ++ drop g (drop k (take k (drop g d) ++ drop k d)))
    ≡ drop g (take (g + k) d) ++ (replicate g 0 ++ drop (g + k) d)
lowered_parts g k d b =
    let t = take k (drop g d) in
    let m : length t ≡ k = simp (length-take, length-drop) (omega arith) in
    let j : length (take g d) ≡ g = length-take-le g d (omega arith) in
    simp (take_at t (drop k d) k m, drop_at t (drop k d) k m, take-add g k d, drop_at (take g d) t g j, drop-drop, add_comm k g)

length_lowered : (g k : ℕ) (d : List ℕ) → g + k ≤ length d → length (take k (drop g d) ++ drop k d) ≡ length d
length_lowered g k d b = simp (length-append, length-take, length-drop) (omega arith)

pub none_left : {A : Type 0} (n g : ℕ) (xs : List A) → n ≤ g → drop g (take n xs) ≡ []
none_left n g xs h = drop_of_length-le (take n xs) {i = g} (simp length-take (omega arith))

module _ (n : ℕ) (d : List ℕ) (b : n ≤ length d) where
  slid : (g : ℕ) (l z : List ℕ) → g ≤ n → l ≡ paste d 0 (drop g d) (n - g)
      → z ≡ replicate (length (mid_of (n - g) (n - (n - g)) l)) 0 → put_mid (n - g) (n - (n - g)) l z ≡ placed n (drop g (take n d)) d
  slid g l z a e f =
      let k : n - (n - g) ≡ g = omega arith in
      let s : g + (n - g) ≡ n = omega arith in
      let t : g + (n - g) ≤ length d = omega arith in
      let q : length (take g (drop (n - g) (take (n - g) (drop g d) ++ drop (n - g) d))) ≡ g =
      simp (length-take, length-drop, length_lowered g (n - g) d t) (omega arith) in
      let p = rw s at (lowered_parts g (n - g) d t) in
      let moved : l ≡ take (n - g) (drop g d) ++ drop (n - g) d = e ∙ simp zero-add in
      rw (f, moved, k, q) (p ∙ sym (laid_rest n g d a b))

  -- where fewer than `gone` are used, all of them leave
  pub leave_done : (gone g : ℕ) (l z : List ℕ) → g ≡ min gone n → l ≡ paste d 0 (drop g d) (n - g)
      → z ≡ replicate (length (mid_of (n - g) (n - (n - g)) l)) 0 → put_mid (n - g) (n - (n - g)) l z ≡ placed n (drop gone (take n d)) d
  leave_done gone g l z m e f = slid g l z (omega (arith, m, min-le_right gone n)) e f ∙ go (dec_le gone n)
    where
      go : Dec (gone ≤ n) → placed n (drop g (take n d)) d ≡ placed n (drop gone (take n d)) d
      go (yes h) = rw (m ∙ min-eq_left h)
      go (no h) = rw (m ∙ min-eq_right (omega arith), none_left n n d (omega arith), none_left n gone d (omega arith))

pub leave_short : (n g : ℕ) (xs : List ℕ) → length xs < n → xs ≡ placed n (drop g (take n xs)) xs
leave_short n g xs h = sym (placed_short n _ xs (omega arith))

-- ------------------------------------------------------------------ one more

pub join_done : (n x : ℕ) (xs : List ℕ) → n < length xs → set xs n x ≡ placed n (take n xs ++ (x ∷ [])) xs
unfolding laid
join_done n x xs h =
    let l : length (take n xs ++ (x ∷ [])) ≡ suc n = simp (length-append, length-take-le n xs (omega arith)) (add-one n) in
    let z : n - suc n ≡ 0 = omega arith in
    let y : max n (suc n) ≡ suc n = max-eq_right (omega arith) in
    sym (placed_fits n _ xs (rw (l, y) h) ∙ simp (l, z, y, set_split, append_assoc))

pub join_short : (n x : ℕ) (xs : List ℕ) → length xs ≤ n → xs ≡ placed n (take n xs ++ (x ∷ [])) xs
join_short n x xs h =
    let l : length (take n xs ++ (x ∷ [])) ≡ length xs + 1 = simp (length-append, length-take) (omega arith) in
    sym (placed_short n _ xs (omega arith))

-- ------------------------------------------------------------------ one alone

pub start_done : (n x : ℕ) (xs ys zs : List ℕ) → n ≤ length xs → ys ≡ placed n (drop n (take n xs)) xs → zs ≡ placed 0 (take 0 ys ++ (x ∷ [])) ys
    → zs ≡ placed n (x ∷ []) xs
unfolding laid
start_done n x xs ys zs h e f = f ∙ go n xs h (rw (none_left n n xs (omega arith)) at (e ∙ laid_rest n n xs (omega arith) h))
  where
    go : (n : ℕ) (xs : List ℕ) → n ≤ length xs → ys ≡ replicate n 0 ++ drop n xs → placed 0 (x ∷ []) ys ≡ placed n (x ∷ []) xs
    go zero xs h e = rw e
    go (suc m) [] h e = absurd (omega arith)
    go (suc m) (y ∷ xs) h e =
        let a : max (suc m) 1 ≡ suc m = max-eq_left (omega arith) in
        let z : suc m - 1 ≡ m = omega arith in
        rw e (placed_fits 0 _ (0 ∷ (replicate m 0 ++ drop m xs)) (omega arith) ∙ sym (placed_fits (suc m) _ (y ∷ xs) (omega arith) ∙ simp (a, z)))

pub start_short : (n x : ℕ) (xs : List ℕ) → length xs < n → xs ≡ placed n (x ∷ []) xs
start_short n x xs h = sym (placed_short n _ xs (omega arith))
