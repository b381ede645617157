-- Arrays that are rows of 512 places, one after the other.
-- Assumes nothing.
use Prim.Native.Nat.{ℕ, zero, suc, ◌+◌, ◌*◌, ◌<◌}
use mathlib.Core.List.{List, [], ◌∷◌, ◌++◌, flatten, append_assoc}
use mathlib.Core.Path.{◌≡◌, refl, ap, ◌∙◌}
use native.Mathlib.Nat.{mul-suc, le_of_suc-le-suc, not-suc-le-zero}
use native.Mathlib.Omega.{arith}
use lib.ListN.{length, get_or, set, take, drop, length-append}
use lib.Seq.{take_at, drop_at, drop-drop, take-add}
use Rattle.rules.specs.Machine.{Every}
use Rattle.calls.specs.Parts.{part, put}

-- every row has 512 places
abbrev pub Rows : List (List ℕ) → Type 0
Rows ls = Every (λ l. length l ≡ 512) ls

pub length_rows : (ls : List (List ℕ)) → Rows ls → length (flatten ls) ≡ 512 * length ls
unfolding flatten
length_rows [] r = refl
length_rows (l ∷ ls) r = simp (length-append) (omega (arith, r.0, length_rows ls r.1, mul-suc 512 (length ls)))

-- behind the first row stand the others
past_first : (l : List ℕ) (xs : List ℕ) (i : ℕ) → length l ≡ 512 → drop (512 * suc i) (l ++ xs) ≡ drop (512 * i) xs
past_first l xs i e =
    let k : 512 * suc i ≡ 512 + 512 * i = omega (arith, mul-suc 512 i) in
    rw (k, ← drop-drop (512 * i) 512 (l ++ xs), drop_at l xs 512 e)

pub part_row : (ls : List (List ℕ)) → Rows ls → (i : ℕ) → i < length ls → part i (flatten ls) ≡ get_or ls i []
unfolding flatten
part_row [] r i h = absurd (not-suc-le-zero h)
part_row (l ∷ ls) r zero h = take_at l (flatten ls) 512 r.0
part_row (l ∷ ls) r (suc i) h = ap (take 512) (past_first l (flatten ls) i r.0) ∙ part_row ls r.1 i (le_of_suc-le-suc h)

pub put_row : (ls : List (List ℕ)) (new : List ℕ) → Rows ls → (i : ℕ) → i < length ls → put i new (flatten ls) ≡ flatten (set ls i new)
unfolding flatten
put_row [] new r i h = absurd (not-suc-le-zero h)
put_row (l ∷ ls) new r zero h = ap (λ (xs : List ℕ). new ++ xs) (drop_at l (flatten ls) 512 r.0)
put_row (l ∷ ls) new r (suc i) h =
    let k : 512 * suc i ≡ 512 + 512 * i = omega (arith, mul-suc 512 i) in
    let front : take (512 * suc i) (l ++ flatten ls) ≡ l ++ take (512 * i) (flatten ls) =
    rw (k, take-add 512 (512 * i) (l ++ flatten ls), take_at l (flatten ls) 512 r.0, drop_at l (flatten ls) 512 r.0) in
    let j : 512 * suc i + 512 ≡ 512 + (512 * i + 512) = omega (arith, mul-suc 512 i) in
    let back : drop (512 * suc i + 512) (l ++ flatten ls) ≡ drop (512 * i + 512) (flatten ls) =
    rw (j, ← drop-drop (512 * i + 512) 512 (l ++ flatten ls), drop_at l (flatten ls) 512 r.0) in
    rw (front, back, append_assoc) (ap (λ (xs : List ℕ). l ++ xs) (put_row ls new r.1 i (le_of_suc-le-suc h)))
