use Prim.Native.Nat.{ℕ, ◌+◌, ◌*◌, ◌≤◌}
use mathlib.Core.List.{List, [], ◌∷◌, ◌++◌, append_assoc}
use mathlib.Core.Path.{◌≡◌, refl, sym, ap, ◌∙◌}
use native.Mathlib.Numerals.{unary_clauses}
use native.Mathlib.Omega.{arith}
use borrow.Rule.Slice.PartMut.{put_mid}
use lib.ListN.{length, set, take, drop}
use Rattle.std.proofs.lemmas.List.{drop-drop}
use Rattle.std.proofs.lemmas.List.Edits.{sets, sets-eq}
use Rattle.day.specs.Contents.{setup_of, entered}
use Rattle.day.proofs.enter.Goals as goal

-- four numbers put one after the other
one_by_one : (list ns ys : List ℕ) (a i k : ℕ) → length ns ≡ 5 → a ≡ 4 * i → a + 4 ≤ length list → k ≡ 4 → ys ≡ take 4 ns
    → put_mid a k list ys ≡ entered list i (setup_of ns)
unfolding entered
one_by_one list (t ∷ l ∷ p ∷ c ∷ ns) ys a i k f e h m y =
    let s : sets list a (t ∷ l ∷ p ∷ c ∷ []) ≡ set (set (set (set list a t) (a + 1) l) (a + 2) p) (a + 3) c = simp unary_clauses in
    let d : drop 4 (drop a list) ≡ drop (a + 4) list = drop-drop 4 a list in
    rw (y, m, ← e) (ap (λ xs. take a list ++ (t ∷ l ∷ p ∷ c ∷ xs)) d ∙ sym (append_assoc (take a list) (t ∷ l ∷ p ∷ c ∷ []) (drop (a + 4) list)) ∙ sym (sets-eq (t ∷ l ∷ p ∷ c ∷ []) list a h) ∙ s)
one_by_one list (t ∷ l ∷ p ∷ []) ys a i k f e h m y = absurd (omega arith)
one_by_one list (t ∷ l ∷ []) ys a i k f e h m y = absurd (omega arith)
one_by_one list (t ∷ []) ys a i k f e h m y = absurd (omega arith)
one_by_one list [] ys a i k f e h m y = absurd (omega arith)

pub returns : goal.returns
returns c = one_by_one _ _ _ _ _ _ (search) refl c.requires (omega arith) c.copy_from_slice.ensures.after
